use Rattle.std.proofs.Common.{◌≡◌, ◌*◌}
use Rattle.codec_terms.specs.Wavelet.{luma, chroma_blue, chroma_red}
use Rattle.picture_planes.proofs.RowByRow.{IsMade}
use Rattle.picture_planes.proofs.planes.fill_planes.Given as goal

abbrev pub invariant-loop-y : goal.invariant-loop-y
invariant-loop-y l = record {
  width : l.rows ≡ l.width;
  luma : IsMade luma l.tables l.raw (l.y * l.width) l.luma;
  chroma_blue : IsMade chroma_blue l.tables l.raw (l.y * l.width) l.chroma_blue;
  chroma_red : IsMade chroma_red l.tables l.raw (l.y * l.width) l.chroma_red;
}
