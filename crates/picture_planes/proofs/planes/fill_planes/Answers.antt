use Rattle.std.proofs.Common.{◌≡◌, ℕ, ◌^◌, ℤ, List, All, subst, sym, ◌+◌, ◌-◌, ◌*◌, ◌≤◌, ap, arith}
use Rattle.picture_planes.proofs.RowByRow.{IsMade-none, IsMade-row, planes-all, rows_of, AreRows, row_inside, row_next, rows_whole}
use Rattle.codec_terms.specs.Wavelet.{luma, chroma_blue, chroma_red}
use Rattle.wave_laws.specs.Ranges.{IsWithin}
use Rattle.wave_laws.proofs.Components.{All-picture_planes}
use Rattle.picture_planes.proofs.planes.fill_planes.Goals as goal

pub loop-y-init : goal.loop-y-init
loop-y-init c =
    record {
      width = omega arith;
      luma = IsMade-none _ _ _ _ _ (omega arith);
      chroma_blue = IsMade-none _ _ _ _ _ (omega arith);
      chroma_red = IsMade-none _ _ _ _ _ (omega arith);
    }

pub loop-y-preserved : goal.loop-y-preserved
loop-y-preserved c =
    let many : ℕ = 6 * (c.loop-y.y * c.width-width.result + c.width-width.result) - 6 * (c.loop-y.y * c.width-width.result) in
    let rows : AreRows c.args.tables.now _ c.fill_row.new.luma c.fill_row.new.chroma_blue c.fill_row.new.chroma_red = rows_of c.args.tables.now _ _ _ _ c.fill_row.ensures.planes in
    let inside : c.loop-y.y * c.width-width.result + c.width-width.result ≤ c.width-width.result * c.args.height = row_inside c.loop-y.y c.width-width.result c.args.height c.loop-y-test.true in
    let next : (c.loop-y.y + 1) * c.width-width.result ≡ c.loop-y.y * c.width-width.result + c.width-width.result = row_next c.loop-y.y c.width-width.result in
    let area : c.width-width.result * c.args.height ≡ c.args.rows.now * c.args.height = ap (λ (w : ℕ). w * c.args.height) c.width-width.ensures in
    record {
      width = omega arith;
      luma = IsMade-row luma _ _ _ _ many _ _ _ (omega arith) (omega arith) (omega arith) (omega arith) rows.first c.loop-y.invariant.luma;
      chroma_blue = IsMade-row chroma_blue _ _ _ _ many _ _ _ (omega arith) (omega arith) (omega arith) (omega arith) rows.second c.loop-y.invariant.chroma_blue;
      chroma_red = IsMade-row chroma_red _ _ _ _ many _ _ _ (omega arith) (omega arith) (omega arith) (omega arith) rows.third c.loop-y.invariant.chroma_red;
    }

pub returns-clause-planes : goal.returns-clause-planes
returns-clause-planes c =
    let whole : c.width-width.result * c.args.height ≤ c.loop-y.y * c.width-width.result = rows_whole c.loop-y.y c.width-width.result c.args.height c.loop-y-test.false in
    let area : c.width-width.result * c.args.height ≡ c.args.rows.now * c.args.height = ap (λ (w : ℕ). w * c.args.height) c.width-width.ensures in
    planes-all c.args.tables.now c.args.raw.now (c.loop-y.y * c.width-width.result) _ _ _ (omega arith) (omega arith) (omega arith) (omega arith)
    c.loop-y.invariant.luma c.loop-y.invariant.chroma_blue c.loop-y.invariant.chroma_red

pub returns-clause-within : goal.returns-clause-within
returns-clause-within c =
    subst (λ (planes : List (List ℤ)). All (All (IsWithin (2 ^ 24))) planes) (sym (returns-clause-planes c))
    (All-picture_planes c.args.tables.now c.args.raw.now)
