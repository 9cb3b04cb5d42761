use Rattle.std.proofs.Common.{◌≡◌, ◌*◌, ◌+◌, ℕ, suc, sym, subst, arith, length}
use Rattle.codec_terms.specs.declared.picture.Shape.{Shape}
use Rattle.codec_laws.specs.Bounds.{FitBands}
use Rattle.picture_blocks.specs.Blocks.{AreCodedAt}
use Rattle.least_cut.proofs.NextCut.{band-next}
use Rattle.least_cut.proofs.planes.code_plane_of.Goals as goal

pub returns-clause-coded : goal.returns-clause-coded
returns-clause-coded c = λ q sets coded.
    let before = c.args.blocks.now in
    let after = c.code_band.new.self in
    let same : after.shape ≡ before.shape = c.in_ok-code_band.ensures.shape in
    let next : c.args.cut + 1 ≡ suc c.args.cut = omega arith in
    record {
      whole = subst (λ (s : Shape). length q ≡ 3 * (s.width * s.height)) (sym same) coded.whole;
      fits = subst (λ (s : Shape). FitBands s q) (sym same) coded.fits;
      parts = c.in_ok-code_band.ensures.blocks q sets coded.parts;
      coded = c.coded_cut_laws.ensures q c.args.cut before after same (subst (λ (n : ℕ). AreCodedAt q n before) next coded.coded) c.in_ok-code_band.ensures.further
          (band-next q c.args.cut c.band_at_rank-band.result c.lowest_plane.result after c.band_at_rank-band.ensures.band c.lowest_plane.ensures
          (c.in_ok-code_band.ensures.coded q sets coded.parts));
    }
