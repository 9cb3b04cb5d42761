use Rattle.std.proofs.Common.{ℕ, sym, ◌∙◌, subst, arith}
use Rattle.picture_blocks.specs.Blocks.{IsBandCoded}
use Rattle.picture_blocks.proofs.Steps.{bands-more, all-coded}
use Rattle.picture_blocks.proofs.blocks.Blocks.code_to_cut.Goals as goal

pub loop-place-preserved : goal.loop-place-preserved
loop-place-preserved c =
    let done = c.in_ok-code_band.ensures in
    let band = c.band_at-band.result in
    let after = c.code_band.new.self in
    record {
      shape = done.shape ∙ c.loop-place.invariant.shape;
      blocks = λ q are parts. done.blocks q are (c.loop-place.invariant.blocks q are parts);
      coded = λ q are parts.
          bands-more q c.args.cut c.loop-place.place band c.loop-place.self after c.band_at-band.ensures.picture c.band_at-band.ensures.place (sym done.shape) done.further
          (subst (λ (lowest : ℕ). IsBandCoded q band lowest after) c.lowest_plane.ensures (done.coded q are (c.loop-place.invariant.blocks q are parts)))
          (c.loop-place.invariant.coded q are parts);
    }

pub returns-clause-coded : goal.returns-clause-coded
returns-clause-coded c = λ q are parts.
    all-coded q c.args.cut c.loop-place.place c.loop-place.self (omega (arith, c.loop-place-test.false)) (c.loop-place.invariant.coded q are parts)
