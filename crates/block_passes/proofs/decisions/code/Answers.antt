use Rattle.std.proofs.Common.{refl, arith}
use Rattle.block_passes.proofs.Starts.{is-plane}
use Rattle.block_passes.proofs.decisions.code.Goals as goal

pub returns : goal.returns
returns c = λ b h same before.
    c.code_plane.ensures b c.args.index
    (is-plane b c.args.planes.now c.args.index _ c.args.state.now h c.requires (omega (arith, h.width)) (omega (arith, h.height))
    refl refl refl c.all_samples.ensures refl refl same before)
    before.sets

pub invariant_of-plane : goal.invariant_of-plane
invariant_of-plane c = record { narrow = omega arith; low = omega arith; table = record { each = c.zero_codes.ensures } }
