use Rattle.std.proofs.Common.{◌≡◌, refl, arith}
use Rattle.codec_terms.specs.Contexts.{refine_context_at}
use Rattle.codec_terms.specs.BlockDecisions.{is_first}
use Rattle.block_sets.specs.Places.{column_at, row_at}
use Rattle.block_passes.proofs.Around.{beside-is}
use Rattle.block_passes.proofs.refinement.refine.Goals as goal

pub returns-clause-told : goal.returns-clause-told
unfolding refine_context_at
returns-clause-told c = λ b p v is h some around.
    let x = column_at c.args.w c.args.i in
    let y = row_at c.args.w c.args.i in
    let beside = beside-is b (omega arith) (omega arith) v.significant h.sets.significant_size c.args.state.now.significant h.sets.significant c.args.beside x y c.args.i around in
    let context : c.context_of-context.result ≡ refine_context_at b.width v.significant (is_first b p x y) x y =
    rw (c.context_of-context.ensures.context _ beside, c.is_first.ensures b p is some) refl in
    c.code.ensures.told b v _ _ h (rw (← context) c.context_of-context.ensures.small) (rw (context, c.from.ensures, c.bit.ensures b p is some) refl)
