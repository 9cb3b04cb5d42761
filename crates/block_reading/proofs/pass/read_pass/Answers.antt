use Rattle.std.proofs.Common.{◌≡◌, arith}
use Rattle.codec_terms.specs.BlockReading.{pass_read}
use Rattle.block_reading.proofs.pass.read_pass.Goals as goal

pub returns-in-0 : goal.returns-in-0
unfolding pass_read
returns-in-0 c = λ k planes small h ready. rw c.in-0.is (c.propagate_all.ensures k h)

pub returns-in-1 : goal.returns-in-1
unfolding pass_read
returns-in-1 c = λ k planes small h ready. rw c.in-1.is (c.refine_all.ensures k planes (rw c.in-1.is at ready) h)

pub returns-in_default : goal.returns-in_default
unfolding pass_read
returns-in_default c = λ k planes small h ready.
    let last : c.args.third ≡ 2 = omega arith in
    rw last (c.clean_all.ensures k h)
