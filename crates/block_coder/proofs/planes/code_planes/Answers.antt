use Rattle.std.proofs.Common.{◌≡◌, ◌+◌, ◌-◌, ◌*◌, ◌≤◌, suc, ap, arith, ◌∙◌, length, subst}
use Rattle.std.specs.Prelude.{Result, Ok, Err, OnErr}
use Rattle.codec_terms.specs.BlockDecisions.{decisions}
use Rattle.mq_coder.specs.Endings.{ending_of}
use Rattle.block_passes.specs.Told.{IsBefore}
use Rattle.block_sets.specs.Rebuilt.{block_of}
use Rattle.block_coder.specs.Codes.{most_decisions}
use Rattle.block_coder.proofs.Codes.{flushed-short}
use Rattle.block_coder.proofs.Kept.{endings-more, endings-earlier}
use Rattle.block_coder.proofs.planes.code_planes.Goals as goal

on_err : {T E P : Type 0} (r : Result T E) → P → OnErr r P
on_err (Ok _) p = tt
on_err (Err _) p = p

pub code_plane-requires-clause-before : goal.code_plane-requires-clause-before
code_plane-requires-clause-before c =
    let same : c.args.planes - suc c.loop-done.done ≡ c.args.planes - 1 - c.loop-done.done = omega arith in
    subst (λ p. IsBefore (block_of c.args.block.now) p c.loop-done.state) same (c.loop-done.invariant.before (omega arith))

pub returns-in_err-code_plane-clause-earlier : goal.returns-in_err-code_plane-clause-earlier
returns-in_err-code_plane-clause-earlier c =
    let earlier = endings-earlier (block_of c.args.block.now) c.args.planes (length c.args.endings.now.items) c.loop-done.done c.args.endings.now.items c.loop-done.endings.items c.requires.coded.endings_are c.loop-done.invariant.so_far.endings_are (omega arith) in
    on_err c.from_residual.result earlier

pub ending-requires : goal.ending-requires
ending-requires c =
    let b = (block_of c.args.block.now) in
    let index = c.args.planes - 1 - c.loop-done.done in
    let same : suc index ≡ c.args.planes - c.loop-done.done = omega arith in
    let before : length (decisions b (suc index)) ≤ most_decisions * c.loop-done.done = rw same c.loop-done.invariant.so_far.few in
    flushed-short c.code_plane.new.coder (decisions b index) c.in_ok-code_plane.ensures.coder (omega (arith, before, c.in_ok-code_plane.ensures.few))

pub returns-in_err-push-clause-earlier : goal.returns-in_err-push-clause-earlier
returns-in_err-push-clause-earlier c =
    let same = c.in_err-push.ensures.items ∙ c.loop-done.invariant.so_far.endings_are in
    let earlier = endings-earlier (block_of c.args.block.now) c.args.planes (length c.args.endings.now.items) c.loop-done.done c.args.endings.now.items c.push.new.self.items c.requires.coded.endings_are same (omega arith) in
    on_err c.from_residual-in_err-push.result earlier

pub loop-done-preserved : goal.loop-done-preserved
loop-done-preserved c =
    let b = (block_of c.args.block.now) in
    let planes = c.args.planes in
    let index = planes - 1 - c.loop-done.done in
    let above : suc index ≡ planes - c.loop-done.done = omega arith in
    let here : planes - (c.loop-done.done + 1) ≡ index = omega arith in
    let last : planes - suc c.loop-done.done ≡ index = omega arith in
    let before : length (decisions b (suc index)) ≤ most_decisions * c.loop-done.done = rw above c.loop-done.invariant.so_far.few in
    record {
      so_far = record {
        endings_are =
            endings-more b planes c.loop-done.done c.loop-done.endings.items c.push.new.self.items c.ending.result c.in_ok-push.ensures.items c.loop-done.invariant.so_far.endings_are
            (rw last (c.ending.ensures ∙ ap ending_of c.in_ok-code_plane.ensures.coder));
        coder_is = rw here c.in_ok-code_plane.ensures.coder;
        few = rw here (omega (arith, before, c.in_ok-code_plane.ensures.few));
      };
      before = λ more. c.in_ok-code_plane.ensures.next (planes - suc (c.loop-done.done + 1)) (omega arith);
    }
