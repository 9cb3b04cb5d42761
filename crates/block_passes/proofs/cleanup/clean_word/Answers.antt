use Rattle.std.proofs.Common.{◌≡◌, ◌∙◌, ◌<◌, sym, ap, arith}
use Rattle.std.specs.Int.{w64, trailing_zeros}
use Rattle.block_passes.proofs.Candidates.{lowest-end}
use Rattle.block_passes.proofs.Onward.{onward-start, cleaned-on, word-end}
use Rattle.block_passes.proofs.cleanup.clean_word.Goals as goal

pub loop-rest-init : goal.loop-rest-init
loop-rest-init c =
    let fits : c.rest_of-rest.result.left < 18446744073709551616 = omega arith in
    record {
      told = λ b p v is h.
          let runs = c.rest_of-rest.ensures.runs b p v is h in
          cleaned-on b p c.args.w v v c.args.state.now c.rest_of-rest.result 0 fits (omega arith) h
          (onward-start b p c.args.w v c.rest_of-rest.result.runs (λ j a q. runs j q)) (λ j a q. c.rest_of-rest.ensures.left b p v is h j q) (λ j a q. runs j q);
      fits = fits;
      count = omega arith;
    }

pub loop-rest-preserved : goal.loop-rest-preserved
loop-rest-preserved c = record {
  told = λ b p v is h. c.clean_lowest-rest.ensures.told b p v is (c.loop-rest.invariant.told b p v is h);
  fits = omega arith;
  count = omega (arith, c.clean_lowest-rest.ensures.count, c.loop-rest.invariant.count);
}

pub returns-clause-told : goal.returns-clause-told
returns-clause-told c = λ b p v is h.
    let none : c.loop-rest.rest.left ≡ 0 = omega arith in
    let end : trailing_zeros w64 c.loop-rest.rest.left ≡ 64 = ap (trailing_zeros w64) none ∙ lowest-end in
    let cleaned = c.loop-rest.invariant.told b p v is h in
    let all = sym (word-end b p c.args.w cleaned.now c.loop-rest.rest.runs (trailing_zeros w64 c.loop-rest.rest.left) end) ∙ cleaned.onward in
    rw (← all) cleaned.told
