use Rattle.std.proofs.Common.{◌≡◌, ℕ, refl, ap, subst, ◌∙◌, arith}
use Rattle.std.specs.Int.{w64, trailing_zeros}
use Rattle.codec_terms.specs.BlockDecisions.{refined}
use Rattle.block_passes.specs.Scan.{bits_told}
use Rattle.block_passes.specs.Told.{HasTold}
use Rattle.block_passes.proofs.Candidates.{lowest-end}
use Rattle.block_passes.proofs.Refined.{refined-start}
use Rattle.block_passes.proofs.refinement.refine_word.Goals as goal

pub loop-left-init : goal.loop-left-init
loop-left-init c = record {
  told = λ b p v is h. refined-start b p c.args.w c.requires.w v c.args.state.now (omega arith) (omega arith) h;
  significant = refl;
  count = omega arith;
}

pub loop-left-preserved : goal.loop-left-preserved
loop-left-preserved c = record {
  told = λ b p v is h. c.refine_lowest-left.ensures.told b p v is (c.loop-left.invariant.told b p v is h);
  significant = c.refine_lowest-left.ensures.significant ∙ c.loop-left.invariant.significant;
  count = omega (arith, c.refine_lowest-left.ensures.behind);
}

pub refine_lowest-left-requires-clause-beside : goal.refine_lowest-left-requires-clause-beside
refine_lowest-left-requires-clause-beside c = λ j q. rw c.loop-left.invariant.significant (c.near-beside.ensures j q)

pub returns-clause-told : goal.returns-clause-told
returns-clause-told c = λ b p v is h.
    let none : c.loop-left.left ≡ 0 = omega arith in
    let end : trailing_zeros w64 c.loop-left.left ≡ 64 = ap (trailing_zeros w64) none ∙ lowest-end in
    subst (λ (n : ℕ). HasTold b c.loop-left.state (bits_told (refined b p) b c.args.w n v)) end (c.loop-left.invariant.told b p v is h).told
