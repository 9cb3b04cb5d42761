use Rattle.std.proofs.Common.{◌≡◌, ℕ, ap, subst, ◌∙◌, arith}
use Rattle.std.specs.Int.{w64, trailing_zeros}
use Rattle.codec_terms.specs.BlockDecisions.{propagated}
use Rattle.block_passes.specs.Scan.{bits_told}
use Rattle.block_passes.specs.Told.{HasTold}
use Rattle.block_passes.proofs.Candidates.{lowest-end}
use Rattle.block_passes.proofs.Propagated.{propagated-start}
use Rattle.block_passes.proofs.propagation.propagate_word.Goals as goal

pub loop-candidates-init : goal.loop-candidates-init
loop-candidates-init c = record {
  told = λ b p v is h.
      propagated-start b p c.args.w c.requires.w v c.args.state.now c.args.plane.now.samples.now c.near.result (omega arith) (omega arith)
      (λ j q. is.samples c.args.w j c.requires.w q) (omega arith) c.near.ensures (omega arith) h;
  count = omega arith;
}

pub loop-candidates-preserved : goal.loop-candidates-preserved
loop-candidates-preserved c = record {
  told = λ b p v is h. c.propagate_lowest-candidates.ensures.told b p v is (c.loop-candidates.invariant.told b p v is h);
  count = omega (arith, c.propagate_lowest-candidates.ensures.behind);
}

pub returns-clause-told : goal.returns-clause-told
returns-clause-told c = λ b p v is h.
    let none : c.loop-candidates.candidates ≡ 0 = omega arith in
    let end : trailing_zeros w64 c.loop-candidates.candidates ≡ 64 = ap (trailing_zeros w64) none ∙ lowest-end in
    subst (λ (n : ℕ). HasTold b c.loop-candidates.state (bits_told (propagated b p) b c.args.w n v)) end (c.loop-candidates.invariant.told b p v is h).told
