use Rattle.std.proofs.Common.{◌<◌, arith}
use Rattle.std.specs.Int.{w64, trailing_zeros}
use Rattle.block_passes.proofs.Candidates.{lowest-behind}
use Rattle.block_passes.proofs.Propagated.{others, lowest-small, others-small, others-none}
use Rattle.block_passes.proofs.Refined.{without-lowest, sample-there, refined-next}
use Rattle.block_passes.proofs.refinement.refine_lowest.Goals as goal

pub returns-clause-told : goal.returns-clause-told
returns-clause-told c = λ b p v is h.
    let fits : c.args.left < 18446744073709551616 = omega arith in
    let has = sample-there b p c.args.w v c.args.state.now c.refine.new.state c.args.left c.requires.some fits h in
    rw (without-lowest c.args.left c.requires.some fits) (refined-next b p c.args.w v c.args.state.now c.refine.new.state c.args.left c.requires.some fits h (c.refine.ensures.told b p _ is h.told has (c.requires.beside (trailing_zeros w64 c.args.left) (lowest-small c.args.left c.requires.some fits))))

pub returns-clause-behind : goal.returns-clause-behind
returns-clause-behind c =
    let fits : c.args.left < 18446744073709551616 = omega arith in
    rw (without-lowest c.args.left c.requires.some fits) (omega (
      arith,
      lowest-behind (others c.args.left) (trailing_zeros w64 c.args.left) (others-small c.args.left c.requires.some fits)
          (lowest-small c.args.left c.requires.some fits) (others-none c.args.left c.requires.some fits),
    ))
