use Rattle.std.proofs.Common.{◌<◌, ◌≤◌, arith}
use Rattle.std.specs.Int.{w64, trailing_zeros}
use Rattle.block_passes.proofs.Candidates.{lowest-behind}
use Rattle.block_passes.proofs.Marking.{marked-sample, marked-next}
use Rattle.block_passes.proofs.Propagated.{others, lowest-small, others-small, others-none}
use Rattle.block_passes.proofs.Starts.{sign-bit}
use Rattle.block_passes.proofs.start.mark_lowest.Goals as goal

pub returns-clause-told : goal.returns-clause-told
returns-clause-told c = λ b samples h before.
    let fits : c.args.left < 18446744073709551616 = omega arith in
    let narrow : b.width ≤ 32 = omega (arith, h.width) in
    let low : b.height ≤ 32 = omega (arith, h.height) in
    let has = marked-sample b narrow low h.whole samples c.args.words.now c.mark.new.words c.args.w c.args.left c.requires.w c.requires.some fits before in
    let small = lowest-small c.args.left c.requires.some fits in
    let sign = sign-bit b c.args.planes.now h narrow low c.args.w (trailing_zeros w64 c.args.left) c.requires.w small has in
    marked-next b narrow low h.whole samples c.args.words.now c.mark.new.words c.args.w c.args.left c.requires.w c.requires.some fits before
    _ (omega arith) sign (rw (← c.place_of.ensures, ← c.from-signs.ensures) c.mark.ensures)

pub returns-clause-behind : goal.returns-clause-behind
returns-clause-behind c =
    let fits : c.args.left < 18446744073709551616 = omega arith in
    omega (
      arith,
      lowest-behind (others c.args.left) (trailing_zeros w64 c.args.left) (others-small c.args.left c.requires.some fits)
          (lowest-small c.args.left c.requires.some fits) (others-none c.args.left c.requires.some fits),
    )
