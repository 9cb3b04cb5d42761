use Rattle.std.proofs.Common.{◌<◌, sym, ◌∙◌, arith}
use Rattle.std.specs.Int.{w64, trailing_zeros}
use Rattle.block_passes.proofs.Candidates.{lowest-behind}
use Rattle.block_passes.proofs.Propagated.{others, lowest-small, others-small, more-small, others-none, more-none, sample-here, propagated-more, propagated-same}
use Rattle.block_passes.proofs.propagation.propagate_lowest.Goals as goal

pub returns-then-propagate-clause-told : goal.returns-then-propagate-clause-told
returns-then-propagate-clause-told c = λ b p v is h.
    let fits : c.args.candidates < 18446744073709551616 = omega arith in
    let small : c.args.free < 18446744073709551616 = omega arith in
    let has = sample-here b p c.args.w v c.args.state.now c.propagate.new.state c.args.candidates c.args.free c.requires.some fits h in
    propagated-more b p c.args.w v c.args.state.now c.propagate.new.state c.args.candidates c.args.free c.requires.some fits h
    c.later.result c.later.ensures (more-small c.args.candidates c.requires.some fits c.later.result c.args.free small) h.told.sets.significant_size
    (sym (c.propagate.ensures.bit b p is has) ∙ c.if-propagate.true) (c.propagate.ensures.told b p _ is h.told has)

pub returns-else-propagate-clause-told : goal.returns-else-propagate-clause-told
returns-else-propagate-clause-told c = λ b p v is h.
    let fits : c.args.candidates < 18446744073709551616 = omega arith in
    let has = sample-here b p c.args.w v c.args.state.now c.propagate.new.state c.args.candidates c.args.free c.requires.some fits h in
    propagated-same b p c.args.w v c.args.state.now c.propagate.new.state c.args.candidates c.args.free c.requires.some fits h
    (others-small c.args.candidates c.requires.some fits)
    (sym (c.propagate.ensures.bit b p is has) ∙ c.if-propagate.false) (c.propagate.ensures.told b p _ is h.told has)

pub returns-then-propagate-clause-behind : goal.returns-then-propagate-clause-behind
returns-then-propagate-clause-behind c =
    let fits : c.args.candidates < 18446744073709551616 = omega arith in
    let small : c.args.free < 18446744073709551616 = omega arith in
    omega (
      arith,
      lowest-behind _ (trailing_zeros w64 c.args.candidates) (more-small c.args.candidates c.requires.some fits c.later.result c.args.free small)
          (lowest-small c.args.candidates c.requires.some fits) (more-none c.args.candidates c.requires.some fits c.later.result c.args.free c.later.ensures),
    )

pub returns-else-propagate-clause-behind : goal.returns-else-propagate-clause-behind
returns-else-propagate-clause-behind c =
    let fits : c.args.candidates < 18446744073709551616 = omega arith in
    omega (
      arith,
      lowest-behind (others c.args.candidates) (trailing_zeros w64 c.args.candidates) (others-small c.args.candidates c.requires.some fits)
          (lowest-small c.args.candidates c.requires.some fits) (others-none c.args.candidates c.requires.some fits),
    )
