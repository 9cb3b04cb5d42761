use Rattle.std.proofs.Common.{◌<◌, sym, ◌∙◌, arith}
use Rattle.std.specs.Int.{w64, trailing_zeros}
use Rattle.block_passes.proofs.Candidates.{lowest-behind}
use Rattle.block_passes.proofs.Propagated.{others, lowest-small, others-small, more-small, others-none, more-none}
use Rattle.block_reading.proofs.Propagated.{sample-here, free-here, propagated-more, propagated-same}
use Rattle.block_reading.proofs.propagation.propagate_lowest.Goals as goal

pub returns-then-propagate-clause-told : goal.returns-then-propagate-clause-told
returns-then-propagate-clause-told c = λ k h.
    let fits : c.args.candidates < 18446744073709551616 = omega arith in
    let small : c.args.free < 18446744073709551616 = omega arith in
    let field = c.args.field.now in
    let has = sample-here field c.args.w k c.args.reader.now c.propagate.new.reader c.args.room.now c.propagate.new.room c.args.candidates c.args.free c.requires.some fits h in
    let none = free-here field c.args.w k c.args.reader.now c.propagate.new.reader c.args.room.now c.propagate.new.room c.args.candidates c.args.free c.requires.some fits h in
    propagated-more field c.args.w k c.args.reader.now c.propagate.new.reader c.args.room.now c.propagate.new.room c.args.candidates c.args.free c.requires.some fits h
    c.later.result c.later.ensures (more-small c.args.candidates c.requires.some fits c.later.result c.args.free small)
    (sym (c.propagate.ensures.bit _ h.told has) ∙ c.if-propagate.true) (c.propagate.ensures.told _ h.told has none)

pub returns-else-propagate-clause-told : goal.returns-else-propagate-clause-told
returns-else-propagate-clause-told c = λ k h.
    let fits : c.args.candidates < 18446744073709551616 = omega arith in
    let field = c.args.field.now in
    let has = sample-here field c.args.w k c.args.reader.now c.propagate.new.reader c.args.room.now c.propagate.new.room c.args.candidates c.args.free c.requires.some fits h in
    let none = free-here field c.args.w k c.args.reader.now c.propagate.new.reader c.args.room.now c.propagate.new.room c.args.candidates c.args.free c.requires.some fits h in
    propagated-same field c.args.w k c.args.reader.now c.propagate.new.reader c.args.room.now c.propagate.new.room c.args.candidates c.args.free c.requires.some fits h
    (others-small c.args.candidates c.requires.some fits)
    (sym (c.propagate.ensures.bit _ h.told has) ∙ c.if-propagate.false) (c.propagate.ensures.told _ h.told has none)

pub returns-then-propagate-clause-behind : goal.returns-then-propagate-clause-behind
returns-then-propagate-clause-behind c =
    let fits : c.args.candidates < 18446744073709551616 = omega arith in
    let small : c.args.free < 18446744073709551616 = omega arith in
    omega (
      arith,
      lowest-behind _ (trailing_zeros w64 c.args.candidates) (more-small c.args.candidates c.requires.some fits c.later.result c.args.free small)
          (lowest-small c.args.candidates c.requires.some fits) (more-none c.args.candidates c.requires.some fits c.later.result c.args.free c.later.ensures),
    )

pub returns-else-propagate-clause-behind : goal.returns-else-propagate-clause-behind
returns-else-propagate-clause-behind c =
    let fits : c.args.candidates < 18446744073709551616 = omega arith in
    omega (
      arith,
      lowest-behind (others c.args.candidates) (trailing_zeros w64 c.args.candidates) (others-small c.args.candidates c.requires.some fits)
          (lowest-small c.args.candidates c.requires.some fits) (others-none c.args.candidates c.requires.some fits),
    )
