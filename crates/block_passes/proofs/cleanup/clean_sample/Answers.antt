use Rattle.std.proofs.Common.{◌<◌, ◌∙◌, sym, arith, suc}
use Rattle.codec_terms.specs.BlockDecisions.{bit_told}
use Rattle.block_sets.specs.Places.{column_at, row_at}
use Rattle.block_passes.proofs.Candidates.{lowest-behind}
use Rattle.block_passes.proofs.Propagated.{lowest-small}
use Rattle.block_passes.proofs.Runs.{left-apart, left-same}
use Rattle.block_passes.proofs.Forward.{bit-more, bit-same, bit-seen, runs-after, runs-still, lowest-none, lowest-same, lowest-fits, sample-there, runs-here, cleaned-sample}
use Rattle.block_passes.proofs.cleanup.clean_sample.Goals as goal

pub returns-then-code_bit-clause-told : goal.returns-then-code_bit-clause-told
returns-then-code_bit-clause-told c = λ b p v is h.
    let w = c.args.w in
    let n = c.args.i in
    let rest = c.args.rest in
    let others = c.beside_one.result in
    let fits : c.args.rest.left < 18446744073709551616 = omega arith in
    let small = lowest-fits rest.left c.requires.some fits others.left n c.beside_one.ensures.left c.requires.i in
    let has = sample-there b p w v c.args.state.now c.code_bit.new.state rest others c.requires.some fits small h n c.requires.i in
    let u = bit_told b p (column_at w n) (row_at w n) h.now in
    let bit = sym (c.code_bit.ensures.bit b p is has) ∙ c.if-code_bit.true in
    let seen = bit-seen b p (column_at w n) (row_at w n) h.now in
    let here = runs-here b p w v c.args.state.now c.code_bit.new.state rest others c.requires.some fits small h n c.requires.i in
    let more = bit-more b p (column_at w n) (row_at w n) h.now bit in
    cleaned-sample b p w v c.args.state.now c.code_bit.new.state rest others c.requires.some fits small h n c.requires.i c.requires.no_run
    (c.code_bit.ensures.told b p h.now is h.told has)
    (lowest-none rest.left c.requires.some fits others.left n c.beside_one.ensures.left c.requires.i)
    (lowest-same rest.left c.requires.some fits others.left n c.beside_one.ensures.left c.requires.i)
    (λ j q. left-apart b w n has h.now u h.told.sets.significant_size more seen j q)
    (runs-after b w n has h.now u h.told.sets.significant_size more seen n rest.runs others.runs (omega arith) here c.beside_one.ensures.next c.beside_one.ensures.same)

pub returns-then-code_bit-clause-behind : goal.returns-then-code_bit-clause-behind
returns-then-code_bit-clause-behind c =
    let fits : c.args.rest.left < 18446744073709551616 = omega arith in
    let small = lowest-fits c.args.rest.left c.requires.some fits c.beside_one.result.left c.args.i c.beside_one.ensures.left c.requires.i in
    let none = lowest-none c.args.rest.left c.requires.some fits c.beside_one.result.left c.args.i c.beside_one.ensures.left c.requires.i in
    omega (arith, c.requires.i, lowest-behind c.beside_one.result.left c.args.i small (omega (arith, c.requires.i, lowest-small c.args.rest.left c.requires.some fits)) none)

pub returns-else-code_bit-clause-told : goal.returns-else-code_bit-clause-told
returns-else-code_bit-clause-told c = λ b p v is h.
    let w = c.args.w in
    let n = c.args.i in
    let rest = c.args.rest in
    let others = c.with_left.result in
    let fits : c.args.rest.left < 18446744073709551616 = omega arith in
    let small = lowest-fits rest.left c.requires.some fits others.left n c.with_left.ensures.left c.requires.i in
    let has = sample-there b p w v c.args.state.now c.code_bit.new.state rest others c.requires.some fits small h n c.requires.i in
    let u = bit_told b p (column_at w n) (row_at w n) h.now in
    let bit = sym (c.code_bit.ensures.bit b p is has) ∙ c.if-code_bit.false in
    let seen = bit-seen b p (column_at w n) (row_at w n) h.now in
    let here = runs-here b p w v c.args.state.now c.code_bit.new.state rest others c.requires.some fits small h n c.requires.i in
    let same = bit-same b p (column_at w n) (row_at w n) h.now bit in
    cleaned-sample b p w v c.args.state.now c.code_bit.new.state rest others c.requires.some fits small h n c.requires.i c.requires.no_run
    (c.code_bit.ensures.told b p h.now is h.told has)
    (lowest-none rest.left c.requires.some fits others.left n c.with_left.ensures.left c.requires.i)
    (lowest-same rest.left c.requires.some fits others.left n c.with_left.ensures.left c.requires.i)
    (λ j q. left-same b w h.now u same seen j)
    (rw c.with_left.ensures.runs (runs-still b w h.now u same seen n (suc n) rest.runs (omega arith) here))

pub returns-else-code_bit-clause-behind : goal.returns-else-code_bit-clause-behind
returns-else-code_bit-clause-behind c =
    let fits : c.args.rest.left < 18446744073709551616 = omega arith in
    let small = lowest-fits c.args.rest.left c.requires.some fits c.with_left.result.left c.args.i c.with_left.ensures.left c.requires.i in
    let none = lowest-none c.args.rest.left c.requires.some fits c.with_left.result.left c.args.i c.with_left.ensures.left c.requires.i in
    omega (arith, c.requires.i, lowest-behind c.with_left.result.left c.args.i small (omega (arith, c.requires.i, lowest-small c.args.rest.left c.requires.some fits)) none)
