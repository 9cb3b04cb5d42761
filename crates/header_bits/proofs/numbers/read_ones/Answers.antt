use Rattle.std.proofs.Common.{◌≡◌, ◌∙◌, ◌+◌, ◌-◌, ◌*◌, suc, ap, arith, Bool, true, false, Ok, length}
use Rattle.std.proofs.lemmas.Result.{err_from_is_err_and}
use Rattle.codec_terms.specs.PacketReading.{bit_read}
use Rattle.header_bits.proofs.BitNumbers.{ones_read_within-none, ones_read_within-more, ones_read_within-end, ones_read_within-err}
use Rattle.header_bits.proofs.numbers.read_ones.Goals as goal

pub returns-in_err-read_bit-clause-refused : goal.returns-in_err-read_bit-clause-refused
returns-in_err-read_bit-clause-refused c =
    let p = err_from_is_err_and c.from_residual.result c.from_residual.ensures.1 in
    let b = c.args.bytes.now in
    let l = c.loop-ones in
    let one : 8 * length b - l.ones ≡ suc (8 * length b - (l.ones + 1)) = omega arith in
    rw (p.1, p.2) (l.invariant ∙ ones_read_within-err b _ _ l.ones l.place c.in_err-read_bit.field-0.0 c.in_err-read_bit.ensures.refused one)

pub returns-then-not-branch-clause-read : goal.returns-then-not-branch-clause-read
returns-then-not-branch-clause-read c =
    let b = c.args.bytes.now in
    let l = c.loop-ones in
    let one : 8 * length b - l.ones ≡ suc (8 * length b - (l.ones + 1)) = omega arith in
    let zero : bit_read b l.place ≡ Ok (false, c.read_bit.new.self) = c.in_ok-read_bit.ensures.read ∙ ap (λ (bit : Bool). Ok (bit, c.read_bit.new.self)) c.if-not-branch.true in
    l.invariant ∙ ones_read_within-end b _ _ l.ones l.place c.read_bit.new.self zero one

pub loop-ones-preserved : goal.loop-ones-preserved
loop-ones-preserved c =
    let b = c.args.bytes.now in
    let l = c.loop-ones in
    let one : 8 * length b - l.ones ≡ suc (8 * length b - (l.ones + 1)) = omega arith in
    let next : l.ones + 1 ≡ suc l.ones = omega arith in
    let bit : bit_read b l.place ≡ Ok (true, c.read_bit.new.self) = c.in_ok-read_bit.ensures.read ∙ ap (λ (bit : Bool). Ok (bit, c.read_bit.new.self)) c.if-not-branch.false in
    l.invariant ∙ ones_read_within-more b _ _ l.ones _ l.place c.read_bit.new.self bit one next

pub returns-clause-read : goal.returns-clause-read
returns-clause-read c =
    let b = c.args.bytes.now in
    let l = c.loop-ones in
    let none : 8 * length b - l.ones ≡ 0 = omega arith in
    let all : l.ones ≡ 8 * length b = omega arith in
    l.invariant ∙ ones_read_within-none b _ l.ones l.place none ∙ ap (λ n. Ok (n, l.place)) all
