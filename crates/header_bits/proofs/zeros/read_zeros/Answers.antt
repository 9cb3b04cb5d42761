use Rattle.std.proofs.Common.{◌≡◌, ◌∙◌, ◌+◌, ◌-◌, suc, ap, arith, Bool, true, false, Ok}
use Rattle.std.proofs.lemmas.Result.{err_from_is_err_and}
use Rattle.codec_terms.specs.PacketReading.{bit_read}
use Rattle.header_bits.specs.Zeros.{zeros_found}
use Rattle.header_bits.proofs.BitNumbers.{zeros_read-none, zeros_read-more, zeros_read-end, zeros_read-err}
use Rattle.header_bits.proofs.zeros.read_zeros.Goals as goal

pub returns-in_err-read_bit-clause-refused : goal.returns-in_err-read_bit-clause-refused
returns-in_err-read_bit-clause-refused c =
    let p = err_from_is_err_and c.from_residual.result c.from_residual.ensures.1 in
    let l = c.loop-read in
    let one : c.args.most - l.read ≡ suc (c.args.most - (l.read + 1)) = omega arith in
    rw (p.1, p.2) (l.invariant ∙ zeros_read-err c.args.bytes.now _ _ (c.args.first + l.read) l.place c.in_err-read_bit.field-0.0 c.in_err-read_bit.ensures.refused one)

pub returns-then-branch-clause-read : goal.returns-then-branch-clause-read
returns-then-branch-clause-read c =
    let l = c.loop-read in
    let one : c.args.most - l.read ≡ suc (c.args.most - (l.read + 1)) = omega arith in
    let bit : bit_read c.args.bytes.now l.place ≡ Ok (true, c.read_bit.new.self) = c.in_ok-read_bit.ensures.read ∙ ap (λ (bit : Bool). Ok (bit, c.read_bit.new.self)) c.if-branch.true in
    l.invariant ∙ zeros_read-end c.args.bytes.now _ _ (c.args.first + l.read) l.place c.read_bit.new.self bit one

pub loop-read-preserved : goal.loop-read-preserved
loop-read-preserved c =
    let l = c.loop-read in
    let one : c.args.most - l.read ≡ suc (c.args.most - (l.read + 1)) = omega arith in
    let next : c.args.first + (l.read + 1) ≡ suc (c.args.first + l.read) = omega arith in
    let bit : bit_read c.args.bytes.now l.place ≡ Ok (false, c.read_bit.new.self) = c.in_ok-read_bit.ensures.read ∙ ap (λ (bit : Bool). Ok (bit, c.read_bit.new.self)) c.if-branch.false in
    l.invariant ∙ zeros_read-more c.args.bytes.now _ _ (c.args.first + l.read) _ l.place c.read_bit.new.self bit one next

pub returns-clause-read : goal.returns-clause-read
returns-clause-read c =
    let l = c.loop-read in
    let none : c.args.most - l.read ≡ 0 = omega arith in
    let all : c.args.first + l.read ≡ c.args.first + c.args.most = omega arith in
    l.invariant ∙ zeros_read-none c.args.bytes.now _ (c.args.first + l.read) l.place none ∙ ap (λ n. Ok (zeros_found n false, l.place)) all
