use Rattle.std.proofs.Common.{◌≡◌, ◌∙◌, ◌<◌, sym, ap, arith, Ok, ◌-◌}
use Rattle.std.proofs.lemmas.Result.{err_from_is_err_and}
use Rattle.codec_terms.specs.PacketReading.{BitPlace, bit_read, top_bit}
use Rattle.header_bits.proofs.Places.{bit_read-in_byte, bit_read-next_byte, bit_read-refused}
use Rattle.header_bits.proofs.place.BitPlace.read_bit.Goals as goal
use Rattle.header_bits.proofs.place.BitPlace.read_bit.Goals.{then-self-eq0+in_ok-read_byte, else-self-eq0}

pub returns-in_err-read_byte-clause-refused : goal.returns-in_err-read_byte-clause-refused
returns-in_err-read_byte-clause-refused c =
    let p = err_from_is_err_and c.from_residual.result c.from_residual.ensures.1 in
    let none : c.args.self.now.left ≡ 0 = ap (λ (q : BitPlace). q.left) (sym c.self.view_is) ∙ c.if-self-eq0.true in
    rw (p.1, p.2) (bit_read-refused c.args.bytes.now c.args.self.now c.in_err-read_byte.field-0.0 none c.in_err-read_byte.ensures.refused)

pub returns-clause-read : goal.returns-clause-read
returns-clause-read c =
    let b = c.args.bytes.now in
    let p = c.args.self.now in
    let whole : bit_read b p ≡ Ok (top_bit b c.if-self-eq0.self (c.if-self-eq0.self.left - 1)) =
    elim c.if-self-eq0.branch [
      | then-self-eq0+in_ok-read_byte w ↦
          let none : p.left ≡ 0 = ap (λ (q : BitPlace). q.left) (sym c.self.view_is) ∙ w.if-self-eq0.true in
          rw w.self-is (bit_read-next_byte b p w.read_byte.new.self none w.in_ok-read_byte.ensures.read)
      | else-self-eq0 w ↦
          let same : p.left ≡ c.self.inside.left = ap (λ (q : BitPlace). q.left) (sym c.self.view_is) in
          let some : 0 < p.left = omega (arith, w.if-self-eq0.false, same) in
          rw w.self-is (bit_read-in_byte b p some)
    ] in
    whole ∙ ap (λ r. Ok r) (sym c.take_bit.ensures.bit)
