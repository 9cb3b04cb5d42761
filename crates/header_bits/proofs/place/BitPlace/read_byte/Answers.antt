use Rattle.std.proofs.Common.{◌≡◌, ◌∙◌, ◌+◌, sym, ap, arith, refl}
use Rattle.std.specs.Prelude.{suc, ◌==◌, if◌then◌else◌}
use Rattle.codec_terms.specs.PacketReading.{BitPlace}
use Rattle.header_bits.proofs.Places.{byte_read-past, byte_read-stuffed, byte_read-fine}
use Rattle.header_bits.proofs.place.BitPlace.read_byte.Goals as goal

pub returns-then-bytes-self-clause-refused : goal.returns-then-bytes-self-clause-refused
returns-then-bytes-self-clause-refused c =
    let b = c.args.bytes.now in
    rw (← c.self.view_is) (byte_read-past b _ c.if-bytes-self.true)

pub returns-then-byte-ge128-clause-refused : goal.returns-then-byte-ge128-clause-refused
returns-then-byte-ge128-clause-refused c =
    let b = c.args.bytes.now in
    rw (← c.self.view_is) (byte_read-stuffed b _ c.if-bytes-self.false c.if-self.true c.if-byte-ge128.true)

pub returns-clause-read : goal.returns-clause-read
returns-clause-read c =
    let b = c.args.bytes.now in
    let s = c.self.inside in
    let next : suc s.next ≡ s.next + 1 = omega arith in
    let left : (if s.byte == 255 then 7 else 8) ≡ c.bits_behind.result = ap (λ (p : BitPlace). if p.byte == 255 then 7 else 8) c.self.view_is ∙ sym c.bits_behind.ensures in
    rw (← c.self.view_is)
    (byte_read-fine b (record { next = s.next; byte = s.byte; left = s.left }) c.if-bytes-self.false c.else-self.either
    ∙ rw (next, left) refl)
