use Rattle.std.proofs.Common.{◌≡◌, ◌*◌, ◌^◌, ◌%◌, ◌<◌, ap, ◌∙◌, arith, mod-eq_of_lt}
use Rattle.mq_coder.specs.Sources.{reading_at}
use Rattle.mq_coder.proofs.Bits.{begins}
use Rattle.mq_coder.proofs.reader.Reader.new.Goals as goal

pub returns : goal.returns
returns c =
    let small : c.from.result < 256 = omega (arith, c.split-current.type_inv, c.from.ensures) in
    let exact : c.from.result * 2 ^ 16 % 2 ^ 32 ≡ c.from.result * 2 ^ 16 = mod-eq_of_lt (let e : c.from.result * 2 ^ 16 < 2 ^ 32 = omega arith in e) in
    begins c.args.bytes.now c.split-current.result.1.now c.split-current.result.0 (c.from.result * 2 ^ 16 % 2 ^ 32)
    (reading_at 0x8000 c.take_byte-first.result.c c.take_byte-first.result.ct c.take_byte-first.new.source)
    c.split-current.ensures.byte c.split-current.ensures.rest
    (exact ∙ ap (λ b. b * 2 ^ 16) c.from.ensures) (c.take_byte-first.ensures.byte 0x8000 0)
