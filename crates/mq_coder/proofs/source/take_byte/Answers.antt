use Rattle.std.proofs.Common.{◌≡◌, ◌+◌, ◌*◌, ◌%◌, ◌^◌, ◌<◌, ◌≤◌, sym, ap, ap₂, ◌∙◌, arith, mod-eq_of_lt}
use Rattle.codec_terms.specs.Mq.{next_byte}
use Rattle.mq_coder.specs.Sources.{reading_at}
use Rattle.mq_coder.proofs.Inputs.{reading, in-whole, in-marker, in-stuffed}
use Rattle.mq_coder.proofs.source.take_byte.Goals as goal

pub returns-then-source-clause-byte : goal.returns-then-source-clause-byte
returns-then-source-clause-byte c =
    let rest = c.args.source.now.rest.now in
    let byte : c.from.result ≡ next_byte rest = c.from.ensures ∙ c.split-byte.ensures.byte in
    let small : c.from.result < 256 = omega (arith, c.split-byte.type_inv, c.from.ensures) in
    let exact : c.from.result * 256 % 2 ^ 32 ≡ c.from.result * 256 = mod-eq_of_lt (let e : c.from.result * 256 < 2 ^ 32 = omega arith in e) in
    λ a ct.
    ap (λ x. reading a ((c.args.c + x) % 2 ^ 32) 8 c.split-byte.result.0 c.split-byte.result.1.now) (exact ∙ ap (λ b. b * 256) byte)
    ∙ ap₂ (λ b l. reading a ((c.args.c + next_byte rest * 256) % 2 ^ 32) 8 b l) c.split-byte.ensures.byte c.split-byte.ensures.rest
    ∙ sym (in-whole (reading_at a c.args.c ct c.args.source.now) c.if-source.true)

pub returns-then-byte-gt143-clause-byte : goal.returns-then-byte-gt143-clause-byte
returns-then-byte-gt143-clause-byte c =
    let high : 0x8F < next_byte c.args.source.now.rest.now = omega (arith, c.if-byte-gt143.true, c.split-byte.ensures.byte) in
    λ a ct. sym (in-marker (reading_at a c.args.c ct c.args.source.now) c.if-source.false high)

pub returns-clause-byte : goal.returns-clause-byte
returns-clause-byte c =
    let rest = c.args.source.now.rest.now in
    let byte : c.from-2.result ≡ next_byte rest = c.from-2.ensures ∙ c.split-byte.ensures.byte in
    let small : c.from-2.result < 256 = omega (arith, c.if-byte-gt143.false, c.from-2.ensures) in
    let exact : c.from-2.result * 512 % 2 ^ 32 ≡ c.from-2.result * 512 = mod-eq_of_lt (let e : c.from-2.result * 512 < 2 ^ 32 = omega arith in e) in
    let low : next_byte rest ≤ 0x8F = omega (arith, c.if-byte-gt143.false, c.split-byte.ensures.byte) in
    λ a ct.
    ap (λ x. reading a ((c.args.c + x) % 2 ^ 32) 7 c.split-byte.result.0 c.split-byte.result.1.now) (exact ∙ ap (λ b. b * 512) byte)
    ∙ ap₂ (λ b l. reading a ((c.args.c + next_byte rest * 512) % 2 ^ 32) 7 b l) c.split-byte.ensures.byte c.split-byte.ensures.rest
    ∙ sym (in-stuffed (reading_at a c.args.c ct c.args.source.now) c.if-source.false low)
