use Rattle.std.proofs.Common.{◌≡◌, ◌∙◌, ◌+◌, sym, ap, Err}
use Rattle.codec_terms.specs.declared.packet.HeadRefusal.TheVariants.{WideLength}
use Rattle.codec_terms.specs.Bits.{log2}
use Rattle.codec_terms.specs.PacketReading.{size_read, number_read}
use Rattle.header_bits.proofs.Sizes.{log2-is, size_read-bits, size_of_bits-wide, size_of_bits-fine}
use Rattle.header_bits.proofs.numbers.read_size.Goals as goal

pub returns-then-bits-gt32-clause-refused : goal.returns-then-bits-gt32-clause-refused
returns-then-bits-gt32-clause-refused c =
    let b = c.args.bytes.now in
    let log : c.from-2.result ≡ log2 c.args.passes = c.from-2.ensures ∙ log2-is c.args.passes c.from.result c.ilog2.result c.from.ensures c.ilog2.ensures.power_le c.ilog2.ensures.next_power_gt c.ilog2.ensures.bound in
    size_read-bits b c.args.passes c.in_ok-bits.field-0 c.from-2.result c.args.place.now c.read_ones.new.place c.in_ok-bits.ensures.read log
    ∙ size_of_bits-wide b _ c.read_ones.new.place c.if-bits-gt32.true
    ∙ ap (λ at. Err (WideLength at (3 + c.in_ok-bits.field-0 + c.from-2.result))) (sym c.here.ensures)

whole : (c : goal.After-read_number) → size_read c.args.bytes.now c.args.passes c.args.place.now ≡ number_read c.args.bytes.now (3 + c.in_ok-bits.field-0 + c.from-2.result) 0 c.read_ones.new.place
whole c =
    let b = c.args.bytes.now in
    let log : c.from-2.result ≡ log2 c.args.passes = c.from-2.ensures ∙ log2-is c.args.passes c.from.result c.ilog2.result c.from.ensures c.ilog2.ensures.power_le c.ilog2.ensures.next_power_gt c.ilog2.ensures.bound in
    size_read-bits b c.args.passes c.in_ok-bits.field-0 c.from-2.result c.args.place.now c.read_ones.new.place c.in_ok-bits.ensures.read log
    ∙ size_of_bits-fine b _ c.read_ones.new.place c.if-bits-gt32.false

pub returns-clause-read : goal.returns-clause-read
returns-clause-read c = rw (whole c) c.read_number.ensures.read

pub returns-clause-refused : goal.returns-clause-refused
returns-clause-refused c = rw (whole c) c.read_number.ensures.refused
