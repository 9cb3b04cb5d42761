use Rattle.std.proofs.Common.{◌≡◌, ◌∙◌, ◌+◌, ◌*◌, ◌%◌, ◌^◌, ap, arith, get_or, false}
use Rattle.std.specs.Int.{from_bool}
use Rattle.packet_head.proofs.PackedInto.{IsPacking-none, IsPacking-full, IsPacking-more, IsPacking-end, IsPacking-filled, shifted}
use Rattle.packet_head.proofs.packing.pack_bits.Goals as goal
use Rattle.packet_head.proofs.packing.pack_bits.Goals.{then-behind-eq0+in_ok-push, else-behind-eq0}

pub loop-bit-init : goal.loop-bit-init
loop-bit-init c = IsPacking-none c.args.bits.now c.new-bytes.result c.new-bytes.ensures

pub loop-bit-preserved : goal.loop-bit-preserved
loop-bit-preserved c =
    let l = c.loop-bit in
    let bit = get_or c.args.bits.now l.bit-index false in
    let more = l.byte + c.from.result * 2 ^ l.behind % 256 in
    let value : more ≡ l.byte + from_bool bit * 2 ^ l.behind = ap (λ n. l.byte + n) (shifted bit c.from.result l.behind l.invariant.few c.from.ensures) in
    elim c.if-behind-eq0.branch [
      | then-behind-eq0+in_ok-push w ↦ rw (w.bytes-is, w.in_ok-push.ensures.ok, w.byte-is, w.behind-is, w.bits_behind-behind.ensures)
          (IsPacking-full c.args.bits.now l.bit-index l.bytes l.behind l.byte more (omega (arith, c.loop-bit-test.true)) w.if-behind-eq0.true value l.invariant)
      | else-behind-eq0 w ↦ rw (w.bytes-is, w.byte-is, w.behind-is)
          (IsPacking-more c.args.bits.now l.bit-index l.bytes l.behind l.byte more (omega (arith, c.loop-bit-test.true)) (omega (arith, w.if-behind-eq0.false)) value l.invariant)
    ]

pub returns-then-behind-eq7 : goal.returns-then-behind-eq7
returns-then-behind-eq7 c =
    let l = c.loop-bit in
    IsPacking-end c.args.bits.now l.bit-index l.bytes l.behind l.byte (omega (arith, c.loop-bit-test.false)) c.if-behind-eq7.true l.invariant

pub returns : goal.returns
returns c =
    let l = c.loop-bit in
    c.in_ok-push-2.ensures.ok
    ∙ IsPacking-filled c.args.bits.now l.bit-index l.bytes l.behind l.byte (omega (arith, c.loop-bit-test.false)) c.if-behind-eq7.false l.invariant
