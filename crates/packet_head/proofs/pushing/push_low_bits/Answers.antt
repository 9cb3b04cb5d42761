use Rattle.std.proofs.Common.{◌≡◌, ◌∙◌, ◌+◌, ◌-◌, ◌/◌, ◌%◌, ◌^◌, ◌++◌, ap, arith, suc}
use Rattle.std.specs.Prelude.{◌==◌, bit_and}
use Rattle.std.proofs.lemmas.Nat.{and_mask}
use Rattle.codec_terms.specs.Bits.{low_bits}
use Rattle.packet_head.proofs.PackedInto.{low_bit-more, low_bits-done}
use Rattle.packet_head.proofs.pushing.push_low_bits.Goals as goal

pub loop-at-preserved : goal.loop-at-preserved
loop-at-preserved c =
    let l = c.loop-at in
    let place : c.args.bits - l.at ≡ suc (c.args.bits - (l.at + 1)) = omega (arith, c.loop-at-test.true) in
    let same : c.args.bits - 1 - l.at ≡ c.args.bits - (l.at + 1) = omega arith in
    let bit : (bit_and (c.args.n / 2 ^ (c.args.bits - 1 - l.at)) 1 == 1) ≡ (c.args.n / 2 ^ (c.args.bits - (l.at + 1)) % 2 == 1) =
    ap (λ x. x == 1) (and_mask (c.args.n / 2 ^ (c.args.bits - 1 - l.at)) 1 ∙ ap (λ k. c.args.n / 2 ^ k % 2) same) in
    ap (λ out. out ++ low_bits (c.args.bits - (l.at + 1)) c.args.n) c.in_ok-push.ensures.ok
    ∙ low_bit-more c.args.n (c.args.bits - (l.at + 1)) (c.args.bits - l.at) l.out _ _ place bit l.invariant

pub returns : goal.returns
returns c =
    let l = c.loop-at in
    low_bits-done c.args.n (c.args.bits - l.at) l.out _ (omega (arith, c.loop-at-test.false)) l.invariant
