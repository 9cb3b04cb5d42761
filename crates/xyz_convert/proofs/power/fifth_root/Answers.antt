use Rattle.std.proofs.Common.{◌≡◌, ◌+◌, ◌-◌, ◌*◌, ◌^◌, ◌%◌, refl, ap, arith}
use Rattle.std.proofs.lemmas.Nat.{one_shl}
use Rattle.xyz_convert.proofs.Roots.{searched-above, searched-below, searched-whole}
use Rattle.xyz_convert.proofs.power.fifth_root.Goals as goal

pub loop-bit-init : goal.loop-bit-init
loop-bit-init c = record { narrow = omega arith; same = refl }

pub loop-bit-preserved-then-fifth_power-n : goal.loop-bit-preserved-then-fifth_power-n
loop-bit-preserved-then-fifth_power-n c =
    let bit = c.loop-bit.bit in
    let shifted : 1 * 2 ^ (bit - 1) % 2 ^ 32 ≡ 2 ^ (bit - 1) = one_shl (bit - 1) 32 (omega arith) in
    searched-above c.args.n bit c.loop-bit.root _ (omega arith) (ap (λ x. c.loop-bit.root + x) shifted)
    (omega (arith, c.fifth_power.ensures)) c.loop-bit.invariant

pub loop-bit-preserved : goal.loop-bit-preserved
loop-bit-preserved c =
    let bit = c.loop-bit.bit in
    let shifted : 1 * 2 ^ (bit - 1) % 2 ^ 32 ≡ 2 ^ (bit - 1) = one_shl (bit - 1) 32 (omega arith) in
    searched-below c.args.n bit c.loop-bit.root _ (omega arith) (ap (λ x. c.loop-bit.root + x) shifted)
    (omega (arith, c.fifth_power.ensures)) c.loop-bit.invariant

pub returns-clause-root : goal.returns-clause-root
returns-clause-root c =
    let done : c.loop-bit.bit ≡ 0 = omega arith in
    searched-whole c.args.n c.loop-bit.root (rw done at c.loop-bit.invariant)
