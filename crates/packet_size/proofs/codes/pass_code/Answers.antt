use Rattle.std.proofs.Common.{◌+◌, ◌-◌, arith, refl}
use Rattle.std.proofs.lemmas.Bool.{le-leb, lt-leb}
use Rattle.codec_terms.specs.Bits.{low_bits}
use Rattle.packet_size.proofs.CountedInto.{low_bits-code}
use Rattle.packet_size.proofs.codes.pass_code.Goals as goal

pub returns-then-passes-le1-clause-code : goal.returns-then-passes-le1-clause-code
unfolding low_bits
returns-then-passes-le1-clause-code c = rw (le-leb c.args.passes 1 c.if-passes-le1.true) refl

pub returns-then-passes-le2-clause-code : goal.returns-then-passes-le2-clause-code
unfolding low_bits
returns-then-passes-le2-clause-code c = rw (lt-leb c.args.passes 1 c.if-passes-le1.false, le-leb c.args.passes 2 c.if-passes-le2.true) refl

pub returns-then-passes-le5-clause-code : goal.returns-then-passes-le5-clause-code
returns-then-passes-le5-clause-code c =
    let p = c.args.passes in
    rw (lt-leb p 1 c.if-passes-le1.false, lt-leb p 2 c.if-passes-le2.false, le-leb p 5 c.if-passes-le5.true)
    (low_bits-code 2 2 (p - 3) (12 + (p - 3)) (omega (arith, c.if-passes-le5.true)) (omega arith))

pub returns-then-passes-le36-clause-code : goal.returns-then-passes-le36-clause-code
returns-then-passes-le36-clause-code c =
    let p = c.args.passes in
    rw (lt-leb p 1 c.if-passes-le1.false, lt-leb p 2 c.if-passes-le2.false, lt-leb p 5 c.if-passes-le5.false, le-leb p 36 c.if-passes-le36.true)
    (low_bits-code 4 5 (p - 6) (480 + (p - 6)) (omega (arith, c.if-passes-le36.true)) (omega arith))

pub returns-else-passes-le36-clause-code : goal.returns-else-passes-le36-clause-code
returns-else-passes-le36-clause-code c =
    let p = c.args.passes in
    rw (lt-leb p 1 c.if-passes-le1.false, lt-leb p 2 c.if-passes-le2.false, lt-leb p 5 c.if-passes-le5.false, lt-leb p 36 c.if-passes-le36.false)
    (low_bits-code 9 7 (p - 37) (65408 + (p - 37)) (omega (arith, c.requires.few)) (omega arith))
