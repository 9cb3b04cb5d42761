use Rattle.std.proofs.Common.{◌≡◌, ◌-◌, ◌*◌, ◌^◌, ◌%◌, ◌<◌, ◌≤◌, refl, ap, subst, sym, ◌∙◌, arith, mod-eq_of_lt}
use lib.Count.{count_leading_zeros}
use Rattle.mq_coder.specs.Sources.{reading_of}
use Rattle.mq_coder.proofs.Coding.{count-of}
use Rattle.mq_coder.proofs.Inputs.{renormalise-reading, on-few, reading-eq, doublings-width}
use Rattle.mq_coder.proofs.source.renormalise.Goals as goal

pub overflow_sub-shift : goal.overflow_sub-shift
overflow_sub-shift c = (count-of c.args.at.a c.requires.positive c.requires.low).enough

pub read_on-requires-clause-narrow : goal.read_on-requires-clause-narrow
read_on-requires-clause-narrow c = (count-of c.args.at.a c.requires.positive c.requires.low).narrow

pub returns-then-shift-at-clause-on : goal.returns-then-shift-at-clause-on
returns-then-shift-at-clause-on c =
    let e = c.shifted.ensures in
    let s = c.args.source.now in
    let shift = count_leading_zeros 32 c.args.at.a - 16 in
    let n = count-of c.args.at.a c.requires.positive c.requires.low in
    let exact : c.args.at.a * 2 ^ shift % 2 ^ 32 ≡ c.args.at.a * 2 ^ shift = mod-eq_of_lt (let h : c.args.at.a * 2 ^ shift < 2 ^ 32 = omega (arith, n.narrow) in h) in
    reading-eq _ _ _ _ _ _ s.current s.current s.rest.now s.rest.now (e.a ∙ exact) e.c e.ct refl refl
    ∙ sym (on-few shift c.args.at.a c.args.at.c c.args.at.ct s.current s.rest.now c.if-shift-at.true
    (let h : c.args.at.c < 2 ^ 32 = omega arith in h))
    ∙ sym (renormalise-reading (reading_of c.args.at s) c.requires.positive c.requires.low)

pub returns-clause-on : goal.returns-clause-on
returns-clause-on c =
    c.read_on.ensures.on ∙ sym (renormalise-reading (reading_of c.args.at c.args.source.now) c.requires.positive c.requires.low)

pub returns-then-shift-at-clause-wide : goal.returns-then-shift-at-clause-wide
returns-then-shift-at-clause-wide c =
    let shift = count_leading_zeros 32 c.args.at.a - 16 in
    let n = count-of c.args.at.a c.requires.positive c.requires.low in
    let exact : c.args.at.a * 2 ^ shift % 2 ^ 32 ≡ c.args.at.a * 2 ^ shift = mod-eq_of_lt (let h : c.args.at.a * 2 ^ shift < 2 ^ 32 = omega (arith, n.narrow) in h) in
    subst (λ x. 0x8000 ≤ x) (sym (c.shifted.ensures.a ∙ exact)) n.high

pub returns-then-shift-at-clause-narrow : goal.returns-then-shift-at-clause-narrow
returns-then-shift-at-clause-narrow c =
    let shift = count_leading_zeros 32 c.args.at.a - 16 in
    let n = count-of c.args.at.a c.requires.positive c.requires.low in
    let exact : c.args.at.a * 2 ^ shift % 2 ^ 32 ≡ c.args.at.a * 2 ^ shift = mod-eq_of_lt (let h : c.args.at.a * 2 ^ shift < 2 ^ 32 = omega (arith, n.narrow) in h) in
    subst (λ x. x < 2 ^ 16) (sym (c.shifted.ensures.a ∙ exact)) n.narrow

pub returns-clause-wide : goal.returns-clause-wide
returns-clause-wide c =
    let s = count_leading_zeros 32 c.args.at.a - 16 in
    let wide : c.read_on.result.a ≡ c.args.at.a * 2 ^ s = ap (λ t. t.a) c.read_on.ensures.on ∙ doublings-width s (reading_of c.args.at c.args.source.now) in
    subst (λ x. 0x8000 ≤ x) (sym wide) (count-of c.args.at.a c.requires.positive c.requires.low).high

pub returns-clause-narrow : goal.returns-clause-narrow
returns-clause-narrow c =
    let s = count_leading_zeros 32 c.args.at.a - 16 in
    let wide : c.read_on.result.a ≡ c.args.at.a * 2 ^ s = ap (λ t. t.a) c.read_on.ensures.on ∙ doublings-width s (reading_of c.args.at c.args.source.now) in
    subst (λ x. x < 2 ^ 16) (sym wide) (count-of c.args.at.a c.requires.positive c.requires.low).narrow
