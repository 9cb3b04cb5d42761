use Rattle.std.proofs.Common.{◌≡◌, ◌-◌, ◌*◌, ◌%◌, ◌^◌, ◌<◌, refl, sym, ap, subst, ◌∙◌, arith, mul-le-mul_right, pow_pos, mod-eq_of_lt}
use Rattle.codec_terms.specs.Mq.{byte_in}
use Rattle.mq_coder.specs.Sources.{reading_of, read_doublings}
use Rattle.mq_coder.proofs.Inputs.{reading-eq, on-few, shift-sum, shift-narrow, on-more, zero-at}
use Rattle.mq_coder.proofs.source.+read_on.Goals as goal

pub returns-then-shift-at-clause-on : goal.returns-then-shift-at-clause-on
returns-then-shift-at-clause-on t c =
    let e = c.shifted.ensures in
    let s = c.args.source.now in
    let exact : c.args.at.a * 2 ^ c.args.shift % 2 ^ 32 ≡ c.args.at.a * 2 ^ c.args.shift = mod-eq_of_lt (let h : c.args.at.a * 2 ^ c.args.shift < 2 ^ 32 = omega (arith, c.requires.narrow) in h) in
    reading-eq _ _ _ _ _ _ s.current s.current s.rest.now s.rest.now (e.a ∙ exact) e.c e.ct refl refl
    ∙ sym (on-few c.args.shift c.args.at.a c.args.at.c c.args.at.ct s.current s.rest.now c.if-shift-at.true
    (let h : c.args.at.c < 2 ^ 32 = omega arith in h))

pub read_on-requires : goal.read_on-requires
read_on-requires t c =
    let e = c.shifted-whole.ensures in
    let narrow : c.args.at.a * 2 ^ c.args.at.ct < 2 ^ 16 =
    shift-narrow c.args.at.a c.args.at.ct c.args.shift c.requires.narrow (omega (arith, c.if-shift-at.false)) in
    let exact : c.args.at.a * 2 ^ c.args.at.ct % 2 ^ 32 ≡ c.args.at.a * 2 ^ c.args.at.ct = mod-eq_of_lt (let h : c.args.at.a * 2 ^ c.args.at.ct < 2 ^ 32 = omega arith in h) in
    let wide : c.shifted-whole.result.a ≡ c.args.at.a * 2 ^ c.args.at.ct = e.a ∙ exact in
    let fits : c.shifted-whole.result.a * 2 ^ (c.args.shift - c.args.at.ct) < 2 ^ 16 =
    subst (λ x. x * 2 ^ (c.args.shift - c.args.at.ct) < 2 ^ 16) (sym wide)
    (shift-sum c.args.at.a c.args.at.ct c.args.shift c.requires.narrow (omega (arith, c.if-shift-at.false))) in
    let pos : 0 < c.shifted-whole.result.a =
    subst (λ x. 0 < x) (sym wide) (let h : 0 < c.args.at.a * 2 ^ c.args.at.ct = omega (arith, mul-le-mul_right (2 ^ c.args.at.ct) c.requires.positive, pow_pos c.args.at.ct) in h) in
    (omega (arith, c.decreases, c.take_byte-input.ensures.low, c.if-shift-at.false), (fits, (pos, c.take_byte-input.ensures.high)))

pub returns-clause-on : goal.returns-clause-on
returns-clause-on t c =
    let e = c.shifted-whole.ensures in
    let s = c.args.source.now in
    let narrow : c.args.at.a * 2 ^ c.args.at.ct < 2 ^ 16 =
    shift-narrow c.args.at.a c.args.at.ct c.args.shift c.requires.narrow (omega (arith, c.if-shift-at.false)) in
    let exact : c.args.at.a * 2 ^ c.args.at.ct % 2 ^ 32 ≡ c.args.at.a * 2 ^ c.args.at.ct = mod-eq_of_lt (let h : c.args.at.a * 2 ^ c.args.at.ct < 2 ^ 32 = omega arith in h) in
    let first : reading_of c.shifted-whole.result s ≡ read_doublings c.args.at.ct (reading_of c.args.at s) =
    reading-eq _ _ _ _ _ _ s.current s.current s.rest.now s.rest.now (e.a ∙ exact) e.c e.ct refl refl
    ∙ sym (on-few c.args.at.ct c.args.at.a c.args.at.c c.args.at.ct s.current s.rest.now (omega arith)
    (let h : c.args.at.c < 2 ^ 32 = omega arith in h)) in
    let byte = c.take_byte-input.ensures.byte c.shifted-whole.result.a c.shifted-whole.result.ct in
    c.read_on.ensures.on ∙ ap (read_doublings (c.args.shift - c.args.at.ct)) (byte ∙ ap byte_in first)
    ∙ on-more c.args.at.ct c.args.shift (reading_of c.args.at s) c.if-shift-at.false
    (zero-at (read_doublings c.args.at.ct (reading_of c.args.at s)) (reading_of c.shifted-whole.result s) first (let z : c.shifted-whole.result.ct ≡ 0 = omega (arith, e.ct) in z))
    (let m : 0 < (byte_in (read_doublings c.args.at.ct (reading_of c.args.at s))).ct =
    omega (arith, c.take_byte-input.ensures.low, ap (λ t. t.ct) (byte ∙ ap byte_in first)) in m)
