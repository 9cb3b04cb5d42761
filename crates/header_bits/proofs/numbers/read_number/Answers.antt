use Rattle.std.proofs.Common.{◌≡◌, ◌∙◌, ◌+◌, ◌-◌, ◌*◌, ◌^◌, ◌<◌, refl, ap, ap₂, sym, arith, Ok}
use Rattle.std.proofs.lemmas.Result.{err_from_is_err_and}
use Rattle.codec_terms.specs.PacketReading.{BitPlace, number_read}
use Rattle.header_bits.proofs.Takes.{number-behind, number-take, number-next, number-refused, joined-few, pow-least}
use Rattle.header_bits.proofs.numbers.read_number.Goals as goal

pub joined-n-requires-clause-fits : goal.joined-n-requires-clause-fits
joined-n-requires-clause-fits c =
    let l = c.loop-more in
    let k = c.left-left.result in
    let small = joined-few l.n (c.args.bits - l.more) k c.take_bits.result (c.args.bits - l.more + k) l.invariant.few c.take_bits.ensures.few refl in
    let most = pow-least (c.args.bits - l.more + k) 32 (omega (arith, c.loop-more-test.true, c.left.ensures.left, c.left-left.ensures.left, l.invariant.less, c.requires)) in
    omega (arith, small, most)

pub returns-in_err-read_byte-clause-refused : goal.returns-in_err-read_byte-clause-refused
returns-in_err-read_byte-clause-refused c =
    let e = err_from_is_err_and c.from_residual.result c.from_residual.ensures.1 in
    let b = c.args.bytes.now in
    let l = c.loop-more in
    let k = c.left-left.result in
    let q = c.take_bits.new.self in
    let more : 0 < l.more - k = omega (arith, c.loop-more-test.true, c.left.ensures.left, c.left-left.ensures.left) in
    let none : q.left ≡ 0 = ap (λ (p : BitPlace). p.left) c.take_bits.ensures.place ∙ omega (arith, c.left-left.ensures.left) in
    let taken : number_read b l.more l.n l.place ≡ number_read b (l.more - k) c.joined-n.result q =
    number-behind b k l.more (l.more - k) l.n l.place (omega (arith, more)) (omega (arith, c.left-left.ensures.left))
    ∙ ap₂ (λ n (p : BitPlace). number_read b (l.more - k) n p) (sym (c.joined-n.ensures ∙ ap (λ t. l.n * 2 ^ k + t) c.take_bits.ensures.value)) (sym c.take_bits.ensures.place) in
    rw (e.1, e.2) (l.invariant.same ∙ taken ∙ number-refused b (l.more - k) c.joined-n.result q c.in_err-read_byte.field-0.0 more none c.in_err-read_byte.ensures.refused)

pub loop-more-preserved : goal.loop-more-preserved
loop-more-preserved c =
    let b = c.args.bytes.now in
    let l = c.loop-more in
    let k = c.left-left.result in
    let q = c.take_bits.new.self in
    let more : 0 < l.more - k = omega (arith, c.loop-more-test.true, c.left.ensures.left, c.left-left.ensures.left) in
    let none : q.left ≡ 0 = ap (λ (p : BitPlace). p.left) c.take_bits.ensures.place ∙ omega (arith, c.left-left.ensures.left) in
    let taken : number_read b l.more l.n l.place ≡ number_read b (l.more - k) c.joined-n.result q =
    number-behind b k l.more (l.more - k) l.n l.place (omega (arith, more)) (omega (arith, c.left-left.ensures.left))
    ∙ ap₂ (λ n (p : BitPlace). number_read b (l.more - k) n p) (sym (c.joined-n.ensures ∙ ap (λ t. l.n * 2 ^ k + t) c.take_bits.ensures.value)) (sym c.take_bits.ensures.place) in
    record {
      few = rw c.joined-n.ensures
          (joined-few l.n (c.args.bits - l.more) k c.take_bits.result (c.args.bits - (l.more - k)) l.invariant.few c.take_bits.ensures.few (omega (arith, more, l.invariant.less)));
      less = omega (arith, l.invariant.less);
      same = l.invariant.same ∙ taken ∙ number-next b (l.more - k) c.joined-n.result q c.read_byte.new.self more none c.in_ok-read_byte.ensures.some c.in_ok-read_byte.ensures.read;
    }

pub joined-requires-clause-fits : goal.joined-requires-clause-fits
joined-requires-clause-fits c =
    let l = c.loop-more in
    let small = joined-few l.n (c.args.bits - l.more) l.more c.take_bits-2.result c.args.bits l.invariant.few c.take_bits-2.ensures.few (omega (arith, l.invariant.less)) in
    let most = pow-least c.args.bits 32 c.requires in
    omega (arith, small, most)

pub returns-clause-fits : goal.returns-clause-fits
returns-clause-fits c =
    let l = c.loop-more in
    rw c.joined.ensures (joined-few l.n (c.args.bits - l.more) l.more c.take_bits-2.result c.args.bits l.invariant.few c.take_bits-2.ensures.few (omega (arith, l.invariant.less)))

pub returns-clause-read : goal.returns-clause-read
returns-clause-read c =
    let l = c.loop-more in
    l.invariant.same
    ∙ number-take c.args.bytes.now l.more l.n l.place (omega (arith, c.loop-more-test.false, c.left.ensures.left))
    ∙ ap₂ (λ n (p : BitPlace). Ok (n, p)) (sym (c.joined.ensures ∙ ap (λ t. l.n * 2 ^ l.more + t) c.take_bits-2.ensures.value)) (sym c.take_bits-2.ensures.place)
