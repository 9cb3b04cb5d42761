use Rattle.std.proofs.Common.{◌∙◌, ◌+◌, sym, arith}
use Rattle.codec_terms.specs.Cut.{IsWithin}
use Rattle.least_cut.proofs.Steps.{not_within, below-last, none-more}
use Rattle.least_cut.proofs.find.search_up.Goals as goal

pub lower-requires : goal.lower-requires
lower-requires c =
    let l = c.loop-limits in
    let a = c.args in
    let shape = a.blocks.now.shape in
    let q = c.requires.of.0 in
    let coded = c.requires.of.1.0 in
    let book = l.invariant.of q coded c.requires.of.1.1 in
    let over = not_within a.limits shape q l.book.cut c.is_within.result (c.is_within.ensures shape q l.book.cut (c.sizes.ensures shape q book)) c.loop-limits-test.true in
    let below = below-last a.limits shape q l.book.cut l.invariant.few over
    (c.last_cut_laws.ensures.within a.limits shape q c.size_laws.ensures coded.fits c.requires.least_frame c.requires.least_component) in
    record {
      below = below;
      of = (q, (c.higher_cut_laws.ensures q a.from.cut (l.book.cut + 1) a.blocks.now coded (omega (arith, l.invariant.above)), book));
    }

pub loop-limits-preserved : goal.loop-limits-preserved
loop-limits-preserved c =
    let l = c.loop-limits in
    let a = c.args in
    let shape = a.blocks.now.shape in
    let q = c.requires.of.0 in
    let coded = c.requires.of.1.0 in
    let book = l.invariant.of q coded c.requires.of.1.1 in
    let over = not_within a.limits shape q l.book.cut c.is_within.result (c.is_within.ensures shape q l.book.cut (c.sizes.ensures shape q book)) c.loop-limits-test.true in
    let below = below-last a.limits shape q l.book.cut l.invariant.few over
    (c.last_cut_laws.ensures.within a.limits shape q c.size_laws.ensures coded.fits c.requires.least_frame c.requires.least_component) in
    record {
      few = omega (arith, c.lower.ensures.cut, below);
      above = omega (arith, c.lower.ensures.cut, l.invariant.above);
      of = λ q coded book.
          c.lower.ensures.of q (c.higher_cut_laws.ensures q a.from.cut (l.book.cut + 1) a.blocks.now coded (omega (arith, l.invariant.above))) (l.invariant.of q coded book);
      none = λ q coded book none.
          let over = not_within a.limits shape q l.book.cut c.is_within.result (c.is_within.ensures shape q l.book.cut (c.sizes.ensures shape q (l.invariant.of q coded book)))
          c.loop-limits-test.true in
          none-more a.limits shape q l.book.cut c.lower.new.self.cut c.lower.ensures.cut (l.invariant.none q coded book none) over;
    }

pub loop-limits-smaller : goal.loop-limits-smaller
loop-limits-smaller c =
    let l = c.loop-limits in
    let a = c.args in
    let shape = a.blocks.now.shape in
    let q = c.requires.of.0 in
    let coded = c.requires.of.1.0 in
    let book = l.invariant.of q coded c.requires.of.1.1 in
    let over = not_within a.limits shape q l.book.cut c.is_within.result (c.is_within.ensures shape q l.book.cut (c.sizes.ensures shape q book)) c.loop-limits-test.true in
    let below = below-last a.limits shape q l.book.cut l.invariant.few over
    (c.last_cut_laws.ensures.within a.limits shape q c.size_laws.ensures coded.fits c.requires.least_frame c.requires.least_component) in
    omega (arith, c.lower.ensures.cut, below)

pub returns-clause-least : goal.returns-clause-least
returns-clause-least c = λ q coded book none.
    let l = c.loop-limits in
    let a = c.args in
    let shape = a.blocks.now.shape in
    let within : IsWithin a.limits shape q l.book.cut = (c.is_within.ensures shape q l.book.cut (c.sizes.ensures shape q (l.invariant.of q coded book))).0 c.loop-limits-test.false in
    let searched = c.search_laws.ensures.begin a.limits shape q l.book.cut l.invariant.few within in
    c.cut.ensures ∙ sym (c.answer_laws.ensures.stop a.limits shape q l.book.cut l.book.cut searched (l.invariant.none q coded book none))
