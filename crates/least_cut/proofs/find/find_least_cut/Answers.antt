use Rattle.std.proofs.Common.{◌∙◌, ℕ, ap, sym, subst, arith}
use Rattle.codec_terms.specs.declared.picture.Shape.{Shape}
use Rattle.codec_terms.specs.Cut.{least_cut}
use Rattle.cinema_stream.specs.Books.{IsBookOf}
use Rattle.least_cut.specs.Below.{AreNoneBelow}
use Rattle.least_cut.proofs.Answered.{best-searched, best-above, first-above, none-below, coded-first, ended-when}
use Rattle.least_cut.proofs.find.find_least_cut.Goals as goal

pub returns-in-Some-clause-few : goal.returns-in-Some-clause-few
returns-in-Some-clause-few c =
    let a = c.args in
    let q = c.requires.begun.0 in
    let begun = c.requires.begun.1 in
    let first = c.at-first.result in
    let last = c.in_ok-last.last in
    let after = c.search_down.new.blocks in
    let coded = coded-first q a.sets.now a.start a.blocks.now c.code_to_cut.new.self begun c.in_ok-code_to_cut.ensures.shape
    (c.in_ok-code_to_cut.ensures.blocks q begun.sets_of begun.blocks_of) (c.in_ok-code_to_cut.ensures.coded q begun.sets_of begun.blocks_of) in
    let ended = ended-when a.limits a.start q c.code_to_cut.new.self after first last coded c.at-first.ensures.floors (c.at-first.ensures.of q coded)
    (c.in_ok-last.ensures.down a.start q begun.sets_of) in
    (best-searched a.limits a.start q after last ended c.in-Some.best c.in-Some.is).last

pub returns-in-Some-clause-least : goal.returns-in-Some-clause-least
returns-in-Some-clause-least c = λ q begun.
    let a = c.args in
    let first = c.at-first.result in
    let last = c.in_ok-last.last in
    let after = c.search_down.new.blocks in
    let coded = coded-first q a.sets.now a.start a.blocks.now c.code_to_cut.new.self begun c.in_ok-code_to_cut.ensures.shape
    (c.in_ok-code_to_cut.ensures.blocks q begun.sets_of begun.blocks_of) (c.in_ok-code_to_cut.ensures.coded q begun.sets_of begun.blocks_of) in
    let ended = ended-when a.limits a.start q c.code_to_cut.new.self after first last coded c.at-first.ensures.floors (c.at-first.ensures.of q coded)
    (c.in_ok-last.ensures.down a.start q begun.sets_of) in
    sym (c.answer_laws.ensures.stop a.limits after.shape q last.sizes.cut c.in-Some.best (best-searched a.limits a.start q after last ended c.in-Some.best c.in-Some.is) ended.none)
    ∙ ap (λ (s : Shape). least_cut a.limits s q) (c.in_ok-last.ensures.shape ∙ c.in_ok-code_to_cut.ensures.shape)

pub returns-in-Some-clause-coded : goal.returns-in-Some-clause-coded
returns-in-Some-clause-coded c = λ q begun.
    let a = c.args in
    let first = c.at-first.result in
    let last = c.in_ok-last.last in
    let after = c.search_down.new.blocks in
    let coded = coded-first q a.sets.now a.start a.blocks.now c.code_to_cut.new.self begun c.in_ok-code_to_cut.ensures.shape
    (c.in_ok-code_to_cut.ensures.blocks q begun.sets_of begun.blocks_of) (c.in_ok-code_to_cut.ensures.coded q begun.sets_of begun.blocks_of) in
    let ended = ended-when a.limits a.start q c.code_to_cut.new.self after first last coded c.at-first.ensures.floors (c.at-first.ensures.of q coded)
    (c.in_ok-last.ensures.down a.start q begun.sets_of) in
    c.higher_cut_laws.ensures q last.floors.cut c.in-Some.best after ended.coded (best-above a.limits a.start q after last ended c.in-Some.best c.in-Some.is)

pub search_up-requires-clause-of : goal.search_up-requires-clause-of
search_up-requires-clause-of c =
    let a = c.args in
    let q = c.requires.begun.0 in
    let begun = c.requires.begun.1 in
    let first = c.at-first.result in
    let last = c.in_ok-last.last in
    let after = c.search_down.new.blocks in
    let coded = coded-first q a.sets.now a.start a.blocks.now c.code_to_cut.new.self begun c.in_ok-code_to_cut.ensures.shape
    (c.in_ok-code_to_cut.ensures.blocks q begun.sets_of begun.blocks_of) (c.in_ok-code_to_cut.ensures.coded q begun.sets_of begun.blocks_of) in
    let search = c.at-first.ensures.of q coded in
    let ended = ended-when a.limits a.start q c.code_to_cut.new.self after first last coded c.at-first.ensures.floors search
    (c.in_ok-last.ensures.down a.start q begun.sets_of) in (
      q,
      (
        c.higher_cut_laws.ensures q last.floors.cut first.sizes.cut after ended.coded (omega (arith, first-above a.limits a.start q after last ended, c.at-first.ensures.sizes)),
        subst (λ (s : Shape). IsBookOf s q first.sizes) (sym c.in_ok-last.ensures.shape) search.sizes_of,
      ),
    )

pub returns-in-None-clause-least : goal.returns-in-None-clause-least
returns-in-None-clause-least c = λ q begun.
    let a = c.args in
    let first = c.at-first.result in
    let last = c.in_ok-last.last in
    let after = c.search_down.new.blocks in
    let coded = coded-first q a.sets.now a.start a.blocks.now c.code_to_cut.new.self begun c.in_ok-code_to_cut.ensures.shape
    (c.in_ok-code_to_cut.ensures.blocks q begun.sets_of begun.blocks_of) (c.in_ok-code_to_cut.ensures.coded q begun.sets_of begun.blocks_of) in
    let search = c.at-first.ensures.of q coded in
    let ended = ended-when a.limits a.start q c.code_to_cut.new.self after first last coded c.at-first.ensures.floors search
    (c.in_ok-last.ensures.down a.start q begun.sets_of) in
    c.search_up.ensures.least q
    (c.higher_cut_laws.ensures q last.floors.cut first.sizes.cut after ended.coded (omega (arith, first-above a.limits a.start q after last ended, c.at-first.ensures.sizes)))
    (subst (λ (s : Shape). IsBookOf s q first.sizes) (sym c.in_ok-last.ensures.shape) search.sizes_of)
    (subst (λ (n : ℕ). AreNoneBelow a.limits after.shape q n) (sym c.at-first.ensures.sizes) (none-below a.limits a.start q after last ended c.in-None.is))
    ∙ ap (λ (s : Shape). least_cut a.limits s q) (c.in_ok-last.ensures.shape ∙ c.in_ok-code_to_cut.ensures.shape)

pub returns-in-None-clause-coded : goal.returns-in-None-clause-coded
returns-in-None-clause-coded c = λ q begun.
    let a = c.args in
    let first = c.at-first.result in
    let last = c.in_ok-last.last in
    let after = c.search_down.new.blocks in
    let coded = coded-first q a.sets.now a.start a.blocks.now c.code_to_cut.new.self begun c.in_ok-code_to_cut.ensures.shape
    (c.in_ok-code_to_cut.ensures.blocks q begun.sets_of begun.blocks_of) (c.in_ok-code_to_cut.ensures.coded q begun.sets_of begun.blocks_of) in
    let ended = ended-when a.limits a.start q c.code_to_cut.new.self after first last coded c.at-first.ensures.floors (c.at-first.ensures.of q coded)
    (c.in_ok-last.ensures.down a.start q begun.sets_of) in
    c.higher_cut_laws.ensures q last.floors.cut c.search_up.result after ended.coded
    (omega (arith, first-above a.limits a.start q after last ended, c.at-first.ensures.sizes, c.search_up.ensures.above))
