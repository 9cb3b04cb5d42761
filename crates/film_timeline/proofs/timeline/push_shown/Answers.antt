use Rattle.std.proofs.Common.{◌≡◌, ◌+◌, ◌-◌, ◌++◌, ◌∷◌, [], ap, sym, ◌∙◌, append_assoc, map, arith}
use Rattle.std.proofs.lemmas.List.FromFn.{map-range_with_len_more}
use Rattle.std.specs.List.{range_with_len}
use Rattle.std.specs.Option.{option_copied}
use Rattle.film_timeline.specs.Timeline.{shown_in}
use Rattle.film_timeline.proofs.timeline.push_shown.Goals as goal

pub loop-f-preserved : goal.loop-f-preserved
loop-f-preserved c =
    let show = shown_in (option_copied c.args.shown) in
    let n : c.loop-f.f + 1 - c.args.from ≡ c.loop-f.f - c.args.from + 1 = omega (arith, c.loop-f.auto.f) in
    let here : c.args.from + (c.loop-f.f - c.args.from) ≡ c.loop-f.f = omega (arith, c.loop-f.auto.f) in
    c.in_ok-push.ensures.items ∙ ap (λ l. l ++ c.cell_of.result ∷ []) c.loop-f.invariant
    ∙ append_assoc c.args.cells.now.items (map show (range_with_len c.args.from (c.loop-f.f - c.args.from))) (c.cell_of.result ∷ [])
    ∙ ap (λ x. c.args.cells.now.items ++ (map show (range_with_len c.args.from (c.loop-f.f - c.args.from)) ++ x ∷ [])) c.cell_of.ensures
    ∙ ap (λ l. c.args.cells.now.items ++ l) (sym (map-range_with_len_more show c.args.from (c.loop-f.f - c.args.from) c.loop-f.f here))
    ∙ ap (λ k. c.args.cells.now.items ++ map show (range_with_len c.args.from k)) (sym n)
