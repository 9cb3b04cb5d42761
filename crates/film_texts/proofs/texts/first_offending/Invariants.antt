use Rattle.std.proofs.Common.{◌≡◌, ◌-◌, length}
use Rattle.film_project.specs.Texts as spec
use Rattle.film_texts.proofs.texts.first_offending.Given as goal

-- no place before offends
abbrev pub invariant-loop-index : goal.invariant-loop-index
invariant-loop-index l =
    spec.first_place (spec.offends l.rule l.text) 0 (length l.text) ≡ spec.first_place (spec.offends l.rule l.text) l.index (length l.text - l.index)
