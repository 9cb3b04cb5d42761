use Rattle.std.proofs.Common.{◌≡◌, map, drop}
use Rattle.film_project.specs.Texts as texts
use Rattle.film_reader.proofs.assets.has_id.Given as goal

-- no asset before has the id
abbrev pub invariant-loop-asset : goal.invariant-loop-asset
invariant-loop-asset l =
    texts.is_one_of (map (λ a. a.id) l.assets) l.id ≡ texts.is_one_of (map (λ a. a.id) (drop l.asset-index l.assets)) l.id
