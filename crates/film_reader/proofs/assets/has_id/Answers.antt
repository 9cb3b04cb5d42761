use Rattle.std.proofs.Common.{◌∙◌, map, arith}
use Rattle.std.proofs.lemmas.List.{at_drop_all}
use Rattle.film_project.specs.Texts as texts
use Rattle.film_project.proofs.Ids.{is_one_of-none}
use Rattle.film_project.specs.declared.asset.Asset.{Asset}
use Rattle.std.proofs.Common.{List, Bool}
use Rattle.film_reader.proofs.assets.has_id.Goals as goal

pub returns-clause-absent : goal.returns-clause-absent
returns-clause-absent c _ =
    let is_there : List Asset → Bool = λ xs. texts.is_one_of (map (λ a. a.id) xs) c.args.id.now in
    is_one_of-none c.args.assets.now c.args.id.now
    (c.loop-asset.invariant ∙ at_drop_all is_there c.args.assets.now c.loop-asset.asset-index (omega arith))
