use Rattle.std.proofs.Common.{◌≡◌, ◌≢◌, [], ◌∷◌, ◌+◌, ◌++◌, None, drop, map, length-append, arith, ap, ◌∙◌, subst, All}
use Rattle.std.proofs.lemmas.List.Elements.{All-push}
use Rattle.std.proofs.lemmas.List.Quantifiers.{all_pairs_push}
use Rattle.serde_json.specs.View.{view}
use Rattle.film_project.specs.Accepts as spec
use Rattle.film_project.specs.Rules.{IsAsset}
use Rattle.film_project.proofs.Walks.{here_at, assets_fault-next, gather-more}
use Rattle.film_reader.proofs.assets.read_assets.Goals as goal

pub loop-index-preserved : goal.loop-index-preserved
loop-index-preserved c =
    let l = c.loop-index in
    let items = c.args.items.now in
    let item = c.index-items-index.result in
    let asset = c.in_ok-asset.asset in
    let answer = c.in_ok-asset.ensures.answer in
    let here : map view (drop l.index items) ≡ view item ∷ map view (drop (l.index + 1) items) =
    ap (map view) (here_at items l.index item (omega arith) c.index-items-index.is) in
    let none : spec.asset_fault l.index (map (λ a. a.id) l.found) (view item) ≡ None =
    subst (λ found. spec.asset_fault l.index (map (λ a. a.id) found) (view item) ≡ None) c.as_slice.ensures answer.0 in
    let new : All (λ a. a.id ≢ asset.id) l.found = subst (All (λ a. a.id ≢ asset.id)) c.as_slice.ensures c.in_ok-asset.ensures.new in
    let more : c.push.new.self ≡ l.found ++ asset ∷ [] = c.in_ok-push.ensures.ok in
    record {
      faultless = rw more (l.invariant.faultless ∙ assets_fault-next l.index l.found asset _ (view item) _ here none answer.1);
      gathered = rw more (gather-more spec.asset_in l.found asset _ (view item) _ _ here answer.1 l.invariant.gathered);
      count = rw more (omega (arith, length-append l.found (asset ∷ []), l.invariant.count));
      kept = rw more (All-push IsAsset l.found asset l.invariant.kept c.in_ok-asset.ensures.kept);
      distinct = rw more (all_pairs_push (λ a b. a.id ≢ b.id) l.found asset l.invariant.distinct new);
    }
