use Rattle.std.proofs.Common.{◌≡◌, [], ◌∷◌, ◌+◌, ◌++◌, drop, map, length-append, arith, ap, ◌∙◌}
use Rattle.std.proofs.lemmas.List.Elements.{All-push}
use Rattle.serde_json.specs.View.{view}
use Rattle.film_project.specs.Accepts as spec
use Rattle.film_project.specs.Rules.{FitsSound}
use Rattle.film_project.proofs.Walks.{here_at, first_of-next, gather-more}
use Rattle.film_reader.proofs.clips.read_sound.Goals as goal

pub loop-index-preserved : goal.loop-index-preserved
loop-index-preserved c =
    let l = c.loop-index in
    let items = c.args.items.now in
    let assets = c.args.assets.now in
    let item = c.index-items-index.result in
    let clip = c.in_ok-read_sound_clip.field-0 in
    let here : map view (drop l.index items) ≡ view item ∷ map view (drop (l.index + 1) items) =
    ap (map view) (here_at items l.index item (omega arith) c.index-items-index.is) in
    let more : c.push.new.self ≡ l.found ++ clip ∷ [] = c.in_ok-push.ensures.ok in
    record {
      faultless = l.invariant.faultless
          ∙ first_of-next (spec.sound_fault assets c.args.frames c.args.channels) l.index _ (view item) _ here c.in_ok-read_sound_clip.ensures.answer.0;
      gathered = rw more (gather-more (spec.sound_in assets) l.found clip _ (view item) _ _ here c.in_ok-read_sound_clip.ensures.answer.1 l.invariant.gathered);
      count = rw more (omega (arith, length-append l.found (clip ∷ []), l.invariant.count));
      fit = rw more (All-push (FitsSound c.args.frames c.args.channels c.args.assets.now) l.found clip l.invariant.fit c.in_ok-read_sound_clip.ensures.fits);
    }
