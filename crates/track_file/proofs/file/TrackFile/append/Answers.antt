use Rattle.std.proofs.Common.{◌≡◌, ◌∙◌, ◌++◌, ◌+◌, List, ℕ, drop, length, ap, refl, rules}
use Rattle.std.proofs.lemmas.List.{length-append}
use Rattle.track_terms.specs.Track.{essence}
use Rattle.track_file.specs.Views.{track_of}
use Rattle.track_file.proofs.Items.{HasGrown, HasValues-push, HasItems-push, length-essence}
use Rattle.track_file.proofs.Written.{overwritten-end}
use Rattle.track_file.proofs.file.TrackFile.append.Given.{Over}
use Rattle.track_file.proofs.file.TrackFile.append.Goals as goal
use Rattle.track_file.proofs.file.TrackFile.append.Goals.{In_ok-push}

-- the bytes that are written
abbrev item_of : (g : Over) → In_ok-push g → List ℕ
item_of g c = c.copy_from_slice.new.self ++ c.split_at_mut-head.result.1.now

made : (g : Over) (c : In_ok-push g) → item_of g c ≡ essence c.self.inside.facts.kind (drop 20 c.args.item.now)
made g c = search rules

grown : (g : Over) (c : In_ok-push g)
    → let before = track_of c.self.inside in
    HasGrown before (record before { places = c.push.new.self.items; place = before.place + length (item_of g c) }) (drop 20 c.args.item.now)
grown g c = record {
  same_facts = refl;
  places = c.in_ok-push.ensures.items;
  place = ap (λ n. c.self.inside.place + n) (ap length (made g c) ∙ length-essence c.self.inside.facts.kind (drop 20 c.args.item.now));
}

-- the file's bytes behind the write
written : (g : Over) (c : In_ok-push g) → g.V.Volume.tells
    → g.V.Volume.reads c.write.new.self c.self.inside.file ≡ g.V.Volume.reads c.args.volume.now c.self.inside.file ++ item_of g c
written g c tells =
    let end = rw (← c.self.view_is) at (c.requires.end tells) in
    c.in_ok-write.ensures.written tells
    ∙ overwritten-end (g.V.Volume.reads c.args.volume.now c.self.inside.file) (item_of g c) c.self.inside.place end

pub returns-clause-appended : goal.returns-clause-appended
returns-clause-appended g c =
    let grown = grown g (goal.at.returns-clause-appended g c).In_ok-push in
    rw (← c.self.view_is) (λ values known. HasValues-push (track_of c.self.inside) _ (drop 20 c.args.item.now) values grown known)

pub returns-clause-written : goal.returns-clause-written
returns-clause-written g c = λ tells.
    let here = (goal.at.returns-clause-written g c).In_ok-push in
    let more = written g here tells ∙ ap (λ item. g.V.Volume.reads c.args.volume.now c.self.inside.file ++ item) (made g here) in
    rw (← c.self.view_is)
    (λ values has. HasItems-push (track_of c.self.inside) _ (drop 20 c.args.item.now) values _ _ (grown g here) more has)

pub returns-clause-end_on : goal.returns-clause-end_on
returns-clause-end_on g c = λ tells.
    let here = (goal.at.returns-clause-end_on g c).In_ok-push in
    let old = g.V.Volume.reads c.args.volume.now c.self.inside.file in
    rw (← c.self.view_is) (
    ap length (written g here tells)
    ∙ length-append old (item_of g here)
    ∙ ap (λ place. place + length (item_of g here)) (rw (← c.self.view_is) at (c.requires.end tells)))
