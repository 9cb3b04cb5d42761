-- The items of values, their places and their lengths.
use Rattle.std.proofs.Common.{◌≡◌, ℕ, ◌+◌, List, [], ◌∷◌, ◌++◌, length, ap, ap₂, ◌∙◌, sym, append-nil, append_assoc, arith}
use Rattle.std.proofs.lemmas.Grind.{flat_map-append}
use Rattle.std.proofs.lemmas.List.{length-append}
use Rattle.mast_world.specs.Content.{overwritten}
use Rattle.track_terms.specs.Head.{head}
use Rattle.track_terms.specs.Keys.{key_of}
use Rattle.track_terms.specs.Kinds.{terms_of}
use Rattle.track_terms.specs.Tail.{tail}
use Rattle.track_terms.specs.Track.{body, essence, footer_of, places_from, track}
use Rattle.track_terms.specs.declared.kind.TrackKind.{TrackKind}
use Rattle.track_terms.specs.declared.kind.TrackKind.TheVariants.{Picture, Sound}
use Rattle.track_terms.proofs.HeadSizes.{length-head, length-item}
use Rattle.track_terms.proofs.KeyLaws.{length-key_of}
use Rattle.track_file.specs.TrackFile.{HasItems, HasValues, IsTrackFile, PlainTrack}
use Rattle.track_file.proofs.Written.{overwritten-end, overwritten-front}

length-item_key : (kind : TrackKind) → length (key_of (terms_of kind).item_key) ≡ 16
length-item_key Picture = length-key_of (terms_of Picture).item_key
length-item_key Sound = length-key_of (terms_of Sound).item_key

pub length-essence : (kind : TrackKind) (value : List ℕ) → length (essence kind value) ≡ 20 + length value
length-essence kind value = length-item (key_of (terms_of kind).item_key) value (length-item_key kind)

pub body-push : (kind : TrackKind) (values : List (List ℕ)) (value : List ℕ)
    → body kind (values ++ value ∷ []) ≡ body kind values ++ essence kind value
body-push kind values value =
    flat_map-append (essence kind) values (value ∷ []) ∙ ap (λ item. body kind values ++ item) (append-nil (essence kind value))

pub places_from-push : (kind : TrackKind) (at : ℕ) (values : List (List ℕ)) (value : List ℕ)
    → places_from at (values ++ value ∷ []) ≡ places_from at values ++ (at + length (body kind values)) ∷ []
places_from-push kind at [] value = ap (λ place. place ∷ []) (let same : at ≡ at + 0 = omega arith in same)
places_from-push kind at (first ∷ values) value =
    let next = at + 20 + length first in
    let place : next + length (body kind values) ≡ at + length (body kind (first ∷ values)) =
    omega (arith, length-essence kind first, length-append (essence kind first) (body kind values)) in
    ap (λ places. at ∷ places) (places_from-push kind next values value ∙ ap (λ place. places_from next values ++ place ∷ []) place)

-- a track with one item more
pub record HasGrown (before now : PlainTrack) (value : List ℕ) : Type 0 where
  pub same_facts : now.facts ≡ before.facts
  pub places : now.places ≡ before.places ++ before.place ∷ []
  pub place : now.place ≡ before.place + (20 + length value)

pub HasValues-push : (before now : PlainTrack) (value : List ℕ) (values : List (List ℕ)) → HasGrown before now value
    → HasValues before values → HasValues now (values ++ value ∷ [])
HasValues-push before now value values grown known =
    let kind = before.facts.kind in record {
      places = grown.places ∙ ap (λ places. places ++ before.place ∷ []) known.places
          ∙ ap (λ place. places_from 16508 values ++ place ∷ []) known.place ∙ sym (places_from-push kind 16508 values value);
      place = omega (
        arith,
        grown.place,
        known.place,
        ap (λ facts. footer_of facts.kind (values ++ value ∷ [])) grown.same_facts,
        ap length (body-push kind values value),
        length-append (body kind values) (essence kind value),
        length-essence kind value,
      );
    }

pub HasItems-push : (before now : PlainTrack) (value : List ℕ) (values : List (List ℕ)) (bytes written : List ℕ) → HasGrown before now value
    → written ≡ bytes ++ essence before.facts.kind value → HasItems before values bytes → HasItems now (values ++ value ∷ []) written
HasItems-push before now value values bytes written grown more has =
    let kind = before.facts.kind in
    record {
      known = HasValues-push before now value values grown has.known;
      written = more ∙ ap (λ bytes. bytes ++ essence kind value) has.written
          ∙ append_assoc (head before.facts 0) (body kind values) (essence kind value)
          ∙ ap (λ items. head before.facts 0 ++ items) (sym (body-push kind values value))
          ∙ ap (λ facts. head facts 0 ++ body facts.kind (values ++ value ∷ [])) (sym grown.same_facts);
    }

-- a file that was finished: the tail behind the items, and the head that knows the footer over the other one
pub finished : (now : PlainTrack) (values : List (List ℕ)) (bytes written last head_bytes tail_bytes : List ℕ)
    → IsTrackFile now → HasItems now values bytes → length bytes ≡ now.place → head_bytes ≡ head now.facts now.place → tail_bytes ≡ tail now.facts now.places now.place
    → written ≡ overwritten bytes now.place tail_bytes → last ≡ overwritten written 0 head_bytes → last ≡ track now.facts values
finished now values bytes written last head_bytes tail_bytes rules has end head_is tail_is first then =
    let asset = rules.facts_kept.asset_length in
    let items = body now.facts.kind values in
    let rest : written ≡ head now.facts 0 ++ (items ++ tail_bytes) =
    first ∙ overwritten-end bytes tail_bytes now.place end ∙ ap (λ bytes. bytes ++ tail_bytes) has.written
    ∙ append_assoc (head now.facts 0) items tail_bytes in
    let same : length (head now.facts 0) ≡ length head_bytes =
    length-head now.facts 0 asset ∙ sym (ap length head_is ∙ length-head now.facts now.place asset) in
    then
    ∙ ap (λ bytes. overwritten bytes 0 head_bytes) rest
    ∙ overwritten-front (head now.facts 0) (items ++ tail_bytes) head_bytes same
    ∙ sym (append_assoc head_bytes items tail_bytes)
    ∙ ap₂ (λ front behind. front ++ items ++ behind) head_is tail_is
    ∙ ap₂ (λ places place. head now.facts place ++ items ++ tail now.facts places place) has.known.places has.known.place
