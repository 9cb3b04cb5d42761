-- A whole track file.
use Rattle.std.specs.Prelude.{ℕ, ◌+◌, List, [], ◌∷◌, ◌++◌, length}
use Rattle.std.specs.List.{flat_map}
use Rattle.klv_base.specs.Items.{item}
use Rattle.track_terms.specs.Facts.{PlainFacts}
use Rattle.track_terms.specs.Head.{head}
use Rattle.track_terms.specs.Keys.{key_of}
use Rattle.track_terms.specs.Kinds.{terms_of}
use Rattle.track_terms.specs.Tail.{tail}
use Rattle.track_terms.specs.declared.kind.TrackKind.{TrackKind}

-- the item of a frame
abbrev pub essence : TrackKind → List ℕ → List ℕ
essence kind value = item (key_of (terms_of kind).item_key) value

-- the places of items of these values, the first of which is at this place
abbrev pub places_from : ℕ → List (List ℕ) → List ℕ
places_from at [] = []
places_from at (value ∷ values) = at ∷ places_from (at + 20 + length value) values

-- the items one behind another
abbrev pub body : TrackKind → List (List ℕ) → List ℕ
body kind values = flat_map (essence kind) values

-- the place of the footer
abbrev pub footer_of : TrackKind → List (List ℕ) → ℕ
footer_of kind values = 16508 + length (body kind values)

-- the file of frames of these values
abbrev pub track : PlainFacts → List (List ℕ) → List ℕ
track facts values =
    head facts (footer_of facts.kind values)
    ++ body facts.kind values
    ++ tail facts (places_from 16508 values) (footer_of facts.kind values)
