-- The primer, which tells the labels of the tags.
use Rattle.std.specs.Prelude.{ℕ, ◌&&◌, ◌==◌, Bool, List, ◌∷◌, ◌++◌, filter, map}
use Rattle.std.specs.Int.{to_be_bytes, w16}
use Rattle.std.specs.List.{list_any}
use Rattle.klv_base.specs.Items.{item}
use Rattle.track_terms.specs.Keys.{key_of}
use Rattle.track_terms.specs.Kinds.{has_set}
use Rattle.track_terms.specs.Sets.{rows}
use Rattle.track_terms.specs.Values.{batch}
use Rattle.track_terms.specs.declared.key.TheConstants.{LABEL, PRIMER}
use Rattle.track_terms.specs.declared.kind.TrackKind.{TrackKind}
use Rattle.track_terms.specs.declared.primer.PrimerEntry.{PrimerEntry}
use Rattle.track_terms.specs.declared.primer.TheConstants.{ENTRIES}

-- the table
unfoldable pub all_entries : List PrimerEntry
all_entries = ENTRIES

-- a file of this kind has the tag in one of its sets
abbrev pub has_tag : TrackKind → ℕ → Bool
has_tag kind tag = list_any (λ row. has_set kind row.set && (row.tag == tag)) rows

abbrev pub entry_bytes : PrimerEntry → List ℕ
entry_bytes entry = to_be_bytes w16 entry.tag ++ key_of (LABEL ∷ entry.label)

abbrev pub primer : TrackKind → List ℕ
primer kind = item (key_of PRIMER) (batch 18 (map entry_bytes (filter (λ entry. has_tag kind entry.tag) all_entries)))
