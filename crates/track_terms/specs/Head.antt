-- The head of a track file: all that stands in front of its items.
use Rattle.std.specs.Prelude.{ℕ, ◌-◌, List, ◌++◌, length, replicate}
use Rattle.klv_base.specs.Items.{item}
use Rattle.track_terms.specs.Facts.{PlainFacts}
use Rattle.track_terms.specs.Keys.{key_of}
use Rattle.track_terms.specs.Partitions.{pack, header_partition, body_partition}
use Rattle.track_terms.specs.Primer.{primer}
use Rattle.track_terms.specs.Sets.{sets}
use Rattle.track_terms.specs.declared.key.TheConstants.{FILL}
use Rattle.track_terms.specs.declared.kind.TrackKind.{TrackKind}
use Rattle.track_terms.specs.declared.kind.TrackKind.TheVariants.{Picture, Sound}

-- the header metadata with the pack in front
abbrev pub metadata : PlainFacts → ℕ → List ℕ
metadata facts footer = pack facts.kind (header_partition footer) ++ primer facts.kind ++ sets facts

-- where the metadata ends
abbrev pub metadata_end : TrackKind → ℕ
metadata_end Picture = 2509
metadata_end Sound = 2498

-- behind n bytes: the body begins at 16,384
abbrev pub fill : ℕ → List ℕ
fill n = item (key_of FILL) (replicate (16384 - 20 - n) 0)

-- the footer begins at this place; 0 while it isn't known
abbrev pub head : PlainFacts → ℕ → List ℕ
head facts footer =
    metadata facts footer ++ fill (length (metadata facts footer)) ++ pack facts.kind (body_partition footer)
