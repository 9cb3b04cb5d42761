-- The packs that begin partitions.
use Rattle.std.specs.Prelude.{ℕ, List, [], ◌∷◌, ◌++◌}
use Rattle.std.specs.Int.{to_be_bytes, w16, w32, w64}
use Rattle.klv_base.specs.Items.{item}
use Rattle.track_terms.specs.Keys.{key_of}
use Rattle.track_terms.specs.Kinds.{terms_of}
use Rattle.track_terms.specs.Values.{batch}
use Rattle.track_terms.specs.declared.key.TheConstants.{HEADER, BODY, FOOTER, PATTERN}
use Rattle.track_terms.specs.declared.kind.TrackKind.{TrackKind}
use Rattle.track_terms.specs.declared.partition.Partition.{Partition}

-- the places of this partition, of the one before and of the footer, and how many bytes of metadata and index follow
abbrev pub places : Partition → List ℕ
places p =
    to_be_bytes w64 p.this ++ to_be_bytes w64 p.previous ++ to_be_bytes w64 p.footer
    ++ to_be_bytes w64 p.header_bytes ++ to_be_bytes w64 p.index_bytes

-- the index stream, the essence's place in its stream, 0, and the number of that stream
abbrev pub streams : Partition → List ℕ
streams p = to_be_bytes w32 p.index_id ++ to_be_bytes w64 0 ++ to_be_bytes w32 p.body_id

-- the version, 1 and 2; a grid of single bytes; the operational pattern, and a batch of the one essence container
abbrev pub pack_value : TrackKind → Partition → List ℕ
pack_value kind p =
    to_be_bytes w16 1 ++ to_be_bytes w16 2 ++ to_be_bytes w32 1
    ++ places p ++ streams p
    ++ key_of PATTERN ++ batch 16 (key_of (terms_of kind).container ∷ [])

unfoldable pub pack : TrackKind → Partition → List ℕ
pack kind p = item (key_of p.key) (pack_value kind p)

-- the three partitions of a file whose footer begins at this place
abbrev pub header_partition : ℕ → Partition
header_partition footer = record {
  key = HEADER;
  this = 0;
  previous = 0;
  footer = footer;
  header_bytes = 16260;
  index_bytes = 0;
  index_id = 0;
  body_id = 0;
}

abbrev pub body_partition : ℕ → Partition
body_partition footer = record {
  key = BODY;
  this = 16384;
  previous = 0;
  footer = footer;
  header_bytes = 0;
  index_bytes = 0;
  index_id = 0;
  body_id = 1;
}

abbrev pub footer_partition : ℕ → ℕ → Partition
footer_partition footer index_bytes = record {
  key = FOOTER;
  this = footer;
  previous = 16384;
  footer = footer;
  header_bytes = 0;
  index_bytes = index_bytes;
  index_id = 129;
  body_id = 0;
}
