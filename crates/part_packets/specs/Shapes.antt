-- The shapes of packets.
use Rattle.std.specs.Prelude.{◌≡◌, ℕ, ◌*◌, List, [], ◌∷◌, map, length}
use Rattle.codec_terms.specs.declared.packet.PacketBand.{PacketBand}
use Rattle.codec_terms.specs.declared.packet.BandShape.{BandShape}
use Rattle.codec_terms.specs.declared.reading.MainHead.{MainHead}
use Rattle.codec_terms.specs.Bands.{resolution_bands}
use Rattle.codec_terms.specs.Precincts.{Precinct, packet_order}
use Rattle.codec_terms.specs.Codestream.{components}
use Rattle.codec_terms.specs.StreamReading.{band_shape, precinct_shapes}
use Rattle.packet_places.specs.declared.precinct.PrecinctAt.{PrecinctAt}

-- the shapes of a precinct's sub-bands
abbrev pub shapes_at : MainHead → PrecinctAt → List BandShape
shapes_at head p = map (band_shape head p.number) (resolution_bands p.component p.resolution)

-- a packet has these blocks of a sub-band
pub record IsOfShape (s : BandShape) (band : PacketBand) : Type 0 where
  pub columns : band.columns ≡ s.columns
  pub rows : band.rows ≡ s.rows
  pub blocks : length band.blocks ≡ s.columns * s.rows

-- and so of each of its sub-bands in turn
abbrev pub AreOfShapes : List BandShape → List PacketBand → Type 0
AreOfShapes [] [] = Unit {0}
AreOfShapes [] (band ∷ bands) = ⊥
AreOfShapes (s ∷ shapes) [] = ⊥
AreOfShapes (s ∷ shapes) (band ∷ bands) = IsOfShape s band × AreOfShapes shapes bands

-- the packets of these precincts in turn
abbrev pub AreOfPrecincts : MainHead → ℕ → List Precinct → List (List PacketBand) → Type 0
AreOfPrecincts head component [] [] = Unit {0}
AreOfPrecincts head component [] (packet ∷ packets) = ⊥
AreOfPrecincts head component (p ∷ precincts) [] = ⊥
AreOfPrecincts head component (p ∷ precincts) (packet ∷ packets) =
    AreOfShapes (precinct_shapes head component p) packet × AreOfPrecincts head component precincts packets

-- those of these components in turn
abbrev pub AreOfComponents : MainHead → List ℕ → List (List (List PacketBand)) → Type 0
AreOfComponents head [] [] = Unit {0}
AreOfComponents head [] (part ∷ parts) = ⊥
AreOfComponents head (component ∷ later) [] = ⊥
AreOfComponents head (component ∷ later) (part ∷ parts) =
    AreOfPrecincts head component (packet_order head.shape) part × AreOfComponents head later parts

-- the parts of all components
unfoldable pub AreParts : MainHead → List (List (List PacketBand)) → Type 0
AreParts head parts = AreOfComponents head components parts
