-- The sub-bands of a precinct that is known by its number.
use Rattle.std.specs.Prelude.{List, map}
use Rattle.codec_terms.specs.declared.packet.BandShape.{BandShape}
use Rattle.codec_terms.specs.declared.reading.MainHead.{MainHead}
use Rattle.codec_terms.specs.Bands.{resolution_bands}
use Rattle.codec_terms.specs.StreamReading.{band_shape}
use Rattle.packet_places.specs.declared.precinct.PrecinctAt.{PrecinctAt}

-- the shapes of its sub-bands
abbrev pub shapes_at : MainHead → PrecinctAt → List BandShape
shapes_at head p = map (band_shape head p.number) (resolution_bands p.component p.resolution)
