-- The values of a codestream's coefficients.
use Rattle.std.specs.Prelude.{List, ℤ, zip}
use Rattle.std.specs.List.{flat_map}
use Rattle.codec_terms.specs.declared.packet.PacketBand.{PacketBand}
use Rattle.codec_terms.specs.declared.reading.MainHead.{MainHead}
use Rattle.codec_terms.specs.Codestream.{components}
use Rattle.codec_terms.specs.StreamReading.{component_read_values}

unfoldable pub stream_values : MainHead → List (List (List PacketBand)) → List ℤ
stream_values head parts = flat_map (component_read_values head) (zip components parts)
