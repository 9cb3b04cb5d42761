use Rattle.std.proofs.Common.{◌≡◌}
use Rattle.std.specs.List.{slice_get}
use Rattle.codec_terms.specs.Precincts.{packet_order}
use Rattle.band_laws.specs.Places.{place_precincts, place_count}
use Rattle.band_map.proofs.Search.{item_from}
use Rattle.band_map.proofs.packets.packet_at.Given as goal

abbrev pub invariant-loop-place : goal.invariant-loop-place
invariant-loop-place l =
    slice_get (packet_order l.shape) l.fn.n ≡ item_from (place_precincts l.shape) (place_count l.shape) l.place l.left
