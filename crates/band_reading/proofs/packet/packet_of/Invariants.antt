use Rattle.std.proofs.Common.{◌≡◌, ◌<◌, ℕ, false, get_or}
use Rattle.codec_terms.specs.Precincts.{Precinct, packet_order}
use Rattle.band_reading.specs.Packets.{is_one}
use Rattle.band_reading.proofs.packet.packet_of.Given as goal

abbrev pub invariant-loop-n : goal.invariant-loop-n
invariant-loop-n l = (k : ℕ) (d : Precinct) → k < l.n → is_one l.resolution l.number (get_or (packet_order l.shape) k d) ≡ false
