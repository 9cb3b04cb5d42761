-- Packets that are read have the blocks that their precincts say.
use Rattle.std.proofs.Common.{◌≡◌, ℕ, ◌≤◌, List, [], ◌∷◌, length, Result, Ok, Err}
use Rattle.std.specs.Prelude.{IfOk}
use Rattle.std.proofs.lemmas.Result.{IfOk-at_ok}
use Rattle.codec_terms.specs.declared.packet.PacketBand.{PacketBand}
use Rattle.codec_terms.specs.declared.packet.PacketRead.{PacketRead}
use Rattle.codec_terms.specs.declared.packet.HeadRefusal.{HeadRefusal}
use Rattle.codec_terms.specs.declared.reading.MainHead.{MainHead}
use Rattle.codec_terms.specs.declared.reading.ReadRefusal.{ReadRefusal}
use Rattle.codec_terms.specs.Reading.{on_ok}
use Rattle.codec_terms.specs.Precincts.{Precinct}
use Rattle.codec_terms.specs.PacketReading.{packet_read}
use Rattle.codec_terms.specs.StreamReading.{head_step, precinct_shapes, packets_read}
use Rattle.part_packets.specs.Shapes.{AreOfShapes, AreOfPrecincts}
use Rattle.part_packets.proofs.Advances.{PacketEnds, packet-ends}

abbrev Read : Type 0
Read = List (List PacketBand) × ℕ

module _ (bytes : List ℕ) (head : MainHead) (component : ℕ) where
  fit_from : (precincts : List Precinct) (at : ℕ) → at ≤ length bytes → IfOk {T = Read} (packets_read bytes head component precincts at) (λ r. AreOfPrecincts head component precincts r.0)
  unfolding packets_read
  fit_from [] at inside = tt
  fit_from (p ∷ precincts) at inside = first (packet_read bytes at (precinct_shapes head component p)) (packet-ends bytes (precinct_shapes head component p) at inside) (fit_from precincts)
    where
      second : (bands : List PacketBand) → AreOfShapes (precinct_shapes head component p) bands → (r : Result Read ReadRefusal)
          → IfOk {T = Read} r (λ r. AreOfPrecincts head component precincts r.0) → IfOk {T = Read} (on_ok r (λ rest. Ok (bands ∷ rest.0, rest.1))) (λ r. AreOfPrecincts head component (p ∷ precincts) r.0)
      second bands fit (Ok r) h = (fit, h)
      second bands fit (Err e) h = tt

      first : (r : Result PacketRead HeadRefusal) → PacketEnds bytes (precinct_shapes head component p) at r
          → ((at : ℕ) → at ≤ length bytes → IfOk {T = Read} (packets_read bytes head component precincts at) (λ r. AreOfPrecincts head component precincts r.0))
          → IfOk {T = Read} (on_ok (head_step r) (λ (r : PacketRead). on_ok (packets_read bytes head component precincts r.next) (λ rest. Ok (r.bands ∷ rest.0, rest.1))))
          (λ r. AreOfPrecincts head component (p ∷ precincts) r.0)
      first (Ok packet) ends later = second packet.bands ends.value (packets_read bytes head component precincts packet.next) (later packet.next ends.within)
      first (Err e) ends later = tt

  pub packets-fit : (precincts : List Precinct) (at : ℕ) (packets : List (List PacketBand)) (next : ℕ) → at ≤ length bytes
      → packets_read bytes head component precincts at ≡ Ok (packets, next) → AreOfPrecincts head component precincts packets
  packets-fit precincts at packets next inside h =
      IfOk-at_ok (λ (r : Read). AreOfPrecincts head component precincts r.0) h (fit_from precincts at inside)
