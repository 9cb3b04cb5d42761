-- One packet, in front of the later ones.
use Rattle.std.proofs.Common.{◌≡◌, ◌∙◌, ℕ, ◌+◌, ◌<◌, ◌≤◌, refl, ap, List, [], ◌∷◌, length, drop, Ok, Err}
use Rattle.std.proofs.lemmas.List.{drop_all}
use Rattle.codec_terms.specs.declared.packet.PacketRead.{PacketRead}
use Rattle.codec_terms.specs.declared.packet.PacketBand.{PacketBand}
use Rattle.codec_terms.specs.declared.reading.MainHead.{MainHead}
use Rattle.codec_terms.specs.declared.reading.ReadRefusal.{ReadRefusal}
use Rattle.codec_terms.specs.Precincts.{Precinct, packet_order}
use Rattle.codec_terms.specs.PacketReading.{packet_read}
use Rattle.codec_terms.specs.StreamReading.{head_step, precinct_shapes, packets_read}
use Rattle.packet_places.specs.declared.precinct.PrecinctAt.{PrecinctAt}
use Rattle.packet_places.specs.Places.{IsAt}
use Rattle.packet_places.proofs.Listed.{Next, next}
use Rattle.part_packets.specs.Refused.{IsRefused}
use Rattle.part_packets.specs.Shapes.{shapes_at}
use Rattle.part_packets.proofs.Behind.{Reads, in_front}

module _ (bytes : List ℕ) (head : MainHead) (component : ℕ) where
  abbrev pub read_from : List Precinct → ℕ → Reads (List PacketBand)
  read_from precincts at = packets_read bytes head component precincts at

  first_packet : (q : Precinct) (later : List Precinct) (packet : PacketRead) (at : ℕ) → packet_read bytes at (precinct_shapes head component q) ≡ Ok packet
      → read_from (q ∷ later) at ≡ in_front packet.bands (read_from later packet.next)
  unfolding packets_read
  first_packet q later packet at h = rw h refl

  first_refused : (q : Precinct) (later : List Precinct) (at : ℕ) (refusal : ReadRefusal) → head_step (packet_read bytes at (precinct_shapes head component q)) ≡ Err refusal
      → read_from (q ∷ later) at ≡ Err refusal
  unfolding packets_read
  first_refused q later at refusal h = rw h refl

  module _ (n at : ℕ) (p : PrecinctAt) (is : IsAt head.shape component n p) (inside : n < length (packet_order head.shape)) where
    here : Next head.shape n p
    here = next head.shape component n p is inside

    shapes_are : precinct_shapes head component here.precinct ≡ shapes_at head p
    shapes_are = rw (here.resolution_is, here.number_is, is.of_component) refl

    pub next_packet : (packet : PacketRead) → packet_read bytes at (shapes_at head p) ≡ Ok packet
        → read_from (drop n (packet_order head.shape)) at ≡ in_front packet.bands (read_from (drop (n + 1) (packet_order head.shape)) packet.next)
    next_packet packet h =
        ap (λ order. read_from order at) here.order_is
        ∙ first_packet here.precinct (drop (n + 1) (packet_order head.shape)) packet at (ap (packet_read bytes at) shapes_are ∙ h)

    pub next_refused : (refusal : ReadRefusal) → IsRefused (head_step (packet_read bytes at (shapes_at head p))) refusal
        → IsRefused (read_from (drop n (packet_order head.shape)) at) refusal
    next_refused refusal h = λ other.
        ap (λ order. read_from order at) here.order_is
        ∙ first_refused here.precinct (drop (n + 1) (packet_order head.shape)) at refusal (ap (λ shapes. head_step (packet_read bytes at shapes)) shapes_are ∙ h other)

  pub no_packets : (n at : ℕ) → length (packet_order head.shape) ≤ n → read_from (drop n (packet_order head.shape)) at ≡ Ok ([], at)
  unfolding packets_read
  no_packets n at past = rw (drop_all n (packet_order head.shape) past) refl
