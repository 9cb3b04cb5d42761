-- One packet, in front of the later ones.
use Rattle.std.proofs.Common.{◌≡◌, ◌∙◌, ℕ, ◌+◌, ◌<◌, ◌≤◌, refl, ap, ap₂, List, ◌∷◌, length, drop, sum_by, Result, Ok, Err}
use Rattle.std.proofs.lemmas.List.{drop_all}
use Rattle.codec_terms.specs.declared.packet.PacketBand.{PacketBand}
use Rattle.codec_terms.specs.declared.packet.PacketRead.{PacketRead}
use Rattle.codec_terms.specs.declared.packet.HeadRefusal.{HeadRefusal}
use Rattle.codec_terms.specs.declared.reading.MainHead.{MainHead}
use Rattle.codec_terms.specs.declared.reading.ReadRefusal.{ReadRefusal}
use Rattle.codec_terms.specs.Precincts.{Precinct, packet_order}
use Rattle.codec_terms.specs.PacketReading.{packet_read}
use Rattle.codec_terms.specs.Reading.{on_ok}
use Rattle.codec_terms.specs.StreamReading.{included_in, head_step, precinct_shapes, packets_read}
use Rattle.packet_places.specs.declared.precinct.PrecinctAt.{PrecinctAt}
use Rattle.packet_places.specs.Places.{IsAt}
use Rattle.packet_places.proofs.Listed.{Next, next}
use Rattle.packet_scan.specs.declared.scan.Scanned.{Scanned}
use Rattle.packet_scan.specs.Scanning.{scanned}
use Rattle.stream_survey.specs.declared.counts.Counted.{Counted}
use Rattle.stream_survey.specs.Counts.{counted}
use Rattle.stream_survey.specs.Shapes.{shapes_at}
use Rattle.stream_survey.proofs.Behind.{behind, counted-front}

abbrev Packets : Type 0
Packets = Result (List (List PacketBand) × ℕ) ReadRefusal

abbrev with_packet : (ℕ → Packets) → Result PacketRead HeadRefusal → Packets
with_packet later r = on_ok (head_step r) (λ (r : PacketRead). on_ok (later r.next) (λ rest. Ok (r.bands ∷ rest.0, rest.1)))

scanned-front : (later : ℕ → Packets) (r : Result PacketRead HeadRefusal) (s : Scanned) → scanned r ≡ Ok s → counted (with_packet later r) ≡ behind s.blocks (counted (later s.next))
scanned-front later (Ok packet) s h =
    let blocks : sum_by included_in packet.bands ≡ s.blocks = cc in
    let place : packet.next ≡ s.next = cc in
    counted-front packet.bands (later packet.next) ∙ ap₂ (λ (n k : ℕ). behind n (counted (later k))) blocks place
scanned-front later (Err e) s h = cc

module _ (bytes : List ℕ) (head : MainHead) (component : ℕ) where
  abbrev pub counted_from : List Precinct → ℕ → Result Counted ReadRefusal
  counted_from precincts at = counted (packets_read bytes head component precincts at)

  first_packet : (q : Precinct) (later : List Precinct) (s : Scanned) (at : ℕ) → scanned (packet_read bytes at (precinct_shapes head component q)) ≡ Ok s
      → counted_from (q ∷ later) at ≡ behind s.blocks (counted_from later s.next)
  unfolding packets_read
  first_packet q later s at h = scanned-front (packets_read bytes head component later) (packet_read bytes at (precinct_shapes head component q)) s h

  first_refused : (q : Precinct) (later : List Precinct) (at : ℕ) (refusal : ReadRefusal) → head_step (packet_read bytes at (precinct_shapes head component q)) ≡ Err refusal
      → counted_from (q ∷ later) at ≡ Err refusal
  unfolding packets_read
  first_refused q later at refusal h = rw h refl

  module _ (n at : ℕ) (p : PrecinctAt) (is : IsAt head.shape component n p) (inside : n < length (packet_order head.shape)) where
    here : Next head.shape n p
    here = next head.shape component n p is inside

    shapes_are : precinct_shapes head component here.precinct ≡ shapes_at head p
    shapes_are = rw (here.resolution_is, here.number_is, is.of_component) refl

    pub next_packet : (s : Scanned) → scanned (packet_read bytes at (shapes_at head p)) ≡ Ok s
        → counted_from (drop n (packet_order head.shape)) at ≡ behind s.blocks (counted_from (drop (n + 1) (packet_order head.shape)) s.next)
    next_packet s h =
        ap (λ order. counted_from order at) here.order_is
        ∙ first_packet here.precinct (drop (n + 1) (packet_order head.shape)) s at (ap (λ shapes. scanned (packet_read bytes at shapes)) shapes_are ∙ h)

    pub next_refused : (refusal : ReadRefusal) → head_step (packet_read bytes at (shapes_at head p)) ≡ Err refusal
        → counted_from (drop n (packet_order head.shape)) at ≡ Err refusal
    next_refused refusal h =
        ap (λ order. counted_from order at) here.order_is
        ∙ first_refused here.precinct (drop (n + 1) (packet_order head.shape)) at refusal (ap (λ shapes. head_step (packet_read bytes at shapes)) shapes_are ∙ h)

  pub no_packets : (n at : ℕ) → length (packet_order head.shape) ≤ n → counted_from (drop n (packet_order head.shape)) at ≡ Ok (record { blocks = 0; next = at })
  unfolding packets_read
  no_packets n at past = rw (drop_all n (packet_order head.shape) past) refl
