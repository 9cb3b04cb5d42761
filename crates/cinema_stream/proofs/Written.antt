-- Packets, tile-parts and the stream, written behind one another.
use Rattle.std.proofs.Common.{◌≡◌, ℕ, ◌+◌, ◌<◌, ◌≤◌, refl, sym, ap, ap₂, ◌∙◌, List, [], ◌∷◌, ◌++◌, length, drop, map, append_assoc, append-nil, ℤ}
use Rattle.std.specs.List.{flat_map}
use Rattle.std.proofs.lemmas.List.{drop_all}
use Rattle.codec_terms.specs.declared.picture.Shape.{Shape}
use Rattle.codec_terms.specs.Bands.{resolution_bands}
use Rattle.codec_terms.specs.Precincts.{packet_order}
use Rattle.codec_terms.specs.PacketHeader.{packet}
use Rattle.codec_terms.specs.Codestream.{packet_band, precinct_packet, component_packets, part_header, part_length, part_lengths, tile_part, components, main_header, stream}
use Rattle.packet_places.specs.declared.precinct.PrecinctAt.{PrecinctAt}
use Rattle.packet_places.specs.Places.{IsAt}
use Rattle.packet_places.proofs.Listed.{next}
use Rattle.cinema_stream.specs.Lengths.{packet_of}

-- ---- packets

-- those from packet n on
pub packets_from : Shape → List ℤ → ℕ → ℕ → ℕ → List ℕ
packets_from shape q cut component n = flat_map (precinct_packet shape q cut component) (drop n (packet_order shape))

pub packets-first : (shape : Shape) (q : List ℤ) (cut component : ℕ) → packets_from shape q cut component 0 ≡ component_packets shape q cut component
unfolding packets_from component_packets
packets-first shape q cut component = refl

pub packets-none : (shape : Shape) (q : List ℤ) (cut component n : ℕ) → length (packet_order shape) ≤ n → packets_from shape q cut component n ≡ []
unfolding packets_from
packets-none shape q cut component n past = ap (flat_map (precinct_packet shape q cut component)) (drop_all n (packet_order shape) past)

pub packets-next : (shape : Shape) (q : List ℤ) (cut component n : ℕ) (p : PrecinctAt) → IsAt shape component n p → n < length (packet_order shape)
    → packets_from shape q cut component n ≡ packet_of shape q cut p.component p.resolution p.number ++ packets_from shape q cut component (n + 1)
unfolding packets_from
packets-next shape q cut component n p is inside =
    let here = next shape component n p is inside in
    let own : precinct_packet shape q cut component here.precinct ≡ packet_of shape q cut p.component p.resolution p.number =
    ap (λ (number : ℕ). packet (map (packet_band shape q cut number) (resolution_bands component here.precinct.resolution))) here.number_is
    ∙ ap₂ (λ (c r : ℕ). packet (map (packet_band shape q cut p.number) (resolution_bands c r))) (sym is.of_component) here.resolution_is in
    ap (flat_map (precinct_packet shape q cut component)) here.order_is
    ∙ ap (λ (bytes : List ℕ). bytes ++ flat_map (precinct_packet shape q cut component) (drop (n + 1) (packet_order shape))) own

-- bytes behind which these are to come
pub one-more : (all out then piece rest more : List ℕ) → out ++ rest ≡ all → rest ≡ piece ++ more → then ≡ out ++ piece → then ++ more ≡ all
one-more all out then piece rest more before next put =
    ap (λ (bytes : List ℕ). bytes ++ more) put ∙ append_assoc out piece more ∙ ap (λ (bytes : List ℕ). out ++ bytes) (sym next) ∙ before

pub no-more : (all out rest : List ℕ) → out ++ rest ≡ all → rest ≡ [] → out ≡ all
no-more all out rest before none = sym (append-nil out) ∙ ap (λ (bytes : List ℕ). out ++ bytes) (sym none) ∙ before

-- ---- tile-parts

pub part-written : (shape : Shape) (q : List ℤ) (cut component len : ℕ) (out headed then : List ℕ) → len ≡ part_length shape q cut component
    → headed ≡ out ++ part_header component len → then ≡ headed ++ component_packets shape q cut component → then ≡ out ++ tile_part shape q cut component
part-written shape q cut component len out headed then same header packets =
    packets ∙ ap (λ (bytes : List ℕ). bytes ++ component_packets shape q cut component) (header ∙ ap (λ (n : ℕ). out ++ part_header component n) same)
    ∙ append_assoc out (part_header component (part_length shape q cut component)) (component_packets shape q cut component)

pub three-written : (a b c out first second third : List ℕ) → first ≡ out ++ a → second ≡ first ++ b → third ≡ second ++ c → third ≡ out ++ (a ++ (b ++ (c ++ [])))
three-written a b c out first second third h k l = rw (l, k, h) (simp (append_assoc, append-nil))

-- ---- the stream

pub stream-written : (shape : Shape) (q : List ℤ) (cut : ℕ) (parts out headed then whole : List ℕ) → parts ≡ part_lengths shape q cut → out ≡ []
    → headed ≡ out ++ main_header shape parts cut → then ≡ headed ++ flat_map (tile_part shape q cut) components → whole ≡ then ++ 0xFF ∷ 0xD9 ∷ []
    → whole ≡ stream shape q cut
unfolding stream
stream-written shape q cut parts out headed then whole same none header tiles end =
    end ∙ ap (λ (bytes : List ℕ). bytes ++ 0xFF ∷ 0xD9 ∷ [])
    (tiles ∙ ap (λ (bytes : List ℕ). bytes ++ flat_map (tile_part shape q cut) components)
    (header ∙ ap (λ (bytes : List ℕ). bytes ++ main_header shape parts cut) none ∙ ap (λ (ps : List ℕ). main_header shape ps cut) same))
