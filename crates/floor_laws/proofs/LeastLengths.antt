-- What is coded at a cut is at least as long as its floor at a higher one.
use Rattle.std.proofs.Common.{◌≡◌, ℕ, ◌<◌, ◌≤◌, sym, subst, arith, List, length, map, ℤ}
use Rattle.std.specs.Prelude.{nat_le}
use Rattle.std.proofs.lemmas.Bool.{cond_both, cond-false, leb-false, lt-leb}
use Rattle.std.proofs.lemmas.List.Concat.{length-flat_map}
use Rattle.std.proofs.lemmas.List.Sums.{sum_by-le-sum_by}
use Rattle.codec_terms.specs.declared.picture.Shape.{Shape}
use Rattle.codec_terms.specs.declared.picture.Band.{Band}
use Rattle.codec_terms.specs.declared.packet.PacketBlock.{PacketBlock}
use Rattle.codec_terms.specs.declared.packet.PacketBand.{PacketBand}
use Rattle.codec_terms.specs.Bands.{lowest_plane, resolution_bands, band_values}
use Rattle.codec_terms.specs.BlockDecisions.{Block, plane_count}
use Rattle.codec_terms.specs.Precincts.{Precinct, blocks_in, packet_order}
use Rattle.codec_terms.specs.PacketHeader.{block_codeword, band_codewords}
use Rattle.codec_terms.specs.Codestream.{not_included, included_down_to, packet_block, placed_block, block_places, packet_band, precinct_packet, part_length, stream}
use Rattle.codec_laws.proofs.Cuts.{length-stream}
use Rattle.cut_laws.proofs.Lengths.{packets-sum}
use Rattle.floor_laws.specs.Floors.{codeword_floor, band_floor, precinct_floor, part_floor, stream_floor}
use Rattle.floor_laws.proofs.LowerPlanes.{plane-below, codeword-lower}
use Rattle.floor_laws.proofs.PacketBytes.{packet-least}
use Rattle.floor_laws.proofs.ListSums.{sum_by-map}

included : (band : Band) (p : ℕ) (block : Block) → p < plane_count block → packet_block band p block ≡ included_down_to band block p
unfolding packet_block
included band p block more =
    cond-false (nat_le (plane_count block) p) not_included (included_down_to band block p) (lt-leb (plane_count block) p more)

-- a block that is included down to a plane is included down to each lower one
pub codeword-least : (band : Band) (p low : ℕ) (block : Block) → low ≤ p
    → codeword_floor (packet_block band p block) ≤ length (block_codeword (packet_block band low block))
unfolding packet_block
codeword-least band p low block h =
    cond_both (nat_le (plane_count block) p) not_included (included_down_to band block p)
    (λ (b : PacketBlock). codeword_floor b ≤ length (block_codeword (packet_block band low block)))
    (λ e. omega arith)
    (λ e. let more : p < plane_count block = leb-false (plane_count block) p e in
    let also : low < plane_count block = omega (arith, more, h) in
    subst (λ (b : PacketBlock). codeword_floor (included_down_to band block p) ≤ length (block_codeword b)) (sym (included band low block also))
    (omega (arith, codeword-lower block p low h)))

band-least : (shape : Shape) (q : List ℤ) (cut low number : ℕ) (band : Band) → low ≤ cut
    → band_floor (packet_band shape q cut number band) ≤ length (band_codewords (packet_band shape q low number band))
unfolding packet_band
band-least shape q cut low number band h =
    let places = block_places (blocks_in shape band number) in
    let above : ℕ × ℕ → PacketBlock = placed_block shape band (band_values shape q band) (lowest_plane cut band) in
    let below : ℕ × ℕ → PacketBlock = placed_block shape band (band_values shape q band) (lowest_plane low band) in
    let each = sum_by-le-sum_by (λ place. codeword_floor (above place)) (λ place. length (block_codeword (below place))) places
    (λ place. codeword-least band (lowest_plane cut band) (lowest_plane low band) _ (plane-below cut low band h)) in
    omega (
      arith,
      length-flat_map block_codeword (map below places),
      sum_by-map codeword_floor above places,
      sum_by-map (λ block. length (block_codeword block)) below places,
      each,
    )

pub packet-floor : (shape : Shape) (q : List ℤ) (cut low component : ℕ) (precinct : Precinct) → low ≤ cut
    → precinct_floor shape q cut component precinct ≤ length (precinct_packet shape q low component precinct)
packet-floor shape q cut low component precinct h =
    let bands = resolution_bands component precinct.resolution in
    let above : Band → PacketBand = packet_band shape q cut precinct.number in
    let below : Band → PacketBand = packet_band shape q low precinct.number in
    let each = sum_by-le-sum_by (λ band. band_floor (above band)) (λ band. length (band_codewords (below band))) bands
    (λ band. band-least shape q cut low precinct.number band h) in
    omega (
      arith,
      packet-least (map below bands),
      sum_by-map band_floor above bands,
      sum_by-map (λ band. length (band_codewords band)) below bands,
      each,
    )

pub part-floor : (shape : Shape) (q : List ℤ) (cut low component : ℕ) → low ≤ cut → part_floor shape q cut component ≤ part_length shape q low component
unfolding part_floor
part-floor shape q cut low component h =
    omega (
      arith,
      packets-sum shape q low component,
      sum_by-le-sum_by (precinct_floor shape q cut component) (λ p. length (precinct_packet shape q low component p)) (packet_order shape)
          (λ p. packet-floor shape q cut low component p h),
    )

pub stream-floor : (shape : Shape) (q : List ℤ) (cut low : ℕ) → low ≤ cut → stream_floor shape q cut ≤ length (stream shape q low)
stream-floor shape q cut low h =
    let first = part-floor shape q cut low 0 h in
    let second = part-floor shape q cut low 1 h in
    let third = part-floor shape q cut low 2 h in
    omega (arith, length-stream shape q low, first, second, third)
