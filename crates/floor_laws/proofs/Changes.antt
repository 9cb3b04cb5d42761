-- A tile-part's floor is that of six resolutions, of which the next cut changes at most one.
use Rattle.std.proofs.Common.{◌≡◌, ◌≢◌, ℕ, suc, ◌+◌, ◌*◌, ◌%◌, ◌<◌, sym, ap, ap₂, ◌∙◌, arith, Bool, true, false, List, map, sum_by, ℤ}
use Rattle.std.specs.Prelude.{◌&&◌}
use Rattle.std.specs.List.{range_with_len}
use Rattle.std.proofs.lemmas.Bool.{eq-eqb, false≢true}
use Rattle.codec_terms.specs.declared.picture.Shape.{Shape}
use Rattle.codec_terms.specs.declared.picture.Band.{Band}
use Rattle.codec_terms.specs.declared.packet.PacketBand.{PacketBand}
use Rattle.codec_terms.specs.Bands.{rank, lowest_plane, resolution_bands, band_values}
use Rattle.codec_terms.specs.Precincts.{Precinct, resolution, blocks_in, precinct_at, precinct_columns, precinct_rows, resolution_precincts}
use Rattle.codec_terms.specs.Codestream.{placed_block, block_places, packet_band}
use Rattle.codec_terms.proofs.OrderLaws.{sum_by-packet_order}
use Rattle.codec_laws.proofs.Lists.{sum_by-same, All-each}
use Rattle.cut_laws.specs.Ranks.{band_at_rank, band_changed, is_changed}
use Rattle.cut_laws.proofs.RankLaws.{rank-one, next-others}
use Rattle.cut_laws.proofs.Changes.{IsBandOf, resolution_bands-are, map-same}
use Rattle.floor_laws.specs.Floors.{packet_floor, precinct_floor, resolution_floor, part_floor}
use Rattle.floor_laws.proofs.ListSums.{sum_by-map, sum_by-flat_map}

sum_by-each : {A : Type 0} (f g : A → ℕ) → ((x : A) → f x ≡ g x) → (xs : List A) → sum_by f xs ≡ sum_by g xs
sum_by-each f g same xs = sum_by-same f g xs (All-each (λ x. f x ≡ g x) same xs)

-- ---- six resolutions

pub part-by_resolution : (shape : Shape) (q : List ℤ) (cut component : ℕ)
    → part_floor shape q cut component ≡ 14 + sum_by (resolution_floor shape q cut component) (range_with_len 0 6)
unfolding part_floor resolution_floor
part-by_resolution shape q cut component =
    let f : Precinct → ℕ = precinct_floor shape q cut component in
    ap (λ (n : ℕ). 14 + n)
    (sum_by-packet_order f shape ∙ sum_by-flat_map f (resolution_precincts shape) (range_with_len 0 6)
    ∙ sum_by-each (λ r. sum_by f (resolution_precincts shape r)) (resolution_floor shape q cut component)
    (λ r. sum_by-map f (precinct_at r (precinct_columns shape r)) (range_with_len 0 (precinct_columns shape r * precinct_rows shape r)))
    (range_with_len 0 6))

six-terms : (f : ℕ → ℕ) → sum_by f (range_with_len 0 6) ≡ f 0 + f 1 + f 2 + f 3 + f 4 + f 5
six-terms f = omega arith

pub part-of_six : (shape : Shape) (q : List ℤ) (cut component : ℕ)
    → part_floor shape q cut component
    ≡ 14 + resolution_floor shape q cut component 0 + resolution_floor shape q cut component 1
    + resolution_floor shape q cut component 2 + resolution_floor shape q cut component 3
    + resolution_floor shape q cut component 4 + resolution_floor shape q cut component 5
part-of_six shape q cut component =
    omega (arith, part-by_resolution shape q cut component, six-terms (resolution_floor shape q cut component))

-- ---- from a cut to the next one

-- the sub-band that changes is of a component and resolution that do
other_rank : (cut component r : ℕ) (band : Band) → IsBandOf component r band → is_changed cut component r ≡ false → rank band ≢ cut % 48
other_rank cut component r band h same e =
    let here : band_changed cut ≡ band = ap band_at_rank (sym e) ∙ rank-one band h.is_band in
    let first : component ≡ (band_changed cut).component = sym (ap (λ (b : Band). b.component) here ∙ h.component_is) in
    let second : r ≡ resolution (band_changed cut) = sym (ap resolution here ∙ h.resolution_is) in
    let changed : is_changed cut component r ≡ true =
    ap₂ (λ (a b : Bool). a && b) (eq-eqb component (band_changed cut).component first) (eq-eqb r (resolution (band_changed cut)) second) in
    false≢true (sym same ∙ changed)

packet_band-same : (shape : Shape) (q : List ℤ) (a b number : ℕ) (band : Band) → lowest_plane a band ≡ lowest_plane b band
    → packet_band shape q a number band ≡ packet_band shape q b number band
unfolding packet_band
packet_band-same shape q a b number band e =
    ap (λ (p : ℕ). let part : PacketBand = record {
      columns = (blocks_in shape band number).columns;
      rows = (blocks_in shape band number).rows;
      blocks = map (placed_block shape band (band_values shape q band) p) (block_places (blocks_in shape band number));
    } in part) e

bands-same : (shape : Shape) (q : List ℤ) (cut component r number : ℕ) → component < 3 → r < 6 → is_changed cut component r ≡ false
    → map (packet_band shape q (suc cut) number) (resolution_bands component r) ≡ map (packet_band shape q cut number) (resolution_bands component r)
bands-same shape q cut component r number inside small same =
    map-same (packet_band shape q (suc cut) number) (packet_band shape q cut number) (resolution_bands component r)
    (λ k d there. let is = resolution_bands-are component r inside small k d there in
    packet_band-same shape q (suc cut) cut number _ (next-others cut _ is.is_band (other_rank cut component r _ is same)))

pub precinct-same : (shape : Shape) (q : List ℤ) (cut component : ℕ) (precinct : Precinct) → component < 3 → precinct.resolution < 6
    → is_changed cut component precinct.resolution ≡ false
    → precinct_floor shape q (suc cut) component precinct ≡ precinct_floor shape q cut component precinct
precinct-same shape q cut component precinct inside small same =
    ap packet_floor (bands-same shape q cut component precinct.resolution precinct.number inside small same)

pub resolution-same : (shape : Shape) (q : List ℤ) (cut component r : ℕ) → component < 3 → r < 6 → is_changed cut component r ≡ false
    → resolution_floor shape q (suc cut) component r ≡ resolution_floor shape q cut component r
unfolding resolution_floor
resolution-same shape q cut component r inside small same =
    sum_by-each (λ number. packet_floor (map (packet_band shape q (suc cut) number) (resolution_bands component r)))
    (λ number. packet_floor (map (packet_band shape q cut number) (resolution_bands component r)))
    (λ number. ap packet_floor (bands-same shape q cut component r number inside small same))
    (range_with_len 0 (precinct_columns shape r * precinct_rows shape r))
