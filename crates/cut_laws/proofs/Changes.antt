-- Which packets the next cut leaves as they are.
use Rattle.std.proofs.Common.{◌≡◌, ◌≢◌, ℕ, zero, suc, ◌-◌, ◌%◌, ◌<◌, refl, sym, ap, ap₂, ◌∙◌, arith, Bool, true, false, List, [], ◌∷◌, map, All, ℤ}
use Rattle.std.specs.Prelude.{◌&&◌}
use Rattle.std.proofs.lemmas.Bool.{eq-eqb, false≢true}
use Rattle.std.proofs.lemmas.List.Elements.{All-nil, All-cons, All-head, All-tail, All-from_recursion}
use Rattle.codec_terms.specs.declared.picture.Shape.{Shape}
use Rattle.codec_terms.specs.declared.picture.Band.{Band}
use Rattle.codec_terms.specs.declared.picture.BandKind.{BandKind}
use Rattle.codec_terms.specs.declared.picture.BandKind.TheVariants.{LL, HL, LH, HH}
use Rattle.codec_terms.specs.declared.packet.PacketBand.{PacketBand}
use Rattle.codec_terms.specs.Bands.{rank, band_of, band_values, lowest_plane, resolution_bands}
use Rattle.codec_terms.specs.Precincts.{Precinct, resolution, blocks_in}
use Rattle.codec_terms.specs.PacketHeader.{packet}
use Rattle.codec_terms.specs.Codestream.{placed_block, block_places, packet_band, precinct_packet}
use Rattle.band_starts.specs.Places.{IsPictureBand}
use Rattle.cut_laws.specs.Ranks.{band_at_rank, band_changed, is_changed}
use Rattle.cut_laws.proofs.RankLaws.{rank-one, next-others}

-- one of the sub-bands of a component's resolution
pub record IsBandOf (component r : ℕ) (band : Band) : Type 0 where
  pub is_band : IsPictureBand band
  pub component_is : band.component ≡ component
  pub resolution_is : resolution band ≡ r

low-is : (component : ℕ) → component < 3 → IsBandOf component 0 (band_of component 5 LL)
low-is component h = record {
  is_band = record { component = h; first = omega arith; last = omega arith; lowest = λ e. refl };
  component_is = refl;
  resolution_is = refl;
}

high-is : (component r : ℕ) (kind : BandKind) → component < 3 → suc r < 6 → (kind ≡ LL → 5 - r ≡ 5) → resolution (band_of component (5 - r) kind) ≡ 6 - (5 - r)
    → IsBandOf component (suc r) (band_of component (5 - r) kind)
high-is component r kind h small low is = record {
  is_band = record { component = h; first = omega arith; last = omega arith; lowest = low };
  component_is = refl;
  resolution_is = is ∙ omega arith;
}

pub resolution_bands-are : (component r : ℕ) → component < 3 → r < 6 → All (IsBandOf component r) (resolution_bands component r)
unfolding resolution_bands
resolution_bands-are component zero h small = All-cons (IsBandOf component 0) (band_of component 5 LL) [] (low-is component h) (All-nil (IsBandOf component 0))
resolution_bands-are component (suc r) h small =
    All-from_recursion (IsBandOf component (suc r)) (resolution_bands component (suc r))
    (high-is component r HL h small (λ e. cc) refl, (high-is component r LH h small (λ e. cc) refl, (high-is component r HH h small (λ e. cc) refl, tt)))

-- the sub-band that changes is of a component and resolution that do
other_rank : (cut component r : ℕ) (band : Band) → IsBandOf component r band → is_changed cut component r ≡ false → rank band ≢ cut % 48
other_rank cut component r band h same e =
    let here : band_changed cut ≡ band = ap band_at_rank (sym e) ∙ rank-one band h.is_band in
    let first : component ≡ (band_changed cut).component = sym (ap (λ (b : Band). b.component) here ∙ h.component_is) in
    let second : r ≡ resolution (band_changed cut) = sym (ap resolution here ∙ h.resolution_is) in
    let changed : is_changed cut component r ≡ true =
    ap₂ (λ (a b : Bool). a && b) (eq-eqb component (band_changed cut).component first) (eq-eqb r (resolution (band_changed cut)) second) in
    false≢true (sym same ∙ changed)

pub map-same : {A B : Type 0} (f g : A → B) (xs : List A) → All (λ x. f x ≡ g x) xs → map f xs ≡ map g xs
map-same f g [] h = refl
map-same f g (x ∷ xs) h = ap₂ (λ y ys. y ∷ ys) (All-head (λ x. f x ≡ g x) x xs h) (map-same f g xs (All-tail (λ x. f x ≡ g x) x xs h))

packet_band-same : (shape : Shape) (q : List ℤ) (a b number : ℕ) (band : Band) → lowest_plane a band ≡ lowest_plane b band
    → packet_band shape q a number band ≡ packet_band shape q b number band
unfolding packet_band
packet_band-same shape q a b number band e =
    ap (λ (p : ℕ). let part : PacketBand = record {
      columns = (blocks_in shape band number).columns;
      rows = (blocks_in shape band number).rows;
      blocks = map (placed_block shape band (band_values shape q band) p) (block_places (blocks_in shape band number));
    } in part) e

pub packet-same : (shape : Shape) (q : List ℤ) (cut component : ℕ) (precinct : Precinct) → component < 3 → precinct.resolution < 6
    → is_changed cut component precinct.resolution ≡ false
    → precinct_packet shape q (suc cut) component precinct ≡ precinct_packet shape q cut component precinct
packet-same shape q cut component precinct h small same =
    let bands = resolution_bands component precinct.resolution in
    let are = resolution_bands-are component precinct.resolution h small in
    ap packet (map-same (packet_band shape q (suc cut) precinct.number) (packet_band shape q cut precinct.number) bands
    (λ k d inside. let is = are k d inside in
    packet_band-same shape q (suc cut) cut precinct.number _
    (next-others cut _ is.is_band (other_rank cut component precinct.resolution _ is same))))
