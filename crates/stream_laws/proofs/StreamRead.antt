-- A whole stream is read back to its kept coefficients.
use Rattle.std.proofs.Common.{◌≡◌, ℕ, ◌+◌, ◌*◌, ◌^◌, ◌<◌, refl, sym, ap, ap₂, ◌∙◌, arith, List, [], ◌∷◌, ◌++◌, length, map, get_or, Some, Result, Ok, false, ℤ, All}
use Rattle.std.specs.Prelude.{nat_lt, zip}
use Rattle.std.specs.List.{flat_map, range_with_len}
use Rattle.std.proofs.lemmas.Bool.{le-ltb}
use Rattle.std.proofs.lemmas.Grind.{flat_map-append}
use Rattle.std.proofs.lemmas.List.Elements.{All-head, All-tail, All-from_recursion}
use Rattle.codec_terms.specs.declared.picture.Shape.{Shape}
use Rattle.codec_terms.specs.declared.picture.Band.{Band}
use Rattle.codec_terms.specs.declared.packet.PacketBand.{PacketBand}
use Rattle.codec_terms.specs.declared.reading.MainHead.{MainHead}
use Rattle.codec_terms.specs.declared.reading.ReadRefusal.{ReadRefusal}
use Rattle.codec_terms.specs.declared.reading.Coefficients.{Coefficients}
use Rattle.codec_terms.specs.Bands.{plane_limit, resolution_bands, component_bands, all_bands}
use Rattle.codec_terms.specs.Codestream.{main_header, part_length, part_lengths, components, stream}
use Rattle.codec_terms.specs.Encode.{kept_band, kept_coefficients}
use Rattle.codec_terms.specs.MainReading.{main_read}
use Rattle.codec_terms.specs.StreamReading.{parts_read, band_read_values, component_read_values, coefficients_read, stream_read}
use Rattle.codec_terms.proofs.StreamLaws.{length-main_header}
use Rattle.codec_laws.specs.Bounds.{IsPictureSize, FitBands}
use Rattle.codec_laws.specs.Places.{packets_of}
use Rattle.codec_laws.proofs.Lists.{All-pieces, All-range}
use Rattle.codec_laws.proofs.Headers.{main_read-stream}
use Rattle.codec_laws.proofs.Cuts.{length-stream}
use Rattle.stream_laws.specs.Counts.{all_kept_blocks}
use Rattle.stream_laws.proofs.BlockCounts.{included_count-is}
use Rattle.stream_laws.proofs.TileParts.{PacketsAreRead, parts_read-is}
use Rattle.stream_laws.proofs.BandValues.{BlocksAreRead, bands-read}

-- ---- the values of all components

flat_map-same : {A B : Type 0} (f g : A → List B) (xs : List A) → All (λ x. f x ≡ g x) xs → flat_map f xs ≡ flat_map g xs
flat_map-same f g [] same = refl
flat_map-same {B} f g (x ∷ xs) same =
    ap₂ (λ (some others : List B). some ++ others) (All-head (λ x. f x ≡ g x) x xs same) (flat_map-same f g xs (All-tail (λ x. f x ≡ g x) x xs same))

own_component : (component : ℕ) → All (λ band. band.component ≡ component) (component_bands component)
unfolding component_bands resolution_bands
own_component component =
    All-from_recursion (λ band. band.component ≡ component) (component_bands component)
    (refl, (refl, (refl, (refl, (refl, (refl, (refl, (refl, (refl, (refl, (refl, (refl, (refl, (refl, (refl, (refl, tt))))))))))))))))

module _ (shape : Shape) (q : List ℤ) (cut : ℕ) (head : MainHead) where
  AreKept : Type 0
  AreKept = All (λ band. band_read_values head (packets_of shape q cut band.component) band ≡ kept_band shape cut q band) all_bands

  component-read : (component : ℕ) → component < 3 → AreKept
      → flat_map (band_read_values head (packets_of shape q cut component)) (component_bands component) ≡ flat_map (kept_band shape cut q) (component_bands component)
  unfolding AreKept all_bands
  component-read component inside kept =
      let own = All-range (λ c. All (λ band. band_read_values head (packets_of shape q cut band.component) band ≡ kept_band shape cut q band) (component_bands c)) 3 component inside
      (All-pieces (λ band. band_read_values head (packets_of shape q cut band.component) band ≡ kept_band shape cut q band) component_bands (range_with_len 0 3) kept) in
      flat_map-same (band_read_values head (packets_of shape q cut component)) (kept_band shape cut q) (component_bands component)
      (λ k d there. ap (λ (c : ℕ). band_read_values head (packets_of shape q cut c) (get_or (component_bands component) k d)) (sym (own_component component k d there)) ∙ own k d there)

  values-read : AreKept → flat_map (component_read_values head) (zip components (map (packets_of shape q cut) components)) ≡ kept_coefficients shape cut q
  unfolding all_bands kept_coefficients
  values-read kept =
      let keep : Band → List ℤ = kept_band shape cut q in
      let last : flat_map keep (component_bands 2 ++ []) ≡ flat_map keep (component_bands 2) ++ [] = flat_map-append keep (component_bands 2) [] in
      let later : flat_map keep (component_bands 1 ++ (component_bands 2 ++ [])) ≡ flat_map keep (component_bands 1) ++ (flat_map keep (component_bands 2) ++ []) =
      flat_map-append keep (component_bands 1) (component_bands 2 ++ []) ∙ ap (λ (xs : List ℤ). flat_map keep (component_bands 1) ++ xs) last in
      let all : flat_map keep (component_bands 0 ++ (component_bands 1 ++ (component_bands 2 ++ [])))
      ≡ flat_map keep (component_bands 0) ++ (flat_map keep (component_bands 1) ++ (flat_map keep (component_bands 2) ++ [])) =
      flat_map-append keep (component_bands 0) (component_bands 1 ++ (component_bands 2 ++ [])) ∙ ap (λ (xs : List ℤ). flat_map keep (component_bands 0) ++ xs) later in
      ap₂ (λ (xs ys : List ℤ). xs ++ ys) (component-read 0 (omega arith) kept)
      (ap₂ (λ (xs ys : List ℤ). xs ++ ys) (component-read 1 (omega arith) kept)
      (ap (λ (xs : List ℤ). xs ++ []) (component-read 2 (omega arith) kept)))
      ∙ sym all

-- ---- the whole

head_of : Shape → List ℤ → ℕ → MainHead
head_of shape q cut = record { shape = shape; mb = map plane_limit (component_bands 0); parts = part_lengths shape q cut; cut = Some cut; next = 143 }

by_steps : (bytes : List ℕ) (head : MainHead) (at : ℕ) (parts : List (List (List PacketBand))) → main_read bytes ≡ Ok head
    → parts_read bytes head components head.next ≡ Ok (parts, at) → nat_lt (at + 2) (length bytes) ≡ false
    → stream_read bytes ≡ Ok (coefficients_read head parts)
unfolding stream_read
by_steps bytes head at parts main read end = rw (main, read, end) refl

pub stream_read-is : PacketsAreRead → BlocksAreRead
    → (shape : Shape) (q : List ℤ) (cut : ℕ) → IsPictureSize shape → length q ≡ 3 * (shape.width * shape.height) → FitBands shape q → cut < 2 ^ 32
    → part_length shape q cut 0 < 2 ^ 32 → part_length shape q cut 1 < 2 ^ 32 → part_length shape q cut 2 < 2 ^ 32
    → stream_read (stream shape q cut)
    ≡ Ok (record {
      shape = shape;
      values = kept_coefficients shape cut q;
      cut = Some cut;
      parts = part_lengths shape q cut;
      blocks = all_kept_blocks shape q cut;
    })
unfolding stream head_of AreKept
stream_read-is packets blocks shape q cut size whole fits small short0 short1 short2 =
    let head : MainHead = head_of shape q cut in
    let front : List ℕ = main_header shape (part_lengths shape q cut) cut in
    let sum : ℕ = part_length shape q cut 0 + (part_length shape q cut 1 + part_length shape q cut 2) in
    let long : length front ≡ 143 = length-main_header shape (part_length shape q cut 0) (part_length shape q cut 1) (part_length shape q cut 2) cut in
    let main : main_read (stream shape q cut) ≡ Ok head = main_read-stream shape q cut size small short0 short1 short2 in
    let read : parts_read (stream shape q cut) head components 143 ≡ Ok (map (packets_of shape q cut) components, length front + sum) =
    ap (parts_read (stream shape q cut) head components) (sym long)
    ∙ parts_read-is packets (stream shape q cut) front [] shape q cut head fits short0 short1 short2 refl refl refl refl in
    let end : nat_lt (length front + sum + 2) (length (stream shape q cut)) ≡ false =
    le-ltb (length front + sum + 2) (length (stream shape q cut)) (omega (arith, long, length-stream shape q cut)) in
    let some : 0 < shape.width = omega (arith, size.least_width) in
    by_steps (stream shape q cut) head (length front + sum) (map (packets_of shape q cut) components) main read end
    ∙ with_values (values-read shape q cut head (bands-read blocks shape q cut head some whole fits refl refl)) (included_count-is shape q cut some)
  where
    with_values : {values values' : List ℤ} {blocks blocks' : ℕ} → values ≡ values' → blocks ≡ blocks'
        → (let r : Result Coefficients ReadRefusal = Ok (record { shape = shape; values = values; cut = Some cut; parts = part_lengths shape q cut; blocks = blocks }) in r)
        ≡ Ok (record { shape = shape; values = values'; cut = Some cut; parts = part_lengths shape q cut; blocks = blocks' })
    with_values e f = rw (e, f) refl
