-- The values of each sub-band, one behind the other.
use Rattle.std.proofs.Common.{◌≡◌, ◌∙◌, ℕ, zero, suc, ◌+◌, ◌-◌, ◌*◌, ◌<◌, ◌≤◌, refl, sym, ap, ap₂, arith, List, [], ◌∷◌, ◌++◌, length, take, get_or, ℤ, Some, sum_by, append-nil}
use Rattle.std.specs.List.{flat_map, slice_get}
use Rattle.std.proofs.lemmas.List.{take_all, take_more}
use Rattle.std.proofs.lemmas.Grind.{flat_map-append}
use Rattle.std.proofs.lemmas.Option.{get_or_from_slice_get}
use Rattle.std.proofs.lemmas.Slice.{take-put_mid}
use borrow.Rule.Slice.PartMut.{put_mid}
use Rattle.codec_terms.specs.declared.picture.Shape.{Shape}
use Rattle.codec_terms.specs.declared.picture.Band.{Band}
use Rattle.codec_terms.specs.declared.packet.PacketBand.{PacketBand}
use Rattle.codec_terms.specs.declared.reading.MainHead.{MainHead}
use Rattle.codec_terms.specs.Bands.{resolution_bands, component_bands, all_bands, band_length}
use Rattle.codec_terms.specs.Precincts.{packet_order}
use Rattle.codec_terms.specs.StreamReading.{band_read_values}
use Rattle.codec_terms.proofs.CoefficientLaws.{sum_by-all_bands}
use Rattle.band_starts.proofs.Members.{length-all_bands, sum_step}
use Rattle.part_packets.specs.Shapes.{AreOfPrecincts, AreParts}
use Rattle.stream_reader.specs.Values.{stream_values}

-- a sub-band's values, from the packets of its component
abbrev pub values_in : MainHead → List (List (List PacketBand)) → Band → List ℤ
values_in head parts band = band_read_values head (get_or parts band.component []) band

-- where those of the first sub-bands end
abbrev pub values_end : Shape → ℕ → ℕ
values_end shape place = sum_by (band_length shape) (take place all_bands)

module _ (head : MainHead) (parts : List (List (List PacketBand))) where
  abbrev pub first_values : ℕ → List ℤ
  first_values place = flat_map (values_in head parts) (take place all_bands)

  one_more : (place : ℕ) (band : Band) → place < 48 → slice_get all_bands place ≡ Some band → first_values (place + 1) ≡ first_values place ++ values_in head parts band
  one_more place band small listed =
      ap (flat_map (values_in head parts)) (take_more all_bands place band (omega (arith, small, length-all_bands)))
      ∙ (flat_map-append (values_in head parts) (take place all_bands) (get_or all_bands place band ∷ [])
      ∙ ap (λ (xs : List ℤ). first_values place ++ xs)
      (append-nil (values_in head parts (get_or all_bands place band)) ∙ ap (values_in head parts) (get_or_from_slice_get all_bands place band band listed)))

  pub next_values : (place start end : ℕ) (band : Band) (packets : List (List PacketBand)) (old new : List ℤ) → place < 48 → slice_get all_bands place ≡ Some band → start ≡ values_end head.shape place
      → end ≡ start + band_length head.shape band → start + band_length head.shape band ≤ length old → length new ≡ end - start → packets ≡ get_or parts band.component [] → new ≡ band_read_values head packets band
      → take (values_end head.shape place) old ≡ first_values place
      → take (values_end head.shape (place + 1)) (put_mid start (end - start) old new) ≡ first_values (place + 1)
  next_values place start end band packets old new small listed start_is end_is inside size packets_are new_is so_far =
      let next : start + band_length head.shape band ≡ values_end head.shape (place + 1) = sum_step (band_length head.shape) place start (band_length head.shape band) band listed start_is refl in
      ap (λ (n : ℕ). take n (put_mid start (end - start) old new)) (sym next)
      ∙ (take-put_mid start (end - start) old new (start + band_length head.shape band) (omega (arith, size, end_is)) (omega (arith, inside))
      ∙ (ap₂ (λ (xs ys : List ℤ). xs ++ ys) (ap (λ (n : ℕ). take n old) start_is ∙ so_far) (new_is ∙ ap (λ (packets : List (List PacketBand)). band_read_values head packets band) packets_are)
      ∙ sym (one_more place band small listed)))

  pub all_values : (place : ℕ) (values : List ℤ) → 48 ≤ place → length values ≡ 3 * (head.shape.width * head.shape.height) → take (values_end head.shape place) values ≡ first_values place
      → values ≡ flat_map (values_in head parts) all_bands
  all_values place values past whole so_far =
      let every : take place all_bands ≡ all_bands = take_all place all_bands (omega (arith, past, length-all_bands)) in
      let end : values_end head.shape place ≡ length values = ap (sum_by (band_length head.shape)) every ∙ (sum_by-all_bands head.shape ∙ sym whole) in
      sym (take_all (values_end head.shape place) values (omega (arith, end))) ∙ (so_far ∙ ap (flat_map (values_in head parts)) every)

-- ---- the same, component by component

module _ (head : MainHead) (a b c : List (List PacketBand)) where
  abbrev three : List (List (List PacketBand))
  three = a ∷ b ∷ c ∷ []

  three_components : all_bands ≡ component_bands 0 ++ (component_bands 1 ++ (component_bands 2 ++ []))
  unfolding all_bands
  three_components = refl

  in_first : flat_map (values_in head three) (component_bands 0) ≡ flat_map (band_read_values head a) (component_bands 0)
  unfolding component_bands resolution_bands
  in_first = refl

  in_second : flat_map (values_in head three) (component_bands 1) ≡ flat_map (band_read_values head b) (component_bands 1)
  unfolding component_bands resolution_bands
  in_second = refl

  in_third : flat_map (values_in head three) (component_bands 2) ≡ flat_map (band_read_values head c) (component_bands 2)
  unfolding component_bands resolution_bands
  in_third = refl

  are_three : flat_map (values_in head three) all_bands ≡ stream_values head three
  unfolding stream_values
  are_three =
      ap (flat_map (values_in head three)) three_components
      ∙ (flat_map-append (values_in head three) (component_bands 0) (component_bands 1 ++ (component_bands 2 ++ []))
      ∙ ap₂ (λ (xs ys : List ℤ). xs ++ ys) in_first
      (flat_map-append (values_in head three) (component_bands 1) (component_bands 2 ++ [])
      ∙ ap₂ (λ (xs ys : List ℤ). xs ++ ys) in_second
      (flat_map-append (values_in head three) (component_bands 2) []
      ∙ ap (λ (xs : List ℤ). xs ++ []) in_third)))

module _ (head : MainHead) where
  pub parts_many : (parts : List (List (List PacketBand))) → AreParts head parts → length parts ≡ 3
  unfolding AreParts
  parts_many [] fit = absurd fit
  parts_many (a ∷ []) fit = absurd fit.1
  parts_many (a ∷ b ∷ []) fit = absurd (fit.1).1
  parts_many (a ∷ b ∷ c ∷ []) fit = refl
  parts_many (a ∷ b ∷ c ∷ d ∷ parts) fit = absurd ((fit.1).1).1

  pub values_are : (parts : List (List (List PacketBand))) → AreParts head parts → flat_map (values_in head parts) all_bands ≡ stream_values head parts
  unfolding AreParts
  values_are [] fit = absurd fit
  values_are (a ∷ []) fit = absurd fit.1
  values_are (a ∷ b ∷ []) fit = absurd (fit.1).1
  values_are (a ∷ b ∷ c ∷ []) fit = are_three head a b c
  values_are (a ∷ b ∷ c ∷ d ∷ parts) fit = absurd ((fit.1).1).1

  pub component_fits : (parts : List (List (List PacketBand))) (k : ℕ) → AreParts head parts → k < 3 → AreOfPrecincts head k (packet_order head.shape) (get_or parts k [])
  unfolding AreParts
  component_fits [] k fit small = absurd fit
  component_fits (a ∷ []) k fit small = absurd fit.1
  component_fits (a ∷ b ∷ []) k fit small = absurd (fit.1).1
  component_fits (a ∷ b ∷ c ∷ d ∷ parts) k fit small = absurd ((fit.1).1).1
  component_fits (a ∷ b ∷ c ∷ []) zero fit small = fit.0
  component_fits (a ∷ b ∷ c ∷ []) (suc zero) fit small = (fit.1).0
  component_fits (a ∷ b ∷ c ∷ []) (suc (suc zero)) fit small = ((fit.1).1).0
  component_fits (a ∷ b ∷ c ∷ []) (suc (suc (suc k))) fit small = absurd (omega (arith, small))
