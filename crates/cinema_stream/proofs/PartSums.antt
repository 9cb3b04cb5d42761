-- The sizes that follow from the lengths of all resolutions' packets.
use Rattle.std.proofs.Common.{◌≡◌, ◌≢◌, ℕ, ◌+◌, ◌*◌, ◌/◌, ◌%◌, ◌^◌, ◌<◌, sym, ap, ap₂, ◌∙◌, inl, inr, arith, List, [], ◌∷◌, length, get_or, set, ℤ, subst}
use Rattle.std.proofs.lemmas.Bool.Decides.{eqb_tells}
use Rattle.std.proofs.lemmas.List.{length-set, get_or-set_other, get_or-set_same}
use Rattle.codec_terms.specs.declared.picture.Shape.{Shape}
use Rattle.codec_terms.specs.Codestream.{part_length}
use Rattle.codec_laws.specs.Bounds.{IsPictureSize, FitBands}
use Rattle.codec_laws.proofs.Cuts.{length-stream}
use Rattle.cut_laws.proofs.Lengths.{part-bound}
use Rattle.block_packets.specs.Changes.{place_changed}
use Rattle.cinema_stream.specs.declared.sizes.Sizes.{Sizes}
use Rattle.cinema_stream.specs.Lengths.{resolution_length, HasLengths, part_of, AreNext}
use Rattle.cinema_stream.specs.Sizes.{AreSizesOf}
use Rattle.cinema_stream.proofs.Resolutions.{part-by_resolution, six-terms, resolution-same}

-- ---- tile-parts

module _ (shape : Shape) (q : List ℤ) (cut : ℕ) (packets : List ℕ) (h : HasLengths shape q cut packets) where
  length-at : (component r place : ℕ) → component < 3 → r < 6 → place ≡ 6 * component + r → get_or packets place 0 ≡ resolution_length shape q cut component r
  length-at component r place inside small at =
      let which : place / 6 ≡ component = omega arith in
      let rest : place % 6 ≡ r = omega arith in
      h.each place (omega arith) ∙ ap₂ (resolution_length shape q cut) which rest

  pub part_of-is : (component : ℕ) → component < 3 → part_of packets component ≡ part_length shape q cut component
  part_of-is component inside =
      let a = length-at component 0 (6 * component) inside (omega arith) (omega arith) in
      let b = length-at component 1 (6 * component + 1) inside (omega arith) (omega arith) in
      let c = length-at component 2 (6 * component + 2) inside (omega arith) (omega arith) in
      let d = length-at component 3 (6 * component + 3) inside (omega arith) (omega arith) in
      let e = length-at component 4 (6 * component + 4) inside (omega arith) (omega arith) in
      let f = length-at component 5 (6 * component + 5) inside (omega arith) (omega arith) in
      omega (arith, part-by_resolution shape q cut component, six-terms (resolution_length shape q cut component), a, b, c, d, e, f)

  pub part_of-few : IsPictureSize shape → FitBands shape q → (component : ℕ) → component < 3 → part_of packets component < 2 ^ 30
  part_of-few size fits component inside = omega (arith, part_of-is component inside, part-bound shape q cut component size fits inside)

  pub sizes-are : (sizes : Sizes) → sizes.parts ≡ part_of packets 0 ∷ part_of packets 1 ∷ part_of packets 2 ∷ []
      → sizes.whole ≡ 145 + (part_of packets 0 + (part_of packets 1 + part_of packets 2)) → AreSizesOf shape q cut sizes
  sizes-are sizes parts whole =
      let first = part_of-is 0 (omega arith) in
      let second = part_of-is 1 (omega arith) in
      let third = part_of-is 2 (omega arith) in
      record {
        whole = omega (arith, whole, first, second, third, length-stream shape q cut);
        parts = parts ∙ ap (λ (n : ℕ). n ∷ part_of packets 1 ∷ part_of packets 2 ∷ []) first ∙ ap (λ (n : ℕ). part_length shape q cut 0 ∷ n ∷ part_of packets 2 ∷ []) second
            ∙ ap (λ (n : ℕ). part_length shape q cut 0 ∷ part_length shape q cut 1 ∷ n ∷ []) third;
      }

-- ---- one place changes

same-next : (shape : Shape) (q : List ℤ) (least a b place : ℕ) → AreNext least a b → place < 18 → place ≢ place_changed least
    → resolution_length shape q a (place / 6) (place % 6) ≡ resolution_length shape q b (place / 6) (place % 6)
same-next shape q least a b place next inside other =
    let apart : 6 * (place / 6) + place % 6 ≢ place_changed least = λ e. other (omega (arith, e)) in
    let same = resolution-same shape q least (place / 6) (place % 6) (omega arith) (omega arith) apart in
    let f : ℕ → ℕ = λ cut. resolution_length shape q cut (place / 6) (place % 6) in
    elim next [
      | inl (up, down) ↦ ap f up ∙ same ∙ ap f (sym down)
      | inr (down, up) ↦ ap f down ∙ sym same ∙ ap f (sym up)
    ]

pub lengths-next : (shape : Shape) (q : List ℤ) (least a b place n : ℕ) (packets : List ℕ) → AreNext least a b → place ≡ place_changed least → place < 18
    → n ≡ resolution_length shape q b (place / 6) (place % 6) → HasLengths shape q a packets → HasLengths shape q b (set packets place n)
lengths-next shape q least a b place n packets next changed inside new h = record {
  count = length-set packets place n ∙ h.count;
  each = λ at below.
      elim (eqb_tells at place) [
        | inl (e, same) ↦
            let there : at < length packets = omega (arith, h.count) in
            subst (λ (k : ℕ). get_or (set packets k n) at 0 ≡ resolution_length shape q b (at / 6) (at % 6)) same
            (get_or-set_same packets at n 0 there ∙ new ∙ ap (λ (k : ℕ). resolution_length shape q b (k / 6) (k % 6)) (sym same))
        | inr (e, apart) ↦
            let other : at ≢ place_changed least = λ e. apart (e ∙ sym changed) in
            get_or-set_other packets place at n 0 apart ∙ h.each at below ∙ same-next shape q least a b at next below other
      ];
}
