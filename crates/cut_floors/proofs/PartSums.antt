-- The floors of tile-parts from those of their resolutions, and what the next cut changes.
use Rattle.std.proofs.Common.{◌≡◌, ◌≢◌, ℕ, suc, ◌+◌, ◌*◌, ◌/◌, ◌%◌, ◌<◌, sym, ap, ap₂, ◌∙◌, inl, inr, arith, false, List, length, get_or, set, ℤ, subst}
use Rattle.std.proofs.lemmas.Bool.Decides.{eqb_tells}
use Rattle.std.proofs.lemmas.List.{length-set, get_or-set_other, get_or-set_same}
use Rattle.codec_terms.specs.declared.picture.Shape.{Shape}
use Rattle.cut_laws.specs.Ranks.{is_changed}
use Rattle.floor_laws.specs.Floors.{resolution_floor, part_floor}
use Rattle.block_packets.specs.Changes.{place_changed}
use Rattle.block_packets.proofs.ChangedPlace.{changes-not}
use Rattle.cut_floors.specs.Books.{HasFloors}

-- ---- tile-parts

abbrev pub part_sum : List ℕ → ℕ → ℕ
part_sum packets component =
    14 + get_or packets (6 * component) 0 + get_or packets (6 * component + 1) 0
    + get_or packets (6 * component + 2) 0 + get_or packets (6 * component + 3) 0
    + get_or packets (6 * component + 4) 0 + get_or packets (6 * component + 5) 0

abbrev pub SumsUp : Type 0
SumsUp = (shape : Shape) (q : List ℤ) (cut component : ℕ)
    → part_floor shape q cut component
    ≡ 14 + resolution_floor shape q cut component 0 + resolution_floor shape q cut component 1
    + resolution_floor shape q cut component 2 + resolution_floor shape q cut component 3
    + resolution_floor shape q cut component 4 + resolution_floor shape q cut component 5

module _ (shape : Shape) (q : List ℤ) (cut : ℕ) (packets : List ℕ) (h : HasFloors shape q cut packets) where
  floor-at : (component r place : ℕ) → component < 3 → r < 6 → place ≡ 6 * component + r → get_or packets place 0 ≡ resolution_floor shape q cut component r
  floor-at component r place inside small at =
      let which : place / 6 ≡ component = omega arith in
      let rest : place % 6 ≡ r = omega arith in
      h.each place (omega arith) ∙ ap₂ (resolution_floor shape q cut) which rest

  pub part_sum-is : SumsUp → (component : ℕ) → component < 3 → part_sum packets component ≡ part_floor shape q cut component
  part_sum-is sums component inside =
      let a = floor-at component 0 (6 * component) inside (omega arith) (omega arith) in
      let b = floor-at component 1 (6 * component + 1) inside (omega arith) (omega arith) in
      let c = floor-at component 2 (6 * component + 2) inside (omega arith) (omega arith) in
      let d = floor-at component 3 (6 * component + 3) inside (omega arith) (omega arith) in
      let e = floor-at component 4 (6 * component + 4) inside (omega arith) (omega arith) in
      let f = floor-at component 5 (6 * component + 5) inside (omega arith) (omega arith) in
      omega (arith, sums shape q cut component, a, b, c, d, e, f)

-- ---- one place changes

abbrev pub Stays : Type 0
Stays = (shape : Shape) (q : List ℤ) (cut component r : ℕ) → component < 3 → r < 6 → is_changed cut component r ≡ false
    → resolution_floor shape q (suc cut) component r ≡ resolution_floor shape q cut component r

same-below : Stays → (shape : Shape) (q : List ℤ) (above cut place : ℕ) → above ≡ suc cut → place < 18 → place ≢ place_changed cut
    → resolution_floor shape q above (place / 6) (place % 6) ≡ resolution_floor shape q cut (place / 6) (place % 6)
same-below stays shape q above cut place next inside other =
    let apart : 6 * (place / 6) + place % 6 ≢ place_changed cut = λ e. other (omega (arith, e)) in
    ap (λ (n : ℕ). resolution_floor shape q n (place / 6) (place % 6)) next
    ∙ stays shape q cut (place / 6) (place % 6) (omega arith) (omega arith) (changes-not cut (place / 6) (place % 6) apart)

pub floors-below : Stays → (shape : Shape) (q : List ℤ) (above cut place n : ℕ) (packets : List ℕ) → above ≡ suc cut → place ≡ place_changed cut → place < 18
    → n ≡ resolution_floor shape q cut (place / 6) (place % 6) → HasFloors shape q above packets → HasFloors shape q cut (set packets place n)
floors-below stays shape q above cut place n packets next changed inside new h = record {
  count = length-set packets place n ∙ h.count;
  each = λ at below.
      elim (eqb_tells at place) [
        | inl (e, same) ↦
            let there : at < length packets = omega (arith, h.count) in
            subst (λ (k : ℕ). get_or (set packets k n) at 0 ≡ resolution_floor shape q cut (at / 6) (at % 6)) same
            (get_or-set_same packets at n 0 there ∙ new ∙ ap (λ (k : ℕ). resolution_floor shape q cut (k / 6) (k % 6)) (sym same))
        | inr (e, apart) ↦
            let other : at ≢ place_changed cut = λ e. apart (e ∙ sym changed) in
            get_or-set_other packets place at n 0 apart ∙ h.each at below ∙ same-below stays shape q above cut at next below other
      ];
}
