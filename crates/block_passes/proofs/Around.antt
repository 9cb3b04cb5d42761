-- Whether a set of words has a neighbour of a sample, and the sample's zero context.
use Rattle.std.proofs.Common.{◌≡◌, ℕ, zero, suc, ◌+◌, ◌*◌, ◌/◌, ◌^◌, ◌<◌, ◌≤◌, refl, sym, ap, ◌∙◌, arith, inl, inr, Bool, true, false, List, length, get_or}
use Rattle.std.specs.Prelude.{◌==◌, ◌&&◌, ◌||◌, not, nat_lt}
use Rattle.std.specs.Int.{bit_at, from_bool}
use Rattle.std.specs.Int.RustNames.{bit_and}
use Rattle.std.proofs.lemmas.Bool.{cases_eq, cases_lt, ne_eqb, lt-ltb, le-ltb, and_right}
use Rattle.std.proofs.lemmas.Nat.Bits.{shr_and_one}
use Rattle.std.proofs.lemmas.List.{get_or_past}
use Rattle.std.proofs.Math.Nat.{mul-le-mul_right, mul_comm}
use Rattle.codec_terms.specs.declared.picture.BandKind.{BandKind}
use Rattle.codec_terms.specs.declared.picture.BandKind.TheVariants.{LL}
use Rattle.codec_terms.specs.Contexts.{is_in, horizontal, vertical, diagonal, zero_context, zero_context_at}
use Rattle.codec_terms.specs.BlockDecisions.{Block}
use Rattle.block_sets.specs.Places.{word_of, bit_of}
use Rattle.block_sets.specs.Sets.{holds, is_held, is_any_of_three, has_neighbour}
use Rattle.block_sets.proofs.Inverses.{column_at-place, row_at-place}
use Rattle.block_passes.specs.Told.{HasBits}
use Rattle.block_passes.proofs.Bits.{tested}
use Rattle.block_passes.proofs.Zero.{context-some, context-none}

-- the context is 0 where there is no neighbour
none-of : (kind : BandKind) (h v d : ℕ) → (zero_context kind h v d == 0) ≡ (h + v + d == 0)
none-of kind h v d = elim (cases_eq (h + v + d) 0) [
  | inl e ↦ (
      let none : h ≡ 0 = omega (arith, e) in
      let none' : v ≡ 0 = omega (arith, e) in
      let none'' : d ≡ 0 = omega (arith, e) in
      rw (none, none', none'', context-none kind) refl)
  | inr e ↦ context-some kind h v d (omega (arith, e)) ∙ sym (ne_eqb (h + v + d) 0 e)
]

some-not : (kind : BandKind) (h v d : ℕ) → 0 < h + v + d → true ≡ not (zero_context kind h v d == 0)
some-not kind h v d p = rw (context-some kind h v d p) refl

around : (kind : BandKind) (u d ul l dl ur r dr : Bool)
    → (u || d || (ul || l || dl) || (ur || r || dr))
    ≡ not (zero_context kind (from_bool l + from_bool r) (from_bool u + from_bool d) (from_bool ul + from_bool ur + from_bool dl + from_bool dr) == 0)
around kind true d ul l dl ur r dr = some-not kind _ _ _ (omega arith)
around kind false true ul l dl ur r dr = some-not kind _ _ _ (omega arith)
around kind false false true l dl ur r dr = some-not kind _ _ _ (omega arith)
around kind false false false true dl ur r dr = some-not kind _ _ _ (omega arith)
around kind false false false false true ur r dr = some-not kind _ _ _ (omega arith)
around kind false false false false false true r dr = some-not kind _ _ _ (omega arith)
around kind false false false false false false true dr = some-not kind _ _ _ (omega arith)
around kind false false false false false false false true = some-not kind _ _ _ (omega arith)
around kind false false false false false false false false = rw (context-none kind) refl

module _ (b : Block) (narrow : b.width ≤ 32) (low : b.height ≤ 32) (samples : List Bool) (size : length samples ≡ b.width * b.height)
    (set : List ℕ) (h : HasBits b samples set) where
  held-is : (X Y : ℕ) → is_held set X Y ≡ is_in b.width samples X Y
  unfolding is_held is_in holds
  held-is zero Y = refl
  held-is (suc x) zero = refl
  held-is (suc x) (suc y) = elim (cases_lt x 32) [
    | inl left ↦ elim (cases_lt y 32) [
      | inl above ↦ rw (lt-ltb x 32 left, lt-ltb y 32 above) (here left above)
      | inr below ↦ (
          let lower : b.height ≤ y = omega arith in
          let beyond : b.width * b.height ≤ y * b.width + x = omega (arith, mul-le-mul_right b.width lower, mul_comm b.width b.height) in
          let past : get_or samples (y * b.width + x) false ≡ false = get_or_past samples (y * b.width + x) false (rw size beyond) in
          rw (lt-ltb x 32 left, le-ltb y 32 below, past) (sym (and_right (nat_lt x b.width) false refl)))
    ]
    | inr right ↦ rw (le-ltb x 32 right, le-ltb x b.width (omega arith)) refl
  ]
    where
      here : x < 32 → y < 32 → (holds set x y == 1) ≡ (nat_lt x b.width && get_or samples (y * b.width + x) false)
      here left above =
          tested _ _ (rw (column_at-place x y left above, row_at-place x y left above) at (h (word_of x y) (bit_of x y) (omega arith) (omega arith)))

  pub neighbour-is : (kind : BandKind) (x y : ℕ) → has_neighbour set x y ≡ not (zero_context_at kind b.width samples x y == 0)
  unfolding has_neighbour is_any_of_three zero_context_at horizontal vertical diagonal
  neighbour-is kind x y =
      rw (
        held-is (suc x) y,
        held-is (suc x) (suc (suc y)),
        held-is x y,
        held-is x (suc y),
        held-is x (suc (suc y)),
        held-is (suc (suc x)) y,
        held-is (suc (suc x)) (suc y),
        held-is (suc (suc x)) (suc (suc y)),
      )
      (around kind (is_in b.width samples (suc x) y) (is_in b.width samples (suc x) (suc (suc y))) (is_in b.width samples x y) (is_in b.width samples x (suc y)) (is_in b.width samples x (suc (suc y)))
      (is_in b.width samples (suc (suc x)) y) (is_in b.width samples (suc (suc x)) (suc y)) (is_in b.width samples (suc (suc x)) (suc (suc y))))

  -- a bit that tells of it
  pub beside-is : (word x y i : ℕ) → bit_at word i ≡ from_bool (has_neighbour set x y)
      → (bit_and (word / 2 ^ i) 1 == 1) ≡ not (horizontal b.width samples x y + vertical b.width samples x y + diagonal b.width samples x y == 0)
  unfolding zero_context_at
  beside-is word x y i e =
      tested _ _ (shr_and_one word i ∙ e)
      ∙ (neighbour-is LL x y ∙ ap not (none-of LL (horizontal b.width samples x y) (vertical b.width samples x y) (diagonal b.width samples x y)))
