-- The steps of a search, down and up.
use Rattle.std.proofs.Common.{◌≡◌, ℕ, ◌+◌, ◌-◌, ◌<◌, ◌≤◌, inl, inr, sym, subst, arith, Bool, true, false, List, ℤ}
use Rattle.std.specs.Prelude.{◌↔◌, IsTrue, MatchBool}
use Rattle.std.proofs.lemmas.Bool.{cases_lt}
use Rattle.mast_base.specs.declared.limits.Limits.{Limits}
use Rattle.codec_terms.specs.declared.picture.Shape.{Shape}
use Rattle.codec_terms.specs.Cut.{IsWithin}
use Rattle.picture_blocks.specs.Blocks.{PictureBlocks}
use Rattle.block_packets.specs.Coded.{AreCodedBlocks}
use Rattle.least_cut.specs.Below.{AreNoneBelow}
use Rattle.least_cut.specs.Searches.{IsNear, IsSearch}
use Rattle.least_cut.specs.declared.search.Search.{Search}

-- ---- where no lower cut can be within the limits

-- the floors are no further up than the sizes, and one cut further down at most
pub floors-near : (limits : Limits) (shape : Shape) (q : List ℤ) (search : Search) → IsNear limits shape q search
    → (search.floors.cut ≤ search.sizes.cut) × (search.sizes.cut ≤ search.floors.cut + 1)
floors-near limits shape q search near = elim near [
  | inl level ↦ (omega arith, omega arith)
  | inr next ↦ (omega (arith, next.0), omega (arith, next.0))
]

pub none-over : (limits : Limits) (shape : Shape) (q : List ℤ) (search : Search) → IsNear limits shape q search
    → ((lower : ℕ) → lower ≤ search.floors.cut → ¬ IsWithin limits shape q lower) → AreNoneBelow limits shape q search.sizes.cut
none-over limits shape q search near none = λ lower below.
    let close = floors-near limits shape q search near in none lower (omega (arith, close.1))

-- ---- what a test told

pub told-false : (P Q : Type 0) (told : Bool) → told ≡ false → MatchBool told P Q → Q
told-false P Q told e h = subst (λ (b : Bool). MatchBool b P Q) e h

pub told-true : (P Q : Type 0) (told : Bool) → told ≡ true → MatchBool told P Q → P
told-true P Q told e h = subst (λ (b : Bool). MatchBool b P Q) e h

-- ---- down

pub coded-above : (q : List ℤ) (blocks : PictureBlocks) (search : Search) (next : ℕ) → 1 ≤ search.sizes.cut → search.floors.cut ≡ search.sizes.cut → next ≡ search.sizes.cut - 1
    → AreCodedBlocks q search.floors.cut blocks → AreCodedBlocks q (next + 1) blocks
coded-above q blocks search next above level is coded =
    let same : search.floors.cut ≡ next + 1 = omega arith in subst (λ (n : ℕ). AreCodedBlocks q n blocks) same coded

pub moved : (limits : Limits) (first : ℕ) (q : List ℤ) (search : Search) (before after : PictureBlocks) → after.shape ≡ before.shape
    → IsSearch limits first before.shape q search → IsSearch limits first after.shape q search
moved limits first q search before after same s = subst (λ (shape : Shape). IsSearch limits first shape q search) (sym same) s

-- ---- up

pub not_within : (limits : Limits) (shape : Shape) (q : List ℤ) (cut : ℕ) (told : Bool) → (IsTrue told ↔ IsWithin limits shape q cut) → told ≡ false
    → ¬ IsWithin limits shape q cut
not_within limits shape q cut told test e within = let t : told ≡ true = test.1 within in cc

pub below-last : (limits : Limits) (shape : Shape) (q : List ℤ) (cut : ℕ) → cut ≤ 720 → ¬ IsWithin limits shape q cut → IsWithin limits shape q 720 → cut < 720
below-last limits shape q cut few over last = elim (cases_lt cut 720) [
  | inl below ↦ below
  | inr above ↦ let same : 720 ≡ cut = omega arith in absurd (over (subst (IsWithin limits shape q) same last))
]

pub none-more : (limits : Limits) (shape : Shape) (q : List ℤ) (cut next : ℕ) → next ≡ cut + 1 → AreNoneBelow limits shape q cut → ¬ IsWithin limits shape q cut
    → AreNoneBelow limits shape q next
none-more limits shape q cut next is none over = λ lower below. elim (cases_lt lower cut) [
  | inl before ↦ none lower before
  | inr here ↦ let same : cut ≡ lower = omega arith in λ within. over (subst (IsWithin limits shape q) (sym same) within)
]
