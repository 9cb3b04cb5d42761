-- At a lower cut no bit-plane is lost, and a block's decisions down to a lower plane begin with those down to a higher one.
use Rattle.std.proofs.Common.{◌≡◌, ℕ, zero, suc, ◌+◌, ◌-◌, ◌/◌, ◌%◌, ◌≤◌, sym, ap, ◌∙◌, inl, inr, arith, Bool, true, false, List, [], ◌++◌, length, refl, append-nil}
use Rattle.std.specs.Prelude.{nat_lt, fold}
use Rattle.std.specs.Int.{from_bool}
use Rattle.std.proofs.lemmas.Bool.{cases_lt, lt-ltb, le-ltb}
use Rattle.std.proofs.lemmas.List.Sums.{fold-append}
use Rattle.codec_terms.specs.declared.picture.Band.{Band}
use Rattle.codec_terms.specs.Bands.{rank, lowest_plane}
use Rattle.codec_terms.specs.Mq.{Decision, codeword}
use Rattle.codec_terms.specs.Passes.{Pass, further_passes, passes_down_to}
use Rattle.codec_terms.specs.BlockDecisions.{Block, Walk, next_told, nothing_told, passes_told, plane_count, decisions}
use Rattle.codec_terms.proofs.WalkLaws.{behind, fold-next_told-behind}
use Rattle.mq_laws.proofs.Lengths.{codewords-length}

-- ---- cuts

flag-small : (t : Bool) → from_bool t ≤ 1
flag-small true = omega arith
flag-small false = omega arith

flag-below : (a b r : ℕ) → a ≤ b → from_bool (nat_lt r a) ≤ from_bool (nat_lt r b)
flag-below a b r h = elim (cases_lt r a) [
  | inl less ↦
      let one : from_bool (nat_lt r a) ≡ 1 = ap from_bool (lt-ltb r a less) in
      let also : from_bool (nat_lt r b) ≡ 1 = ap from_bool (lt-ltb r b (omega arith)) in
      omega arith
  | inr above ↦ let none : from_bool (nat_lt r a) ≡ 0 = ap from_bool (le-ltb r a above) in omega arith
]

rank-below : (cut lower r : ℕ) → lower ≤ cut → lower / 48 + from_bool (nat_lt r (lower % 48)) ≤ cut / 48 + from_bool (nat_lt r (cut % 48))
rank-below cut lower r h = elim (cases_lt (lower / 48) (cut / 48)) [
  | inl less ↦ omega (arith, flag-small (nat_lt r (lower % 48)))
  | inr above ↦ omega (arith, flag-below (lower % 48) (cut % 48) r (omega arith))
]

pub plane-below : (cut lower : ℕ) (band : Band) → lower ≤ cut → lowest_plane lower band ≤ lowest_plane cut band
plane-below cut lower band h = rank-below cut lower (rank band) h

-- ---- passes

further-joined : (p low n d m : ℕ) → p ≡ low + d → m ≡ n + d → further_passes p n ++ further_passes low d ≡ further_passes low m
unfolding further_passes
further-joined p low zero d m e h = let same : d ≡ m = omega arith in ap (further_passes low) same
further-joined p low (suc n) d zero e h = absurd (omega arith)
further-joined p low (suc n) d (suc m) e h =
    let here : low + m ≡ p + n = omega arith in
    rw (here, further-joined p low n d m e (omega arith)) refl

passes-joined : (p low n d m : ℕ) → p ≡ low + d → m ≡ n + d → passes_down_to p (suc n) ++ further_passes low d ≡ passes_down_to low (suc m)
unfolding passes_down_to
passes-joined p low n d m e h =
    let here : low + m ≡ p + n = omega arith in
    rw (here, further-joined p low n d m e h) refl

-- ---- decisions

record Begins (ds es : List Decision) : Type 0 where
  further : List Decision
  same : es ≡ ds ++ further

abbrev told : Block → ℕ → ℕ → List Decision
told b p n = (passes_told b (passes_down_to p n)).decisions

walk-begins : (b : Block) (w : Walk) (passes : List (ℕ × Pass)) → Begins w.decisions (fold (next_told b) w passes).decisions
walk-begins b w passes =
    let empty : Walk = record w { decisions = [] } in
    let itself : behind w.decisions empty ≡ w = ap (λ (ds : List Decision). let v : Walk = record w { decisions = ds } in v) (append-nil w.decisions) in
    record {
      further = (fold (next_told b) empty passes).decisions;
      same = ap (λ (v : Walk). (fold (next_told b) v passes).decisions) (sym itself)
          ∙ ap (λ (v : Walk). v.decisions) (fold-next_told-behind b w.decisions empty passes);
    }

told-joined : (b : Block) (p low n d m : ℕ) → p ≡ low + d → m ≡ n + d → Begins (told b p (suc n)) (told b low (suc m))
unfolding passes_told
told-joined b p low n d m e h =
    let first : Walk = passes_told b (passes_down_to p (suc n)) in
    let more = walk-begins b first (further_passes low d) in
    record {
      further = more.further;
      same = ap (λ (passes : List (ℕ × Pass)). (fold (next_told b) (nothing_told b) passes).decisions) (sym (passes-joined p low n d m e h))
          ∙ ap (λ (v : Walk). v.decisions) (fold-append (next_told b) (nothing_told b) (passes_down_to p (suc n)) (further_passes low d))
          ∙ more.same;
    }

none-told : (b : Block) (p : ℕ) → told b p 0 ≡ []
unfolding passes_told passes_down_to
none-told b p = refl

-- n and m bit-planes from the highest down, of c
told-begins : (b : Block) (c p low n m : ℕ) → low ≤ p → n ≡ c - p → m ≡ c - low → Begins (told b p n) (told b low m)
told-begins b c p low zero m h here there = record {
  further = told b low m;
  same = sym (ap (λ (ds : List Decision). ds ++ told b low m) (none-told b p));
}
told-begins b c p low (suc n) zero h here there = absurd (omega arith)
told-begins b c p low (suc n) (suc m) h here there = told-joined b p low n (p - low) m (omega arith) (omega arith)

begun-length : (ds es : List Decision) → Begins ds es → length (codeword ds) ≤ length (codeword es) + 1
begun-length ds es begun =
    omega (arith, codewords-length ds begun.further, ap (λ (fs : List Decision). length (codeword fs)) begun.same)

-- further bit-planes make a codeword at most one byte shorter
pub codeword-lower : (b : Block) (p low : ℕ) → low ≤ p → length (codeword (decisions b p)) ≤ length (codeword (decisions b low)) + 1
unfolding decisions
codeword-lower b p low h =
    let begun = told-begins b (plane_count b) p low (plane_count b - p) (plane_count b - low) h refl refl in
    begun-length (told b p (plane_count b - p)) (told b low (plane_count b - low)) begun
