-- A bit-plane's decisions stand behind those of the planes above it.
use Rattle.std.proofs.Common.{◌≡◌, ℕ, ◌+◌, ◌-◌, ◌<◌, ◌≤◌, zero, suc, List, [], ◌++◌, sym, ap, ◌∙◌, inl, inr, arith, append-nil, append_assoc}
use Rattle.std.proofs.lemmas.Bool.{cases_lt}
use Rattle.codec_terms.specs.BlockDecisions.{Block, cleanup, decisions, plane_count, plane_start}
use Rattle.codec_terms.specs.Mq.{Decision}
use Rattle.codec_laws.specs.PlaneDecisions.{plane_told, planes_decisions, block_decisions}

-- a block whose decisions are those of its planes in turn
pub record ByPlanes (b : Block) : Type 0 where
  pub planes : (p : ℕ) → decisions b p ≡ block_decisions b p (plane_count b - p)

abbrev own : Block → ℕ → List Decision
own b p = (plane_told b p (plane_start b p)).decisions

abbrev first : Block → ℕ → List Decision
first b p = (cleanup b p (plane_start b p)).decisions

lowest-last : (b : Block) (p n : ℕ) → planes_decisions b p (suc n) ≡ planes_decisions b (suc p) n ++ own b p
lowest-last b p zero =
    let same : p + 0 ≡ p = omega arith in
    append-nil (own b (p + 0)) ∙ ap (own b) same
lowest-last b p (suc n) =
    let same : p + suc n ≡ suc p + n = omega arith in
    ap (λ ds. own b (p + suc n) ++ ds) (lowest-last b p n)
    ∙ ap (λ m. own b m ++ (planes_decisions b (suc p) n ++ own b p)) same
    ∙ sym (append_assoc (own b (suc p + n)) (planes_decisions b (suc p) n) (own b p))

block-last : (b : Block) (p n : ℕ) → block_decisions b p (suc (suc n)) ≡ block_decisions b (suc p) (suc n) ++ own b p
block-last b p n =
    let same : p + suc n ≡ suc p + n = omega arith in
    ap (λ ds. first b (p + suc n) ++ ds) (lowest-last b p n)
    ∙ ap (λ m. first b m ++ (planes_decisions b (suc p) n ++ own b p)) same
    ∙ sym (append_assoc (first b (suc p + n)) (planes_decisions b (suc p) n) (own b p))

pub none-above : (b : Block) → ByPlanes b → (p : ℕ) → plane_count b ≤ p → decisions b p ≡ []
none-above b h p above =
    let none : plane_count b - p ≡ 0 = omega arith in
    h.planes p ∙ ap (block_decisions b p) none

pub highest-alone : (b : Block) → ByPlanes b → (p : ℕ) → plane_count b ≡ suc p → decisions b p ≡ first b p
highest-alone b h p highest =
    let one : plane_count b - p ≡ 1 = omega (arith, highest) in
    let same : p + 0 ≡ p = omega arith in
    h.planes p ∙ ap (block_decisions b p) one ∙ append-nil (first b (p + 0)) ∙ ap (first b) same

pub further-plane : (b : Block) → ByPlanes b → (p : ℕ) → suc p < plane_count b → decisions b p ≡ decisions b (suc p) ++ own b p
further-plane b h p below =
    let n = plane_count b - suc (suc p) in
    let here : plane_count b - p ≡ suc (suc n) = omega arith in
    let above : plane_count b - suc p ≡ suc n = omega arith in
    h.planes p ∙ ap (block_decisions b p) here ∙ block-last b p n
    ∙ ap (λ ds. ds ++ own b p) (sym (h.planes (suc p) ∙ ap (block_decisions b (suc p)) above))

record Begins (ds es : List Decision) : Type 0 where
  further : List Decision
  same : es ≡ ds ++ further

one-lower : (b : Block) → ByPlanes b → (p : ℕ) → Begins (decisions b (suc p)) (decisions b p)
one-lower b h p = elim (cases_lt (suc p) (plane_count b)) [
  | inl below ↦ record { further = own b p; same = further-plane b h p below }
  | inr above ↦ record {
    further = decisions b p;
    same = sym (ap (λ ds. ds ++ decisions b p) (none-above b h (suc p) above));
  }
]

lower : (b : Block) → ByPlanes b → (n p : ℕ) → Begins (decisions b (n + p)) (decisions b p)
lower b h zero p =
    let same : 0 + p ≡ p = omega arith in
    record { further = []; same = sym (append-nil (decisions b (0 + p)) ∙ ap (decisions b) same) }
lower b h (suc n) p =
    let more = lower b h n p in
    let step = one-lower b h (n + p) in
    let same : suc n + p ≡ suc (n + p) = omega arith in
    record {
      further = step.further ++ more.further;
      same =
          more.same ∙ ap (λ ds. ds ++ more.further) step.same
          ∙ append_assoc (decisions b (suc (n + p))) step.further more.further
          ∙ ap (λ m. decisions b m ++ (step.further ++ more.further)) (sym same);
    }

pub begin-higher :
    (b : Block) → ByPlanes b → (p q : ℕ) → q ≤ p → (further : List Decision) × (decisions b q ≡ decisions b p ++ further)
begin-higher b h p q below =
    let it = lower b h (p - q) q in
    let same : p - q + q ≡ p = omega arith in
    (it.further, it.same ∙ ap (λ m. decisions b m ++ it.further) same)
