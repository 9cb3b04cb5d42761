-- A block's decisions are those of its bit-planes in turn, where each plane leaves the significant samples that the
-- next one begins with.
use Rattle.std.proofs.Common.{◌≡◌, ℕ, ◌+◌, ◌-◌, zero, suc, refl, ap, sym, subst, arith, ◌∙◌, Bool, List, [], ◌∷◌, ◌++◌, append-nil, append_assoc}
use Rattle.std.specs.Prelude.{fold}
use Rattle.codec_terms.specs.Mq.{Decision}
use Rattle.codec_terms.specs.Passes.{Propagation, Refinement, Cleanup, further_passes, passes_down_to}
use Rattle.codec_terms.specs.BlockDecisions.{Block, Walk, no_samples, cleanup, pass_told, next_told, nothing_told, passes_told, plane_count, decisions, plane_start}
use Rattle.codec_terms.proofs.WalkLaws.{behind, fold-next_told-behind}
use Rattle.codec_laws.specs.PlaneDecisions.{plane_told, planes_decisions, block_decisions}

abbrev the_walk : List Decision → List Bool → List Bool → Walk
the_walk ds significant visited = record { decisions = ds; significant = significant; visited = visited }

-- each plane leaves the significant samples that the next one begins with
pub record PlanesFollow (b : Block) : Type 0 where
  pub first : (p : ℕ) → plane_count b ≡ suc p → (plane_start b p).significant ≡ no_samples b
  pub second : (p : ℕ) → plane_count b ≡ suc (suc p) → (cleanup b (suc p) (plane_start b (suc p))).significant ≡ (plane_start b p).significant
  pub further : (p : ℕ) → (plane_told b (suc p) (plane_start b (suc p))).significant ≡ (plane_start b p).significant

-- a walk with these sets is what a plane begins with, behind its decisions
same_walk : (d d' : List Decision) (s s' v v' : List Bool) → d ≡ d' → s ≡ s' → v ≡ v'
    → the_walk d s v ≡ the_walk d' s' v'
same_walk d d' s s' v v' e h k = λ i. record { decisions = e i; significant = h i; visited = k i }

started : (b : Block) (ds : List Decision) (w : Walk) (p : ℕ) → w.significant ≡ (plane_start b p).significant → w.visited ≡ no_samples b
    → behind ds w ≡ behind (ds ++ w.decisions) (plane_start b p)
started b ds w p significant visited = same_walk _ _ _ _ _ _ (sym (append-nil (ds ++ w.decisions))) significant visited

visited-cleanup : (b : Block) (p : ℕ) (w : Walk) → (cleanup b p w).visited ≡ no_samples b
unfolding cleanup
visited-cleanup b p w = refl

plane_told-behind : (b : Block) (p : ℕ) (ds : List Decision) (w : Walk) → plane_told b p (behind ds w) ≡ behind ds (plane_told b p w)
unfolding pass_told
plane_told-behind b p ds w = fold-next_told-behind b ds w ((p, Propagation) ∷ (p, Refinement) ∷ (p, Cleanup) ∷ [])

further_told : (b : Block) → PlanesFollow b → (p n : ℕ) (ds : List Decision)
    → (fold (next_told b) (behind ds (plane_start b (p + n))) (further_passes p (suc n))).decisions ≡ ds ++ planes_decisions b p (suc n)
unfolding further_passes pass_told
further_told b follow p zero ds =
    ap (λ (w : Walk). w.decisions) (plane_told-behind b (p + 0) ds (plane_start b (p + 0)))
    ∙ ap (λ (own : List Decision). ds ++ own) (sym (append-nil _))
further_told b follow p (suc n) ds =
    let v : Walk = plane_told b (p + suc n) (plane_start b (p + suc n)) in
    let planes : suc (p + n) ≡ p + suc n = omega arith in
    let left = subst (λ (m : ℕ). (plane_told b m (plane_start b m)).significant ≡ (plane_start b (p + n)).significant) planes (follow.further (p + n)) in
    ap (λ (w : Walk). (fold (next_told b) w (further_passes p (suc n))).decisions)
    (plane_told-behind b (p + suc n) ds (plane_start b (p + suc n)) ∙ started b ds v (p + n) left (visited-cleanup b (p + suc n) _))
    ∙ (further_told b follow p n (ds ++ v.decisions) ∙ append_assoc ds v.decisions (planes_decisions b p (suc n)))

-- ---- the block, of whose planes n are coded

nothing_told-start : (b : Block) → PlanesFollow b → (p : ℕ) → plane_count b ≡ suc p → nothing_told b ≡ plane_start b p
nothing_told-start b follow p highest = same_walk _ _ _ _ _ _ refl (sym (follow.first p highest)) refl

block_told : (b : Block) → PlanesFollow b → (p n : ℕ) → plane_count b - p ≡ n → (passes_told b (passes_down_to p n)).decisions ≡ block_decisions b p n
unfolding passes_told passes_down_to further_passes pass_told
block_told b follow p zero planes = refl
block_told b follow p (suc zero) planes =
    ap (λ (w : Walk). (cleanup b (p + 0) w).decisions) (nothing_told-start b follow (p + 0) (omega arith)) ∙ sym (append-nil _)
block_told b follow p (suc (suc n)) planes =
    let v : Walk = cleanup b (p + suc n) (plane_start b (p + suc n)) in
    let sums : suc (p + n) ≡ p + suc n = omega arith in
    let left = subst (λ (m : ℕ). (cleanup b m (plane_start b m)).significant ≡ (plane_start b (p + n)).significant) sums (follow.second (p + n) (omega arith)) in
    ap (λ (w : Walk). (fold (next_told b) (cleanup b (p + suc n) w) (further_passes p (suc n))).decisions) (nothing_told-start b follow (p + suc n) (omega arith))
    ∙ (ap (λ (w : Walk). (fold (next_told b) w (further_passes p (suc n))).decisions) (started b [] v (p + n) left (visited-cleanup b (p + suc n) _))
    ∙ further_told b follow p n v.decisions)

pub decisions-by_planes : (b : Block) → PlanesFollow b → (p : ℕ) → decisions b p ≡ block_decisions b p (plane_count b - p)
unfolding decisions
decisions-by_planes b follow p = block_told b follow p (plane_count b - p) refl
