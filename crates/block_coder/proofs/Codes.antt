-- A block's decisions, plane by plane, in the coder.
use Rattle.std.proofs.Common.{◌≡◌, ℕ, suc, ◌+◌, ◌*◌, ◌^◌, ◌<◌, ◌≤◌, refl, sym, ap, ◌∙◌, arith, inl, inr, List, [], ◌++◌, All, length, reverse, append-nil, subst}
use Rattle.std.specs.Prelude.{unsigned_abs}
use Rattle.std.proofs.lemmas.Bool.{cases_lt}
use Rattle.std.proofs.lemmas.List.{length-append}
use Rattle.std.proofs.lemmas.List.Elements.{All-weaker}
use Rattle.std.proofs.Math.Pow.{pow_mono}
use Rattle.codec_terms.specs.BlockDecisions.{Block, cleanup, plane_count, plane_start, decisions}
use Rattle.codec_terms.specs.Mq.{Decision, Encoder, start, coded, coded_from, flushed_bytes}
use Rattle.codec_laws.specs.PlaneDecisions.{plane_told}
use Rattle.codec_laws.proofs.HighestPlane.{decisions-highest}
use Rattle.mq_laws.proofs.Lengths.{coded-append, flushed-length, whole-length}
use Rattle.mq_coder.specs.Endings.{ending_of, Continues}
use Rattle.block_sets.specs.declared.planes.BlockPlanes.{BlockPlanes}
use Rattle.block_sets.specs.Rebuilt.{block_of}
use Rattle.block_coder.specs.Blocks.{IsBlock}
use Rattle.block_coder.specs.Codes.{most_decisions}

abbrev pub own : Block → ℕ → List Decision
own b p = (plane_told b p (plane_start b p)).decisions

-- what the laws of lower planes say of plane p
pub record Lower (b : Block) (p : ℕ) : Type 0 where
  pub none : plane_count b ≤ suc p → decisions b (suc p) ≡ []
  pub highest : plane_count b ≡ suc p → decisions b p ≡ (cleanup b p (plane_start b p)).decisions
  pub further : suc p < plane_count b → decisions b p ≡ decisions b (suc p) ++ own b p

module _ (b : Block) (small : All (λ v. unsigned_abs v < 2 ^ 64) b.values) (p : ℕ) (laws : Lower b p) (below : p < plane_count b) where
  pub one-plane : decisions b p ≡ decisions b (suc p) ++ own b p
  one-plane =
      elim (cases_lt (suc p) (plane_count b)) [
        | inl further ↦ laws.further further
        | inr highest ↦ (
            laws.highest (omega arith) ∙ (sym (decisions-highest b p small highest) ∙ ap (λ (ds : List Decision). ds ++ own b p) (sym (laws.none highest))))
      ]

  pub coded-plane : coded_from (coded (decisions b (suc p))) (own b p) ≡ coded (decisions b p)
  coded-plane = sym (coded-append (decisions b (suc p)) (own b p)) ∙ ap coded (sym one-plane)

  pub few-more : length (own b p) ≤ most_decisions → length (decisions b p) ≤ length (decisions b (suc p)) + most_decisions
  few-more few = omega (arith, ap length one-plane, length-append (decisions b (suc p)) (own b p), few)

-- a block's magnitudes, and its size
pub block-small : (planes : BlockPlanes) → IsBlock planes → All (λ v. unsigned_abs v < 2 ^ 64) (block_of planes).values
block-small planes h =
    All-weaker (λ v. unsigned_abs v < 2 ^ length planes.planes.now) (λ v. unsigned_abs v < 2 ^ 64)
    (λ v below. let most = pow_mono {i = length planes.planes.now} {j = 64} (omega (arith, h.few)) in omega (arith, below, most)) (block_of planes).values h.of.small

-- what the laws of lower planes say, for all planes of a block
pub lower-of :
    (planes : BlockPlanes) → IsBlock planes →
    ((block : Block) (p : ℕ) → length block.values ≡ block.width * block.height → All (λ v. unsigned_abs v < 2 ^ 64) block.values → plane_count block ≤ p → decisions block p ≡ []) →
    ((block : Block) (p : ℕ) → length block.values ≡ block.width * block.height → All (λ v. unsigned_abs v < 2 ^ 64) block.values → plane_count block ≡ suc p
    → decisions block p ≡ (cleanup block p (plane_start block p)).decisions) →
    ((block : Block) (p : ℕ) → length block.values ≡ block.width * block.height → All (λ v. unsigned_abs v < 2 ^ 64) block.values → suc p < plane_count block
    → decisions block p ≡ decisions block (suc p) ++ (plane_told block p (plane_start block p)).decisions) →
    (p : ℕ) → Lower (block_of planes) p
lower-of planes h none highest further p =
    let b = block_of planes in
    let small = block-small planes h in
    record {
      none = none b (suc p) h.of.whole small;
      highest = highest b p h.of.whole small;
      further = further b p h.of.whole small;
    }

coded-none : coded [] ≡ start
unfolding coded coded_from
coded-none = refl

-- a coder of no decisions yet
pub coded-start : (e : Encoder) (ds : List Decision) → e ≡ start → ds ≡ [] → e ≡ coded ds
coded-start e ds p q = p ∙ (sym coded-none ∙ ap coded (sym q))

pub flushed-short : (e : Encoder) (ds : List Decision) → e ≡ coded ds → length ds ≤ most_decisions * 32 → length (flushed_bytes e) < 2 ^ 32
flushed-short e ds p few =
    let most = (flushed-length e).most in
    let bytes : length e.registers.bytes ≤ 2 * length ds = rw p (whole-length ds) in
    omega (arith, most, bytes, few)

-- an ending stands on the bytes of any coder that went on from it
pub continues-bytes :
    ((ds later : List Decision) (rest : List ℕ) → Continues ds (reverse (coded_from (coded ds) later).registers.bytes ++ rest) (ending_of (coded ds)))
    → (ds all later : List Decision) (bytes : List ℕ) → all ≡ ds ++ later → bytes ≡ reverse (coded all).registers.bytes → Continues ds bytes (ending_of (coded ds))
continues-bytes law ds all later bytes e f =
    let same : bytes ≡ reverse (coded_from (coded ds) later).registers.bytes =
    f ∙ ap (λ (xs : List Decision). reverse (coded xs).registers.bytes) e ∙ ap (λ (r : Encoder). reverse r.registers.bytes) (coded-append ds later) in
    subst (λ (out : List ℕ). Continues ds out (ending_of (coded ds))) (append-nil _ ∙ sym same) (law ds later [])
