-- What is kept of a block's code, ending by ending.
use Rattle.std.proofs.Common.{◌≡◌, ℕ, suc, ◌+◌, ◌-◌, ◌<◌, ◌≤◌, refl, sym, arith, List, [], ◌∷◌, ◌++◌, length, get_or, take}
use Rattle.std.proofs.lemmas.List.FromFn.{length-map-range_with_len, get_or-map-range_with_len, map-range_with_len_more, take-map-range_with_len}
use Rattle.codec_terms.specs.BlockDecisions.{Block, plane_count, decisions}
use Rattle.codec_terms.specs.Mq.{codeword}
use Rattle.mq_coder.specs.declared.ending.Ending.{Ending}
use Rattle.mq_coder.specs.Endings.{Continues}
use Rattle.block_coder.specs.declared.coded.Coded.{Coded}
use Rattle.block_coder.specs.Codes.{ending_at, endings_of, IsCodeOf}

module _ (b : Block) (c : Coded) (h : IsCodeOf b c) (k : ℕ) (within : k < c.planes) where
  pub endings-long : k < length c.endings
  endings-long = rw (h.endings, length-map-range_with_len (λ k. ending_at b (plane_count b - suc k)) 0 (plane_count b), ← h.planes) within

  pub ending-is : (d : Ending) → get_or c.endings k d ≡ ending_at b (c.planes - suc k)
  ending-is d =
      let below : k < plane_count b = rw (← h.planes) within in
      rw (h.endings, h.planes) (get_or-map-range_with_len (λ k. ending_at b (plane_count b - suc k)) 0 (plane_count b) k k d below (omega arith))

  pub ending-continues : (d : Ending) → Continues (decisions b (c.planes - suc k)) c.bytes (get_or c.endings k d)
  ending-continues d = rw (ending-is d) (h.bytes (c.planes - suc k))

  pub length-is : (d : Ending) → (get_or c.endings k d).length ≡ length (codeword (decisions b (c.planes - suc k)))
  unfolding codeword
  length-is d = rw (ending-is d) refl

-- an ending more
pub endings-more : (b : Block) (planes n : ℕ) (before after : List Ending) (ending : Ending) → after ≡ before ++ ending ∷ [] → before ≡ endings_of b planes n
    → ending ≡ ending_at b (planes - suc n) → after ≡ endings_of b planes (n + 1)
endings-more b planes n before after ending e f g =
    rw (e, f, g) (sym (map-range_with_len_more (λ k. ending_at b (planes - suc k)) 0 n n (omega arith)))

-- the endings before more planes were coded
pub endings-earlier : (b : Block) (planes n m : ℕ) (before after : List Ending) → before ≡ endings_of b planes n → after ≡ endings_of b planes m → n ≤ m
    → take n after ≡ before
endings-earlier b planes n m before after e f h =
    rw (e, f) (take-map-range_with_len (λ k. ending_at b (planes - suc k)) 0 m n h)
