-- The coding passes of a code-block, in their order: ITU-T T.800 Annex D.3.
--     passes_down_to p n     the passes of n bit-planes, of which p is the lowest and the first is the
--         block's highest
--     pass_count n           how many they are
-- An encoder makes them all. A decoder takes the first of those of all planes, as many as a packet has.
use Rattle.std.specs.Prelude.{ℕ, zero, suc, ◌+◌, ◌-◌, ◌*◌, List, [], ◌∷◌}

pub data Pass : Type 0 where
  Propagation : Pass
  Refinement : Pass
  Cleanup : Pass

-- all three passes of each of n bit-planes, the highest first and p the lowest
unfoldable pub further_passes : ℕ → ℕ → List (ℕ × Pass)
further_passes p zero = []
further_passes p (suc n) =
    (p + n, Propagation) ∷ (p + n, Refinement) ∷ (p + n, Cleanup) ∷ further_passes p n

-- the block's highest bit-plane has a cleanup pass alone
unfoldable pub passes_down_to : ℕ → ℕ → List (ℕ × Pass)
passes_down_to p zero = []
passes_down_to p (suc n) = (p + n, Cleanup) ∷ further_passes p n

-- how many passes n bit-planes have
abbrev pub pass_count : ℕ → ℕ
pass_count n = 3 * n - 2
