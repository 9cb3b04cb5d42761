-- A code-block's decisions, bit-plane by bit-plane: ITU-T T.800 Annex D.3.
use Rattle.std.specs.Prelude.{ℕ, ◌+◌, zero, suc, List, [], ◌++◌}
use Rattle.codec_terms.specs.BlockDecisions.{Block, Walk, propagation, refinement, cleanup, plane_start}
use Rattle.codec_terms.specs.Mq.{Decision}

-- what all three passes of a bit-plane lead to
abbrev pub plane_told : Block → ℕ → Walk → Walk
plane_told b p w = cleanup b p (refinement b p (propagation b p w))

-- the decisions of n bit-planes down to p, each from its own beginning on
abbrev pub planes_decisions : Block → ℕ → ℕ → List Decision
planes_decisions b p zero = []
planes_decisions b p (suc n) = (plane_told b (p + n) (plane_start b (p + n))).decisions ++ planes_decisions b p n

-- those of the block's n highest planes down to p, of which the first has a cleanup pass alone
abbrev pub block_decisions : Block → ℕ → ℕ → List Decision
block_decisions b p zero = []
block_decisions b p (suc n) = (cleanup b (p + n) (plane_start b (p + n))).decisions ++ planes_decisions b p n
