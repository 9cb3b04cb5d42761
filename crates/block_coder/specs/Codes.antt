-- What is kept of a block's code.
use Rattle.std.specs.Prelude.{◌≡◌, ◌<◌, ◌≤◌, ℕ, suc, ◌-◌, ◌*◌, List, map, length}
use Rattle.std.specs.List.{range_with_len}
use Rattle.codec_terms.specs.BlockDecisions.{Block, plane_count, decisions}
use Rattle.codec_terms.specs.Mq.{State, Encoder, coded}
use Rattle.mq_coder.specs.declared.ending.Ending.{Ending}
use Rattle.mq_coder.specs.Endings.{ending_of, Continues}
use Rattle.block_coder.specs.declared.coded.Coded.{Coded}

-- the most decisions of a bit-plane: ten for each column of a stripe in each of its passes
abbrev pub most_decisions : ℕ
most_decisions = 7680

-- the ending of the decisions down to bit-plane p
abbrev pub ending_at : Block → ℕ → Ending
ending_at b p = ending_of (coded (decisions b p))

-- an ending for each of the n highest bit-planes, of which the block has planes
abbrev pub endings_of : Block → ℕ → ℕ → List Ending
endings_of b planes n = map (λ k. ending_at b (planes - suc k)) (range_with_len 0 n)

-- the n highest of a block's planes are coded: these are their endings, and e is the coder behind them
pub record HasCoded (b : Block) (planes n : ℕ) (endings : List Ending) (e : Encoder) : Type 0 where
  pub endings_are : endings ≡ endings_of b planes n
  pub coder_is : e ≡ coded (decisions b (planes - n))
  pub few : length (decisions b (planes - n)) ≤ most_decisions * n

-- an ending for each of the block's planes, all on the same bytes
pub record IsCodeOf (b : Block) (c : Coded) : Type 0 where
  pub planes : c.planes ≡ plane_count b
  pub endings : c.endings ≡ endings_of b (plane_count b) (plane_count b)
  pub bytes : (p : ℕ) → Continues (decisions b p) c.bytes (ending_at b p)

-- ---- a block that is coded from its highest bit-plane down to some plane

-- the number of its bit-planes, an ending for each that is coded, the bytes that came out, and the contexts' states
pub record Progress : Type 0 where
  pub planes : ℕ
  pub endings : List Ending
  pub bytes : List ℕ
  pub states : List State

-- the lowest bit-plane that is coded, and the number of them all where none is
abbrev pub lowest_of : Progress → ℕ
lowest_of c = c.planes - length c.endings

-- the same of its highest planes, with what a coder goes on from below them
pub record IsPartOfCode (b : Block) (c : Progress) : Type 0 where
  pub planes : c.planes ≡ plane_count b
  pub within : length c.endings ≤ c.planes
  pub endings : c.endings ≡ endings_of b c.planes (length c.endings)
  pub bytes : (p : ℕ) → lowest_of c ≤ p → Continues (decisions b p) c.bytes (ending_at b p)
  pub states : 0 < length c.endings → c.states ≡ (coded (decisions b (lowest_of c))).states
  pub few : length (decisions b (lowest_of c)) ≤ most_decisions * length c.endings
