-- States as one number: twice the index of a row of Table C.2, and one more where the more probable symbol is 1.
use Rattle.std.specs.Prelude.{◌≡◌, ℕ, ◌+◌, ◌*◌, ◌/◌, ◌%◌, ◌<◌, ◌==◌, if◌then◌else◌, List, get_or}
use Rattle.codec_terms.specs.Mq.{State, qe_of, is_mps, after_mps, after_lps}
use Rattle.mq_coder.specs.declared.rows.Row.{Row}
use Rattle.mq_coder.specs.declared.rows.Step.{Step}

abbrev pub state_of : ℕ → State
state_of n = record { index = n / 2; mps = n % 2 == 1 }

abbrev pub number_of : State → ℕ
number_of s = 2 * s.index + (if s.mps then 1 else 0)

-- each of the nineteen contexts has a state of the table
abbrev pub HasStates : List ℕ → Type 0
HasStates xs = (k : ℕ) → k < 19 → get_or xs k 0 < 94

-- a row says what Table C.2 says of its state
pub record IsRow (n : ℕ) (r : Row) : Type 0 where
  pub qe : r.qe ≡ qe_of (state_of n)
  pub mps : r.mps ≡ (state_of n).mps
  pub after_mps_is : state_of r.after_mps ≡ after_mps (state_of n)
  pub after_lps_is : state_of r.after_lps ≡ after_lps (state_of n)
  pub mps_state : r.after_mps < 94
  pub lps_state : r.after_lps < 94

-- a step says what Table C.2 says of a bit in a state
pub record IsStep (n bit : ℕ) (s : Step) : Type 0 where
  pub qe : s.qe ≡ qe_of (state_of n)
  pub is_mps_is : s.is_mps ≡ is_mps (bit == 1) (state_of n)
  pub next_is :
      state_of s.next ≡ (if is_mps (bit == 1) (state_of n) then after_mps (state_of n) else after_lps (state_of n))
  pub next_state : s.next < 94
