-- Counts of 64 bits, which rise and stand still at their end.
use Rattle.std.specs.Prelude.{◌≡◌, ℕ, ◌+◌, ◌-◌, ◌^◌, ◌≤◌, min, max, Option, Some, None, Result, Ok, Err}

-- a count after n more; at its end it stands still
abbrev pub counted : ℕ → ℕ → ℕ
counted count n = max count (min (count + n) (2 ^ 64 - 1))

-- a count has risen; one that stands at its end counts as risen
abbrev pub HasRisen : ℕ → ℕ → Type 0
HasRisen before now = counted before 1 ≤ now

-- a count of faults behind a call: it has risen where the call failed, and is as it was where it didn't
abbrev pub IsFaultCount : {T E : Type 0} → ℕ → ℕ → Result T E → Type 0
IsFaultCount before now (Ok _) = now ≡ before
IsFaultCount before now (Err _) = HasRisen before now

-- a count of what was done, after a call that was to do n more
abbrev pub counted_on_ok : {T E : Type 0} → ℕ → ℕ → Result T E → ℕ
counted_on_ok count n (Ok _) = counted count n
counted_on_ok count n (Err _) = count

-- a count of what was not found, after a search
abbrev pub counted_on_none : {T E : Type 0} → ℕ → Result (Option T) E → ℕ
counted_on_none count (Ok None) = counted count 1
counted_on_none count (Ok (Some _)) = count
counted_on_none count (Err _) = count
