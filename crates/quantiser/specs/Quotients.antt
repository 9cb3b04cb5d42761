-- Samples divided by a step.
use Rattle.std.specs.Prelude.{◌≡◌, ℕ, ◌/◌, ◌<◌, List, ℤ, pos, unsigned_abs, min, slice_index, slice_index_or}
use Rattle.codec_terms.specs.Quantiser.{with_sign_of}
use Rattle.quantiser.specs.Signed.{signed_value}

-- the whole steps in a sample, with its sign
abbrev pub divided : ℕ → ℤ → ℤ
divided step v = with_sign_of v (unsigned_abs v / step)

-- the first words are what f gives of the values beside them
abbrev pub AreDone : (ℤ → ℤ) → ℕ → List ℤ → List ℕ → Type 0
AreDone f count values words =
    (k : ℕ) → k < count → signed_value (slice_index words k) ≡ f (slice_index_or values k (pos 0))

-- what the lowest sub-band gives of a sample
abbrev pub lowest_quantised : ℤ → ℤ
lowest_quantised v = with_sign_of v (min (unsigned_abs v / 2048) 16383)
