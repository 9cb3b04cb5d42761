-- Lists of samples and of sums, with the channels of a frame in turn.
use Rattle.std.specs.Prelude.{◌≡◌, ℕ, ◌+◌, ◌*◌, ◌^◌, ◌<◌, ◌≤◌, List, slice_index_or, ℤ, pos, ◌+ℤ◌, unsigned_abs}

abbrev pub value_at : List ℤ → ℕ → ℤ
value_at values k = slice_index_or values k (pos 0)

-- samples of 24 bits
abbrev pub AreSamples : List ℤ → Type 0
AreSamples samples = (k : ℕ) → unsigned_abs (value_at samples k) ≤ 2 ^ 23

-- the sum of channel `to` of sample i
abbrev pub sum_at : ℕ → List ℤ → ℕ → ℕ → ℤ
sum_at channels sums i to = value_at sums (i * channels + to)

-- no sum is further from 0
abbrev pub AreWithin : ℕ → ℕ → ℕ → List ℤ → Type 0
AreWithin most count channels sums =
    (i to : ℕ) → i < count → to < channels → unsigned_abs (sum_at channels sums i to) ≤ most

-- each sum has grown by what belongs to its sample and channel
abbrev pub AreRaised : (ℕ → ℕ → ℤ) → ℕ → ℕ → List ℤ → List ℤ → Type 0
AreRaised part count channels before now =
    (i to : ℕ) → i < count → to < channels → sum_at channels now i to ≡ sum_at channels before i to +ℤ part i to

-- each sum is what belongs to its sample and channel
abbrev pub AreSums : (ℕ → ℕ → ℤ) → ℕ → ℕ → List ℤ → Type 0
AreSums part count channels sums = (i to : ℕ) → i < count → to < channels → sum_at channels sums i to ≡ part i to
