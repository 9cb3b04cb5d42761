-- The sound of a project's frames: 24-bit samples at 48 kHz, mixed of the clips that play in the frame.
use Rattle.std.specs.Prelude.{ℕ, ◌+◌, ◌-◌, ◌*◌, ◌/◌, ◌%◌, ◌^◌, Bool, ◌&&◌, ◌==◌, nat_le, nat_lt, if◌then◌else◌, List, [], ◌∷◌, filter, flat_map, fold, sum_by, slice_index, All, ℤ, pos, negsuc, neg_ℤ, ◌+ℤ◌, ◌-ℤ◌, ◌*ℤ◌}
use Rattle.std.specs.Int.{int_div_euclid, int_max, int_min}
use Rattle.std.specs.List.{range_with_len}
use Rattle.film_project.specs.Facts.{GainFacts, SoundFacts, ProjectFacts, asset_at}
use Rattle.mast_world.specs.Content.{Files, part_of, Reaches}

-- ---- frames

-- the samples of a frame in each channel
abbrev pub samples_of : ProjectFacts → ℕ
samples_of project = 48000 / project.fps

-- the bytes of a frame in so many channels, three a sample
abbrev pub sound_size : ProjectFacts → ℕ → ℕ
sound_size project channels = samples_of project * channels * 3

-- ---- samples: 24 bits in two's complement, the lowest byte first

-- the value of 24 bits
abbrev pub value_of : ℕ → ℤ
value_of bits = if nat_lt bits (2 ^ 23) then pos bits else pos bits -ℤ pos (2 ^ 24)

-- the bits of a value
abbrev pub bits_of : ℤ → ℕ
bits_of (pos n) = n
bits_of (negsuc n) = 2 ^ 24 - 1 - n

-- sample k of these bytes
abbrev pub sample_at : List ℕ → ℕ → ℤ
sample_at bytes k =
    value_of (slice_index bytes (3 * k) + 256 * slice_index bytes (3 * k + 1) + 65536 * slice_index bytes (3 * k + 2))

-- the bytes of a value
abbrev pub sample_bytes : ℤ → List ℕ
sample_bytes value = bits_of value % 256 ∷ bits_of value / 256 % 256 ∷ bits_of value / 65536 % 256 ∷ []

-- ---- clips

-- the clip plays in frame f
abbrev pub plays : SoundFacts → ℕ → Bool
plays clip f = nat_le clip.at f && nat_lt f (clip.at + clip.count)

-- all clips that play in it
abbrev pub playing : ProjectFacts → ℕ → List SoundFacts
playing project f = filter (λ clip. plays clip f) project.sound

-- the bytes of a frame of the clip's file
abbrev pub clip_size : ProjectFacts → SoundFacts → ℕ
clip_size project clip = sound_size project (asset_at project clip.asset).channels

-- what the clip's file has for frame f
abbrev pub clip_frame : Files → ProjectFacts → SoundFacts → ℕ → List ℕ
clip_frame files project clip f =
    let size = clip_size project clip in
    part_of (files (asset_at project clip.asset).file) ((clip.from + (f - clip.at)) * size) size

-- each file that a clip of sound names is there, and as long as the clip needs
abbrev pub AreSoundsThere : Files → ProjectFacts → Type 0
AreSoundsThere files project =
    All (λ clip. Reaches (files (asset_at project clip.asset).file) ((clip.from + clip.count) * clip_size project clip))
    project.sound

-- the bytes that are read for frame f: a frame of each clip that plays
abbrev pub sound_taken : ProjectFacts → ℕ → ℕ
sound_taken project f = sum_by (clip_size project) (playing project f)

-- ---- the mix: sums in units of 1/65536

-- the sum of a part of each
abbrev pub total : {X : Type 0} → (X → ℤ) → List X → ℤ
total part xs = fold (λ sum x. sum +ℤ part x) (pos 0) xs

-- what samples, so many channels in turn, add by these gains to channel `to` of sample i
abbrev pub gained : (ℕ → ℤ) → ℕ → List GainFacts → ℕ → ℕ → ℤ
gained sample channels gains i to =
    total (λ gain. sample (i * channels + gain.from) *ℤ pos gain.gain) (filter (λ gain. gain.to == to) gains)

-- what the clip adds in frame f
abbrev pub clip_part : Files → ProjectFacts → SoundFacts → ℕ → ℕ → ℕ → ℤ
clip_part files project clip f i to =
    gained (sample_at (clip_frame files project clip f)) (asset_at project clip.asset).channels clip.gains i to

-- what all clips add that play
abbrev pub mixed : Files → ProjectFacts → ℕ → ℕ → ℕ → ℤ
mixed files project f i to = total (λ clip. clip_part files project clip f i to) (playing project f)

-- the sample of a sum: rounded down, and then the nearest that 24 bits hold
abbrev pub saturated : ℤ → ℤ
saturated sum = int_max (neg_ℤ (pos 8388608)) (int_min (int_div_euclid sum (pos 65536)) (pos 8388607))

-- ---- the frame

-- for each sample, and for each channel, its bytes
unfoldable pub sound_frame : Files → ProjectFacts → ℕ → List ℕ
sound_frame files project f =
    let bytes = λ (i to : ℕ). sample_bytes (saturated (mixed files project f i to)) in
    flat_map (λ i. flat_map (bytes i) (range_with_len 0 project.channels)) (range_with_len 0 (samples_of project))
