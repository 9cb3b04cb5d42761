-- Where a clip's frame lies in its file.
use Rattle.std.proofs.Common.{◌≡◌, ℕ, ◌+◌, ◌-◌, ◌*◌, ◌<◌, ◌≤◌, List, Option, Some, None, IsTrue, ap, arith}
use Rattle.std.proofs.lemmas.Nat.{mul-le}
use Rattle.mast_world.specs.Content.{Reaches}
use Rattle.film_project.specs.Facts.{SoundFacts}
use Rattle.pcm_mix.specs.Mix.{plays}

-- a clip that plays in a frame begins there or before, and ends behind it
pub playing_within : (clip : SoundFacts) (f : ℕ) → IsTrue (plays clip f) → (clip.at ≤ f) × (f < clip.at + clip.count)
playing_within clip f h = (grind arith, grind arith)

-- a file that reaches further reaches so far
pub reaches_less : (file : Option (List ℕ)) (less more : ℕ) → less ≤ more → Reaches file more → Reaches file less
reaches_less None less more order far = far
reaches_less (Some bytes) less more order far = omega (arith, order, far)

-- the frame is one of those that the clip needs
pub frame_end : (clip : SoundFacts) (f size index read room : ℕ) → IsTrue (plays clip f) → index ≡ clip.from + (f - clip.at) → read ≡ size → room ≡ size →
    index * read + room ≤ (clip.from + clip.count) * size
frame_end clip f size index read room h is same whole =
    let within = playing_within clip f h in
    let rows : (index + 1) * size ≤ (clip.from + clip.count) * size = mul-le (index + 1) size (clip.from + clip.count) size (omega (arith, is, within.0, within.1)) (omega arith) in
    let start : index * read ≡ index * size = ap (λ n. index * n) same in
    omega (arith, rows, start, whole)
