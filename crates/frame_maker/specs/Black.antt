-- Black pictures, which are encoded once.
use Rattle.std.specs.Prelude.{◌≡◌, ◌≤◌, ℕ, List, length, replicate}
use Rattle.codec_terms.specs.declared.picture.Params.{Params}
use Rattle.codec_terms.specs.declared.picture.Task.{Task}
use Rattle.codec_terms.specs.Encode.{encoding}

-- all its samples are zero
abbrev pub IsBlack : Task → Type 0
IsBlack task = task.raw ≡ replicate (length task.raw) 0

-- the bytes are the codestream of each black picture that is encoded like this
pub record IsEncodedBlack (params : Params) (bytes : List ℕ) : Type 0 where
  pub encoded : (task : Task) → task.params ≡ params → IsBlack task → bytes ≡ encoding task
  pub short : length bytes ≤ params.limits.frame
