-- What holds of the encoder's registers at every moment.
use Rattle.std.specs.Prelude.{◌≡◌, ℕ, ◌+◌, ◌*◌, ◌^◌, ◌<◌, ◌≤◌, List, [], ◌∷◌}
use Rattle.codec_terms.specs.Mq.{Registers, last_byte}

-- a byte behind FF is at most 8F; the last byte first
unfoldable pub Clean : List ℕ → Type 0
Clean [] = Unit {0}
Clean (b ∷ bs) = (b ≤ 0xFF) × (last_byte bs ≡ 0xFF → b ≤ 0x8F) × Clean bs

-- a byte behind FF has room for what is still to come
unfoldable pub Carries : List ℕ → ℕ → Type 0
Carries [] n = n ≤ 0x8000000
Carries (b ∷ bs) n = last_byte bs ≡ 0xFF → b * 0x8000000 + n ≤ 0x90 * 0x8000000

-- an interval of width w above c, ct doublings before its next byte
pub record Sound (w : ℕ) (bytes : List ℕ) (c ct : ℕ) : Type 0 where
  pub positive : 0 < w
  pub within : (c + w) * 2 ^ ct ≤ 0x9000000
  pub carries : Carries bytes ((c + w) * 2 ^ ct)
  pub clean : Clean bytes

pub record Valid (r : Registers) : Type 0 where
  pub sound : Sound r.a r.bytes r.c r.ct
  pub before_byte : 0 < r.ct
  pub shifts : r.ct ≤ 12
  pub narrow : r.a < 2 ^ 16

-- between decisions
pub record Ready (r : Registers) : Type 0 where
  pub valid : Valid r
  pub high : 0x8000 ≤ r.a
