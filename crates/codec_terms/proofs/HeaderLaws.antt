-- The bytes of a header's bits don't end with FF.
use Rattle.std.proofs.Common.{◌≡◌, ◌≢◌, ℕ, ◌+◌, ◌*◌, ◌^◌, ◌<◌, ◌≤◌, refl, arith, zero, suc, List, [], ◌∷◌, Bool, true, false}
use Rattle.std.specs.Prelude.{◌==◌, if◌then◌else◌}
use Rattle.std.specs.Int.{from_bool}
use Rattle.std.proofs.lemmas.Bool.{ne_eqb}
use Rattle.std.proofs.lemmas.Nat.{pow_pos}
use Rattle.std.proofs.Math.Nat.{pow-succ'}
use Rattle.codec_terms.specs.PacketHeader.{packed_into, packed, ends_with_ff}

-- a byte in front of others ends with FF only where they do, or where there are none
in_front : (a : ℕ) (bytes : List ℕ) → (bytes ≡ [] → (a == 255) ≡ false) → ends_with_ff bytes ≡ false → ends_with_ff (a ∷ bytes) ≡ false
unfolding ends_with_ff
in_front a [] alone rest = alone refl
in_front a (b ∷ bytes) alone rest = rest

begun : (byte : ℕ) (bytes : List ℕ) → (byte ∷ bytes) ≢ []
begun byte bytes = λ e. cc

-- a byte that was begun is written
not_empty : (k byte : ℕ) (bits : List Bool) → k < 7 → packed_into k byte bits ≢ []
unfolding packed_into
not_empty k byte [] small = rw (ne_eqb k 7 (λ e. omega arith)) (begun byte [])
not_empty zero byte (bit ∷ bits) small = begun _ _
not_empty (suc k) byte (bit ∷ bits) small = not_empty k _ bits (omega arith)

behind_ff : (full : Bool) (bits : List Bool) → packed_into (if full then 6 else 7) 0 bits ≡ [] → full ≡ false
behind_ff true bits e = absurd (not_empty 6 0 bits (omega arith) e)
behind_ff false bits e = refl

-- a byte with a free bit isn't FF
last : (t : Bool) (byte : ℕ) → byte < 255 → ends_with_ff (if t then [] else byte ∷ []) ≡ false
unfolding ends_with_ff
last true byte small = refl
last false byte small = ne_eqb byte 255 (λ e. omega arith)

start_of : (t : Bool) → 0 + 2 ^ suc (if t then 6 else 7) ≤ 256
start_of true = omega arith
start_of false = omega arith

room : (k byte : ℕ) (bit : Bool) → byte + 2 ^ suc (suc k) ≤ 256 → byte + from_bool bit * 2 ^ suc k + 2 ^ suc k ≤ 256
room k byte true fits = omega (arith, pow-succ' 2 (suc k))
room k byte false fits = omega (arith, pow-succ' 2 (suc k))

packed_into-ends : (k byte : ℕ) (bits : List Bool) → byte + 2 ^ suc k ≤ 256 → ends_with_ff (packed_into k byte bits) ≡ false
unfolding packed_into
packed_into-ends k byte [] fits = last (k == 7) byte (omega (arith, pow-succ' 2 k, pow_pos k))
packed_into-ends zero byte (bit ∷ bits) fits =
    let full : ℕ = byte + from_bool bit in
    in_front full _ (behind_ff (full == 255) bits) (packed_into-ends (if full == 255 then 6 else 7) 0 bits (start_of (full == 255)))
packed_into-ends (suc k) byte (bit ∷ bits) fits = packed_into-ends k (byte + from_bool bit * 2 ^ suc k) bits (room k byte bit fits)

pub packed-ends : (bits : List Bool) → ends_with_ff (packed bits) ≡ false
packed-ends bits = packed_into-ends 7 0 bits (omega arith)
