-- What a reader of a packet header's bits has in front of it.
use Rattle.std.specs.Prelude.{◌≡◌, ◌<◌, ◌≤◌, ℕ, zero, suc, ◌+◌, ◌*◌, ◌^◌, ◌==◌, Bool, if◌then◌else◌, List, ◌∷◌, ◌++◌, length, drop, Ok}
use Rattle.codec_terms.specs.PacketHeader.{packed_into}
use Rattle.codec_terms.specs.PacketReading.{BitPlace, Bits}

-- these bytes stand at a place
pub record StandsAt (bytes : List ℕ) (at : ℕ) (piece : List ℕ) : Type 0 where
  pub rest : List ℕ
  pub is : drop at bytes ≡ piece ++ rest

-- how many bits are to come behind the first one of the byte behind this one
abbrev pub bits_behind : ℕ → ℕ
bits_behind byte = if byte == 255 then 6 else 7

-- no bit of the byte in hand is to come: the bits are packed in the bytes behind it, up to `end`
pub record AtByte (bytes : List ℕ) (p : BitPlace) (bits : List Bool) (end : ℕ) : Type 0 where
  pub stands : StandsAt bytes p.next (packed_into (bits_behind p.byte) 0 bits)
  pub stop : p.next + length (packed_into (bits_behind p.byte) 0 bits) ≡ end

-- the lowest suc k bits of the byte in hand are to come, and those in front of them say the number high
pub record InByte (bytes : List ℕ) (k : ℕ) (p : BitPlace) (bits : List Bool) (end : ℕ) : Type 0 where
  pub high : ℕ
  pub more : List ℕ
  pub whole : packed_into k (high * 2 ^ suc k) bits ≡ p.byte ∷ more
  pub stands : StandsAt bytes p.next more
  pub stop : p.next + length more ≡ end
  pub few : k < 8
  pub behind : 0 < p.next
  pub inside : p.next ≤ length bytes

abbrev pub IsAheadBy : ℕ → List ℕ → BitPlace → List Bool → ℕ → Type 0
IsAheadBy zero bytes p bits end = AtByte bytes p bits end
IsAheadBy (suc k) bytes p bits end = InByte bytes k p bits end

-- these bits are to come at a place, and are filled up to the place `end`
abbrev pub IsAhead : List ℕ → BitPlace → List Bool → ℕ → Type 0
IsAhead bytes p bits end = IsAheadBy p.left bytes p bits end

-- the place at which a byte begins
abbrev pub start_at : ℕ → BitPlace
start_at at = record { next = at; byte = 0; left = 0 }

-- a step that reads so gives this value, and these bits are still to come
pub record Gives {A : Type 0} (bytes : List ℕ) (step : Bits A) (p : BitPlace) (value : A) (bits : List Bool) (end : ℕ) : Type 0 where
  pub behind : BitPlace
  pub read : step p ≡ Ok (value, behind)
  pub ahead : IsAhead bytes behind bits end
