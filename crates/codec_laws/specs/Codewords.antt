-- Words of laws on bytes.
use Rattle.std.specs.Prelude.{◌≡◌, ◌≤◌, ℕ, List, [], ◌∷◌, ⊤}

-- no byte FF stands before one above 8F: no marker begins within these bytes
abbrev pub HasNoMarker : List ℕ → Type 0
HasNoMarker [] = ⊤
HasNoMarker (a ∷ []) = ⊤
HasNoMarker (a ∷ b ∷ bytes) = (a ≡ 0xFF → b ≤ 0x8F) × HasNoMarker (b ∷ bytes)
