-- Code values of a picture's pixels: how many, how great, and of raw bytes in two parts.
use Rattle.std.proofs.Common.{◌≡◌, ℕ, zero, suc, ◌+◌, ◌*◌, ◌<◌, refl, sym, ap, subst, arith, ◌∙◌, List, [], ◌∷◌, ◌++◌, length, take, drop, All}
use Rattle.std.proofs.lemmas.List.{take_at}
use Rattle.std.proofs.lemmas.List.Elements.{All-nil, All-cons}
use Rattle.codec_terms.specs.Colour.{Weights, code_value, xyz_value, xyz_plane}
use Rattle.codec_terms.proofs.ColourLaws.{code_value-greatest}

abbrev pub IsCode : ℕ → Type 0
IsCode n = n < 4096

IsCode-code_value : (v : ℕ) → IsCode (code_value v)
unfolding code_value
IsCode-code_value zero = omega arith
IsCode-code_value (suc v) = (code_value-greatest v).below

All-xyz_plane : (power : ℕ) (w : Weights) (raw : List ℕ) → All IsCode (xyz_plane power w raw)
unfolding xyz_plane
All-xyz_plane power w [] = All-nil IsCode
All-xyz_plane power w (r1 ∷ []) = All-nil IsCode
All-xyz_plane power w (r1 ∷ r0 ∷ []) = All-nil IsCode
All-xyz_plane power w (r1 ∷ r0 ∷ g1 ∷ []) = All-nil IsCode
All-xyz_plane power w (r1 ∷ r0 ∷ g1 ∷ g0 ∷ []) = All-nil IsCode
All-xyz_plane power w (r1 ∷ r0 ∷ g1 ∷ g0 ∷ b1 ∷ []) = All-nil IsCode
All-xyz_plane power w (r1 ∷ r0 ∷ g1 ∷ g0 ∷ b1 ∷ b0 ∷ raw) =
    All-cons IsCode (xyz_value power w (r1 * 256 + r0) (g1 * 256 + g0) (b1 * 256 + b0)) (xyz_plane power w raw)
    (IsCode-code_value _) (All-xyz_plane power w raw)

pub length-xyz_plane : (power : ℕ) (w : Weights) (n : ℕ) (raw : List ℕ) → length raw ≡ 6 * n → length (xyz_plane power w raw) ≡ n
unfolding xyz_plane
length-xyz_plane power w zero [] whole = refl
length-xyz_plane power w zero (r1 ∷ raw) whole = absurd (omega arith)
length-xyz_plane power w (suc n) [] whole = absurd (omega arith)
length-xyz_plane power w (suc n) (r1 ∷ []) whole = absurd (omega arith)
length-xyz_plane power w (suc n) (r1 ∷ r0 ∷ []) whole = absurd (omega arith)
length-xyz_plane power w (suc n) (r1 ∷ r0 ∷ g1 ∷ []) whole = absurd (omega arith)
length-xyz_plane power w (suc n) (r1 ∷ r0 ∷ g1 ∷ g0 ∷ []) whole = absurd (omega arith)
length-xyz_plane power w (suc n) (r1 ∷ r0 ∷ g1 ∷ g0 ∷ b1 ∷ []) whole = absurd (omega arith)
length-xyz_plane power w (suc n) (r1 ∷ r0 ∷ g1 ∷ g0 ∷ b1 ∷ b0 ∷ raw) whole = ap suc (length-xyz_plane power w n raw (omega arith))

pub xyz_plane-append : (power : ℕ) (w : Weights) (n : ℕ) (raw more : List ℕ) → length raw ≡ 6 * n → xyz_plane power w (raw ++ more) ≡ xyz_plane power w raw ++ xyz_plane power w more
unfolding xyz_plane
xyz_plane-append power w zero [] more whole = refl
xyz_plane-append power w zero (r1 ∷ raw) more whole = absurd (omega arith)
xyz_plane-append power w (suc n) [] more whole = absurd (omega arith)
xyz_plane-append power w (suc n) (r1 ∷ []) more whole = absurd (omega arith)
xyz_plane-append power w (suc n) (r1 ∷ r0 ∷ []) more whole = absurd (omega arith)
xyz_plane-append power w (suc n) (r1 ∷ r0 ∷ g1 ∷ []) more whole = absurd (omega arith)
xyz_plane-append power w (suc n) (r1 ∷ r0 ∷ g1 ∷ g0 ∷ []) more whole = absurd (omega arith)
xyz_plane-append power w (suc n) (r1 ∷ r0 ∷ g1 ∷ g0 ∷ b1 ∷ []) more whole = absurd (omega arith)
xyz_plane-append power w (suc n) (r1 ∷ r0 ∷ g1 ∷ g0 ∷ b1 ∷ b0 ∷ raw) more whole =
    ap (λ codes. xyz_value power w (r1 * 256 + r0) (g1 * 256 + g0) (b1 * 256 + b0) ∷ codes) (xyz_plane-append power w n raw more (omega arith))

pub All-codes : (power : ℕ) (w : Weights) (raw codes : List ℕ) → codes ≡ xyz_plane power w raw → All IsCode codes
All-codes power w raw codes e = subst (λ (list : List ℕ). All IsCode list) (sym e) (All-xyz_plane power w raw)

-- the codes in a vector that has them in front of what it had
pub held : (list new old codes : List ℕ) (len : ℕ) → list ≡ take len (new ++ drop (length new) old) → length new ≡ len → new ≡ codes → list ≡ codes
held list new old codes len e size is = e ∙ take_at new (drop (length new) old) len size ∙ is
