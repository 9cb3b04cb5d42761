-- The tables of contexts, at each of their 256 entries, by computing.
use Rattle.std.proofs.Common.{◌≡◌, ℕ, zero, suc, ◌+◌, ◌*◌, ◌<◌, Bool, true, ◌&&◌, get_or, List, refl, arith, inl, inr}
use Rattle.std.specs.Prelude.{◌==◌}
use Rattle.std.specs.Int.{from_bool}
use Rattle.std.proofs.lemmas.Bool.{cases_eq, and_parts, eqb-true}
use Rattle.codec_terms.specs.declared.picture.BandKind.{BandKind}
use Rattle.codec_terms.specs.declared.picture.BandKind.TheVariants.{LL, HL, LH, HH}
use Rattle.codec_terms.specs.Contexts.{zero_context, sign_context}
use Rattle.block_contexts.specs.Words.{horizontal_of, vertical_of, diagonal_of, horizontal_sign_of, vertical_sign_of}
use Rattle.block_contexts.specs.declared.zero.TheConstants.{LOW, TURNED, HIGH}
use Rattle.block_contexts.specs.declared.sign.TheConstants.{SIGNS}

entries : (ℕ → ℕ) → List ℕ → ℕ → Bool
entries f table zero = true
entries f table (suc n) = (get_or table n 0 == f n) && entries f table n

entry-below : (f : ℕ → ℕ) (table : List ℕ) (n i : ℕ) → entries f table n ≡ true → i < n → get_or table i 0 ≡ f i
unfolding entries
entry-below f table zero i h p = absurd (omega arith)
entry-below f table (suc n) i h p =
    let both = and_parts (get_or table n 0 == f n) (entries f table n) h in
    elim (cases_eq i n) [
      | inl e ↦ rw e (eqb-true (get_or table n 0) (f n) both.0)
      | inr e ↦ entry-below f table n i both.1 (omega arith)
    ]

-- twice the zero context that a word tells, and twice the context of the sign and one more where it flips
abbrev pub zero_code_of : BandKind → ℕ → ℕ
zero_code_of kind w = 2 * zero_context kind (horizontal_of w) (vertical_of w) (diagonal_of w)

abbrev pub sign_code_of : ℕ → ℕ → ℕ
sign_code_of s w =
    2 * (sign_context (horizontal_sign_of s w) (vertical_sign_of s w)).context
    + from_bool (sign_context (horizontal_sign_of s w) (vertical_sign_of s w)).flips

pub low-LL : (w : ℕ) → w < 256 → get_or LOW w 0 ≡ zero_code_of LL w
unfolding entries zero_context
low-LL w p = entry-below (zero_code_of LL) LOW 256 w refl p

pub turned-HL : (w : ℕ) → w < 256 → get_or TURNED w 0 ≡ zero_code_of HL w
unfolding entries zero_context
turned-HL w p = entry-below (zero_code_of HL) TURNED 256 w refl p

pub low-LH : (w : ℕ) → w < 256 → get_or LOW w 0 ≡ zero_code_of LH w
unfolding zero_context
low-LH w p = low-LL w p

pub high-HH : (w : ℕ) → w < 256 → get_or HIGH w 0 ≡ zero_code_of HH w
unfolding entries zero_context
high-HH w p = entry-below (zero_code_of HH) HIGH 256 w refl p

pub signs-are : (w : ℕ) → w < 256 → get_or SIGNS w 0 ≡ sign_code_of 4 w
unfolding entries sign_context
signs-are w p = entry-below (sign_code_of 4) SIGNS 256 w refl p
