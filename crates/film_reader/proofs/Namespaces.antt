-- A text that keeps the rule of a namespace is a UUID.
use Rattle.std.proofs.Common.{◌≡◌, ℕ, ◌+◌, ◌*◌, ◌<◌, ◌≤◌, List, All, length, get_or, slice_index, Bool, true, false, ◌&&◌, ◌==◌, nat_le, Some, refl, ◌∙◌, arith}
use Rattle.std.proofs.lemmas.Bool.{or_parts, not-false}
use Rattle.std.proofs.lemmas.Bool.Decides.{nat_tests}
use Rattle.uuid.specs.Text.{parsed, parsed_hyphenated, has_hyphens, digits_of, is_hex_digit, value_of, byte_of_digits, by_index, hyphen_place, is_hyphen_place}
use Rattle.uuid.proofs.TextLemmas.{by_index_length, by_index_at, simple_some, hyphens_pass}
use Rattle.film_project.specs.Texts.{keeps, fits_uuid, is_lower_hex}
use Rattle.film_project.specs.declared.text_rule.TextRule.TheVariants.{Namespace}
use Rattle.film_project.proofs.Kept.{IsKept, kept_parts, short_of}

hex_lower : (b : ℕ) → is_lower_hex b ≡ true → is_hex_digit b ≡ true
hex_lower b e = rw e

-- each byte fits its place
fits_at : (s : List ℕ) → IsKept Namespace s → (k : ℕ) → k < length s → fits_uuid k (slice_index s k) ≡ true
fits_at s kept k h = not-false _ (or_parts (nat_le 36 k) _ (kept.bytes k h)).1

four : (a b c d : Bool) → a ≡ true → b ≡ true → c ≡ true → d ≡ true → (a && b && c && d) ≡ true
four a b c d p q r t = rw (p, q, r, t)

hex_at : (s : List ℕ) → IsKept Namespace s → length s ≡ 36 → (i : ℕ) → i < 32 → is_hex_digit (slice_index s (hyphen_place i)) ≡ true
hex_at s kept len i h =
    let no_hyphen : is_hyphen_place (hyphen_place i) ≡ false = grind (arith, nat_tests) in
    let within : hyphen_place i < length s = grind (arith, nat_tests) in
    let fits = fits_at s kept (hyphen_place i) within in
    hex_lower (slice_index s (hyphen_place i)) (rw no_hyphen at fits)

at_36 : (s : List ℕ) → length s ≡ 36 → parsed_hyphenated s ≡ parsed s
at_36 s len = rw len refl

-- a text of the rule has 36 bytes
namespace-length : (s : List ℕ) → IsKept Namespace s → length s ≡ 36
namespace-length s kept =
    let most : length s ≤ 36 = short_of Namespace s 36 refl kept in
    let least : 36 ≤ length s = kept.least in
    omega arith

digits_at : (s : List ℕ) → IsKept Namespace s → (k : ℕ) → k < 32 → is_hex_digit (get_or (digits_of s) k 0) ≡ true
digits_at s kept k h = rw (by_index_at 32 (λ i. slice_index s (hyphen_place i)) k 0 h) (hex_at s kept (namespace-length s kept) k h)

-- the bytes of the UUID
abbrev pub namespace_bytes : List ℕ → List ℕ
namespace_bytes s = by_index 16 (byte_of_digits (digits_of s))

pub namespace-parsed : (s : List ℕ) → keeps Namespace s ≡ true → Some (namespace_bytes s) ≡ parsed s
namespace-parsed s keep =
    let kept = kept_parts Namespace s keep in
    let len = namespace-length s kept in
    let hyphens : has_hyphens s ≡ true =
    four (slice_index s 8 == 45) (slice_index s 13 == 45) (slice_index s 18 == 45) (slice_index s 23 == 45)
    (fits_at s kept 8 (omega arith)) (fits_at s kept 13 (omega arith)) (fits_at s kept 18 (omega arith)) (fits_at s kept 23 (omega arith)) in
    simple_some (digits_of s) (namespace_bytes s) (by_index_length 32 _) (by_index_length 16 _) (digits_at s kept)
    (λ i d h. by_index_at 16 (byte_of_digits (digits_of s)) i d h)
    ∙ hyphens_pass s len hyphens ∙ at_36 s len

small_digit : (b : ℕ) → is_hex_digit b ≡ true → value_of b < 16
small_digit b e = grind (arith, nat_tests)

small_byte : (high low : ℕ) → high < 16 → low < 16 → high * 16 + low < 256
small_byte high low h l = omega arith

pub namespace-small : (s : List ℕ) → keeps Namespace s ≡ true → All (λ b. b < 256) (namespace_bytes s)
namespace-small s keep k d h =
    let kept = kept_parts Namespace s keep in
    let within : k < 16 = omega (arith, by_index_length 16 (byte_of_digits (digits_of s))) in
    rw (by_index_at 16 (byte_of_digits (digits_of s)) k d within)
    (small_byte (value_of (slice_index (digits_of s) (2 * k))) (value_of (slice_index (digits_of s) (2 * k + 1)))
    (small_digit (slice_index (digits_of s) (2 * k)) (digits_at s kept (2 * k) (omega arith)))
    (small_digit (slice_index (digits_of s) (2 * k + 1)) (digits_at s kept (2 * k + 1) (omega arith))))
