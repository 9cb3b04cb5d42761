-- Texts that keep a rule are ASCII.
use Rattle.std.proofs.Common.{◌≡◌, ◌≢◌, ℕ, zero, suc, ◌<◌, List, [], ◌∷◌, length, get_or, slice_index, Bool, true, false, not, ◌&&◌, ◌||◌, ◌==◌, nat_le, nat_lt, None, refl, arith}
use Rattle.std.proofs.lemmas.Bool.{or_parts, and_parts, not-false}
use Rattle.std.proofs.lemmas.Bool.Decides.{nat_tests}
use Rattle.std.proofs.lemmas.Str.{IsUtf8-from_ascii}
use Rattle.std.proofs.lemmas.Str.Ascii.{IsAscii-from_reads}
use Rattle.std.specs.Str.{IsAscii, IsUtf8}
use Rattle.film_project.specs.Texts.{keeps, offends_file, begins_dots, is_printable, is_name_byte, fits_date, fits_uuid, content_kinds, asset_kinds, word_place}
use Rattle.film_project.specs.declared.text_rule.TextRule.{TextRule}
use Rattle.film_project.specs.declared.text_rule.TextRule.TheVariants.{Title, ContentKind, Issued, Namespace, Id, AssetKind, File, AnyText}
use Rattle.film_project.proofs.Ids.{word_passes}
use Rattle.film_project.proofs.Kept.{IsKept, kept_parts}

-- ---- the bytes that the rules allow

printable_small : (b : ℕ) → is_printable b ≡ true → b < 128
printable_small b e = grind (arith, nat_tests)

name_small : (b : ℕ) → is_name_byte b ≡ true → b < 128
name_small b e = grind (arith, nat_tests)

date_small : (i b : ℕ) → fits_date i b ≡ true → b < 128
date_small i b e = grind (arith, nat_tests)

uuid_small : (i b : ℕ) → fits_uuid i b ≡ true → b < 128
uuid_small i b e = grind (arith, nat_tests)

path_small : (b : ℕ) → (is_name_byte b || (b == 47)) ≡ true → b < 128
path_small b e = grind (arith, nat_tests)

-- ---- words of a list

all_small : List ℕ → Bool
all_small [] = true
all_small (b ∷ bs) = nat_lt b 128 && all_small bs

small_head : (b : ℕ) → nat_lt b 128 ≡ true → b < 128
small_head b e = grind (arith, nat_tests)

small_reads : (bs : List ℕ) → all_small bs ≡ true → (k : ℕ) → k < length bs → get_or bs k 0 < 128
unfolding all_small
small_reads [] e k h = absurd (omega arith)
small_reads (b ∷ bs) e zero h = small_head b (and_parts (nat_lt b 128) (all_small bs) e).0
small_reads (b ∷ bs) e (suc k) h = small_reads bs (and_parts (nat_lt b 128) (all_small bs) e).1 k (omega arith)

pub known : (b : Bool) → word_place b ≡ None → b ≡ true
known true e = refl
known false e = absurd (cc)

-- ---- each rule

-- a byte of a path
pub path_at : (s : List ℕ) (k : ℕ) → offends_file s k ≡ false → (is_name_byte (slice_index s k) || (slice_index s k == 47)) ≡ true
path_at s k e =
    let x = slice_index s k in
    let far = nat_le 200 k in
    let bad = not (is_name_byte x || (x == 47)) in
    let first = (k == 0) && (x == 47) in
    let none : (far || bad || first) ≡ false = (or_parts (far || bad || first) (begins_dots s k) e).0 in
    let neither : (far || bad) ≡ false = (or_parts (far || bad) first none).0 in
    not-false (is_name_byte x || (x == 47)) (or_parts far bad neither).1

pub kept-ascii : (rule : TextRule) (s : List ℕ) → rule ≢ AnyText → IsKept rule s → IsAscii s
unfolding all_small
kept-ascii Title s ruled kept =
    IsAscii-from_reads s (length s) (omega arith) (λ k h. printable_small (slice_index s k) (not-false _ (or_parts (nat_le 100 k) _ (kept.bytes k h)).1))
kept-ascii ContentKind s ruled kept =
    IsAscii-from_reads s (length s) (omega arith) (small_reads s (word_passes all_small content_kinds s refl (known _ kept.meaning)))
kept-ascii Issued s ruled kept =
    IsAscii-from_reads s (length s) (omega arith) (λ k h. date_small k (slice_index s k) (not-false _ (or_parts (nat_le 19 k) _ (kept.bytes k h)).1))
kept-ascii Namespace s ruled kept =
    IsAscii-from_reads s (length s) (omega arith) (λ k h. uuid_small k (slice_index s k) (not-false _ (or_parts (nat_le 36 k) _ (kept.bytes k h)).1))
kept-ascii Id s ruled kept =
    IsAscii-from_reads s (length s) (omega arith) (λ k h. name_small (slice_index s k) (not-false _ (or_parts (nat_le 40 k) _ (kept.bytes k h)).1))
kept-ascii AssetKind s ruled kept =
    IsAscii-from_reads s (length s) (omega arith) (small_reads s (word_passes all_small asset_kinds s refl (known _ kept.meaning)))
kept-ascii File s ruled kept =
    IsAscii-from_reads s (length s) (omega arith) (λ k h. path_small (slice_index s k) (path_at s k (kept.bytes k h)))
kept-ascii AnyText s ruled kept = absurd (ruled refl)

pub kept-utf8 : (rule : TextRule) (s : List ℕ) → rule ≢ AnyText → keeps rule s ≡ true → IsUtf8 s
kept-utf8 rule s ruled e = IsUtf8-from_ascii s (kept-ascii rule s ruled (kept_parts rule s e))
