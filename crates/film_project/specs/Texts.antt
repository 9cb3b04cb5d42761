-- The rules of texts: where a text first breaks its rule.
use Rattle.std.specs.Prelude.{ℕ, zero, suc, ◌+◌, ◌-◌, ◌*◌, ◌==◌, ◌&&◌, ◌||◌, not, nat_lt, nat_le, Bool, false, if◌then◌else◌, List, [], ◌∷◌, length, slice_index, codes, Option, Some, None, is_none, is_ok}
use Rattle.std.specs.Option.{option_or}
use Rattle.std.specs.List.{list_any}
use Rattle.std.specs.Str.{bytes_eq}
use Rattle.jiff.specs.Words.{parse_datetime}
use Rattle.film_project.specs.declared.text_rule.TextRule.{TextRule}
use Rattle.film_project.specs.declared.text_rule.TextRule.TheVariants.{Title, ContentKind, Issued, Namespace, Id, AssetKind, File, AnyText}

-- 20 to 7E (hexadecimal)
abbrev pub is_printable : ℕ → Bool
is_printable b = nat_le 0x20 b && nat_le b 0x7E

abbrev pub is_digit : ℕ → Bool
is_digit b = nat_le 48 b && nat_le b 57

abbrev pub is_letter : ℕ → Bool
is_letter b = (nat_le 65 b && nat_le b 90) || (nat_le 97 b && nat_le b 122)

-- a hexadecimal digit in lower case
abbrev pub is_lower_hex : ℕ → Bool
is_lower_hex b = is_digit b || (nat_le 97 b && nat_le b 102)

-- letters, digits, `.`, `_` and `-`
abbrev pub is_name_byte : ℕ → Bool
is_name_byte b = is_letter b || is_digit b || (b == 46) || (b == 95) || (b == 45)

-- a part of a path begins at i, and a part ends before i
abbrev pub begins_part : List ℕ → ℕ → Bool
begins_part s i = (i == 0) || (slice_index s (i - 1) == 47)

abbrev pub ends_part : List ℕ → ℕ → Bool
ends_part s i = (i == length s) || (slice_index s i == 47)

-- a part `..` begins at i
abbrev pub begins_dots : List ℕ → ℕ → Bool
begins_dots s i =
    begins_part s i && (slice_index s i == 46) && (slice_index s (i + 1) == 46) && ends_part s (i + 2)

-- YYYY-MM-DDThh:mm:ss, the date and time of RFC 3339, section 5.6, without its offset
abbrev pub fits_date : ℕ → ℕ → Bool
fits_date i b =
    if (i == 4) || (i == 7) then b == 45
    else if i == 10 then b == 84
    else if (i == 13) || (i == 16) then b == 58
    else is_digit b

-- the text of a UUID (RFC 9562, section 4), in lower case: its hyphens stand at 8, 13, 18 and 23
abbrev pub fits_uuid : ℕ → ℕ → Bool
fits_uuid i b = if (i == 8) || (i == 13) || (i == 18) || (i == 23) then b == 45 else is_lower_hex b

-- the least and the greatest length
abbrev pub least_length : TextRule → ℕ
least_length Title = 1
least_length ContentKind = 0
least_length Issued = 19
least_length Namespace = 36
least_length Id = 1
least_length AssetKind = 0
least_length File = 1
least_length AnyText = 0

-- a path has `/` between its parts; it does not begin with one, and no part is `..`
abbrev pub offends_file : List ℕ → ℕ → Bool
offends_file s i =
    nat_le 200 i || not (is_name_byte (slice_index s i) || (slice_index s i == 47))
    || ((i == 0) && (slice_index s i == 47)) || begins_dots s i

-- the byte at i may not stand there
abbrev pub offends : TextRule → List ℕ → ℕ → Bool
offends Title s i = nat_le 100 i || not (is_printable (slice_index s i))
offends ContentKind s i = false
offends Issued s i = nat_le 19 i || not (fits_date i (slice_index s i))
offends Namespace s i = nat_le 36 i || not (fits_uuid i (slice_index s i))
offends Id s i = nat_le 40 i || not (is_name_byte (slice_index s i))
offends AssetKind s i = false
offends File s i = offends_file s i
offends AnyText s i = false

-- the first of n places from i on that passes the test
abbrev pub first_place : (ℕ → Bool) → ℕ → ℕ → Option ℕ
first_place test i zero = None
first_place test i (suc n) = if test i then Some i else first_place test (i + 1) n

abbrev pub is_one_of : List (List ℕ) → List ℕ → Bool
is_one_of words s = list_any (λ word. bytes_eq word s) words

-- the kinds of content, and of assets
abbrev pub content_kinds : List (List ℕ)
content_kinds =
    codes "feature" ∷ codes "trailer" ∷ codes "test" ∷ codes "teaser" ∷ codes "rating" ∷ codes "advertisement" ∷ codes "short"
    ∷ codes "transitional" ∷ codes "psa" ∷ codes "policy" ∷ []

abbrev pub asset_kinds : List (List ℕ)
asset_kinds = codes "rgb48" ∷ codes "ppm" ∷ codes "j2c" ∷ codes "pcm24" ∷ []

-- two digits at i, as a number
abbrev pub two_digits : List ℕ → ℕ → ℕ
two_digits s i = (slice_index s i - 48) * 10 + (slice_index s (i + 1) - 48)

-- the year is 1900 or later, the second is 59 or less, and `jiff` reads the date
abbrev pub date_place : List ℕ → Option ℕ
date_place s =
    if nat_lt (two_digits s 0) 19 then Some 0
    else if nat_lt 59 (two_digits s 17) then Some 17
    else if is_ok (parse_datetime s) then None
    else Some 0

abbrev pub word_place : Bool → Option ℕ
word_place known = if known then None else Some 0

-- what is asked of a text whose bytes and length are right
abbrev pub meaning_place : TextRule → List ℕ → Option ℕ
meaning_place Title s = None
meaning_place ContentKind s = word_place (is_one_of content_kinds s)
meaning_place Issued s = date_place s
meaning_place Namespace s = None
meaning_place Id s = None
meaning_place AssetKind s = word_place (is_one_of asset_kinds s)
meaning_place File s = None
meaning_place AnyText s = None

abbrev pub short_place : TextRule → List ℕ → Option ℕ
short_place rule s = if nat_lt (length s) (least_length rule) then Some (length s) else None

-- the first offending byte, or the length of a text that is too short
abbrev pub text_place : TextRule → List ℕ → Option ℕ
text_place rule s =
    option_or (first_place (offends rule s) 0 (length s)) (option_or (short_place rule s) (meaning_place rule s))

-- the text keeps its rule
abbrev pub keeps : TextRule → List ℕ → Bool
keeps rule s = is_none (text_place rule s)
