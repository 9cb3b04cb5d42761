-- How long the canonical text is.
use Rattle.std.proofs.Common.{All, ◌≡◌, ℕ, suc, ◌+◌, ◌*◌, ◌^◌, ◌<◌, ◌≤◌, ◌==◌, List, [], ◌∷◌, ◌++◌, map, length, length-append, get_or, slice_index, Bool, true, false, ◌||◌, nat_lt, nat_le, cond, decimal, refl, arith}
use Rattle.std.specs.List.{flat_map}
use Rattle.std.proofs.Math.Nat.{mul-suc}
use Rattle.std.proofs.lemmas.Bool.{or_parts, not-false, leb-true}
use Rattle.std.proofs.lemmas.Bool.Decides.{nat_tests}
use Rattle.std.proofs.lemmas.Fmt.{length-decimal-le}
use Rattle.json.specs.Print.{escape_byte, quoted}
use Rattle.serde_json.specs.Data.{Data, Members, member}
use Rattle.serde_json.specs.View.{items_of}
use Rattle.serde_json.specs.Written.{compact_text, items_text, members_text, comma_if}
use Rattle.uuid.specs.Text.{hyphenated_text, lower}
use Rattle.uuid.proofs.TextLemmas.{by_index_length}
use Rattle.film_project.specs.Canonical.{kind_word}
use Rattle.film_project.specs.Texts.{keeps, is_name_byte, is_one_of, content_kinds}
use Rattle.film_project.specs.declared.asset.AssetKind.{AssetKind}
use Rattle.film_project.specs.declared.asset.AssetKind.TheVariants.{Rgb48, Ppm, J2c, Pcm24}
use Rattle.film_project.specs.declared.text_rule.TextRule.TheVariants as rule
use Rattle.film_printer.proofs.Ascii.{known, path_at}
use Rattle.film_project.proofs.Ids.{word_passes}
use Rattle.film_project.proofs.Kept.{kept_parts, short_of}

-- ---- strings

one_of_three : (a b : Bool) (x l p q : ℕ) → length (cond a (92 ∷ l ∷ []) (cond b (92 ∷ 117 ∷ 48 ∷ 48 ∷ p ∷ q ∷ []) (x ∷ []))) ≤ 6
one_of_three true b x l p q = omega arith
one_of_three false true x l p q = omega arith
one_of_three false false x l p q = omega arith

-- a byte takes six at most
any_byte : (x : ℕ) → length (escape_byte x) ≤ 6
unfolding escape_byte
any_byte x = one_of_three _ _ x _ _ _

-- a byte of a path takes one
path_byte : (x : ℕ) → (is_name_byte x || (x == 47)) ≡ true → length (escape_byte x) ≤ 1
unfolding escape_byte
path_byte x e =
    let quote : (x == 34) ≡ false = grind (arith, nat_tests) in
    let slash : (x == 92) ≡ false = grind (arith, nat_tests) in
    let back : (x == 8) ≡ false = grind (arith, nat_tests) in
    let feed : (x == 12) ≡ false = grind (arith, nat_tests) in
    let line : (x == 10) ≡ false = grind (arith, nat_tests) in
    let return : (x == 13) ≡ false = grind (arith, nat_tests) in
    let tab : (x == 9) ≡ false = grind (arith, nat_tests) in
    let high : nat_lt x 32 ≡ false = grind (arith, nat_tests) in
    rw (quote, slash, back, feed, line, return, tab, high) (omega arith)

each : (m : ℕ) (s : List ℕ) → ((k : ℕ) → k < length s → length (escape_byte (get_or s k 0)) ≤ m) → length (flat_map escape_byte s) ≤ m * length s
each m [] f = omega arith
each m (x ∷ s) f =
    rw mul-suc (omega (arith, length-append (escape_byte x) (flat_map escape_byte s), f 0 (omega arith), each m s (λ k h. f (suc k) (omega arith))))

in_quotes : (s : List ℕ) → length (quoted s) ≡ length (flat_map escape_byte s) + 2
in_quotes s = omega (arith, length-append (flat_map escape_byte s) (34 ∷ []))

pub any_text : (s : List ℕ) → length (quoted s) ≤ 6 * length s + 2
any_text s = omega (arith, in_quotes s, each 6 s (λ k h. any_byte (get_or s k 0)))

pub plain_text : (s : List ℕ) → ((k : ℕ) → k < length s → (is_name_byte (slice_index s k) || (slice_index s k == 47)) ≡ true) → length (quoted s) ≤ length s + 2
plain_text s f = omega (arith, in_quotes s, each 1 s (λ k h. path_byte (slice_index s k) (f k h)))

-- ---- texts that keep their rules

pub name_or : (b c : Bool) → b ≡ true → (b || c) ≡ true
name_or b c e = rw e

pub id_size : (s : List ℕ) → keeps rule.Id s ≡ true → length (quoted s) ≤ 42
id_size s e =
    let kept = kept_parts rule.Id s e in
    omega (arith, short_of rule.Id s 40 refl kept, plain_text s (λ k h. name_or (is_name_byte (slice_index s k)) _ (not-false _ (or_parts (nat_le 40 k) _ (kept.bytes k h)).1)))

pub file_size : (s : List ℕ) → keeps rule.File s ≡ true → length (quoted s) ≤ 202
file_size s e =
    let kept = kept_parts rule.File s e in
    omega (arith, short_of rule.File s 200 refl kept, plain_text s (λ k h. path_at s k (kept.bytes k h)))

pub title_size : (s : List ℕ) → keeps rule.Title s ≡ true → length (quoted s) ≤ 602
title_size s e = omega (arith, short_of rule.Title s 100 refl (kept_parts rule.Title s e), any_text s)

pub issued_size : (s : List ℕ) → keeps rule.Issued s ≡ true → length (quoted s) ≤ 116
issued_size s e = omega (arith, short_of rule.Issued s 19 refl (kept_parts rule.Issued s e), any_text s)

pub kind_size : (s : List ℕ) → keeps rule.ContentKind s ≡ true → length (quoted s) ≤ 80
kind_size s e =
    let word = known (is_one_of content_kinds s) (kept_parts rule.ContentKind s e).meaning in
    omega (arith, leb-true (length s) 13 (word_passes (λ w. nat_le (length w) 13) content_kinds s refl word), any_text s)

pub namespace_size : (xs : List ℕ) → length (quoted (hyphenated_text lower xs)) ≤ 218
namespace_size xs =
    let long : length (hyphenated_text lower xs) ≡ 36 = by_index_length 36 _ in
    omega (arith, any_text (hyphenated_text lower xs), long)

-- ---- members and items

comma_size : (later : Bool) → length (comma_if later) ≤ 1
comma_size true = omega arith
comma_size false = omega arith

pub member_size : (later : Bool) (k : List ℕ) (d : Data) (ms : Members) (key value rest : ℕ) → length (quoted k) ≤ key → length (compact_text d) ≤ value
    → length (members_text true ms) ≤ rest → length (members_text later (member k d ms)) ≤ 2 + key + value + rest
member_size later k d ms key value rest a b c =
    let inner = compact_text d ++ members_text true ms in
    omega (
      arith,
      length-append (comma_if later) (quoted k ++ 58 ∷ inner),
      length-append (quoted k) (58 ∷ inner),
      length-append (compact_text d) (members_text true ms),
      comma_size later,
      a,
      b,
      c,
    )

pub items_size : {X : Type 0} (f : X → Data) (most : ℕ) (later : Bool) (xs : List X) → All (λ x. length (compact_text (f x)) ≤ most) xs
    → length (items_text later (items_of (map f xs))) ≤ (most + 1) * length xs + 1
items_size f most later [] short = omega arith
items_size f most later (x ∷ xs) short =
    let rest = items_text true (items_of (map f xs)) in
    rw mul-suc (omega (
      arith,
      length-append (comma_if later) (compact_text (f x) ++ rest),
      length-append (compact_text (f x)) rest,
      comma_size later,
      short 0 x (omega arith),
      items_size f most true xs (λ k d h. short (suc k) d (omega arith)),
    ))

pub mapped_size : {X : Type 0} (f : X → Data) (most : ℕ) (xs : List X) → All (λ x. length (compact_text (f x)) ≤ most) xs
    → length (items_text false (items_of (map f xs))) ≤ (most + 1) * length xs + 1
mapped_size f most xs short = items_size f most false xs short

-- ---- numbers

pub number_size : (k n : ℕ) → 0 < k → n < 10 ^ k → n < 2 ^ 64 → length (decimal n) ≤ k
number_size k n some h fits = length-decimal-le k n some h fits

-- ---- assets

pub kind_word_size : (kind : AssetKind) → length (quoted (kind_word kind)) ≤ 44
kind_word_size Rgb48 = omega (arith, any_text (kind_word Rgb48))
kind_word_size Ppm = omega (arith, any_text (kind_word Ppm))
kind_word_size J2c = omega (arith, any_text (kind_word J2c))
kind_word_size Pcm24 = omega (arith, any_text (kind_word Pcm24))
