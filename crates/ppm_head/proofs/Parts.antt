-- Gaps and tokens, byte by byte.
use Rattle.std.proofs.Common.{◌≡◌, ℕ, suc, ◌+◌, ◌<◌, ◌≤◌, Bool, true, false, cond, List, ◌∷◌, length, take, drop, get_or, ◌&&◌, refl, ap, ◌∙◌}
use Rattle.std.specs.Prelude.{Some, None, Result, Ok, if◌then◌else◌, ◌==◌, nat_eq}
use Rattle.std.specs.Option.{option_map_or}
use Rattle.std.specs.List.{starts_with}
use Rattle.std.specs.Str.{bytes_eq}
use Rattle.ppm_head.specs.declared.header.BadHeader.{BadHeader}
use Rattle.std.proofs.lemmas.Bool.{cond-true, cond-false}
use Rattle.std.proofs.lemmas.List.{drop_more, drop_all}
use Rattle.ppm_head.specs.Header.{bad_at, comment_behind, gap_len, is_token_byte, token_end, token_len}

gap_len-cons : (in_comment : Bool) (b : ℕ) (bytes : List ℕ) → gap_len in_comment (b ∷ bytes) ≡ option_map_or (λ inside. suc (gap_len inside bytes)) (comment_behind in_comment b) 0
unfolding gap_len
gap_len-cons in_comment b bytes = refl

gap_len-at :
    (bytes : List ℕ) (at : ℕ) (in_comment : Bool) → at < length bytes →
    gap_len in_comment (drop at bytes) ≡ option_map_or (λ inside. suc (gap_len inside (drop (at + 1) bytes))) (comment_behind in_comment (get_or bytes at 0)) 0
gap_len-at bytes at in_comment inside =
    ap (gap_len in_comment) (drop_more bytes at 0 inside) ∙ gap_len-cons in_comment (get_or bytes at 0) (drop (at + 1) bytes)

pub gap_len-more :
    (bytes : List ℕ) (at : ℕ) (in_comment next : Bool) → at < length bytes → comment_behind in_comment (get_or bytes at 0) ≡ Some next →
    gap_len in_comment (drop at bytes) ≡ suc (gap_len next (drop (at + 1) bytes))
gap_len-more bytes at in_comment next inside e =
    gap_len-at bytes at in_comment inside ∙ ap (λ o. option_map_or (λ inside. suc (gap_len inside (drop (at + 1) bytes))) o 0) e

pub gap_len-none :
    (bytes : List ℕ) (at : ℕ) (in_comment : Bool) → at < length bytes → comment_behind in_comment (get_or bytes at 0) ≡ None →
    gap_len in_comment (drop at bytes) ≡ 0
gap_len-none bytes at in_comment inside e =
    gap_len-at bytes at in_comment inside ∙ ap (λ o. option_map_or (λ inside. suc (gap_len inside (drop (at + 1) bytes))) o 0) e

pub gap_len-past : (bytes : List ℕ) (at : ℕ) (in_comment : Bool) → length bytes ≤ at → gap_len in_comment (drop at bytes) ≡ 0
unfolding gap_len
gap_len-past bytes at in_comment past = ap (gap_len in_comment) (drop_all at bytes past)

token_len-at :
    (bytes : List ℕ) (at : ℕ) → at < length bytes →
    token_len (drop at bytes) ≡ cond (is_token_byte (get_or bytes at 0)) (1 + token_len (drop (at + 1) bytes)) 0
token_len-at bytes at inside = ap token_len (drop_more bytes at 0 inside)

pub token_len-more :
    (bytes : List ℕ) (at : ℕ) → at < length bytes → is_token_byte (get_or bytes at 0) ≡ true →
    token_len (drop at bytes) ≡ 1 + token_len (drop (at + 1) bytes)
token_len-more bytes at inside is = token_len-at bytes at inside ∙ cond-true _ _ _ is

pub token_len-none :
    (bytes : List ℕ) (at : ℕ) → at < length bytes → is_token_byte (get_or bytes at 0) ≡ false → token_len (drop at bytes) ≡ 0
token_len-none bytes at inside is = token_len-at bytes at inside ∙ cond-false _ _ _ is

pub token_len-past : (bytes : List ℕ) (at : ℕ) → length bytes ≤ at → token_len (drop at bytes) ≡ 0
token_len-past bytes at past = ap token_len (drop_all at bytes past)

-- ---- a wanted token, by the length of the token that is there

abbrev pub token_end_by : List ℕ → List ℕ → ℕ → ℕ → Result ℕ BadHeader
token_end_by wanted bytes at len =
    if at + len == length bytes && starts_with nat_eq wanted (take len (drop at bytes)) then bad_at (length bytes)
    else (if bytes_eq (take len (drop at bytes)) wanted then Ok (at + len) else bad_at at)

pub token_end-by : (wanted bytes : List ℕ) (at len : ℕ) → len ≡ token_len (drop at bytes) → token_end_by wanted bytes at len ≡ token_end wanted bytes at
unfolding token_end
token_end-by wanted bytes at len e = ap (token_end_by wanted bytes at) e

pub and-true : (a b : Bool) → a ≡ true → b ≡ true → (a && b) ≡ true
and-true true b p q = q
and-true false b p q = p

pub and-false_left : (a b : Bool) → a ≡ false → (a && b) ≡ false
and-false_left true b p = absurd (cc)
and-false_left false b p = refl

pub and-false_right : (a b : Bool) → b ≡ false → (a && b) ≡ false
and-false_right true b p = p
and-false_right false b p = refl
