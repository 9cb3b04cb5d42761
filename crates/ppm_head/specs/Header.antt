-- The header of a binary PPM picture: `P6`, width, height and the greatest sample 65535, each behind a gap of white
-- bytes and comments, and then one white byte.
use Rattle.std.specs.Prelude.{ℕ, suc, ◌+◌, ◌==◌, ◌&&◌, ◌||◌, not, Bool, true, false, nat_le, nat_eq, if◌then◌else◌, codes, List, [], ◌∷◌, length, take, drop, slice_index, Option, Some, None, Result, Ok, Err}
use Rattle.std.specs.Option.{option_map_or}
use Rattle.std.specs.List.{prefix_len, starts_with}
use Rattle.std.specs.Str.{bytes_eq}
use Rattle.ppm_head.specs.declared.header.BadHeader.{BadHeader}

abbrev pub is_white : ℕ → Bool
is_white b = (nat_le 9 b && nat_le b 13) || b == 32

-- a token goes on up to a white byte or the # of a comment
abbrev pub is_token_byte : ℕ → Bool
is_token_byte b = not (is_white b || b == 35)

-- whether a byte of a gap leaves a comment open, or None where it is no byte of it; a comment ends with its line feed
abbrev pub comment_behind : Bool → ℕ → Option Bool
comment_behind true b = Some (not (b == 10))
comment_behind false b = if b == 35 then Some true else (if is_white b then Some false else None)

-- how many bytes a gap has that goes on here, inside a comment or not
unfoldable pub gap_len : Bool → List ℕ → ℕ
gap_len in_comment [] = 0
gap_len in_comment (b ∷ bytes) = option_map_or (λ inside. suc (gap_len inside bytes)) (comment_behind in_comment b) 0

abbrev pub gap_end : List ℕ → ℕ → ℕ
gap_end bytes at = at + gap_len false (drop at bytes)

abbrev pub token_len : List ℕ → ℕ
token_len bytes = prefix_len is_token_byte bytes

abbrev pub bad_at : ℕ → Result ℕ BadHeader
bad_at at = Err (record { at = at })

-- The place behind the wanted token. Another token is wrong at its first byte. Where the bytes end with one that can
-- still become the wanted one, the wrong place is their end.
unfoldable pub token_end : List ℕ → List ℕ → ℕ → Result ℕ BadHeader
token_end wanted bytes at =
    let rest = drop at bytes in
    let token = take (token_len rest) rest in
    if at + token_len rest == length bytes && starts_with nat_eq wanted token then bad_at (length bytes)
    else (if bytes_eq token wanted then Ok (at + token_len rest) else bad_at at)

-- the place behind one white byte
abbrev pub white_end : List ℕ → ℕ → Result ℕ BadHeader
white_end bytes at =
    if at == length bytes then bad_at (length bytes)
    else (if is_white (slice_index bytes at) then Ok (at + 1) else bad_at at)

-- goes on from the place that was reached, where nothing was wrong before
abbrev pub go_on : (ℕ → Result ℕ BadHeader) → Result ℕ BadHeader → Result ℕ BadHeader
go_on next (Ok at) = next at
go_on next (Err bad) = Err bad

-- the place behind these tokens, with a gap in front of each, and a white byte
unfoldable pub tokens_end : List (List ℕ) → List ℕ → ℕ → Result ℕ BadHeader
tokens_end [] bytes at = white_end bytes at
tokens_end (wanted ∷ more) bytes at = go_on (tokens_end more bytes) (token_end wanted bytes (gap_end bytes at))

-- the place behind the header of a picture of this width and height, given by their digits, or the first wrong place
unfoldable pub header_end : List ℕ → List ℕ → List ℕ → Result ℕ BadHeader
header_end width height bytes =
    go_on (tokens_end (width ∷ height ∷ codes "65535" ∷ []) bytes) (token_end (codes "P6") bytes 0)
