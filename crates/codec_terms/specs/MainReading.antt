-- The main header in the reader's direction: ITU-T T.800 Annex A, for this profile.
--     main_read bytes     what the main header says, or the first refusal by place
use Rattle.std.specs.Prelude.{ℕ, zero, suc, ◌+◌, ◌-◌, ◌*◌, ◌/◌, ◌%◌, ◌==◌, Bool, true, false, not, ◌&&◌, ◌||◌, if◌then◌else◌, nat_lt, nat_le, List, [], ◌∷◌, map, length, slice_index, slice_range, replicate, Option, Some, None, Result, Ok, Err, is_some, fold}
use Rattle.std.specs.List.{range_with_len}
use Rattle.codec_terms.specs.declared.picture.Shape.{Shape}
use Rattle.codec_terms.specs.declared.reading.MainHead.{MainHead}
use Rattle.codec_terms.specs.declared.reading.MarkerRefusal.{MarkerRefusal}
use Rattle.codec_terms.specs.declared.reading.MarkerRefusal.TheVariants.{Truncated, Marker, Field}
use Rattle.codec_terms.specs.Reading.{on_ok}

-- ---- fields: each has a size in bytes and values that it may take

pub record FieldRule : Type 0 where
  pub size : ℕ
  pub accepts : ℕ → Bool

abbrev pub fixed : ℕ → ℕ → FieldRule
fixed size n = record { size = size; accepts = λ m. m == n }

abbrev pub within : ℕ → ℕ → ℕ → FieldRule
within size low high = record { size = size; accepts = λ m. nat_le low m && nat_le m high }

abbrev pub any_value : ℕ → FieldRule
any_value size = record { size = size; accepts = λ m. true }

-- the number that bytes say, the highest byte first
unfoldable pub number_of : List ℕ → ℕ
number_of bytes = fold (λ n byte. n * 256 + byte) 0 bytes

-- the number of size bytes at a place
abbrev pub number_at : List ℕ → ℕ → ℕ → ℕ
number_at bytes at size = number_of (slice_range bytes at (at + size))

-- the place behind fields that are all there and may be as they are, or the first refusal
unfoldable pub fields_end : List ℕ → List FieldRule → ℕ → Result ℕ MarkerRefusal
fields_end bytes [] at = Ok at
fields_end bytes (rule ∷ rules) at =
    if nat_lt (length bytes) (at + rule.size) then Err (Truncated (length bytes))
    else if rule.accepts (number_at bytes at rule.size) then fields_end bytes rules (at + rule.size)
    else Err (Field at (number_at bytes at rule.size))

-- the marker at a place, which must be one of those allowed
abbrev pub marker_at : List ℕ → (ℕ → Bool) → ℕ → Result ℕ MarkerRefusal
marker_at bytes allowed at =
    if nat_lt (length bytes) (at + 2) then Err (Truncated (length bytes))
    else if allowed (number_at bytes at 2) then Ok (number_at bytes at 2)
    else Err (Marker at (number_at bytes at 2))

-- ---- segments, from behind their marker

-- The picture, which is also the one tile, and three components of 12 bits (Annex A.5.1): Lsiz, Rsiz, Xsiz,
-- Ysiz, XOsiz, YOsiz, XTsiz, YTsiz, XTOsiz, YTOsiz, Csiz, and Ssiz, XRsiz and YRsiz of each component.
abbrev pub size_rules : ℕ → ℕ → List FieldRule
size_rules width height =
    fixed 2 0x2F ∷ fixed 2 3 ∷ within 4 32 2048 ∷ within 4 32 1080 ∷ fixed 4 0 ∷ fixed 4 0
    ∷ fixed 4 width ∷ fixed 4 height ∷ fixed 4 0 ∷ fixed 4 0 ∷ fixed 2 3
    ∷ fixed 1 11 ∷ fixed 1 1 ∷ fixed 1 1 ∷ fixed 1 11 ∷ fixed 1 1 ∷ fixed 1 1 ∷ fixed 1 11 ∷ fixed 1 1
    ∷ fixed 1 1 ∷ []

-- Annex A.6.1: Lcod, Scod, then progression order, layers and component transform, then levels, width, height
-- and style of code-blocks, filter, and precincts of each resolution
abbrev pub coding_rules : List FieldRule
coding_rules =
    fixed 2 0x12 ∷ fixed 1 1 ∷ fixed 1 4 ∷ fixed 2 1 ∷ fixed 1 1 ∷ fixed 1 5 ∷ fixed 1 3 ∷ fixed 1 3
    ∷ fixed 1 0 ∷ fixed 1 0
    ∷ fixed 1 0x77 ∷ fixed 1 0x88 ∷ fixed 1 0x88 ∷ fixed 1 0x88 ∷ fixed 1 0x88 ∷ fixed 1 0x88 ∷ []

-- Equation E-2: the bit-planes of a sub-band are the guard bits and its exponent less 1
abbrev pub planes_of : ℕ → ℕ → ℕ
planes_of guard_bits entry = guard_bits + entry / 2048 - 1

abbrev pub guard_rule : FieldRule
guard_rule = record { size = 1; accepts = λ n. (n % 32 == 2) && nat_le 1 (n / 32) }

abbrev pub step_rule : ℕ → FieldRule
step_rule guard_bits = record { size = 2; accepts = λ n. nat_le (planes_of guard_bits n) 31 }

-- Annex A.6.4: Lqcd, Sqcd with the number of guard bits above the style 2 (each sub-band states its step), then
-- SPqcd of each sub-band
abbrev pub quantisation_rules : ℕ → List FieldRule
quantisation_rules guard_bits = fixed 2 0x23 ∷ guard_rule ∷ replicate 16 (step_rule guard_bits)

-- Annex A.7.1: Ltlm, Ztlm, Stlm, then Ttlm and Ptlm of each tile-part
abbrev pub lengths_rules : List FieldRule
lengths_rules =
    fixed 2 0x13 ∷ fixed 1 0 ∷ fixed 1 0x50 ∷ fixed 1 0 ∷ any_value 4 ∷ fixed 1 0 ∷ any_value 4 ∷ fixed 1 0
    ∷ any_value 4 ∷ []

-- what the segments so far say: whether there was one for the coding, the numbers of bit-planes, the lengths of
-- the tile-parts, and the cut that a comment states
pub record HeadSoFar : Type 0 where
  pub shape : Shape
  pub coded : Bool
  pub planes : Option (List ℕ)
  pub parts : Option (List ℕ)
  pub cut : Option ℕ

module _ (bytes : List ℕ) where
  -- the numbers of size bytes at the places at, at + step, ..
  abbrev pub numbers_at : ℕ → ℕ → ℕ → ℕ → List ℕ
  numbers_at at size step count = map (λ i. number_at bytes (at + step * i) size) (range_with_len 0 count)

  abbrev pub guard_bits_at : ℕ → ℕ
  guard_bits_at at = slice_index bytes (at + 2) / 32

  abbrev pub planes_at : ℕ → List ℕ
  planes_at at = map (planes_of (guard_bits_at at)) (numbers_at (at + 3) 2 2 16)

  abbrev pub parts_at : ℕ → List ℕ
  parts_at at = numbers_at (at + 5) 4 5 3

  -- a comment (Annex A.9.2), of which the first that states a cut counts
  abbrev pub states_cut : ℕ → Bool
  states_cut at = (number_at bytes at 4 == 0x000C0000) && (number_at bytes (at + 4) 4 == 0x43555431)

  abbrev pub cut_with : Option ℕ → ℕ → Option ℕ
  cut_with (Some cut) at = Some cut
  cut_with None at = if states_cut at then Some (number_at bytes (at + 8) 4) else None

  -- its length, then its content
  abbrev pub comment_end : ℕ → Result ℕ MarkerRefusal
  comment_end at =
      on_ok (fields_end bytes (within 2 5 65535 ∷ []) at) (λ content.
      if nat_lt (length bytes) (at + number_at bytes at 2) then Err (Truncated (length bytes))
      else Ok (at + number_at bytes at 2))

  -- a segment behind its marker, and what it adds
  abbrev pub segment_end : ℕ → ℕ → Result ℕ MarkerRefusal
  segment_end marker at =
      if marker == 0xFF52 then fields_end bytes coding_rules at
      else if marker == 0xFF5C then fields_end bytes (quantisation_rules (guard_bits_at at)) at
      else if marker == 0xFF55 then fields_end bytes lengths_rules at
      else comment_end at

  abbrev pub with_segment : ℕ → ℕ → HeadSoFar → HeadSoFar
  with_segment marker at head =
      if marker == 0xFF52 then record head { coded = true }
      else if marker == 0xFF5C then record head { planes = Some (planes_at at) }
      else if marker == 0xFF55 then record head { parts = Some (parts_at at) }
      else record head { cut = cut_with head.cut at }

  -- Each of COD, QCD and TLM comes exactly once, their order is free, and comments may stand before and behind
  -- them. Then the first tile-part begins.
  abbrev pub is_complete : HeadSoFar → Bool
  is_complete head = head.coded && is_some head.planes && is_some head.parts

  abbrev pub may_follow : HeadSoFar → ℕ → Bool
  may_follow head marker =
      marker == 0xFF64
      || (marker == 0xFF52 && not head.coded)
      || (marker == 0xFF5C && not (is_some head.planes))
      || (marker == 0xFF55 && not (is_some head.parts))
      || (marker == 0xFF90 && is_complete head)

  abbrev pub list_or_empty : Option (List ℕ) → List ℕ
  list_or_empty None = []
  list_or_empty (Some xs) = xs

  abbrev pub head_at : HeadSoFar → ℕ → MainHead
  head_at head at =
      record {
        shape = head.shape;
        mb = list_or_empty head.planes;
        parts = list_or_empty head.parts;
        cut = head.cut;
        next = at;
      }

  -- at most n segments, of which there are fewer than bytes
  unfoldable pub segments_read : ℕ → HeadSoFar → ℕ → Result MainHead MarkerRefusal
  segments_read zero head at = Err (Truncated (length bytes))
  segments_read (suc n) head at =
      on_ok (marker_at bytes (may_follow head) at) (λ marker.
      if marker == 0xFF90 then Ok (head_at head at)
      else on_ok (segment_end marker (at + 2)) (segments_read n (with_segment marker (at + 2) head)))

  abbrev pub head_of_size : ℕ → ℕ → HeadSoFar
  head_of_size width height =
      record {
        shape = record { width = width; height = height };
        coded = false;
        planes = None;
        parts = None;
        cut = None;
      }

  unfoldable pub main_read : Result MainHead MarkerRefusal
  main_read =
      on_ok (marker_at bytes (λ m. m == 0xFF4F) 0) (λ start.
      on_ok (marker_at bytes (λ m. m == 0xFF51) 2) (λ size.
      on_ok (fields_end bytes (size_rules (number_at bytes 8 4) (number_at bytes 12 4)) 4)
      (segments_read (length bytes) (head_of_size (number_at bytes 8 4) (number_at bytes 12 4)))))
