-- The main header is read back, and a stream is its header, its parts and its end.
use Rattle.std.proofs.Common.{◌≡◌, ℕ, suc, ◌+◌, ◌*◌, ◌-◌, ◌^◌, ◌<◌, ◌≤◌, refl, sym, ap, ◌∙◌, arith, Bool, true, false, List, [], ◌∷◌, ◌++◌, length, take, drop, map, Some, None, Option, Ok, append_assoc, ℤ}
use Rattle.std.specs.Prelude.{◌==◌, ◌&&◌, nat_le, nat_lt, flat_map}
use Rattle.std.proofs.lemmas.Bool.{le-ltb, le-leb, eq-eqb, and_from, and_parts, eqb-true, ltb-true, false≢true}
use Rattle.std.proofs.lemmas.List.{length-append, length-drop, take_at, drop_at, drop-drop}
use Rattle.codec_terms.specs.declared.picture.Shape.{Shape}
use Rattle.codec_terms.specs.declared.reading.MainHead.{MainHead}
use Rattle.codec_terms.specs.Bits.{four_bytes}
use Rattle.codec_terms.specs.Bands.{plane_limit, component_bands, resolution_bands}
use Rattle.codec_terms.specs.Grid.{items_of}
use Rattle.codec_terms.specs.Codestream.{step_bytes, main_header, part_length, part_lengths, tile_part, components, stream}
use Rattle.codec_terms.specs.MainReading.{FieldRule, fixed, within, number_of, number_at, fields_end, marker_at, size_rules, coding_rules, quantisation_rules, lengths_rules, segment_end, with_segment, may_follow, HeadSoFar, head_of_size, head_at, planes_at, parts_at, cut_with, segments_read, main_read}
use Rattle.codec_terms.proofs.StreamLaws.{length-main_header}
use Rattle.codec_laws.specs.Bounds.{IsPictureSize}

-- ---- numbers and fields

pub number_of-four_bytes : (n : ℕ) → n < 2 ^ 32 → number_of (four_bytes n) ≡ n
unfolding number_of
number_of-four_bytes n small = omega arith

number_of-two : (a b : ℕ) → number_of (a ∷ b ∷ []) ≡ a * 256 + b
unfolding number_of
number_of-two a b = omega arith

module _ (bytes : List ℕ) where
  -- a field of so many bytes that stands at a place
  pub number_at-field : (at : ℕ) (field rest : List ℕ) → drop at bytes ≡ field ++ rest → number_at bytes at (length field) ≡ number_of field
  number_at-field at field rest here =
      let size : at + length field - at ≡ length field = omega arith in
      rw (size, here, take_at field rest (length field) refl) refl

  is_there : (at : ℕ) (field rest : List ℕ) → drop at bytes ≡ field ++ rest → 0 < length field → nat_lt (length bytes) (at + length field) ≡ false
  is_there at field rest here some =
      let left : length bytes - at ≡ length field + length rest = sym (length-drop at bytes) ∙ ap length here ∙ length-append field rest in
      le-ltb (length bytes) (at + length field) (omega (arith, left))

  pub marker_at-is : (allowed : ℕ → Bool) (at a b : ℕ) (rest : List ℕ) → drop at bytes ≡ a ∷ b ∷ rest → allowed (a * 256 + b) ≡ true
      → marker_at bytes allowed at ≡ Ok (a * 256 + b)
  marker_at-is allowed at a b rest here may =
      let value : number_at bytes at 2 ≡ a * 256 + b = number_at-field at (a ∷ b ∷ []) rest here ∙ number_of-two a b in
      rw (is_there at (a ∷ b ∷ []) rest here (omega arith), value, may) refl

-- fields that rules accept, each in turn
pub record Accepted (rule : FieldRule) (field : List ℕ) : Type 0 where
  pub size : length field ≡ rule.size
  pub some : 0 < rule.size
  pub value : rule.accepts (number_of field) ≡ true

abbrev pub AllAccepted : List FieldRule → List (List ℕ) → Type 0
AllAccepted [] [] = Unit {0}
AllAccepted (rule ∷ rules) (field ∷ fields) = Accepted rule field × AllAccepted rules fields
AllAccepted _ _ = ⊥

pub fields_end-is : (bytes : List ℕ) (rules : List FieldRule) (fields : List (List ℕ)) (rest : List ℕ) (at : ℕ) → AllAccepted rules fields → drop at bytes ≡ items_of fields ++ rest
    → fields_end bytes rules at ≡ Ok (at + length (items_of fields))
unfolding fields_end
fields_end-is bytes [] [] rest at all here = ap Ok (omega arith)
fields_end-is bytes [] (field ∷ fields) rest at all here = absurd all
fields_end-is bytes (rule ∷ rules) [] rest at all here = absurd all
fields_end-is bytes (rule ∷ rules) (field ∷ fields) rest at all here =
    let first : drop at bytes ≡ field ++ (items_of fields ++ rest) = here ∙ append_assoc field (items_of fields) rest in
    let some : 0 < length field = rw all.0.size all.0.some in
    let inside : nat_lt (length bytes) (at + rule.size) ≡ false = rw (← all.0.size) (is_there bytes at field (items_of fields ++ rest) first some) in
    let value : number_at bytes at rule.size ≡ number_of field = rw (← all.0.size) (number_at-field bytes at field (items_of fields ++ rest) first) in
    let next : drop (at + rule.size) bytes ≡ items_of fields ++ rest =
    sym (drop-drop rule.size at bytes) ∙ (ap (drop rule.size) first ∙ drop_at field (items_of fields ++ rest) rule.size all.0.size) in
    let later = fields_end-is bytes rules fields rest (at + rule.size) all.1 next in
    rw (inside, value, all.0.value, later) (ap Ok (omega (arith, length-append field (items_of fields), all.0.size)))

-- one more segment
segments_read-step : (bytes : List ℕ) (n at marker next : ℕ) (head : HeadSoFar) → marker_at bytes (may_follow bytes head) at ≡ Ok marker → (marker == 0xFF90) ≡ false → segment_end bytes marker (at + 2) ≡ Ok next
    → segments_read bytes (suc n) head at ≡ segments_read bytes n (with_segment bytes marker (at + 2) head) next
unfolding segments_read
segments_read-step bytes n at marker next head here other end = rw (here, other, end) refl

segments_read-end : (bytes : List ℕ) (n at : ℕ) (head : HeadSoFar) → marker_at bytes (may_follow bytes head) at ≡ Ok 0xFF90 → segments_read bytes (suc n) head at ≡ Ok (head_at bytes head at)
unfolding segments_read
segments_read-end bytes n at head here = rw here refl

-- ---- fields as they are written

accepts_field : FieldRule → List ℕ → Bool
accepts_field rule field = (length field == rule.size) && (nat_lt 0 rule.size && rule.accepts (number_of field))

accepts_fields : List FieldRule → List (List ℕ) → Bool
accepts_fields [] [] = true
accepts_fields (rule ∷ rules) (field ∷ fields) = accepts_field rule field && accepts_fields rules fields
accepts_fields _ _ = false

Accepted-by_test : (rule : FieldRule) (field : List ℕ) → accepts_field rule field ≡ true → Accepted rule field
unfolding accepts_field
Accepted-by_test rule field e =
    let a = and_parts (length field == rule.size) (nat_lt 0 rule.size && rule.accepts (number_of field)) e in
    let b = and_parts (nat_lt 0 rule.size) (rule.accepts (number_of field)) a.1 in
    record { size = eqb-true (length field) rule.size a.0; some = ltb-true 0 rule.size b.0; value = b.1 }

AllAccepted-by_test : (rules : List FieldRule) (fields : List (List ℕ)) → accepts_fields rules fields ≡ true → AllAccepted rules fields
unfolding accepts_fields
AllAccepted-by_test [] [] e = tt
AllAccepted-by_test [] (field ∷ fields) e = absurd (false≢true e)
AllAccepted-by_test (rule ∷ rules) [] e = absurd (false≢true e)
AllAccepted-by_test (rule ∷ rules) (field ∷ fields) e =
    let a = and_parts (accepts_field rule field) (accepts_fields rules fields) e in
    (Accepted-by_test rule field a.0, AllAccepted-by_test rules fields a.1)

Accepted-number : (n m : ℕ) → n < 2 ^ 32 → n ≡ m → Accepted (fixed 4 m) (four_bytes n)
Accepted-number n m small same = record { size = refl; some = omega arith; value = rw (number_of-four_bytes n small, same) (eq-eqb m m refl) }

Accepted-within : (n low high : ℕ) → n < 2 ^ 32 → low ≤ n → n ≤ high → Accepted (within 4 low high) (four_bytes n)
Accepted-within n low high small above below = record {
  size = refl;
  some = omega arith;
  value = rw (number_of-four_bytes n small) (and_from (nat_le low n) (nat_le n high) (le-leb low n above) (le-leb n high below));
}

size_fields : Shape → List (List ℕ)
size_fields shape =
    (0 ∷ 0x2F ∷ []) ∷ (0 ∷ 3 ∷ []) ∷ four_bytes shape.width ∷ four_bytes shape.height ∷ four_bytes 0 ∷ four_bytes 0
    ∷ four_bytes shape.width ∷ four_bytes shape.height ∷ four_bytes 0 ∷ four_bytes 0 ∷ (0 ∷ 3 ∷ [])
    ∷ (11 ∷ []) ∷ (1 ∷ []) ∷ (1 ∷ []) ∷ (11 ∷ []) ∷ (1 ∷ []) ∷ (1 ∷ []) ∷ (11 ∷ []) ∷ (1 ∷ []) ∷ (1 ∷ []) ∷ []

size_accepted : (shape : Shape) → IsPictureSize shape → AllAccepted (size_rules shape.width shape.height) (size_fields shape)
unfolding size_fields accepts_fields accepts_field number_of
size_accepted shape s =
    let small_width : shape.width < 2 ^ 32 = omega (arith, s.greatest_width) in
    let small_height : shape.height < 2 ^ 32 = omega (arith, s.greatest_height) in (
      Accepted-by_test (fixed 2 0x2F) (0 ∷ 0x2F ∷ []) refl,
      (
        Accepted-by_test (fixed 2 3) (0 ∷ 3 ∷ []) refl,
        (
          Accepted-within shape.width 32 2048 small_width s.least_width s.greatest_width,
          (
            Accepted-within shape.height 32 1080 small_height s.least_height s.greatest_height,
            (
              Accepted-by_test (fixed 4 0) (four_bytes 0) refl,
              (
                Accepted-by_test (fixed 4 0) (four_bytes 0) refl,
                (
                  Accepted-number shape.width shape.width small_width refl,
                  (
                    Accepted-number shape.height shape.height small_height refl,
                    AllAccepted-by_test (fixed 4 0 ∷ fixed 4 0 ∷ fixed 2 3 ∷ fixed 1 11 ∷ fixed 1 1 ∷ fixed 1 1 ∷ fixed 1 11 ∷ fixed 1 1 ∷ fixed 1 1 ∷ fixed 1 11 ∷ fixed 1 1 ∷ fixed 1 1 ∷ []) (four_bytes 0 ∷ four_bytes 0 ∷ (0 ∷ 3 ∷ []) ∷ (11 ∷ []) ∷ (1 ∷ []) ∷ (1 ∷ []) ∷ (11 ∷ []) ∷ (1 ∷ []) ∷ (1 ∷ []) ∷ (11 ∷ []) ∷ (1 ∷ []) ∷ (1 ∷ []) ∷ []) refl,
                  ),
                ),
              ),
            ),
          ),
        ),
      ),
    )

coding_fields : List (List ℕ)
coding_fields =
    (0 ∷ 0x12 ∷ []) ∷ (1 ∷ []) ∷ (4 ∷ []) ∷ (0 ∷ 1 ∷ []) ∷ (1 ∷ []) ∷ (5 ∷ []) ∷ (3 ∷ []) ∷ (3 ∷ []) ∷ (0 ∷ []) ∷ (0 ∷ [])
    ∷ (0x77 ∷ []) ∷ (0x88 ∷ []) ∷ (0x88 ∷ []) ∷ (0x88 ∷ []) ∷ (0x88 ∷ []) ∷ (0x88 ∷ []) ∷ []

coding_accepted : AllAccepted coding_rules coding_fields
unfolding coding_fields accepts_fields accepts_field number_of
coding_accepted = AllAccepted-by_test coding_rules coding_fields refl

step_fields : List (List ℕ)
step_fields = (0 ∷ 0x23 ∷ []) ∷ (0x22 ∷ []) ∷ map step_bytes (component_bands 0)

steps_accepted : AllAccepted (quantisation_rules 1) step_fields
unfolding step_fields accepts_fields accepts_field number_of component_bands resolution_bands
steps_accepted = AllAccepted-by_test (quantisation_rules 1) step_fields refl

length_fields : ℕ → ℕ → ℕ → List (List ℕ)
length_fields a b c = (0 ∷ 0x13 ∷ []) ∷ (0 ∷ []) ∷ (0x50 ∷ []) ∷ (0 ∷ []) ∷ four_bytes a ∷ (0 ∷ []) ∷ four_bytes b ∷ (0 ∷ []) ∷ four_bytes c ∷ []

lengths_accepted : (a b c : ℕ) → AllAccepted lengths_rules (length_fields a b c)
unfolding length_fields accepts_fields accepts_field number_of
lengths_accepted a b c = AllAccepted-by_test lengths_rules (length_fields a b c) refl

comment_accepted : AllAccepted (within 2 5 65535 ∷ []) ((0 ∷ 12 ∷ []) ∷ [])
unfolding accepts_fields accepts_field number_of
comment_accepted = AllAccepted-by_test (within 2 5 65535 ∷ []) ((0 ∷ 12 ∷ []) ∷ []) refl

main_read-by : (bytes : List ℕ) (width height next : ℕ) → marker_at bytes (λ m. m == 0xFF4F) 0 ≡ Ok 0xFF4F → marker_at bytes (λ m. m == 0xFF51) 2 ≡ Ok 0xFF51
    → number_at bytes 8 4 ≡ width → number_at bytes 12 4 ≡ height → fields_end bytes (size_rules width height) 4 ≡ Ok next
    → main_read bytes ≡ segments_read bytes (length bytes) (head_of_size bytes width height) next
unfolding main_read
main_read-by bytes width height next start size wide high end = rw (start, size, wide, high, end) refl

-- ---- the header and the marker of the first tile-part

header_bytes : Shape → ℕ → ℕ → ℕ → ℕ → List ℕ → List ℕ
header_bytes shape a b c cut rest = main_header shape (a ∷ b ∷ c ∷ []) cut ++ 0xFF ∷ 0x90 ∷ rest

length-header_bytes : (shape : Shape) (a b c cut : ℕ) (rest : List ℕ) → length (header_bytes shape a b c cut rest) ≡ suc (suc (suc (suc (suc (140 + length rest)))))
unfolding header_bytes
length-header_bytes shape a b c cut rest =
    rw (length-append (main_header shape (a ∷ b ∷ c ∷ []) cut) (0xFF ∷ 0x90 ∷ rest), length-main_header shape a b c cut) (omega arith)

module _ (shape : Shape) (a b c cut : ℕ) (rest : List ℕ) where
  bytes : List ℕ
  bytes = header_bytes shape a b c cut rest

  first_marker : marker_at bytes (λ m. m == 0xFF4F) 0 ≡ Ok 0xFF4F
  unfolding bytes header_bytes main_header component_bands resolution_bands
  first_marker = marker_at-is bytes (λ m. m == 0xFF4F) 0 0xFF 0x4F (drop 2 bytes) refl refl

  size_marker : marker_at bytes (λ m. m == 0xFF51) 2 ≡ Ok 0xFF51
  unfolding bytes header_bytes main_header component_bands resolution_bands
  size_marker = marker_at-is bytes (λ m. m == 0xFF51) 2 0xFF 0x51 (drop 4 bytes) refl refl

  width_is : shape.width < 2 ^ 32 → number_at bytes 8 4 ≡ shape.width
  unfolding bytes header_bytes main_header component_bands resolution_bands
  width_is small = number_at-field bytes 8 (four_bytes shape.width) (drop 12 bytes) refl ∙ number_of-four_bytes shape.width small

  height_is : shape.height < 2 ^ 32 → number_at bytes 12 4 ≡ shape.height
  unfolding bytes header_bytes main_header component_bands resolution_bands
  height_is small = number_at-field bytes 12 (four_bytes shape.height) (drop 16 bytes) refl ∙ number_of-four_bytes shape.height small

  size_end : IsPictureSize shape → fields_end bytes (size_rules shape.width shape.height) 4 ≡ Ok 51
  unfolding bytes header_bytes main_header component_bands resolution_bands size_fields
  size_end s = fields_end-is bytes (size_rules shape.width shape.height) (size_fields shape) (drop 51 bytes) 4 (size_accepted shape s) refl

  -- what is known behind each segment
  head0 : HeadSoFar
  head0 = head_of_size bytes shape.width shape.height

  head1 : HeadSoFar
  head1 = with_segment bytes 0xFF52 53 head0

  head2 : HeadSoFar
  head2 = with_segment bytes 0xFF5C 73 head1

  head3 : HeadSoFar
  head3 = with_segment bytes 0xFF55 110 head2

  head4 : HeadSoFar
  head4 = with_segment bytes 0xFF64 131 head3

  coding_read : (n : ℕ) → segments_read bytes (suc n) head0 51 ≡ segments_read bytes n head1 71
  unfolding bytes header_bytes main_header component_bands resolution_bands head0 head1 coding_fields
  coding_read n =
      segments_read-step bytes n 51 0xFF52 71 head0 (marker_at-is bytes (may_follow bytes head0) 51 0xFF 0x52 (drop 53 bytes) refl refl) refl
      (fields_end-is bytes coding_rules coding_fields (drop 71 bytes) 53 coding_accepted refl)

  steps_read : (n : ℕ) → segments_read bytes (suc n) head1 71 ≡ segments_read bytes n head2 108
  unfolding bytes header_bytes main_header component_bands resolution_bands head0 head1 head2 step_fields
  steps_read n =
      segments_read-step bytes n 71 0xFF5C 108 head1 (marker_at-is bytes (may_follow bytes head1) 71 0xFF 0x5C (drop 73 bytes) refl refl) refl
      (fields_end-is bytes (quantisation_rules 1) step_fields (drop 108 bytes) 73 steps_accepted refl)

  lengths_read : (n : ℕ) → segments_read bytes (suc n) head2 108 ≡ segments_read bytes n head3 129
  unfolding bytes header_bytes main_header component_bands resolution_bands head0 head1 head2 head3 length_fields
  lengths_read n =
      segments_read-step bytes n 108 0xFF55 129 head2 (marker_at-is bytes (may_follow bytes head2) 108 0xFF 0x55 (drop 110 bytes) refl refl) refl
      (fields_end-is bytes lengths_rules (length_fields a b c) (drop 129 bytes) 110 (lengths_accepted a b c) refl)

  comment_read : (n : ℕ) → segments_read bytes (suc n) head3 129 ≡ segments_read bytes n head4 143
  unfolding bytes header_bytes main_header component_bands resolution_bands head0 head1 head2 head3 head4 number_of
  comment_read n =
      segments_read-step bytes n 129 0xFF64 143 head3 (marker_at-is bytes (may_follow bytes head3) 129 0xFF 0x64 (drop 131 bytes) refl refl) refl
      (rw (
        fields_end-is bytes (within 2 5 65535 ∷ []) ((0 ∷ 12 ∷ []) ∷ []) (drop 133 bytes) 131 comment_accepted refl,
        is_there bytes 131 (take 12 (drop 131 bytes)) (drop 143 bytes) refl (omega arith),
      ) refl)

  tile_read : (n : ℕ) → segments_read bytes (suc n) head4 143 ≡ Ok (head_at bytes head4 143)
  unfolding bytes header_bytes main_header component_bands resolution_bands head0 head1 head2 head3 head4
  tile_read n = segments_read-end bytes n 143 head4 (marker_at-is bytes (may_follow bytes head4) 143 0xFF 0x90 (drop 145 bytes) refl refl)

  planes_are : planes_at bytes 73 ≡ map plane_limit (component_bands 0)
  unfolding bytes header_bytes main_header component_bands resolution_bands number_of
  planes_are = refl

  parts_are : a < 2 ^ 32 → b < 2 ^ 32 → c < 2 ^ 32 → parts_at bytes 110 ≡ a ∷ b ∷ c ∷ []
  unfolding bytes header_bytes main_header component_bands resolution_bands
  parts_are small_a small_b small_c =
      three_same (number_of-four_bytes a small_a) (number_of-four_bytes b small_b) (number_of-four_bytes c small_c)
    where
      three_same : {x y z : ℕ} → x ≡ a → y ≡ b → z ≡ c → x ∷ y ∷ z ∷ [] ≡ a ∷ b ∷ c ∷ []
      three_same p q r = rw (p, q, r) refl

  cut_is : cut < 2 ^ 32 → cut_with bytes None 131 ≡ Some cut
  unfolding bytes header_bytes main_header component_bands resolution_bands number_of
  cut_is small = ap Some (number_of-four_bytes cut small)

  head_is : a < 2 ^ 32 → b < 2 ^ 32 → c < 2 ^ 32 → cut < 2 ^ 32
      → head_at bytes head4 143 ≡ record { shape = shape; mb = map plane_limit (component_bands 0); parts = a ∷ b ∷ c ∷ []; cut = Some cut; next = 143 }
  unfolding head0 head1 head2 head3 head4
  head_is small_a small_b small_c small_cut =
      same_head planes_are (parts_are small_a small_b small_c) (cut_is small_cut)
    where
      same_head : {mb mb' parts parts' : List ℕ} {cut cut' : Option ℕ} → mb ≡ mb' → parts ≡ parts' → cut ≡ cut'
          → (let head : MainHead = record { shape = shape; mb = mb; parts = parts; cut = cut; next = 143 } in head) ≡ record { shape = shape; mb = mb'; parts = parts'; cut = cut'; next = 143 }
      same_head p q r = rw (p, q, r) refl

  pub main_read-is : IsPictureSize shape → a < 2 ^ 32 → b < 2 ^ 32 → c < 2 ^ 32 → cut < 2 ^ 32
      → main_read (main_header shape (a ∷ b ∷ c ∷ []) cut ++ 0xFF ∷ 0x90 ∷ rest)
      ≡ Ok (record { shape = shape; mb = map plane_limit (component_bands 0); parts = a ∷ b ∷ c ∷ []; cut = Some cut; next = 143 })
  unfolding bytes header_bytes head0
  main_read-is s small_a small_b small_c small_cut =
      let small_width : shape.width < 2 ^ 32 = omega (arith, s.greatest_width) in
      let small_height : shape.height < 2 ^ 32 = omega (arith, s.greatest_height) in
      main_read-by bytes shape.width shape.height 51 first_marker size_marker (width_is small_width) (height_is small_height) (size_end s)
      ∙ ap (λ (n : ℕ). segments_read bytes n head0 51) (length-header_bytes shape a b c cut rest)
      ∙ coding_read (suc (suc (suc (suc (140 + length rest)))))
      ∙ steps_read (suc (suc (suc (140 + length rest))))
      ∙ lengths_read (suc (suc (140 + length rest)))
      ∙ comment_read (suc (140 + length rest))
      ∙ tile_read (140 + length rest)
      ∙ ap Ok (head_is small_a small_b small_c small_cut)

-- ---- a whole stream begins with them

stream_begins : (shape : Shape) (q : List ℤ) (cut : ℕ)
    → stream shape q cut ≡ main_header shape (part_lengths shape q cut) cut ++ 0xFF ∷ 0x90 ∷ drop 2 (flat_map (tile_part shape q cut) components ++ 0xFF ∷ 0xD9 ∷ [])
unfolding stream
stream_begins shape q cut = append_assoc (main_header shape (part_lengths shape q cut) cut) (flat_map (tile_part shape q cut) components) (0xFF ∷ 0xD9 ∷ [])

pub main_read-stream : (shape : Shape) (q : List ℤ) (cut : ℕ) → IsPictureSize shape → cut < 2 ^ 32
    → part_length shape q cut 0 < 2 ^ 32 → part_length shape q cut 1 < 2 ^ 32 → part_length shape q cut 2 < 2 ^ 32
    → main_read (stream shape q cut) ≡ Ok (record { shape = shape; mb = map plane_limit (component_bands 0); parts = part_lengths shape q cut; cut = Some cut; next = 143 })
main_read-stream shape q cut s small first second third =
    ap main_read (stream_begins shape q cut)
    ∙ main_read-is shape (part_length shape q cut 0) (part_length shape q cut 1) (part_length shape q cut 2) cut (drop 2 (flat_map (tile_part shape q cut) components ++ 0xFF ∷ 0xD9 ∷ [])) s first second third small
