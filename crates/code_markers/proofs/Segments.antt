-- Segments one behind another, and what they leave known.
use Rattle.std.proofs.Common.{◌≡◌, ◌≢◌, ℕ, zero, suc, ◌+◌, ◌-◌, ◌*◌, ◌<◌, ◌≤◌, refl, sym, ap, ◌∙◌, arith, Bool, true, false, List, [], ◌∷◌, length, get_or, Result, Ok, Err, Option, Some, None}
use Rattle.std.specs.Prelude.{if◌then◌else◌, nat_lt, nat_le, ◌==◌, is_some}
use Rattle.std.proofs.lemmas.Bool.{lt-ltb, ltb-false, and_parts, leb-true, eq-eqb, ne_eqb}
use Rattle.std.proofs.lemmas.List.{get_or-map}
use Rattle.std.proofs.lemmas.List.FromFn.{get_or-map-range_with_len}
use Rattle.codec_laws.specs.Bounds.{IsPictureSize}
use Rattle.codec_terms.specs.declared.reading.MainHead.{MainHead}
use Rattle.codec_terms.specs.declared.reading.MarkerRefusal.{MarkerRefusal}
use Rattle.codec_terms.specs.declared.reading.MarkerRefusal.TheVariants.{Truncated}
use Rattle.codec_terms.specs.Reading.{on_ok}
use Rattle.codec_terms.specs.MainReading.{FieldRule, fixed, within, numbers_at, planes_at, planes_of, number_at, fields_end, marker_at, comment_end, cut_with, segment_end, with_segment, may_follow, head_at, HeadSoFar, coding_rules, quantisation_rules, guard_bits_at, lengths_rules, segments_read}
use Rattle.code_markers.proofs.Numbers.{number_at-upper}
use Rattle.code_markers.proofs.Places.{First, fields_end-first, fields_end-behind, marker_at-there}

-- ---- comments

-- a comment that is there
pub record Comment (bytes : List ℕ) (at next : ℕ) : Type 0 where
  pub place : next ≡ at + number_at bytes at 2
  pub long : 5 ≤ number_at bytes at 2
  pub within : next ≤ length bytes

comment-tests : (short : Bool) (field : Result ℕ MarkerRefusal) (e : MarkerRefusal) (m next : ℕ) → on_ok field (λ content. if short then Err e else Ok m) ≡ Ok next
    → ((short ≡ false) × (m ≡ next)) × ((n : ℕ) × (field ≡ Ok n))
comment-tests short (Err e') e m next h = cc
comment-tests true (Ok n) e m next h = cc
comment-tests false (Ok n) e m next h = ((refl, cc), (n, refl))

pub comment_end-comment : (bytes : List ℕ) (at next : ℕ) → comment_end bytes at ≡ Ok next → Comment bytes at next
comment_end-comment bytes at next h =
    let tests = comment-tests (nat_lt (length bytes) (at + number_at bytes at 2)) (fields_end bytes (within 2 5 65535 ∷ []) at) (Truncated (length bytes)) (at + number_at bytes at 2) next h in
    let first : First bytes (within 2 5 65535) [] at tests.1.0 = fields_end-first bytes (within 2 5 65535) [] at tests.1.0 tests.1.1 in
    let fits : at + number_at bytes at 2 ≤ length bytes = ltb-false (length bytes) (at + number_at bytes at 2) tests.0.0 in
    let long : 5 ≤ number_at bytes at 2 = leb-true 5 (number_at bytes at 2) (and_parts (nat_le 5 (number_at bytes at 2)) (nat_le (number_at bytes at 2) 65535) first.accepted).0 in
    record { place = sym tests.0.1; long = long; within = omega (arith, tests.0.1) }

-- the first that states a cut counts
pub cut_with-some : (bytes : List ℕ) (at : ℕ) (cut : Option ℕ) → is_some cut ≡ true → cut_with bytes cut at ≡ cut
cut_with-some bytes at None h = cc
cut_with-some bytes at (Some cut) h = refl

-- only one of 12 bytes states a cut
pub cut_with-other : (bytes : List ℕ) (at next : ℕ) (cut : Option ℕ) → ((k : ℕ) → get_or bytes k 0 < 256) → Comment bytes at next → next ≢ at + 12 → cut_with bytes cut at ≡ cut
cut_with-other bytes at next (Some cut) small comment other = refl
cut_with-other bytes at next None small comment other =
    let upper = number_at-upper bytes at (omega (arith, comment.place, comment.long, comment.within)) small in
    let differs : number_at bytes at 4 ≢ 0x000C0000 = omega (arith, upper, comment.place) in
    rw (ne_eqb (number_at bytes at 4) 0x000C0000 differs) refl

-- ---- the sub-bands' numbers of bit-planes

pub planes_at-index : (bytes : List ℕ) (at i : ℕ) → i < 16 → get_or (planes_at bytes at) i 0 ≡ planes_of (guard_bits_at bytes at) (number_at bytes (at + 3 + 2 * i) 2)
planes_at-index bytes at i p =
    get_or-map (planes_of (guard_bits_at bytes at)) (numbers_at bytes (at + 3) 2 2 16) i 0 0 p
    ∙ ap (planes_of (guard_bits_at bytes at)) (get_or-map-range_with_len (λ k. number_at bytes (at + 3 + 2 * k) 2) 0 16 i i 0 p (omega arith))

-- ---- the picture's size

pub size_front :
    (bytes : List ℕ) (at next : ℕ) (more : List FieldRule) →
    fields_end bytes (fixed 2 0x2F ∷ fixed 2 3 ∷ within 4 32 2048 ∷ within 4 32 1080 ∷ more) at ≡ Ok next →
    IsPictureSize (record { width = number_at bytes (at + 4) 4; height = number_at bytes (at + 8) 4 })
size_front bytes at next more h =
    let size = fields_end-first bytes (fixed 2 0x2F) (fixed 2 3 ∷ within 4 32 2048 ∷ within 4 32 1080 ∷ more) at next h in
    let profile = fields_end-first bytes (fixed 2 3) (within 4 32 2048 ∷ within 4 32 1080 ∷ more) (at + 2) next size.later in
    let width_at : at + 2 + 2 ≡ at + 4 = omega arith in
    let width = fields_end-first bytes (within 4 32 2048) (within 4 32 1080 ∷ more) (at + 4) next (rw (← width_at) profile.later) in
    let height_at : at + 4 + 4 ≡ at + 8 = omega arith in
    let height = fields_end-first bytes (within 4 32 1080) more (at + 8) next (rw (← height_at) width.later) in
    let w = number_at bytes (at + 4) 4 in
    let h = number_at bytes (at + 8) 4 in
    let wide = and_parts (nat_le 32 w) (nat_le w 2048) width.accepted in
    let high = and_parts (nat_le 32 h) (nat_le h 1080) height.accepted in
    record {
      least_width = leb-true 32 w wide.0;
      greatest_width = leb-true w 2048 wide.1;
      least_height = leb-true 32 h high.0;
      greatest_height = leb-true h 1080 high.1;
    }

-- ---- where a segment ends

pub record Ends (bytes : List ℕ) (at next : ℕ) : Type 0 where
  pub on : at ≤ next
  pub within : next ≤ length bytes

fields-ends : (bytes : List ℕ) (rules : List FieldRule) (at next : ℕ) → at ≤ length bytes → fields_end bytes rules at ≡ Ok next → Ends bytes at next
fields-ends bytes rules at next p h =
    let behind = fields_end-behind bytes rules at next p h in
    record { on = omega (arith, behind.place); within = behind.within }

pub segment_end-ends : (bytes : List ℕ) (marker at next : ℕ) → at ≤ length bytes → segment_end bytes marker at ≡ Ok next → Ends bytes at next
segment_end-ends bytes marker at next p h =
    by_marker (marker == 0xFF52) (marker == 0xFF5C) (marker == 0xFF55) h
  where
    by_marker : (coding quantisation lengths : Bool) → (if coding then fields_end bytes coding_rules at else if quantisation then fields_end bytes (quantisation_rules (guard_bits_at bytes at)) at else if lengths then fields_end bytes lengths_rules at else comment_end bytes at) ≡ Ok next → Ends bytes at next
    by_marker true quantisation lengths h = fields-ends bytes coding_rules at next p h
    by_marker false true lengths h = fields-ends bytes (quantisation_rules (guard_bits_at bytes at)) at next p h
    by_marker false false true h = fields-ends bytes lengths_rules at next p h
    by_marker false false false h =
        let comment = comment_end-comment bytes at next h in
        record { on = omega (arith, comment.place); within = comment.within }

-- ---- segments one behind another

module _ (bytes : List ℕ) where
  -- what follows a marker that may stand there
  after_marker : ℕ → HeadSoFar → ℕ → ℕ → Result MainHead MarkerRefusal
  after_marker n head at marker =
      if marker == 0xFF90 then Ok (head_at bytes head at)
      else on_ok (segment_end bytes marker (at + 2)) (segments_read bytes n (with_segment bytes marker (at + 2) head))

  after_marker-same : (n m : ℕ) (head : HeadSoFar) (at : ℕ) → ((head' : HeadSoFar) (next : ℕ) → length bytes - next ≤ n → segments_read bytes n head' next ≡ segments_read bytes m head' next)
      → length bytes - at ≤ suc n → (r : Result ℕ MarkerRefusal) → marker_at bytes (may_follow bytes head) at ≡ r → on_ok r (after_marker n head at) ≡ on_ok r (after_marker m head at)
  unfolding after_marker
  after_marker-same n m head at same p (Err e) h = refl
  after_marker-same n m head at same p (Ok marker) h = by_end (marker == 0xFF90) (segment_end bytes marker (at + 2)) refl
    where
      there : at + 2 ≤ length bytes
      there = marker_at-there bytes (may_follow bytes head) at marker h

      by_end : (stops : Bool) (r : Result ℕ MarkerRefusal) → segment_end bytes marker (at + 2) ≡ r
          → (if stops then Ok (head_at bytes head at) else on_ok r (segments_read bytes n (with_segment bytes marker (at + 2) head))) ≡ (if stops then Ok (head_at bytes head at) else on_ok r (segments_read bytes m (with_segment bytes marker (at + 2) head)))
      by_end true r e = refl
      by_end false (Err e') e = refl
      by_end false (Ok next) e =
          let ends = segment_end-ends bytes marker (at + 2) next there e in
          same (with_segment bytes marker (at + 2) head) next (omega (arith, ends.on))

  -- more turns than bytes change nothing
  pub segments_read-enough : (n m : ℕ) (head : HeadSoFar) (at : ℕ) → length bytes - at ≤ n → n ≤ m → segments_read bytes n head at ≡ segments_read bytes m head at
  unfolding segments_read after_marker
  segments_read-enough zero zero head at p q = refl
  segments_read-enough zero (suc m) head at p q = rw (lt-ltb (length bytes) (at + 2) (omega arith)) refl
  segments_read-enough (suc n) zero head at p q = absurd (omega arith)
  segments_read-enough (suc n) (suc m) head at p q =
      after_marker-same n m head at (λ head' next r. segments_read-enough n m head' next r (omega arith)) p (marker_at bytes (may_follow bytes head) at) refl

  -- no marker
  pub segments_read-refused : (n : ℕ) (head : HeadSoFar) (at : ℕ) (e : MarkerRefusal) → length bytes - at ≤ n → marker_at bytes (may_follow bytes head) at ≡ Err e → segments_read bytes n head at ≡ Err e
  unfolding segments_read
  segments_read-refused zero head at e p h =
      let short : marker_at bytes (may_follow bytes head) at ≡ Err (Truncated (length bytes)) = rw (lt-ltb (length bytes) (at + 2) (omega arith)) refl in
      ap Err (let same : Err (Truncated (length bytes)) ≡ Err e = sym short ∙ h in cc)
  segments_read-refused (suc n) head at e p h = rw h refl

  -- the first tile-part
  pub segments_read-finished : (n : ℕ) (head : HeadSoFar) (at marker : ℕ) → length bytes - at ≤ n → marker_at bytes (may_follow bytes head) at ≡ Ok marker → marker ≡ 0xFF90 → segments_read bytes n head at ≡ Ok (head_at bytes head at)
  unfolding segments_read
  segments_read-finished zero head at marker p h stops = absurd (omega (arith, marker_at-there bytes (may_follow bytes head) at marker h))
  segments_read-finished (suc n) head at marker p h stops = rw (h, eq-eqb marker 0xFF90 stops) refl

  -- a segment that is refused
  pub segments_read-segment_refused : (n : ℕ) (head : HeadSoFar) (at marker : ℕ) (e : MarkerRefusal) → length bytes - at ≤ n → marker_at bytes (may_follow bytes head) at ≡ Ok marker → marker ≢ 0xFF90
      → segment_end bytes marker (at + 2) ≡ Err e → segments_read bytes n head at ≡ Err e
  unfolding segments_read
  segments_read-segment_refused zero head at marker e p h goes end = absurd (omega (arith, marker_at-there bytes (may_follow bytes head) at marker h))
  segments_read-segment_refused (suc n) head at marker e p h goes end = rw (h, ne_eqb marker 0xFF90 goes, end) refl

  -- a segment that is read
  pub segments_read-on : (head : HeadSoFar) (at marker next : ℕ) → marker_at bytes (may_follow bytes head) at ≡ Ok marker → marker ≢ 0xFF90
      → segment_end bytes marker (at + 2) ≡ Ok next → segments_read bytes (length bytes - at) head at ≡ segments_read bytes (length bytes - next) (with_segment bytes marker (at + 2) head) next
  unfolding segments_read
  segments_read-on head at marker next h goes end =
      by_turns (length bytes - at) refl
    where
      there : at + 2 ≤ length bytes
      there = marker_at-there bytes (may_follow bytes head) at marker h

      by_turns : (n : ℕ) → length bytes - at ≡ n → segments_read bytes n head at ≡ segments_read bytes (length bytes - next) (with_segment bytes marker (at + 2) head) next
      by_turns zero e = absurd (omega (arith, there))
      by_turns (suc n) e =
          let ends = segment_end-ends bytes marker (at + 2) next there end in
          let same = segments_read-enough (length bytes - next) n (with_segment bytes marker (at + 2) head) next (omega arith) (omega (arith, ends.on)) in
          rw (h, ne_eqb marker 0xFF90 goes, end) (sym same)
