-- What is known of a main header that was read.
use Rattle.std.proofs.Common.{subst, ◌≡◌, ℕ, zero, suc, ◌+◌, ◌*◌, ◌<◌, ◌≤◌, sym, ◌∙◌, arith, Bool, true, false, List, [], ◌∷◌, length, drop, get_or, Result, Ok, Err, Option, Some, None}
use Rattle.std.specs.Prelude.{if◌then◌else◌, ◌==◌, All, IfSome, IfOk, replicate}
use Rattle.std.proofs.lemmas.Bool.{leb-true}
use Rattle.std.proofs.lemmas.List.{get_or_default}
use Rattle.codec_terms.specs.declared.reading.MainHead.{MainHead}
use Rattle.codec_terms.specs.declared.reading.MarkerRefusal.{MarkerRefusal}
use Rattle.codec_terms.specs.Reading.{on_ok}
use Rattle.codec_terms.specs.MainReading.{fixed, guard_rule, step_rule, number_at, fields_end, marker_at, comment_end, segment_end, with_segment, cut_with, may_follow, head_at, HeadSoFar, head_of_size, coding_rules, quantisation_rules, guard_bits_at, lengths_rules, size_rules, planes_of, planes_at, parts_at, list_or_empty, segments_read, main_read}
use Rattle.codec_laws.specs.Bounds.{IsPictureSize}
use Rattle.code_markers.proofs.Results.{on_ok-parts}
use Rattle.code_markers.proofs.Places.{fields_end-first, marker_at-there}
use Rattle.code_markers.proofs.Segments.{size_front, planes_at-index}

-- ---- the numbers of bit-planes

steps-accepted : (bytes : List ℕ) (guard_bits n at next : ℕ) → fields_end bytes (replicate n (step_rule guard_bits)) at ≡ Ok next → (k : ℕ) → k < n → planes_of guard_bits (number_at bytes (at + 2 * k) 2) ≤ 31
steps-accepted bytes guard_bits zero at next h k p = absurd (omega arith)
steps-accepted bytes guard_bits (suc n) at next h zero p =
    let first = fields_end-first bytes (step_rule guard_bits) (replicate n (step_rule guard_bits)) at next h in
    let place : at + 2 * 0 ≡ at = omega arith in
    rw place (leb-true (planes_of guard_bits (number_at bytes at 2)) 31 first.accepted)
steps-accepted bytes guard_bits (suc n) at next h (suc k) p =
    let first = fields_end-first bytes (step_rule guard_bits) (replicate n (step_rule guard_bits)) at next h in
    let place : at + 2 * suc k ≡ at + 2 + 2 * k = omega arith in
    rw place (steps-accepted bytes guard_bits n (at + 2) next first.later k (omega arith))

planes-few : (bytes : List ℕ) (at next : ℕ) → fields_end bytes (quantisation_rules (guard_bits_at bytes at)) at ≡ Ok next → All (λ n. n ≤ 31) (planes_at bytes at)
planes-few bytes at next h k d p =
    let guard_bits = guard_bits_at bytes at in
    let size = fields_end-first bytes (fixed 2 0x23) (guard_rule ∷ replicate 16 (step_rule guard_bits)) at next h in
    let guard = fields_end-first bytes guard_rule (replicate 16 (step_rule guard_bits)) (at + 2) next size.later in
    let place : at + 2 + 1 ≡ at + 3 = omega arith in
    let steps : fields_end bytes (replicate 16 (step_rule guard_bits)) (at + 3) ≡ Ok next = rw (← place) guard.later in
    let same : get_or (planes_at bytes at) k d ≡ planes_of guard_bits (number_at bytes (at + 3 + 2 * k) 2) =
    get_or_default (planes_at bytes at) k d 0 p ∙ planes_at-index bytes at k p in
    subst (λ (n : ℕ). n ≤ 31) (sym same) (steps-accepted bytes guard_bits 16 (at + 3) next steps k p)

-- ---- segments

pub record KnownSoFar (head : HeadSoFar) : Type 0 where
  pub size : IsPictureSize head.shape
  pub planes : IfSome head.planes (λ planes. All (λ n. n ≤ 31) planes)

with_segment-known : (bytes : List ℕ) (marker at next : ℕ) (head : HeadSoFar) → KnownSoFar head → segment_end bytes marker at ≡ Ok next → KnownSoFar (with_segment bytes marker at head)
with_segment-known bytes marker at next head known h =
    by_marker (marker == 0xFF52) (marker == 0xFF5C) (marker == 0xFF55) h
  where
    by_marker : (coding quantisation lengths : Bool) → (if coding then fields_end bytes coding_rules at else if quantisation then fields_end bytes (quantisation_rules (guard_bits_at bytes at)) at else if lengths then fields_end bytes lengths_rules at else comment_end bytes at) ≡ Ok next
        → KnownSoFar (if coding then record head { coded = true } else if quantisation then record head { planes = Some (planes_at bytes at) } else if lengths then record head { parts = Some (parts_at bytes at) } else record head { cut = cut_with bytes head.cut at })
    by_marker true quantisation lengths h = record { size = known.size; planes = known.planes }
    by_marker false true lengths h = record { size = known.size; planes = planes-few bytes at next h }
    by_marker false false true h = record { size = known.size; planes = known.planes }
    by_marker false false false h = record { size = known.size; planes = known.planes }

pub record KnownHead (bytes : List ℕ) (head : MainHead) : Type 0 where
  pub size : IsPictureSize head.shape
  pub planes : All (λ n. n ≤ 31) head.mb
  pub next : head.next + 2 ≤ length bytes

planes-of_head : (planes : Option (List ℕ)) → IfSome planes (λ planes. All (λ n. n ≤ 31) planes) → All (λ n. n ≤ 31) (list_or_empty [] planes)
planes-of_head None known = λ k d p. absurd (omega arith)
planes-of_head (Some planes) known = known

segments_read-known : (bytes : List ℕ) (n : ℕ) (head : HeadSoFar) (at : ℕ) (main : MainHead) → KnownSoFar head → segments_read bytes n head at ≡ Ok main → KnownHead bytes main
unfolding segments_read
segments_read-known bytes zero head at main known h = cc
segments_read-known bytes (suc n) head at main known h =
    let parts = on_ok-parts (marker_at bytes (may_follow bytes head) at) (λ marker. if marker == 0xFF90 then Ok (head_at bytes head at)
    else on_ok (segment_end bytes marker (at + 2)) (segments_read bytes n (with_segment bytes marker (at + 2) head))) main h in
    by_end parts.0 (parts.0 == 0xFF90) (λ head' next known' e. segments_read-known bytes n head' next main known' e) (marker_at-there bytes (may_follow bytes head) at parts.0 parts.1.0) parts.1.1
  where
    by_end : (marker : ℕ) (stops : Bool) → ((head' : HeadSoFar) (next : ℕ) → KnownSoFar head' → segments_read bytes n head' next ≡ Ok main → KnownHead bytes main) → at + 2 ≤ length bytes → (if stops then Ok (head_at bytes head at) else on_ok (segment_end bytes marker (at + 2)) (segments_read bytes n (with_segment bytes marker (at + 2) head))) ≡ Ok main → KnownHead bytes main
    by_end marker true later there e =
        let same : head_at bytes head at ≡ main = cc in
        subst (KnownHead bytes) same (record { size = known.size; planes = planes-of_head head.planes known.planes; next = there })
    by_end marker false later there e =
        let parts = on_ok-parts (segment_end bytes marker (at + 2)) (segments_read bytes n (with_segment bytes marker (at + 2) head)) main e in
        later (with_segment bytes marker (at + 2) head) parts.0 (with_segment-known bytes marker (at + 2) parts.0 head known parts.1.0) parts.1.1

-- ---- the whole

pub main_read-known : (bytes : List ℕ) (main : MainHead) → main_read bytes ≡ Ok main → KnownHead bytes main
unfolding main_read
main_read-known bytes main h =
    let w = number_at bytes 8 4 in
    let t = number_at bytes 12 4 in
    let segments : ℕ → Result MainHead MarkerRefusal = segments_read bytes (length bytes) (head_of_size bytes w t) in
    let size : ℕ → Result MainHead MarkerRefusal = λ m. on_ok (fields_end bytes (size_rules w t) 4) segments in
    let start : ℕ → Result MainHead MarkerRefusal = λ m. on_ok (marker_at bytes (λ m. m == 0xFF51) 2) size in
    let started = on_ok-parts (marker_at bytes (λ m. m == 0xFF4F) 0) start main h in
    let sized = on_ok-parts (marker_at bytes (λ m. m == 0xFF51) 2) size main started.1.1 in
    let fields = on_ok-parts (fields_end bytes (size_rules w t) 4) segments main sized.1.1 in
    let is_size : IsPictureSize (record { width = w; height = t }) = size_front bytes 4 fields.0 (drop 4 (size_rules w t)) fields.1.0 in
    segments_read-known bytes (length bytes) (head_of_size bytes w t) fields.0 main (record { size = is_size; planes = tt }) fields.1.1

pub known-if_ok : (bytes : List ℕ) (r : Result MainHead MarkerRefusal) → r ≡ main_read bytes → IfOk r (KnownHead bytes)
known-if_ok bytes (Ok main) h = main_read-known bytes main (sym h)
known-if_ok bytes (Err e) h = tt
