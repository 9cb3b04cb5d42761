-- Writes that were done in part, and those that were done.
use Rattle.std.proofs.Common.{◌≡◌, ℕ, ◌+◌, ◌-◌, ◌≤◌, ◌<◌, false, List, ◌++◌, length, take, drop, get_or, ◌⊎◌, inl, inr, ◌∙◌, ap, arith}
use Rattle.std.proofs.lemmas.Bool.{cases_lt}
use Rattle.std.proofs.lemmas.List.{length-append, length-take, length-drop, get_or_append_left, get_or-append_right, get_or-take, get_or-drop}
use Rattle.std.proofs.lemmas.List.Elements.{All-append, All-take, All-drop}
use Rattle.disk_terms.specs.Disk.{AreBytes, DiffersWithin, MayLeave, Range, Trail, is_in, written_to}

pub partly_written : (trail : Trail) (old new : List ℕ) (range : Range) → MayLeave trail old → AreBytes new → range.at ≤ length old
    → DiffersWithin range old new → MayLeave (written_to range.at range.size trail) new
partly_written trail old new range left small inside within = grind arith

-- a place outside of a range
outside : (range : Range) (place : ℕ) → is_in place range ≡ false → (place < range.at) ⊎ (range.at + range.size ≤ place)
outside range place out =
    elim (cases_lt place range.at) [
      | inl before ↦ inl before
      | inr from ↦ elim (cases_lt place (range.at + range.size)) [
        | inl below ↦ absurd (grind arith)
        | inr behind ↦ inr behind
      ]
    ]

length-overwritten : (bytes new : List ℕ) (at : ℕ) → at ≤ length bytes
    → length (take at bytes ++ new ++ drop (at + length new) bytes) ≡ at + length new + (length bytes - (at + length new))
length-overwritten bytes new at inside = simp (length-append, length-take, length-drop) (omega arith)

-- the old bytes in front of the new ones and behind them
overwritten-outside : (bytes new : List ℕ) (at place : ℕ) → at ≤ length bytes → (place < at) ⊎ (at + length new ≤ place)
    → get_or (take at bytes ++ new ++ drop (at + length new) bytes) place 0 ≡ get_or bytes place 0
overwritten-outside bytes new at place inside (inl before) =
    let front : length (take at bytes) ≡ at = length-take at bytes ∙ omega arith in
    let both : length (take at bytes ++ new) ≡ at + length new = length-append (take at bytes) new ∙ ap (λ n. n + length new) front in
    get_or_append_left (take at bytes ++ new) (drop (at + length new) bytes) 0 place (omega arith)
    ∙ (get_or_append_left (take at bytes) new 0 place (omega arith) ∙ get_or-take at bytes place 0 before)
overwritten-outside bytes new at place inside (inr behind) =
    let front : length (take at bytes) ≡ at = length-take at bytes ∙ omega arith in
    let both : length (take at bytes ++ new) ≡ at + length new = length-append (take at bytes) new ∙ ap (λ n. n + length new) front in
    let on : at + length new + (place - (at + length new)) ≡ place = omega arith in
    get_or-append_right (take at bytes ++ new) (drop (at + length new) bytes) (at + length new) place 0 both behind
    ∙ (get_or-drop (at + length new) bytes (place - (at + length new)) 0 ∙ ap (λ n. get_or bytes n 0) on)

-- new bytes over the old ones
pub overwritten-within : (bytes new : List ℕ) (at : ℕ) → at ≤ length bytes
    → DiffersWithin (record { at = at; size = length new }) bytes (take at bytes ++ new ++ drop (at + length new) bytes)
overwritten-within bytes new at inside = record {
  least = omega (arith, length-overwritten bytes new at inside);
  greatest = omega (arith, length-overwritten bytes new at inside);
  kept = λ place _ out. overwritten-outside bytes new at place inside (outside (record { at = at; size = length new }) place out);
}

pub overwritten-left : (trail : Trail) (bytes new : List ℕ) (at : ℕ) → MayLeave trail bytes → AreBytes new → at ≤ length bytes
    → MayLeave (written_to at (length new) trail) (take at bytes ++ new ++ drop (at + length new) bytes)
overwritten-left trail bytes new at left small inside =
    let kept = All-append (λ byte. byte < 256) (take at bytes ++ new) (drop (at + length new) bytes)
    (All-append (λ byte. byte < 256) (take at bytes) new (All-take (λ byte. byte < 256) at bytes left.small) small)
    (All-drop (λ byte. byte < 256) (at + length new) bytes left.small) in
    partly_written trail bytes _ (record { at = at; size = length new }) left kept inside (overwritten-within bytes new at inside)
