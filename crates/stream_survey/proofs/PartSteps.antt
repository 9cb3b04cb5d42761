-- One tile-part, in front of the later ones.
use Rattle.std.proofs.Common.{◌≡◌, ◌∙◌, ℕ, zero, suc, ◌+◌, ◌<◌, ◌≤◌, refl, ap, arith, List, [], ◌∷◌, drop, Result, Ok, Err}
use Rattle.std.proofs.lemmas.List.{drop_all}
use Rattle.codec_terms.specs.declared.packet.PacketBand.{PacketBand}
use Rattle.codec_terms.specs.declared.reading.MainHead.{MainHead}
use Rattle.codec_terms.specs.declared.reading.ReadRefusal.{ReadRefusal}
use Rattle.codec_terms.specs.Reading.{on_ok}
use Rattle.codec_terms.specs.Codestream.{components}
use Rattle.codec_terms.specs.StreamReading.{tile_part_read, parts_read}
use Rattle.stream_survey.specs.declared.counts.Counted.{Counted}
use Rattle.stream_survey.specs.Counts.{included_blocks, counted, counted_parts}
use Rattle.stream_survey.proofs.Behind.{behind, counted-refused, counted_parts-front}

abbrev Packets : Type 0
Packets = Result (List (List PacketBand) × ℕ) ReadRefusal

abbrev Parts : Type 0
Parts = Result (List (List (List PacketBand)) × ℕ) ReadRefusal

abbrev with_later : (ℕ → Parts) → Packets → Parts
with_later later r = on_ok r (λ (r : List (List PacketBand) × ℕ). on_ok (later r.1) (λ rest. Ok (r.0 ∷ rest.0, rest.1)))

later-counted : (later : ℕ → Parts) (r : Packets) (part : Counted) → counted r ≡ Ok part → counted_parts (with_later later r) ≡ behind part.blocks (counted_parts (later part.next))
later-counted later (Ok r) part h =
    let blocks : included_blocks r.0 ≡ part.blocks = cc in
    let next : r.1 ≡ part.next = cc in
    counted_parts-front r.0 (later r.1) ∙ (ap (λ (k : ℕ). behind k (counted_parts (later r.1))) blocks ∙ ap (λ (k : ℕ). behind part.blocks (counted_parts (later k))) next)
later-counted later (Err e) part h = cc

next_component : (k : ℕ) → k < 3 → drop k components ≡ k ∷ drop (k + 1) components
next_component zero below = refl
next_component (suc zero) below = refl
next_component (suc (suc zero)) below = refl
next_component (suc (suc (suc k))) below = absurd (omega arith)

no_component : (k : ℕ) → 3 ≤ k → drop k components ≡ []
no_component k past = drop_all k components past

module _ (bytes : List ℕ) (head : MainHead) where
  abbrev pub parts_from : List ℕ → ℕ → Result Counted ReadRefusal
  parts_from left at = counted_parts (parts_read bytes head left at)

  first_part : (component : ℕ) (later : List ℕ) (at : ℕ) (part : Counted) → counted (tile_part_read bytes head component at) ≡ Ok part
      → parts_from (component ∷ later) at ≡ behind part.blocks (parts_from later part.next)
  unfolding parts_read
  first_part component later at part h = later-counted (parts_read bytes head later) (tile_part_read bytes head component at) part h

  first_part_refused : (component : ℕ) (later : List ℕ) (at : ℕ) (refusal : ReadRefusal) → tile_part_read bytes head component at ≡ Err refusal
      → parts_from (component ∷ later) at ≡ Err refusal
  unfolding parts_read
  first_part_refused component later at refusal h = ap (λ r. counted_parts (with_later (parts_read bytes head later) r)) h

  pub next_part : (k at : ℕ) (part : Counted) → k < 3 → counted (tile_part_read bytes head k at) ≡ Ok part
      → parts_from (drop k components) at ≡ behind part.blocks (parts_from (drop (k + 1) components) part.next)
  next_part k at part below h = ap (λ left. parts_from left at) (next_component k below) ∙ first_part k (drop (k + 1) components) at part h

  pub next_part_refused : (k at : ℕ) (refusal : ReadRefusal) → k < 3 → counted (tile_part_read bytes head k at) ≡ Err refusal
      → parts_from (drop k components) at ≡ Err refusal
  next_part_refused k at refusal below h =
      ap (λ left. parts_from left at) (next_component k below) ∙ first_part_refused k (drop (k + 1) components) at refusal (counted-refused (tile_part_read bytes head k at) refusal h)

  pub no_parts : (k at : ℕ) → 3 ≤ k → parts_from (drop k components) at ≡ Ok (record { blocks = 0; next = at })
  unfolding parts_read
  no_parts k at past = rw (no_component k past) refl
