-- One tile-part, in front of the later ones.
use Rattle.std.proofs.Common.{◌≡◌, ◌∙◌, ℕ, zero, suc, ◌+◌, ◌<◌, ◌≤◌, refl, ap, subst, arith, List, [], ◌∷◌, ◌++◌, take, drop, Ok, Err}
use Rattle.std.proofs.lemmas.List.{drop_all, take_all}
use Rattle.codec_terms.specs.declared.packet.PacketBand.{PacketBand}
use Rattle.codec_terms.specs.declared.reading.MainHead.{MainHead}
use Rattle.codec_terms.specs.declared.reading.ReadRefusal.{ReadRefusal}
use Rattle.codec_terms.specs.Codestream.{components}
use Rattle.codec_terms.specs.Precincts.{packet_order}
use Rattle.codec_terms.specs.StreamReading.{tile_part_read, parts_read}
use Rattle.part_packets.specs.Refused.{IsRefused}
use Rattle.part_packets.specs.Shapes.{AreOfPrecincts, AreOfComponents}
use Rattle.part_packets.proofs.Behind.{Reads, in_front}

next_component : (k : ℕ) → k < 3 → drop k components ≡ k ∷ drop (k + 1) components
next_component zero below = refl
next_component (suc zero) below = refl
next_component (suc (suc zero)) below = refl
next_component (suc (suc (suc k))) below = absurd (omega arith)

component_after : (k : ℕ) → k < 3 → take (k + 1) components ≡ take k components ++ k ∷ []
component_after zero below = refl
component_after (suc zero) below = refl
component_after (suc (suc zero)) below = refl
component_after (suc (suc (suc k))) below = absurd (omega arith)

module _ (bytes : List ℕ) (head : MainHead) where
  abbrev pub parts_from : List ℕ → ℕ → Reads (List (List PacketBand))
  parts_from left at = parts_read bytes head left at

  first_part : (component : ℕ) (later : List ℕ) (at : ℕ) (packets : List (List PacketBand)) (next : ℕ) → tile_part_read bytes head component at ≡ Ok (packets, next)
      → parts_from (component ∷ later) at ≡ in_front packets (parts_from later next)
  unfolding parts_read
  first_part component later at packets next h = rw h refl

  first_part_refused : (component : ℕ) (later : List ℕ) (at : ℕ) (refusal : ReadRefusal) → tile_part_read bytes head component at ≡ Err refusal
      → parts_from (component ∷ later) at ≡ Err refusal
  unfolding parts_read
  first_part_refused component later at refusal h = rw h refl

  pub next_part : (k at : ℕ) (packets : List (List PacketBand)) (next : ℕ) → k < 3 → tile_part_read bytes head k at ≡ Ok (packets, next)
      → parts_from (drop k components) at ≡ in_front packets (parts_from (drop (k + 1) components) next)
  next_part k at packets next below h = ap (λ left. parts_from left at) (next_component k below) ∙ first_part k (drop (k + 1) components) at packets next h

  pub next_part_refused : (k at : ℕ) (refusal : ReadRefusal) → k < 3 → IsRefused (tile_part_read bytes head k at) refusal
      → IsRefused (parts_from (drop k components) at) refusal
  next_part_refused k at refusal below h = λ other.
      ap (λ left. parts_from left at) (next_component k below) ∙ first_part_refused k (drop (k + 1) components) at refusal (h other)

  pub no_parts : (k at : ℕ) → 3 ≤ k → parts_from (drop k components) at ≡ Ok ([], at)
  unfolding parts_read
  no_parts k at past = rw (drop_all k components past) refl

-- ---- their shapes

part_behind : (head : MainHead) (done : List ℕ) (component : ℕ) (parts : List (List (List PacketBand))) (part : List (List PacketBand)) → AreOfComponents head done parts
    → AreOfPrecincts head component (packet_order head.shape) part → AreOfComponents head (done ++ component ∷ []) (parts ++ part ∷ [])
part_behind head [] component [] part fit h = (h, tt)
part_behind head [] component (p ∷ parts) part fit h = absurd fit
part_behind head (c ∷ done) component [] part fit h = absurd fit
part_behind head (c ∷ done) component (p ∷ parts) part fit h = (fit.0, part_behind head done component parts part fit.1 h)

pub next_part-fits : (head : MainHead) (k : ℕ) (parts : List (List (List PacketBand))) (part : List (List PacketBand)) (after : List (List (List PacketBand))) → k < 3
    → AreOfComponents head (take k components) parts → AreOfPrecincts head k (packet_order head.shape) part → after ≡ parts ++ part ∷ []
    → AreOfComponents head (take (k + 1) components) after
next_part-fits head k parts part after below fit h same = rw (component_after k below, same) (part_behind head (take k components) k parts part fit h)

pub all_fit : (head : MainHead) (k : ℕ) (parts : List (List (List PacketBand))) → 3 ≤ k → AreOfComponents head (take k components) parts → AreOfComponents head components parts
all_fit head k parts past fit = subst (λ (done : List ℕ). AreOfComponents head done parts) (take_all k components past) fit
