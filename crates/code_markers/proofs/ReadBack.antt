-- What is written is read back.
use Rattle.std.proofs.Common.{refl, sym, ap, ◌∙◌, ◌+◌, append_assoc, ◌≡◌, ℕ, ◌<◌, ◌^◌, arith, List, [], ◌∷◌, ◌++◌, length, drop, map, get_or, Ok, Some}
use Rattle.std.specs.Prelude.{◌==◌}
use Rattle.std.proofs.Math.Seq.{drop-append-add}
use Rattle.std.proofs.lemmas.Bool.{eq-eqb}
use Rattle.codec_terms.specs.declared.reading.MainHead.{MainHead}
use Rattle.codec_terms.specs.Bits.{four_bytes}
use Rattle.codec_terms.specs.Grid.{items_of}
use Rattle.codec_terms.specs.declared.picture.Shape.{Shape}
use Rattle.codec_terms.specs.Bands.{plane_limit, component_bands}
use Rattle.codec_terms.specs.Codestream.{main_header, part_header}
use Rattle.codec_terms.specs.MainReading.{FieldRule, fixed, number_of, main_read}
use Rattle.codec_terms.specs.StreamReading.{stated_length, tile_part_start}
use Rattle.codec_laws.specs.Bounds.{IsPictureSize}
use Rattle.codec_laws.proofs.Headers.{AllAccepted, number_of-four_bytes, fields_end-is, marker_at-is, main_read-is}

pub main_read-written : (shape : Shape) (parts out rest : List ℕ) (cut : ℕ) → length parts ≡ 3 → ((k : ℕ) → get_or parts k 0 < 2 ^ 32) → cut < 2 ^ 32 → out ≡ main_header shape parts cut → IsPictureSize shape
    → main_read (out ++ 0xFF ∷ 0x90 ∷ rest) ≡ Ok (record { shape = shape; mb = map plane_limit (component_bands 0); parts = parts; cut = Some cut; next = 143 })
main_read-written shape [] out rest cut three small cut_small is size = absurd (omega arith)
main_read-written shape (a ∷ []) out rest cut three small cut_small is size = absurd (omega arith)
main_read-written shape (a ∷ b ∷ []) out rest cut three small cut_small is size = absurd (omega arith)
main_read-written shape (a ∷ b ∷ c ∷ []) out rest cut three small cut_small is size = rw is (main_read-is shape a b c cut rest size (small 0) (small 1) (small 2) cut_small)
main_read-written shape (a ∷ b ∷ c ∷ d ∷ ds) out rest cut three small cut_small is size = absurd (omega arith)

part_rules : ℕ → ℕ → List FieldRule
part_rules stated component = fixed 2 10 ∷ fixed 2 0 ∷ fixed 4 stated ∷ fixed 1 component ∷ fixed 1 3 ∷ []

part_fields : ℕ → ℕ → List (List ℕ)
part_fields component len = (0 ∷ 10 ∷ []) ∷ (0 ∷ 0 ∷ []) ∷ four_bytes len ∷ (component ∷ []) ∷ (3 ∷ []) ∷ []

part_accepted : (stated component len : ℕ) → len < 2 ^ 32 → stated ≡ len → AllAccepted (part_rules stated component) (part_fields component len)
unfolding part_rules part_fields number_of
part_accepted stated component len small same = (
  record { size = refl; some = omega arith; value = refl },
  (
    record { size = refl; some = omega arith; value = refl },
    (
      record { size = refl; some = omega arith; value = rw (number_of-four_bytes len small) (eq-eqb len stated (sym same)) },
      (
        record { size = refl; some = omega arith; value = eq-eqb (number_of (component ∷ [])) component (omega arith) },
        (record { size = refl; some = omega arith; value = refl }, tt),
      ),
    ),
  ),
)

pub tile_part_start-written :
    (front rest : List ℕ) (head : MainHead) (component len : ℕ) → len < 2 ^ 32 → stated_length head component ≡ len →
    tile_part_start (front ++ part_header component len ++ rest) head component (length front + 2) ≡ Ok (length front + 14)
unfolding part_rules part_fields
tile_part_start-written front rest head component len small same =
    let bytes = front ++ (part_header component len ++ rest) in
    let fields : drop (length front + 2) bytes ≡ items_of (part_fields component len) ++ 0xFF ∷ 0x93 ∷ rest =
    drop-append-add front (part_header component len ++ rest) 2 in
    let place : length front + 2 + 10 ≡ length front + 12 = omega arith in
    let marker : drop (length front + 2 + 10) bytes ≡ 0xFF ∷ 0x93 ∷ rest =
    ap (λ n. drop n bytes) place ∙ drop-append-add front (part_header component len ++ rest) 12 in
    let end : length front + 2 + 10 + 2 ≡ length front + 14 = omega arith in
    rw (
      append_assoc front (part_header component len) rest,
      fields_end-is bytes (part_rules (stated_length head component) component) (part_fields component len) (0xFF ∷ 0x93 ∷ rest) (length front + 2)
          (part_accepted (stated_length head component) component len small same) fields,
      marker_at-is bytes (λ m. m == 0xFF93) (length front + 2 + 10) 0xFF 0x93 rest marker refl,
    ) (ap Ok end)
