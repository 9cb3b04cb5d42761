use Rattle.std.proofs.Common.{◌≡◌, ◌≢◌, ◌∙◌, ◌+◌, refl, sym, ap, arith, length, suc, Err, false, inl, inr}
use Rattle.std.specs.Prelude.{◌==◌, ◌&&◌, not}
use Rattle.std.proofs.lemmas.Bool.{eq-eqb, ne_eqb}
use Rattle.codec_terms.specs.MainReading.{marker_at}
use Rattle.codec_terms.specs.StreamReading.{marker_behind}
use Rattle.code_markers.proofs.Results.{on_ok-was_ok, on_ok-was_err}
use Rattle.code_markers.proofs.Parts.{tile_part_end-short, tile_part_end-refused, tile_part_end-other, tile_part_end-fine, and-false}
use Rattle.code_markers.proofs.part.read_part_end.Goals as goal

pub returns-then-is_other_length-clause-is : goal.returns-then-is_other_length-clause-is
returns-then-is_other_length-clause-is c =
    let other : c.args.start + c.args.stated ≢ c.args.at = omega arith in
    sym (tile_part_end-short c.args.bytes.now c.args.component c.args.stated c.args.start (marker_behind c.args.component) c.args.at c.if-bytes-at.true other)

pub returns-in-Err-clause-is : goal.returns-in-Err-clause-is
returns-in-Err-clause-is c =
    let b = c.args.bytes.now in
    let at = c.args.at in
    let marker = marker_behind c.args.component in
    let first : (length b == suc at && not (c.args.start + c.args.stated == at)) ≡ false =
    elim c.else-bytes-at.either [
      | inl e ↦ and-false (length b == suc at) (c.args.start + c.args.stated == at) (eq-eqb (c.args.start + c.args.stated) at (omega arith))
      | inr e ↦ rw (ne_eqb (length b) (suc at) (omega arith)) refl
    ] in
    let refused : marker_at b (λ m. m == marker) at ≡ Err c.in-Err.refusal =
    ap (λ m. marker_at b (λ n. n == m) at) (sym c.marker_behind.ensures) ∙ on_ok-was_err (marker_at b (λ m. m == c.marker_behind.result) at) (at + 2) c.in-Err.refusal (sym c.in-Err.ensures) in
    sym (tile_part_end-refused b c.args.component c.args.stated c.args.start marker at c.in-Err.refusal first refused)

pub returns-in-Ok-clause-is : goal.returns-in-Ok-clause-is
returns-in-Ok-clause-is c =
    let b = c.args.bytes.now in
    let at = c.args.at in
    let marker = marker_behind c.args.component in
    let other : c.args.start + c.args.stated ≢ at = omega arith in
    let was = on_ok-was_ok (marker_at b (λ m. m == c.marker_behind.result) at) (at + 2) c.in-Ok.field-0 (sym c.in-Ok.ensures) in
    sym (tile_part_end-other b c.args.component c.args.stated c.args.start marker at was.0.0 (ap (λ m. marker_at b (λ n. n == m) at) (sym c.marker_behind.ensures) ∙ was.0.1) other)

pub returns-in-Ok-2-clause-is : goal.returns-in-Ok-2-clause-is
returns-in-Ok-2-clause-is c =
    let b = c.args.bytes.now in
    let at = c.args.at in
    let marker = marker_behind c.args.component in
    let same : c.args.start + c.args.stated ≡ at = omega arith in
    let was = on_ok-was_ok (marker_at b (λ m. m == c.marker_behind.result) at) (at + 2) c.in-Ok-2.field-0 (sym c.in-Ok-2.ensures) in
    sym (tile_part_end-fine b c.args.component c.args.stated c.args.start marker at was.0.0 (ap (λ m. marker_at b (λ n. n == m) at) (sym c.marker_behind.ensures) ∙ was.0.1) same)
