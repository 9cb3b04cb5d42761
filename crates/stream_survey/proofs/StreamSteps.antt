-- The steps of a whole codestream.
use Rattle.std.proofs.Common.{◌≡◌, ◌∙◌, ℕ, refl, ap, List, Result, Ok, Err}
use Rattle.codec_terms.specs.declared.packet.PacketBand.{PacketBand}
use Rattle.codec_terms.specs.declared.reading.MainHead.{MainHead}
use Rattle.codec_terms.specs.declared.reading.MarkerRefusal.{MarkerRefusal}
use Rattle.codec_terms.specs.declared.reading.ReadRefusal.{ReadRefusal}
use Rattle.codec_terms.specs.declared.reading.ReadRefusal.TheVariants.{Marker}
use Rattle.codec_terms.specs.declared.reading.Coefficients.{Coefficients}
use Rattle.codec_terms.specs.Reading.{on_ok}
use Rattle.codec_terms.specs.MainReading.{main_read}
use Rattle.codec_terms.specs.Codestream.{components}
use Rattle.codec_terms.specs.StreamReading.{included_count, parts_read, end_read, coefficients_read, stream_read}
use Rattle.stream_survey.specs.declared.counts.Counted.{Counted}
use Rattle.stream_survey.specs.Counts.{counted_parts}
use Rattle.stream_survey.specs.Surveys.{surveyed, survey_with}
use Rattle.stream_survey.proofs.Behind.{counted_parts-refused}

abbrev Parts : Type 0
Parts = Result (List (List (List PacketBand)) × ℕ) ReadRefusal

abbrev finished : List ℕ → MainHead → Parts → Result Coefficients ReadRefusal
finished bytes head r = on_ok r (λ (r : List (List (List PacketBand)) × ℕ). on_ok (end_read bytes r.1) (λ next. Ok (coefficients_read head r.0)))

not-finished : (bytes : List ℕ) (head : MainHead) (r : Parts) (parts : Counted) (e : ReadRefusal) → counted_parts r ≡ Ok parts → end_read bytes parts.next ≡ Err e → finished bytes head r ≡ Err e
not-finished bytes head (Ok r) parts e h end =
    let next : r.1 ≡ parts.next = cc in
    ap (λ (k : ℕ). on_ok (end_read bytes k) (λ next. Ok (coefficients_read head r.0))) next ∙ rw end refl
not-finished bytes head (Err e') parts e h end = cc

finished-surveyed : (bytes : List ℕ) (head : MainHead) (r : Parts) (parts : Counted) (next : ℕ) → counted_parts r ≡ Ok parts → end_read bytes parts.next ≡ Ok next → surveyed (finished bytes head r) ≡ Ok (survey_with head parts.blocks)
finished-surveyed bytes head (Ok r) parts next h end =
    let there : r.1 ≡ parts.next = cc in
    let blocks : included_count r.0 ≡ parts.blocks = cc in
    ap (λ (k : ℕ). surveyed (on_ok (end_read bytes k) (λ next. Ok (coefficients_read head r.0)))) there
    ∙ (ap (λ e. surveyed (on_ok e (λ next. Ok (coefficients_read head r.0)))) end ∙ ap (λ (k : ℕ). Ok (survey_with head k)) blocks)
finished-surveyed bytes head (Err e) parts next h end = cc

module _ (bytes : List ℕ) where
  pub no_main : (e : MarkerRefusal) → main_read bytes ≡ Err e → stream_read bytes ≡ Err (Marker e)
  unfolding stream_read
  no_main e h = rw h refl

  module _ (head : MainHead) (main : main_read bytes ≡ Ok head) where
    abbrev parts_of : Parts
    parts_of = parts_read bytes head components head.next

    behind_main : stream_read bytes ≡ finished bytes head parts_of
    unfolding stream_read
    behind_main = rw main refl

    pub no_parts : (e : ReadRefusal) → counted_parts parts_of ≡ Err e → stream_read bytes ≡ Err e
    no_parts e h = behind_main ∙ ap (finished bytes head) (counted_parts-refused parts_of e h)

    pub no_end : (parts : Counted) (e : ReadRefusal) → counted_parts parts_of ≡ Ok parts → end_read bytes parts.next ≡ Err e → stream_read bytes ≡ Err e
    no_end parts e h end = behind_main ∙ not-finished bytes head parts_of parts e h end

    pub all_surveyed : (parts : Counted) (next : ℕ) → counted_parts parts_of ≡ Ok parts → end_read bytes parts.next ≡ Ok next → surveyed (stream_read bytes) ≡ Ok (survey_with head parts.blocks)
    all_surveyed parts next h end = ap surveyed behind_main ∙ finished-surveyed bytes head parts_of parts next h end
