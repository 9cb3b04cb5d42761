use Rattle.std.proofs.Common.{◌≡◌, ◌+◌, ◌≤◌, ◌∙◌, sym, ap, ap₂, length}
use Rattle.std.proofs.lemmas.Result.{err_from_is_err_and, IfOk-weaker}
use Rattle.codec_terms.specs.MainReading.{head_of_size, segments_read, main_read}
use Rattle.code_markers.proofs.Known.{KnownHead, known-if_ok}
use Rattle.codec_terms.specs.declared.reading.MainHead.{MainHead}
use Rattle.codec_laws.specs.Bounds.{IsPictureSize}
use Rattle.std.specs.Prelude.{All}
use Rattle.code_markers.proofs.MainHeads.{Started, started, Sized, sized, main_read-no_start, main_read-no_size, main_read-other_size, main_read-segments}
use Rattle.code_markers.proofs.reader.read_main.Goals as goal

pub returns-in_err-size_at-clause-is : goal.returns-in_err-size_at-clause-is
returns-in_err-size_at-clause-is c =
    let p = err_from_is_err_and c.from_residual.result c.from_residual.ensures.1 in
    let b = c.args.bytes.now in
    rw (p.1, p.2) (sym (main_read-no_start b c.in_err-size_at.field-0.0 c.in_err-size_at.ensures))

pub returns-in_err-fields_at-clause-is : goal.returns-in_err-fields_at-clause-is
returns-in_err-fields_at-clause-is c =
    let p = err_from_is_err_and c.from_residual-in_err-fields_at.result c.from_residual-in_err-fields_at.ensures.1 in
    let b = c.args.bytes.now in
    let from = c.in_ok-size_at.size_at in
    let start : Started b from = started b from c.in_ok-size_at.ensures in
    rw (p.1, p.2) (sym (main_read-no_size b from c.in_err-fields_at.field-0.0 start c.in_err-fields_at.ensures))

pub returns-in_err-next-clause-is : goal.returns-in_err-next-clause-is
returns-in_err-next-clause-is c =
    let p = err_from_is_err_and c.from_residual-in_err-next.result c.from_residual-in_err-next.ensures.1 in
    let b = c.args.bytes.now in
    let from = c.in_ok-size_at.size_at in
    let at = c.in_ok-fields_at.fields_at in
    let start : Started b from = started b from c.in_ok-size_at.ensures in
    let size : Sized b at = sized b from at start c.in_ok-fields_at.ensures in
    rw (p.1, p.2) (sym (main_read-other_size b from at c.in_err-next.field-0.0 start size c.in_err-next.ensures.is))

is_read : (c : goal.After-read_segments) → c.read_segments.result ≡ main_read c.args.bytes.now
is_read c =
    let b = c.args.bytes.now in
    let from = c.in_ok-size_at.size_at in
    let at = c.in_ok-fields_at.fields_at in
    let start : Started b from = started b from c.in_ok-size_at.ensures in
    let size : Sized b at = sized b from at start c.in_ok-fields_at.ensures in
    c.read_segments.ensures
    ∙ ap (λ head. segments_read b (length b) head c.in_ok-next.next) (c.of_size.ensures ∙ ap₂ (head_of_size b) c.number_at.ensures.is c.number_at-2.ensures.is)
    ∙ sym (main_read-segments b from at c.in_ok-next.next start size c.in_ok-next.ensures.is)

pub returns-clause-is : goal.returns-clause-is
returns-clause-is c = is_read c

pub returns-clause-size : goal.returns-clause-size
returns-clause-size c = IfOk-weaker c.read_segments.result (KnownHead c.args.bytes.now) (λ (head : MainHead). IsPictureSize head.shape) (λ head known. known.size) (known-if_ok c.args.bytes.now c.read_segments.result (is_read c))

pub returns-clause-planes : goal.returns-clause-planes
returns-clause-planes c = IfOk-weaker c.read_segments.result (KnownHead c.args.bytes.now) (λ (head : MainHead). All (λ n. n ≤ 31) head.mb) (λ head known. known.planes) (known-if_ok c.args.bytes.now c.read_segments.result (is_read c))

pub returns-clause-next : goal.returns-clause-next
returns-clause-next c = IfOk-weaker c.read_segments.result (KnownHead c.args.bytes.now) (λ (head : MainHead). head.next + 2 ≤ length c.args.bytes.now) (λ head known. known.next) (known-if_ok c.args.bytes.now c.read_segments.result (is_read c))
