use Rattle.std.proofs.Common.{◌≡◌, ◌∙◌, ◌+◌, ◌<◌, ◌≤◌, sym, ap, arith, length, true, false}
use Rattle.std.proofs.lemmas.Bool.{not-true, not-false}
use Rattle.std.proofs.lemmas.Result.{err_from_is_err_and}
use Rattle.codec_terms.specs.PacketReading.{BlockHead}
use Rattle.packet_reading.proofs.CodewordSteps.{not_included, past_end, taken}
use Rattle.packet_reading.proofs.codewords.read_codeword.Goals as goal

pub returns-then-not-head-clause-read : goal.returns-then-not-head-clause-read
returns-then-not-head-clause-read c = λ more.
    let out : c.args.head.included ≡ false = ap (λ (h : BlockHead). h.included) (sym c.head.view_is) ∙ not-true c.head.inside.included c.if-not-head.true in
    not_included c.args.bytes.now c.args.head more c.args.at.now c.absent_block.result out c.absent_block.ensures

pub returns-in_err-end-clause-refused : goal.returns-in_err-end-clause-refused
returns-in_err-end-clause-refused c =
    let e = err_from_is_err_and c.from_residual.result c.from_residual.ensures.1 in
    let a = c.args in
    let within : a.head.included ≡ true = ap (λ (h : BlockHead). h.included) (sym c.head.view_is) ∙ not-false c.head.inside.included c.if-not-head.false in
    let size : c.head.inside.size ≡ a.head.size = ap (λ (h : BlockHead). h.size) c.head.view_is in
    let past : length a.bytes.now < a.at.now + a.head.size = omega (arith, c.in_err-end.ensures.past, size) in
    rw (e.1, e.2, c.in_err-end.ensures.refused, size) (λ more other. past_end a.bytes.now a.head more a.at.now within past)

pub returns-clause-read : goal.returns-clause-read
returns-clause-read c = λ more.
    let a = c.args in
    let within : a.head.included ≡ true = ap (λ (h : BlockHead). h.included) (sym c.head.view_is) ∙ not-false c.head.inside.included c.if-not-head.false in
    let size : c.head.inside.size ≡ a.head.size = ap (λ (h : BlockHead). h.size) c.head.view_is in
    let there : a.at.now + a.head.size ≤ length a.bytes.now = omega (arith, c.in_ok-end.ensures.within, size) in
    let end : c.in_ok-end.end ≡ a.at.now + a.head.size = omega (arith, c.in_ok-end.ensures.end, size) in
    taken a.bytes.now a.head more a.at.now _ _ _ c.in_ok-end.end within there end
    (ap (λ (h : BlockHead). h.zero_planes) c.head.view_is) (ap (λ (h : BlockHead). h.passes) c.head.view_is) c.in_ok-codeword.ensures.copied
