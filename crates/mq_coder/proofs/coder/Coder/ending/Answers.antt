use Rattle.std.proofs.Common.{◌≡◌, length, reverse, ap, ◌∙◌, arith}
use Rattle.codec_terms.specs.Mq.{behind}
use Rattle.mq_coder.proofs.Resume.{behind-length}
use Rattle.mq_coder.proofs.coder.Coder.ending.Goals as goal

pub overflow_cast-result-3 : goal.overflow_cast-result-3
overflow_cast-result-3 c =
    let len : length (reverse c.self.inside.bytes) ≡ length c.args.self.now.registers.bytes = ap (λ e. length e.registers.bytes) c.self.view_is in
    let front : c.front_len.result ≡ length (behind (reverse c.self.inside.bytes)) =
    c.front_len.ensures ∙ ap (λ l. length (behind (reverse l))) c.as_slice-bytes.ensures in
    omega (arith, len, front, behind-length (reverse c.self.inside.bytes), c.length_if_flushed.ensures.more, c.length_if_flushed.ensures.length, c.requires)
