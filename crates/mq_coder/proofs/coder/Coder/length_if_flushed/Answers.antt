use Rattle.std.proofs.Common.{◌≡◌, ◌+◌, map, reverse, ap, ◌∙◌}
use Rattle.codec_terms.specs.Mq.{last_byte}
use Rattle.mq_coder.specs.Rows.{state_of}
use Rattle.mq_coder.proofs.Endings.{length-dropped, length-kept}
use Rattle.mq_coder.proofs.coder.Coder.length_if_flushed.Goals as goal

pub returns-then-tail-clause-length : goal.returns-then-tail-clause-length
returns-then-tail-clause-length c =
    let last : c.last_of.result ≡ last_byte (reverse c.self.inside.bytes) =
    c.last_of.ensures ∙ ap (λ l. last_byte (reverse l)) c.as_slice.ensures in
    ap (λ n. n + 1) c.len-len.ensures
    ∙ length-dropped c.args.self.now c.self.inside.at c.self.inside.bytes (map state_of c.self.inside.states) c.last_of.result
    c.tail_of-tail.result c.self.view_is last c.tail_of-tail.ensures c.if-tail.true

pub returns-else-tail-clause-length : goal.returns-else-tail-clause-length
returns-else-tail-clause-length c =
    let last : c.last_of.result ≡ last_byte (reverse c.self.inside.bytes) =
    c.last_of.ensures ∙ ap (λ l. last_byte (reverse l)) c.as_slice.ensures in
    ap (λ n. n + 1 + 1) c.len-len.ensures
    ∙ length-kept c.args.self.now c.self.inside.at c.self.inside.bytes (map state_of c.self.inside.states) c.last_of.result
    c.tail_of-tail.result c.self.view_is last c.tail_of-tail.ensures c.if-tail.false
