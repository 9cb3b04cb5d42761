use Rattle.std.proofs.Common.{◌≡◌, map, reverse, ap, ◌∙◌}
use Rattle.codec_terms.specs.Mq.{last_byte, flushed_bytes}
use Rattle.mq_coder.specs.Rows.{state_of}
use Rattle.mq_coder.proofs.Endings.{flushed-is, codeword-is, codeword-read}
use Rattle.mq_coder.proofs.coder.Coder.flush.Goals as goal

pub returns-clause-bytes : goal.returns-clause-bytes
returns-clause-bytes c =
    let last : c.last_of.result ≡ last_byte (reverse c.self.inside.bytes) =
    c.last_of.ensures ∙ ap (λ l. last_byte (reverse l)) c.as_slice.ensures in
    c.into_bytes.ensures
    ∙ flushed-is c.args.self c.self.inside.at c.self.inside.bytes c.end_with.new.bytes (map state_of c.self.inside.states)
    c.last_of.result c.tail_of-tail.result c.self.view_is last c.tail_of-tail.ensures c.in_ok-end_with.ensures

pub returns-clause-codeword : goal.returns-clause-codeword
returns-clause-codeword c =
    let last : c.last_of.result ≡ last_byte (reverse c.self.inside.bytes) =
    c.last_of.ensures ∙ ap (λ l. last_byte (reverse l)) c.as_slice.ensures in
    let whole : c.into_bytes.result ≡ flushed_bytes c.args.self =
    c.into_bytes.ensures
    ∙ flushed-is c.args.self c.self.inside.at c.self.inside.bytes c.end_with.new.bytes (map state_of c.self.inside.states)
    c.last_of.result c.tail_of-tail.result c.self.view_is last c.tail_of-tail.ensures c.in_ok-end_with.ensures in
    λ ds p. whole ∙ codeword-is c.args.self ds p

pub returns-clause-read_back : goal.returns-clause-read_back
returns-clause-read_back c =
    let last : c.last_of.result ≡ last_byte (reverse c.self.inside.bytes) =
    c.last_of.ensures ∙ ap (λ l. last_byte (reverse l)) c.as_slice.ensures in
    let whole : c.into_bytes.result ≡ flushed_bytes c.args.self =
    c.into_bytes.ensures
    ∙ flushed-is c.args.self c.self.inside.at c.self.inside.bytes c.end_with.new.bytes (map state_of c.self.inside.states)
    c.last_of.result c.tail_of-tail.result c.self.view_is last c.tail_of-tail.ensures c.in_ok-end_with.ensures in
    λ ds p. codeword-read c.args.self c.into_bytes.result ds whole p
