use Rattle.std.proofs.Common.{◌∙◌, ap, arith}
use Rattle.codec_terms.specs.Bits.{low_bits}
use Rattle.packet_size.specs.Counting.{counted_into}
use Rattle.packet_size.proofs.CountedInto.{bytes-within, count-begun}
use Rattle.packet_size.proofs.counter.BitCounter.byte_count.Goals as goal

pub whole_bytes-rest-requires-clause-room : goal.whole_bytes-rest-requires-clause-room
whole_bytes-rest-requires-clause-room c =
    let s = c.self.inside in
    omega (arith, bytes-within s.bytes s.behind s.pending s.bits c.args.self.now c.self.view_is, c.requires, c.self.invariant.word)

pub overflow_add-result : goal.overflow_add-result
overflow_add-result c =
    let s = c.self.inside in
    let r = c.whole_bytes-rest.result in
    let is = c.whole_bytes-rest.ensures.same ∙ ap (λ a. counted_into s.bytes s.behind 0 (low_bits s.pending a)) c.from.ensures ∙ c.self.view_is in
    omega (arith, bytes-within r.bytes r.behind r.pending c.from.result c.args.self.now is, c.requires)

pub returns-then-rest-eq7 : goal.returns-then-rest-eq7
returns-then-rest-eq7 c =
    let s = c.self.inside in
    let r = c.whole_bytes-rest.result in
    let is = c.whole_bytes-rest.ensures.same ∙ ap (λ a. counted_into s.bytes s.behind 0 (low_bits s.pending a)) c.from.ensures ∙ c.self.view_is in
    (count-begun r.bytes r.behind r.pending c.from.result c.args.self.now c.whole_bytes-rest.ensures.begun is).whole c.if-rest-eq7.true

pub returns-else-rest-eq7 : goal.returns-else-rest-eq7
returns-else-rest-eq7 c =
    let s = c.self.inside in
    let r = c.whole_bytes-rest.result in
    let is = c.whole_bytes-rest.ensures.same ∙ ap (λ a. counted_into s.bytes s.behind 0 (low_bits s.pending a)) c.from.ensures ∙ c.self.view_is in
    (count-begun r.bytes r.behind r.pending c.from.result c.args.self.now c.whole_bytes-rest.ensures.begun is).begun c.if-rest-eq7.false
