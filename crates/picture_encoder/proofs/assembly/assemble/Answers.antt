use Rattle.std.proofs.Common.{ℕ, sym, subst, arith}
use Rattle.block_packets.specs.Coded.{AreCodedBlocks}
use Rattle.picture_encoder.proofs.assembly.assemble.Goals as goal

pub search_up-cut-requires-clause-of : goal.search_up-cut-requires-clause-of
search_up-cut-requires-clause-of c =
    let q = c.requires.of.0 in
    let coded = c.requires.of.1 in
    (q, (subst (λ (n : ℕ). AreCodedBlocks q n c.args.blocks.now) (sym c.start-lowest.ensures.cut) coded, c.start-lowest.ensures.of q coded))

pub stream_at-requires-clause-of : goal.stream_at-requires-clause-of
stream_at-requires-clause-of c =
    let q = c.requires.of.0 in
    (q, c.higher_cut_laws.ensures q 0 c.search_up-cut.result c.args.blocks.now c.requires.of.1 (omega arith))

pub returns-clause-cut : goal.returns-clause-cut
returns-clause-cut c = λ q coded.
    c.search_up-cut.ensures.least q (subst (λ (n : ℕ). AreCodedBlocks q n c.args.blocks.now) (sym c.start-lowest.ensures.cut) coded) (c.start-lowest.ensures.of q coded)
    (λ lower below within. absurd (omega (arith, c.start-lowest.ensures.cut)))

pub returns-clause-stream : goal.returns-clause-stream
returns-clause-stream c = λ q coded.
    c.in_ok-bytes.ensures.stream q (c.higher_cut_laws.ensures q 0 c.search_up-cut.result c.args.blocks.now coded (omega arith))

pub returns-clause-read_back : goal.returns-clause-read_back
returns-clause-read_back c = λ q coded.
    c.in_ok-bytes.ensures.read_back q (c.higher_cut_laws.ensures q 0 c.search_up-cut.result c.args.blocks.now coded (omega arith))
