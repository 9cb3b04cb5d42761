use Rattle.std.proofs.lemmas.List.{drop_all}
use Rattle.packet_reading.proofs.Behind.{all_read}
use Rattle.packet_reading.proofs.CodewordSteps.{no_codewords}
use Rattle.packet_reading.proofs.codewords.read_codewords.Goals as goal

pub returns-clause-read : goal.returns-clause-read
returns-clause-read c =
    let l = c.loop-head in
    all_read _ _ l.blocks l.invariant l.at
    (no_codewords c.args.bytes.now _ l.at (drop_all l.head-index c.args.heads.now c.loop-head-test.false))
