use Rattle.std.proofs.Common.{arith}
use Rattle.code_markers.proofs.ReadBack.{tile_part_start-written}
use Rattle.code_markers.proofs.part.part_header.Goals as goal

pub returns-clause-read_back : goal.returns-clause-read_back
returns-clause-read_back c = λ front rest head stated.
    rw c.to_be_bytes.ensures (tile_part_start-written front rest head c.args.component c.args.part_length (omega arith) stated)
