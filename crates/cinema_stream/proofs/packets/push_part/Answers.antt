use Rattle.std.proofs.Common.{◌∙◌, ℕ, ◌++◌, List, ap}
use Rattle.cinema_stream.proofs.Written.{part-written}
use Rattle.cinema_stream.proofs.packets.push_part.Goals as goal

pub returns : goal.returns
returns c = λ q coded same.
    part-written c.args.blocks.now.shape q c.args.cut c.args.component c.args.length c.args.out.now c.push_bytes.new.out c.push_packets.new.out same
    (c.in_ok-push_bytes.ensures ∙ ap (λ (bytes : List ℕ). c.args.out.now ++ bytes) c.part_header.ensures.bytes)
    (c.in_ok-push_packets.ensures q coded)
