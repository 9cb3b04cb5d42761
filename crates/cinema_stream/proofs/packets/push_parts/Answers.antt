use Rattle.std.proofs.Common.{ℕ, List, ap, get_or}
use Rattle.codec_terms.specs.Codestream.{tile_part}
use Rattle.cinema_stream.proofs.Written.{three-written}
use Rattle.cinema_stream.proofs.packets.push_parts.Goals as goal

pub returns : goal.returns
returns c = λ q coded same.
    let tile = tile_part c.args.blocks.now.shape q c.args.cut in
    three-written (tile 0) (tile 1) (tile 2) c.args.out.now c.push_part.new.out c.push_part-2.new.out c.push_part-3.new.out
    (c.in_ok-push_part.ensures q coded (ap (λ (parts : List ℕ). get_or parts 0 0) same))
    (c.in_ok-push_part-2.ensures q coded (ap (λ (parts : List ℕ). get_or parts 1 0) same))
    (c.in_ok-push_part-3.ensures q coded (ap (λ (parts : List ℕ). get_or parts 2 0) same))
