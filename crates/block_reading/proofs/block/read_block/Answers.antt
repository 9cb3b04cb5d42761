use Rattle.std.proofs.Common.{◌≡◌, ◌*◌, ◌-◌, ◌≤◌, min, refl, sym, ap, ◌∙◌, arith}
use Rattle.codec_terms.specs.BlockReading.{Area, Known, known_values, block_read}
use Rattle.block_reading.specs.Order.{read_so_far}
use Rattle.block_reading.proofs.Order.{all-read, so_far-below}
use Rattle.block_reading.proofs.block.read_block.Goals as goal

pub returns : goal.returns
unfolding block_read
returns c =
    let a : Area = record { kind = c.args.kind; width = c.args.width; height = c.args.height } in
    let planes = c.args.planes in
    let n = c.min.result in
    let size : c.min.result ≡ min (3 * c.args.planes - 2) c.args.passes = omega arith in
    let within : c.min.result ≤ 3 * c.args.planes - 2 = omega arith in
    c.put_values.ensures a (read_so_far a planes n c.args.codeword.now) refl refl c.read_passes.ensures
    (so_far-below a planes c.requires.narrow c.requires.low c.requires.planes n c.args.codeword.now within)
    ∙ ap (λ (k : Known). known_values k) (sym (all-read a planes c.args.passes n c.args.codeword.now size))
