use Rattle.std.proofs.Common.{◌≤◌, ◌^◌, ◌<◌, arith, ap}
use Rattle.codec_terms.specs.Bits.{bit_length}
use Rattle.codec_laws.proofs.Planes.{bit_length-within}
use Rattle.packet_size.proofs.codes.log2.Goals as goal

pub returns-clause-few : goal.returns-clause-few
returns-clause-few c =
    let small : c.args.n < 2 ^ 8 = omega (arith, c.requires) in
    let within : bit_length c.args.n ≤ 8 = bit_length-within c.args.n 8 small (omega arith) in
    let same = ap (λ n. bit_length n) c.from.ensures in
    omega (arith, c.saturating_sub.ensures, within, same)
