use Rattle.std.proofs.Common.{◌+◌, ◌≤◌, ◌^◌, ◌<◌, arith, ap}
use Rattle.codec_terms.specs.Bits.{bit_length}
use Rattle.codec_laws.proofs.Planes.{bit_length-within, within-bit_length}
use Rattle.packet_size.proofs.codes.growth.Goals as goal

pub returns-clause-few : goal.returns-clause-few
returns-clause-few c =
    let small : c.args.len < 2 ^ 32 = omega arith in
    let within : bit_length c.args.len ≤ 32 = bit_length-within c.args.len 32 small (omega arith) in
    let same = ap (λ n. bit_length n) c.from.ensures in
    omega (arith, c.saturating_sub.ensures, within, same)

pub returns-clause-field : goal.returns-clause-field
returns-clause-field c =
    let small : c.args.len < 2 ^ 32 = omega arith in
    let within : bit_length c.args.len ≤ 32 = bit_length-within c.args.len 32 small (omega arith) in
    let same = ap (λ n. bit_length n) c.from.ensures in
    omega (arith, c.saturating_sub.ensures, within, same, c.requires)

pub returns-clause-fits : goal.returns-clause-fits
returns-clause-fits c =
    let same = ap (λ n. bit_length n) c.from.ensures in
    let most : bit_length c.args.len ≤ 3 + c.saturating_sub.result + c.args.log = omega (arith, c.saturating_sub.ensures, same) in
    within-bit_length c.args.len (3 + c.saturating_sub.result + c.args.log) (omega arith) most
