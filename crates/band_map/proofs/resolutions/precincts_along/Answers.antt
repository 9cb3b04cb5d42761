use Rattle.std.proofs.Common.{◌≡◌, ◌-◌, ◌^◌, arith, rules}
use Rattle.std.specs.Int.{div_ceil}
use Rattle.codec_terms.specs.Precincts.{precinct_exponent}
use Rattle.band_map.proofs.Sides.{along-few}
use Rattle.band_map.proofs.resolutions.precincts_along.Goals as goal

pub returns-clause-few : goal.returns-clause-few
returns-clause-few c =
    let number : c.div_ceil.result ≡ div_ceil (div_ceil c.args.side (2 ^ (5 - c.args.resolution))) (2 ^ precinct_exponent c.args.resolution) = search rules in
    omega (arith, along-few c.args.side c.args.resolution (omega arith))
