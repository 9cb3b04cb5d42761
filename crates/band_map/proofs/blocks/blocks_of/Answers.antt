use Rattle.std.proofs.Common.{◌≡◌, ◌/◌, ◌*◌, ◌<◌, rules, subst, sym}
use Rattle.codec_terms.specs.Precincts.{precinct_columns, precinct_rows, resolution}
use Rattle.band_map.proofs.Sides.{row-few}
use Rattle.band_map.proofs.blocks.blocks_of.Goals as goal

pub overflow_mul-y : goal.overflow_mul-y
overflow_mul-y c =
    let across = c.precincts-across.result.0 in
    let down = c.precincts-across.result.1 in
    let all : across * down ≡ precinct_columns c.args.shape (resolution c.args.band) * precinct_rows c.args.shape (resolution c.args.band) = cc in
    let row : c.args.precinct / across < down = row-few c.args.precinct across down (subst (λ n. c.args.precinct < n) (sym all) c.requires.inside) in
    search rules
