use Rattle.std.proofs.Common.{◌+◌, ◌/◌, ◌%◌, ◌<◌, subst, sym, arith}
use Rattle.codec_terms.specs.Bands.{lowest_plane}
use Rattle.picture_sets.specs.Sets.{picture_block}
use Rattle.block_packets.specs.Coded.{IsCodedFor}
use Rattle.block_packets.proofs.Areas.{row-below, column-below}
use Rattle.block_packets.proofs.Codes.{coded-block}
use Rattle.block_packets.proofs.area.block_in.Goals as goal

pub returns : goal.returns
returns c = λ q cut coded.
    let area = c.args.area in
    let blocks = c.args.blocks.now in
    let band = c.args.band in
    let x = area.x + c.args.at % area.columns in
    let y = area.y + c.args.at / area.columns in
    let column : c.args.at % area.columns < area.columns = column-below c.args.at area.rows area.columns c.requires.inside in
    let row : c.args.at / area.columns < area.rows = row-below c.args.at area.rows area.columns c.requires.inside in
    subst (IsCodedFor (picture_block blocks.shape q band x y) (lowest_plane cut band)) (sym c.at.ensures)
    (coded-block c.lower_plane_laws.ensures.begin c.sample_laws.ensures.within q cut blocks band x y c.requires.picture
    (omega (arith, c.requires.within.right)) (omega (arith, c.requires.within.bottom)) coded)
