use Rattle.std.proofs.Common.{subst}
use Rattle.codec_laws.specs.Bounds.{IsPictureSize}
use Rattle.cinema_stream.proofs.PartSums.{part_of-few, sizes-are}
use Rattle.cinema_stream.proofs.book.SizeBook.at.Goals as goal

pub sizes_of-requires : goal.sizes_of-requires
sizes_of-requires c =
    let q = c.requires.of.0 in
    let coded = c.requires.of.1 in
    part_of-few c.args.blocks.now.shape q c.args.cut c.all_lengths-packets.result (c.all_lengths-packets.ensures q coded) (subst IsPictureSize c.shape.ensures.shape c.shape.ensures.size) coded.fits

pub returns-clause-of : goal.returns-clause-of
returns-clause-of c = λ q coded.
    let lengths = c.all_lengths-packets.ensures q coded in
    record {
      lengths = lengths;
      sizes = sizes-are c.args.blocks.now.shape q c.args.cut c.all_lengths-packets.result lengths c.sizes_of.result c.sizes_of.ensures.parts c.sizes_of.ensures.whole;
    }
