use Rattle.std.proofs.Common.{subst}
use Rattle.codec_laws.specs.Bounds.{IsPictureSize}
use Rattle.cinema_stream.proofs.PartSums.{part_of-few, sizes-are, lengths-next}
use Rattle.cinema_stream.proofs.book.SizeBook.resize.Goals as goal

pub sizes_of-self-requires : goal.sizes_of-self-requires
sizes_of-self-requires c =
    let a = c.args in
    let shape = a.blocks.now.shape in
    let q = c.requires.of.0 in
    let coded = c.requires.of.1.0 in
    let lengths = lengths-next shape q a.least a.self.now.cut a.cut c.place_changed-place.result c.resolution_length.result a.self.now.packets
    c.requires.next c.place_changed-place.ensures.place c.place_changed-place.ensures.inside (c.resolution_length.ensures q coded) c.requires.of.1.1.lengths in
    part_of-few shape q a.cut _ lengths (subst IsPictureSize c.shape-shape.ensures.shape c.shape-shape.ensures.size) coded.fits

pub returns-clause-of : goal.returns-clause-of
returns-clause-of c = λ q coded book.
    let a = c.args in
    let shape = a.blocks.now.shape in
    let lengths = lengths-next shape q a.least a.self.now.cut a.cut c.place_changed-place.result c.resolution_length.result a.self.now.packets
    c.requires.next c.place_changed-place.ensures.place c.place_changed-place.ensures.inside (c.resolution_length.ensures q coded) book.lengths in
    record {
      lengths = lengths;
      sizes = sizes-are shape q a.cut _ lengths c.sizes_of-self.result c.sizes_of-self.ensures.parts c.sizes_of-self.ensures.whole;
    }
