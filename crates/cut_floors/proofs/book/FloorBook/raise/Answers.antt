use Rattle.std.proofs.Common.{◌-◌, arith}
use Rattle.cut_floors.proofs.PartSums.{floors-below}
use Rattle.cut_floors.proofs.book.FloorBook.raise.Goals as goal

pub returns-clause-of : goal.returns-clause-of
returns-clause-of c = λ q coded book.
    let a = c.args in
    floors-below c.next_floor_laws.ensures.resolution a.blocks.now.shape q a.self.now.cut (a.self.now.cut - 1) c.place_changed-place.result c.resolution_floor.result a.self.now.packets
    (omega (arith, c.requires.above)) c.place_changed-place.ensures.place c.place_changed-place.ensures.inside (c.resolution_floor.ensures q coded) book
