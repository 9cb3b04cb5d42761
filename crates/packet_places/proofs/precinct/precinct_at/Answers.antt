use Rattle.std.proofs.Common.{refl, sym}
use Rattle.packet_places.proofs.Listed.{listed, exists}
use Rattle.packet_places.proofs.precinct.precinct_at.Goals as goal

pub returns : goal.returns
returns c =
    let is = sym c.in-Some.ensures in
    let e = exists c.args.shape c.args.n c.in-Some.resolution c.in-Some.number (listed c.args.shape c.args.n c.in-Some.resolution c.in-Some.number is) in
    record { of_component = refl; listed = is; resolution = e.resolution_few; number = e.number_few }
