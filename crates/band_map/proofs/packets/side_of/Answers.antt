use Rattle.std.proofs.Common.{◌<◌, arith, subst, sym}
use Rattle.band_map.proofs.Sides.{side-is, side-positive}
use Rattle.band_map.proofs.packets.side_of.Goals as goal

pub returns-else-resolution-eq0-clause-side : goal.returns-else-resolution-eq0-clause-side
returns-else-resolution-eq0-clause-side c = side-is c.args.resolution c.requires (omega arith)

pub returns-else-resolution-eq0-clause-positive : goal.returns-else-resolution-eq0-clause-positive
returns-else-resolution-eq0-clause-positive c =
    subst (λ n. 0 < n) (sym (side-is c.args.resolution c.requires (omega arith))) (side-positive c.args.resolution)
