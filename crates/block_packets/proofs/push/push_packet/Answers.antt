use Rattle.std.proofs.Common.{◌∙◌, subst, sym, All}
use Rattle.packet_head.specs.Writing.{IsBand}
use Rattle.block_packets.proofs.Writable.{are-bands}
use Rattle.block_packets.proofs.push.push_packet.Goals as goal

pub append_packet-requires : goal.append_packet-requires
append_packet-requires c =
    let p = c.args.precinct in
    let q = c.requires.of.0 in
    subst (All IsBand) (sym (c.deref.ensures.value ∙ c.in_ok-bands.ensures q c.requires.of.1))
    (are-bands c.args.blocks.now.shape q c.args.cut p.number p.component p.resolution c.requires.of.1.fits c.requires.component c.requires.resolution)
