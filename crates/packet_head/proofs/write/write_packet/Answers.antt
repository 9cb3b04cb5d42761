use Rattle.std.proofs.Common.{◌∙◌, ◌++◌, ap}
use Rattle.codec_terms.specs.PacketHeader.{packet}
use Rattle.packet_head.proofs.BlockBits.{written-read}
use Rattle.packet_head.proofs.write.write_packet.Goals as goal

pub returns : goal.returns
returns c =
    let bands = c.args.bands.now in
    let written = c.in_ok-append_packet.ensures ∙ ap (λ bytes. bytes ++ packet bands) c.new-bytes.ensures in
    record { packet = written; read_back = written-read c.append_packet.new.out bands written }
