use Rattle.std.proofs.Common.{◌∙◌, refl}
use Rattle.mxf_header.proofs.Pieces.{pieces_3}
use Rattle.mxf_header.proofs.pack.put_streams.Goals as goal

pub returns : goal.returns
returns c =
    pieces_3 c.args.out.now.items c.extend_from_slice.new.self.items c.extend_from_slice-2.new.self.items
    c.extend_from_slice-3.new.self.items _ _ _
    c.in_ok-extend_from_slice.ensures.items c.in_ok-extend_from_slice-2.ensures.items c.in_ok-extend_from_slice-3.ensures.items
    ∙ rw (c.to_be_bytes.ensures, c.to_be_bytes-2.ensures, c.to_be_bytes-3.ensures) refl
