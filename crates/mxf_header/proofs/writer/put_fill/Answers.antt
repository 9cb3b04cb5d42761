use Rattle.std.proofs.Common.{◌∙◌, ◌-◌, ap, arith}
use Rattle.klv_base.specs.Items.{key_length}
use Rattle.mxf_header.proofs.Fills.{fill-pieces}
use Rattle.mxf_header.proofs.writer.put_fill.Goals as goal

pub returns : goal.returns
returns c =
    fill-pieces c.args.out.now.items c.extend_from_slice.new.self.items c.resize.new.self.items c.key_length.result
    (16384 - 20 - c.len.result) _ c.requires (omega (arith, c.len.ensures))
    (c.key_length.ensures.bytes ∙ ap (λ key. key_length key (16384 - 20 - c.len.result)) c.key_of.ensures)
    c.in_ok-extend_from_slice.ensures.items c.extend_from_slice.new.self.ok.0 c.in_ok-resize.ensures.items
