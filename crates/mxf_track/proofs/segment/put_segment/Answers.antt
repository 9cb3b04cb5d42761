use Rattle.std.proofs.Common.{◌∙◌, ◌+◌, ◌*◌, ap, length, refl}
use Rattle.klv_base.specs.Items.{key_length}
use Rattle.mxf_track.proofs.Segments.{segment-pieces}
use Rattle.mxf_track.proofs.segment.put_segment.Goals as goal

pub returns : goal.returns
returns c =
    segment-pieces c.args.facts.now c.args.number c.args.places.now c.args.out.now.items c.extend_from_slice.new.self.items
    c.put_description.new.out.items c.put_entries_item.new.out.items c.key_length.result (97 + 11 * length c.args.places.now) refl
    (c.key_length.ensures.bytes ∙ ap (λ key. key_length key (97 + 11 * length c.args.places.now)) c.key_of.ensures)
    c.in_ok-extend_from_slice.ensures.items c.in_ok-put_description.ensures c.in_ok-put_entries_item.ensures
