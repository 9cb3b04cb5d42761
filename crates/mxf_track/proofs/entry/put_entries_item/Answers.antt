use Rattle.std.proofs.Common.{refl}
use Rattle.mxf_track.proofs.Entries.{entries-pieces}
use Rattle.mxf_track.proofs.entry.put_entries_item.Goals as goal

pub returns : goal.returns
returns c =
    entries-pieces c.args.places.now c.to_be_bytes.result c.to_be_bytes-2.result c.to_be_bytes-3.result c.to_be_bytes-4.result
    c.args.out.now.items c.extend_from_slice.new.self.items c.extend_from_slice-2.new.self.items c.extend_from_slice-3.new.self.items
    c.extend_from_slice-4.new.self.items c.put_entries.new.out.items _ refl c.to_be_bytes.ensures c.to_be_bytes-2.ensures
    c.to_be_bytes-3.ensures c.to_be_bytes-4.ensures c.in_ok-extend_from_slice.ensures.items
    c.in_ok-extend_from_slice-2.ensures.items c.in_ok-extend_from_slice-3.ensures.items
    c.in_ok-extend_from_slice-4.ensures.items c.in_ok-put_entries.ensures
