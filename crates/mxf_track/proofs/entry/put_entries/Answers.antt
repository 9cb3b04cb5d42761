use Rattle.mxf_track.proofs.Entries.{entries-more}
use Rattle.mxf_track.proofs.entry.put_entries.Goals as goal

pub loop-place-preserved : goal.loop-place-preserved
loop-place-preserved c =
    entries-more c.args.places.now c.index_entry.result c.args.out.now.items c.loop-place.out.items c.extend_from_slice.new.self.items
    c.loop-place.place-index c.loop-place-test.true c.index_entry.ensures c.loop-place.invariant
    c.in_ok-extend_from_slice.ensures.items
