use Rattle.std.proofs.Common.{sym, ◌∙◌, ap}
use Rattle.mast_world.specs.StoredFile.{put_in}
use Rattle.mast_world.proofs.FileEntryLemmas.{find_first}
use Rattle.mast_world.proofs.mem_volume.MemVolume.put.Goals as goal

pub returns-in-Some : goal.returns-in-Some
returns-in-Some c =
    let first = rw c.deref.ensures.value at c.in-Some.ensures.found in
    ap (λ e. e.value.put) c.index.ensures
    ∙ ap put_in (sym (find_first c.args.self.now.stored.items c.args.file c.in-Some.at c.index.result.now first))
