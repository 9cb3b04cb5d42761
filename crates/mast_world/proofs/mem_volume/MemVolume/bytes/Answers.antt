use Rattle.std.proofs.Common.{sym, ◌∙◌, ap}
use Rattle.mast_world.specs.StoredFile.{bytes_in}
use Rattle.mast_world.proofs.FileEntryLemmas.{find_first}
use Rattle.mast_world.proofs.mem_volume.MemVolume.bytes.Goals as goal

pub returns-in-Some : goal.returns-in-Some
returns-in-Some c =
    let first = rw c.deref.ensures.value at c.in-Some.ensures.found in
    c.deref-in-Some.ensures.value ∙ (ap (λ e. e.value.bytes.items) c.index.ensures
    ∙ ap bytes_in (sym (find_first c.args.self.now.stored.items c.args.file c.in-Some.at c.index.result.now first)))
