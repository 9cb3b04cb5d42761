use Rattle.std.proofs.Common.{refl, ◌∙◌, ap}
use Rattle.mast_world.specs.FileEntry.{is_of}
use Rattle.mast_world.specs.StoredFile.{bytes_in, put_in, stored_bytes, stored_put}
use Rattle.mast_world.proofs.Find.{find_push_same}
use Rattle.mast_world.proofs.mem_volume.entry_of.Goals as goal

pub returns-clause-same_bytes : goal.returns-clause-same_bytes
returns-clause-same_bytes c = λ f.
    ap (λ stored. stored_bytes stored f) c.in_ok-push.ensures.items ∙ find_push_same (is_of f) bytes_in c.args.stored.now.items _ c.new.ensures.items

pub returns-clause-same_put : goal.returns-clause-same_put
returns-clause-same_put c = λ f.
    ap (λ stored. stored_put stored f) c.in_ok-push.ensures.items ∙ find_push_same (is_of f) put_in c.args.stored.now.items _ refl
