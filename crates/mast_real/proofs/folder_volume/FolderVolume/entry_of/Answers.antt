use Rattle.std.proofs.Common.{refl, ◌∙◌, ap}
use mathlib.Core.Path.{fun_ext}
use Rattle.mast_world.specs.FileEntry.{is_of}
use Rattle.mast_world.proofs.Find.{find_push_same}
use Rattle.mast_real.specs.FolderFile.{put_in, folder_put}
use Rattle.mast_real.proofs.folder_volume.FolderVolume.entry_of.Goals as goal

pub returns-clause-same_put : goal.returns-clause-same_put
returns-clause-same_put g c = fun_ext (λ f.
    ap (λ files. folder_put files f) c.in_ok-push.ensures.items ∙ find_push_same (is_of f) put_in c.args.self.now.files.items _ refl)

pub returns-clause-each_put : goal.returns-clause-each_put
returns-clause-each_put g c = λ f.
    ap (λ files. folder_put files f) c.in_ok-push.ensures.items ∙ find_push_same (is_of f) put_in c.args.self.now.files.items _ refl
