-- What a written entry of a volume in memory leaves of the counts.
use Rattle.std.proofs.Common.{◌≡◌, Bool, true, false, List, refl, sym, ◌∙◌, ap, subst, get_or, ℕ}
use Rattle.std.proofs.Math.ListN.{set}
use Rattle.mast_world.specs.FileEntry.{same_file, FirstAt}
use Rattle.mast_world.specs.StoredFile.{put_in, stored_put}
use Rattle.mast_world.specs.declared.file_entry.FileEntry.{FileEntry}
use Rattle.mast_world.specs.declared.mem_volume.StoredFile.{StoredFile}
use Rattle.mast_world.specs.declared.volume.FileId.{FileId}
use Rattle.mast_world.proofs.FileEntryLemmas.{find_first, find_written, find_others}
use Rattle.mast_world.proofs.SameFile.{same_file-refl, same_file-true}

-- an entry that is written with the same count changes no count
pub put_kept : (stored : List (FileEntry StoredFile)) (file f : FileId) (at : ℕ) (e d : FileEntry StoredFile) → FirstAt stored file at → e.file ≡ file → e.value.put ≡ (get_or stored at d).value.put → stored_put (set stored at e) f ≡ stored_put stored f
put_kept stored file f at e d first same put = by_case (same_file file f) refl
  where
    by_case : (b : Bool) → same_file file f ≡ b → stored_put (set stored at e) f ≡ stored_put stored f
    by_case true here =
        subst (λ (g : FileId). stored_put (set stored at e) g ≡ stored_put stored g) (same_file-true file f here)
        (ap put_in (find_written stored file at e first same) ∙ (put ∙ ap put_in (sym (find_first stored file at d first))))
    by_case false other =
        ap put_in (find_others stored file f at e first same (λ h. cc (other, same_file-refl f, ap (λ g. same_file g f) h)))
