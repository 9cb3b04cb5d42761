-- What is found in a table of files, and what a written entry changes.
use Rattle.std.proofs.Common.{◌≡◌, ◌≢◌, ℕ, Bool, true, false, List, get_or, Some, refl, sym, ◌∙◌, ap}
use Rattle.std.proofs.Math.ListN.{set}
use Rattle.std.specs.List.{find}
use Rattle.mast_world.specs.FileEntry.{same_file, is_of, FirstAt}
use Rattle.mast_world.specs.declared.volume.FileId.{FileId}
use Rattle.mast_world.specs.declared.file_entry.FileEntry.{FileEntry}
use Rattle.mast_world.proofs.Find.{find_at, find_set_at, find_set_other}
use Rattle.mast_world.proofs.SameFile.{same_file-refl, same_file-true}

pub is_of-same : {T : Type 0} (f : FileId) (e : FileEntry T) → e.file ≡ f → is_of f e ≡ true
is_of-same f e h = ap (λ g. same_file g f) h ∙ same_file-refl f

pub false_unless : {P : Type 0} (b : Bool) → (b ≡ true → P) → (P → ⊥) → b ≡ false
false_unless true shows refuted = absurd (refuted (shows refl))
false_unless false shows refuted = refl

pub is_of-other : {T : Type 0} (f : FileId) (e : FileEntry T) → e.file ≢ f → is_of f e ≡ false
is_of-other f e other = false_unless (same_file e.file f) (same_file-true e.file f) other

pub find_first : {T : Type 0} (stored : List (FileEntry T)) (file : FileId) (at : ℕ) (d : FileEntry T) → FirstAt stored file at → find (is_of file) stored ≡ Some (get_or stored at d)
find_first stored file at d first =
    find_at (is_of file) stored at d first.within first.before (is_of-same file (get_or stored at d) (first.here d))

pub find_written : {T : Type 0} (stored : List (FileEntry T)) (file : FileId) (at : ℕ) (e : FileEntry T) → FirstAt stored file at → e.file ≡ file → find (is_of file) (set stored at e) ≡ Some e
find_written stored file at e first same =
    find_set_at (is_of file) stored at e first.within first.before (is_of-same file e same)

pub find_others : {T : Type 0} (stored : List (FileEntry T)) (file f : FileId) (at : ℕ) (e : FileEntry T) → FirstAt stored file at → e.file ≡ file → f ≢ file → find (is_of f) (set stored at e) ≡ find (is_of f) stored
find_others stored file f at e first same other =
    find_set_other (is_of f) stored at e e
    (is_of-other f (get_or stored at e) (λ h. other (sym h ∙ first.here e)))
    (is_of-other f e (λ h. other (sym h ∙ same)))
