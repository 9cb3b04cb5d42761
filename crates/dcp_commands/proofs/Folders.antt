-- What a crash may leave of a package that stands on the disk, and which files were touched.
use Rattle.std.proofs.Common.{◌≡◌, List, ℕ, inl, inr, subst}
use Rattle.disk_terms.proofs.Rest.{at_rest-only}
use Rattle.disk_terms.specs.Disk.{History, IsImage, MayLeave, at_rest}
use Rattle.film_project.specs.Facts.{ProjectFacts}
use Rattle.make_engine.specs.Package.{AreAtRest, IsFileOf}
use Rattle.mast_world.proofs.Kept.{beside_kept_wider}
use Rattle.mast_world.specs.Changes.{IsSameBeside}
use Rattle.mast_world.specs.declared.volume.FileId.{FileId}
use Rattle.mast_world.specs.declared.volume.FileId.TheVariants.{Picture, Sound}
use Rattle.dcp_commands.specs.Make.{HasSameFiles, IsTrack}

-- each image has a file that is at rest
same_file : (history : History FileId) (image : FileId → List ℕ) (file : FileId) (bytes : List ℕ) → history.newest file ≡ at_rest bytes
    → IsImage history.newest image → image file ≡ bytes
same_file history image file bytes rests left =
    at_rest-only bytes (image file) (subst (λ trail. MayLeave trail (image file)) rests (left file))

pub same_files : (project : ProjectFacts) (reads image : FileId → List ℕ) (history : History FileId) → AreAtRest project reads history
    → IsImage history.newest image → HasSameFiles project reads image
same_files project reads image history rests left = record {
  picture = same_file history image (Picture 1) (reads (Picture 1)) rests.picture left;
  sound = λ has. same_file history image (Sound 1) (reads (Sound 1)) (rests.sound has) left;
}

-- a project's files are tracks
is_track : (project : ProjectFacts) (file : FileId) → IsFileOf project file → IsTrack file
is_track project file (inl is) = inl is
is_track project file (inr is) = inr is.1

-- what is beside the project's files is beside the tracks
pub beside_tracks :
    {A : Type 0} (project : ProjectFacts) (tells : Type 0) (reads : A → FileId → List ℕ) (put : A → FileId → ℕ) (faults : A → ℕ) (history : A → History FileId) (before now : A) →
    IsSameBeside (IsFileOf project) tells reads put faults history before now → IsSameBeside IsTrack tells reads put faults history before now
beside_tracks project tells reads put faults history before now kept =
    beside_kept_wider (IsFileOf project) IsTrack tells reads put faults history before now (is_track project) kept
