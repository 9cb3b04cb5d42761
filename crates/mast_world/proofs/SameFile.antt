-- `same_file` tells files apart.
use Rattle.std.proofs.Common.{◌≡◌, true, refl, ap, rules}
use Rattle.mast_world.specs.FileEntry.{same_file}
use Rattle.mast_world.specs.declared.volume.FileId.{FileId}
use Rattle.mast_world.specs.declared.volume.FileId.TheVariants.{Picture, Sound, Cpl, Pkl, AssetMap, VolIndex, Job, Info, Spill}

pub same_file-refl : (f : FileId) → same_file f f ≡ true
same_file-refl (Picture n) = search rules
same_file-refl (Sound n) = search rules
same_file-refl Cpl = refl
same_file-refl Pkl = refl
same_file-refl AssetMap = refl
same_file-refl VolIndex = refl
same_file-refl Job = refl
same_file-refl Info = refl
same_file-refl Spill = refl

pub same_file-true : (f g : FileId) → same_file f g ≡ true → f ≡ g
same_file-true (Picture m) (Picture n) h = ap Picture (search rules)
same_file-true (Sound m) (Sound n) h = ap Sound (search rules)
same_file-true Cpl Cpl h = refl
same_file-true Pkl Pkl h = refl
same_file-true AssetMap AssetMap h = refl
same_file-true VolIndex VolIndex h = refl
same_file-true Job Job h = refl
same_file-true Info Info h = refl
same_file-true Spill Spill h = refl
same_file-true f g h = cc
