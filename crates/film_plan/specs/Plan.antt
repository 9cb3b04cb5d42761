-- What a plan has beside its project.
use Rattle.std.specs.Prelude.{ℕ, ◌*◌, ◌/◌, codes, List, ◌∷◌, ◌++◌, take}
use Rattle.film_project.specs.Canonical.{canonical_text}
use Rattle.film_project.specs.Facts.{ProjectFacts}
use Rattle.mast_base.specs.declared.limits.Limits.{Limits}
use Rattle.sha1.specs.Sha1.{sha1}
use Rattle.uuid.specs.Parts.{with_variant, with_version}
use Rattle.uuid.specs.declared.Variant.TheVariants.{RFC4122}
use Rattle.uuid.specs.declared.Version.TheVariants.{Sha1}
use Rattle.film_plan.specs.declared.ids.Ids.{Ids}

-- the most bytes of a frame's codestream, and of a component's part of it: at the project's rate, in Mbit/s, and at four fifths of it
abbrev pub limits_of : ProjectFacts → Limits
limits_of project = record { frame = project.rate * 125000 / project.fps; component = project.rate * 100000 / project.fps }

-- the version 5 UUID of a name under the project's namespace
abbrev pub id_of : ProjectFacts → List ℕ → List ℕ
id_of project name = with_version (with_variant (take 16 (sha1 (project.namespace ++ name))) RFC4122) Sha1

abbrev pub ids_of : ProjectFacts → Ids
ids_of project = record {
  cpl = id_of project (codes "cpl");
  pkl = id_of project (codes "pkl");
  map = id_of project (codes "map");
  reel = id_of project (codes "reel-1");
  picture = id_of project (codes "picture-1");
  sound = id_of project (codes "sound-1");
}

-- the job's text: a line of its own, and the project's canonical text
abbrev pub job_of : ProjectFacts → List ℕ
job_of project = codes "DCPJOB 1" ++ 10 ∷ canonical_text project
