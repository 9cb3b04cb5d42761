-- What is shown of a codestream that was read.
use Rattle.std.proofs.Common.{◌≡◌, ℕ, ◌<◌, List, length, Some, None, Err, refl, sym, ap, ap₂, ◌∙◌, arith}
use Rattle.std.proofs.lemmas.List.{take_all}
use Rattle.std.specs.Prelude.{Option, option_map}
use Rattle.film_plan.specs.Plan.{limits_of}
use Rattle.film_project.specs.Facts.{ProjectFacts}
use Rattle.mast_world.specs.Content.{Files, part_of}
use Rattle.mast_world.specs.Count.{counted}
use Rattle.frame_maker.specs.Making.{IsShown}
use Rattle.frame_values.proofs.Surveyed.{long_fault}
use Rattle.frame_values.specs.Encoded.{picture_size}
use Rattle.frame_values.specs.Ready.{ready_fault}
use Rattle.frame_values.specs.Shown.{ready_shown, unless}
use Rattle.frame_values.specs.declared.ends.BadWhy.{BadWhy}
use Rattle.frame_values.specs.declared.ends.BadWhy.TheVariants.{Limit}
use Rattle.frame_values.specs.declared.ends.CellEnd.TheVariants.{Bad}

-- a file that was read whole
pub whole_file :
    (file : Option (List ℕ)) (value : List ℕ) (size : ℕ) → option_map length file ≡ Some size → value ≡ part_of file 0 size →
    file ≡ Some value
whole_file None value size there is = absurd (cc)
whole_file (Some bytes) value size there is =
    let same : length bytes ≡ size = cc in
    ap Some (sym (is ∙ take_all size bytes (omega arith)))

pub ready_good :
    (project : ProjectFacts) (name : List ℕ) (file : Option (List ℕ)) (value : List ℕ) (before now : ℕ) → file ≡ Some value →
    ready_fault (limits_of project) (picture_size project) value ≡ None → now ≡ counted before (length value) →
    IsShown (ready_shown project name file) value before now
ready_good project name file value before now there good taken = record {
  shown = record { value = value; taken = length value };
  is = ap (ready_shown project name) there ∙ ap (unless value) good;
  value = refl;
  taken = taken;
}

pub ready_bad :
    (project : ProjectFacts) (name : List ℕ) (file : Option (List ℕ)) (value : List ℕ) (why : BadWhy) → file ≡ Some value →
    ready_fault (limits_of project) (picture_size project) value ≡ Some why → ready_shown project name file ≡ Err (Bad why)
ready_bad project name file value why there bad = ap (ready_shown project name) there ∙ ap (unless value) bad

-- a file that is too long
pub long_end :
    (project : ProjectFacts) (name : List ℕ) (file : Option (List ℕ)) (size : ℕ) → option_map length file ≡ Some size →
    (limits_of project).frame < size → ready_shown project name file ≡ Err (Bad (Limit 0 size))
long_end project name None size there long = absurd (cc)
long_end project name (Some bytes) size there long =
    let same : length bytes ≡ size = cc in
    ap (unless bytes) (long_fault (limits_of project) (picture_size project) bytes (omega arith))
    ∙ ap (λ n. Err (Bad (Limit 0 n))) same

-- what was shown, by equal names, files, bytes and counts
pub shown_moved :
    (project : ProjectFacts) (name name' : List ℕ) (files files' : Files) (value bytes : List ℕ) (before before' now : ℕ) →
    name' ≡ name → files' ≡ files → before' ≡ before → bytes ≡ value →
    IsShown (ready_shown project name' (files' name')) value before' now → IsShown (ready_shown project name (files name)) bytes before now
shown_moved project name name' files files' value bytes before before' now same_name same_files same_before same s = record {
  shown = s.shown;
  is = sym (ap₂ (λ n f. ready_shown project n (f n)) same_name same_files) ∙ s.is;
  value = same ∙ s.value;
  taken = s.taken ∙ ap (λ b. counted b s.shown.taken) same_before;
}
