-- The objects of a project file: their tables.
use Rattle.std.specs.Prelude.{ℕ, ◌-◌, List, [], ◌∷◌, ◌++◌, map, codes, Bool, true, false, not, if◌then◌else◌, Option, Some, None}
use Rattle.std.specs.Option.{option_or}
use Rattle.std.specs.Str.{bytes_eq}
use Rattle.serde_json.specs.Data.{Data, Members, no_members, member}
use Rattle.serde_json.specs.Find.{as_object}
use Rattle.film_project.specs.Names.{object_name, member_name}
use Rattle.film_project.specs.Texts.{is_one_of}
use Rattle.film_project.specs.Members.{Member, Kind, text, number, frame_rate, frame_count, objects, gains, members_fault, text_in, number_in}
use Rattle.film_project.specs.declared.asset.AssetKind.{AssetKind}
use Rattle.film_project.specs.declared.asset.AssetKind.TheVariants.{Rgb48, Ppm, J2c, Pcm24}
use Rattle.film_project.specs.declared.place.Place.{Place}
use Rattle.film_project.specs.declared.text_rule.TextRule.TheVariants as rule
use Rattle.film_project.specs.declared.refusal.ProjectRefusal.{ProjectRefusal}
use Rattle.film_project.specs.declared.refusal.ProjectRefusal.TheVariants.{NotObject, UnknownMember}

-- ---- the tables

abbrev pub required : List ℕ → Kind → Member
required name kind = record { name = name; optional = false; kind = kind }

abbrev pub optional : List ℕ → Kind → Member
optional name kind = record { name = name; optional = true; kind = kind }

abbrev pub title_members : List Member
title_members =
    required (codes "title") (text rule.Title)
    ∷ required (codes "kind") (text rule.ContentKind)
    ∷ required (codes "issued") (text rule.Issued)
    ∷ required (codes "namespace") (text rule.Namespace)
    ∷ []

abbrev pub format_members : List Member
format_members =
    required (codes "width") (number 32 2048)
    ∷ required (codes "height") (number 32 1080)
    ∷ required (codes "fps") frame_rate
    ∷ required (codes "rate") (number 10 250)
    ∷ required (codes "power") (number 11 13)
    ∷ required (codes "channels") (number 0 16)
    ∷ required (codes "frames") frame_count
    ∷ []

abbrev pub list_members : List Member
list_members =
    required (codes "assets") objects
    ∷ required (codes "picture") objects
    ∷ required (codes "sound") objects
    ∷ []

abbrev pub project_members : List Member
project_members = title_members ++ (format_members ++ list_members)

-- channels of sound have to be there; elsewhere they may be absent or 0
abbrev pub channel_member : Bool → Member
channel_member sound = record {
  name = codes "channels";
  optional = not sound;
  kind = if sound then number 1 16 else number 0 0;
}

abbrev pub asset_kind : List ℕ → AssetKind
asset_kind word =
    if bytes_eq word (codes "pcm24") then Pcm24
    else if bytes_eq word (codes "j2c") then J2c
    else if bytes_eq word (codes "ppm") then Ppm
    else Rgb48

abbrev pub carries_sound : AssetKind → Bool
carries_sound Rgb48 = false
carries_sound Ppm = false
carries_sound J2c = false
carries_sound Pcm24 = true

abbrev pub kind_in : Data → AssetKind
kind_in d = asset_kind (text_in (codes "kind") d)

abbrev pub asset_members : Data → List Member
asset_members d =
    required (codes "id") (text rule.Id)
    ∷ required (codes "kind") (text rule.AssetKind)
    ∷ required (codes "file") (text rule.File)
    ∷ channel_member (carries_sound (kind_in d))
    ∷ []

-- a clip ends within the frames
abbrev pub greatest_count : ℕ → Data → ℕ
greatest_count frames d = frames - number_in (codes "at") 0 d

abbrev pub clip_members : ℕ → Data → List Member
clip_members frames d =
    required (codes "asset") (text rule.AnyText)
    ∷ required (codes "at") (number 0 431999)
    ∷ required (codes "from") (number 0 999999)
    ∷ required (codes "count") (number 1 (greatest_count frames d))
    ∷ []

abbrev pub picture_members : ℕ → Data → List Member
picture_members frames d = clip_members frames d ++ optional (codes "hold") (number 1 100) ∷ []

-- over the channels of the clip's asset and those of the project
abbrev pub sound_members : ℕ → ℕ → ℕ → Data → List Member
sound_members frames inputs outputs d = clip_members frames d ++ required (codes "gains") (gains inputs outputs) ∷ []

-- ---- an object against its table

abbrev pub names_of : List Member → List (List ℕ)
names_of table = map (λ m. m.name) table

-- Members stand in the order of their names, so that the first unknown one is the least.
abbrev pub unknown_fault : Place → (List ℕ → Bool) → Members → Option ProjectRefusal
unknown_fault place known no_members = None
unknown_fault place known (member name d ms) =
    if known name then unknown_fault place known ms else Some (UnknownMember (member_name place name))

abbrev pub shape_fault : Place → (List ℕ → Bool) → Option Members → Option ProjectRefusal
shape_fault place known None = Some (NotObject (object_name place))
shape_fault place known (Some ms) = unknown_fault place known ms

abbrev pub object_fault : Place → List Member → Data → Option ProjectRefusal
object_fault place table d =
    option_or (shape_fault place (is_one_of (names_of table)) (as_object d)) (members_fault place d table)

-- the names in the tables of clips
abbrev pub picture_names : List (List ℕ)
picture_names = codes "asset" ∷ codes "at" ∷ codes "from" ∷ codes "count" ∷ codes "hold" ∷ []

abbrev pub sound_names : List (List ℕ)
sound_names = codes "asset" ∷ codes "at" ∷ codes "from" ∷ codes "count" ∷ codes "gains" ∷ []
