-- What a text is: a project, or the first refusal. The text is JSON (RFC 8259) as `serde_json` reads it.
use Rattle.std.specs.Prelude.{ℕ, ◌+◌, List, [], ◌∷◌, ◌++◌, map, length, codes, Bool, true, false, nat_lt, if◌then◌else◌, Option, Some, None, Result, Ok, Err}
use Rattle.std.specs.Option.{option_or}
use Rattle.std.specs.Str.{bytes_eq, is_utf8}
use Rattle.serde_json.specs.Data.{Data}
use Rattle.serde_json.specs.Find.{as_object}
use Rattle.serde_json.specs.Read.{read}
use Rattle.uuid.specs.Text.{parsed}
use Rattle.film_project.specs.Facts.{AssetFacts, PictureFacts, SoundFacts, ProjectFacts}
use Rattle.film_project.specs.Members.{first_of, number_in, text_in, list_in, value_or, gain_of}
use Rattle.film_project.specs.Names.{member_name}
use Rattle.film_project.specs.Objects.{project_members, asset_members, picture_members, sound_members, object_fault, shape_fault, names_of, kind_in, carries_sound}
use Rattle.film_project.specs.Texts.{is_one_of}
use Rattle.film_project.specs.declared.place.Place.TheVariants.{Project, Asset, Picture, Sound}
use Rattle.film_project.specs.declared.refusal.ProjectRefusal.{ProjectRefusal}
use Rattle.film_project.specs.declared.refusal.ProjectRefusal.TheVariants.{NotJson, DoubleAsset, NoSuchAsset, FileTooLong}

-- ---- assets

abbrev pub asset_in : Data → AssetFacts
asset_in d = record {
  id = text_in (codes "id") d;
  kind = kind_in d;
  file = text_in (codes "file") d;
  channels = number_in (codes "channels") 0 d;
}

-- `seen` has the ids of the earlier assets
abbrev pub asset_fault : ℕ → List (List ℕ) → Data → Option ProjectRefusal
asset_fault i seen d =
    option_or (object_fault (Asset i) (asset_members d) d)
    (if is_one_of seen (text_in (codes "id") d) then Some (DoubleAsset (member_name (Asset i) (codes "id"))) else None)

abbrev pub assets_fault : ℕ → List (List ℕ) → List Data → Option ProjectRefusal
assets_fault i seen [] = None
assets_fault i seen (d ∷ ds) = option_or (asset_fault i seen d) (assets_fault (i + 1) (seen ++ text_in (codes "id") d ∷ []) ds)

-- ---- clips

-- the first asset of that id, with its place; places are counted from i
abbrev pub find_asset : List ℕ → ℕ → List AssetFacts → Option (ℕ × AssetFacts)
find_asset id i [] = None
find_asset id i (a ∷ rest) = if bytes_eq a.id id then Some (i, a) else find_asset id (i + 1) rest

abbrev pub found_fault : List ℕ → Bool → Option (ℕ × AssetFacts) → Option ProjectRefusal
found_fault name sound None = Some (NoSuchAsset name)
found_fault name true (Some p) = if carries_sound p.1.kind then None else Some (NoSuchAsset name)
found_fault name false (Some p) = if carries_sound p.1.kind then Some (NoSuchAsset name) else None

abbrev pub place_in : Option (ℕ × AssetFacts) → ℕ
place_in None = 0
place_in (Some p) = p.0

-- a clip's asset
abbrev pub clip_asset : List AssetFacts → Data → Option (ℕ × AssetFacts)
clip_asset assets d = find_asset (text_in (codes "asset") d) 0 assets

abbrev pub picture_fault : List AssetFacts → ℕ → ℕ → Data → Option ProjectRefusal
picture_fault assets frames i d =
    option_or (object_fault (Picture i) (picture_members frames d) d)
    (found_fault (member_name (Picture i) (codes "asset")) false (clip_asset assets d))

abbrev pub picture_in : List AssetFacts → Data → PictureFacts
picture_in assets d = record {
  asset = place_in (clip_asset assets d);
  at = number_in (codes "at") 0 d;
  from = number_in (codes "from") 0 d;
  count = number_in (codes "count") 0 d;
  hold = number_in (codes "hold") 1 d;
}

-- the channels of a clip's asset; where there is no such asset, a channel need only be below 16
abbrev pub input_channels : Option (ℕ × AssetFacts) → ℕ
input_channels None = 16
input_channels (Some p) = if carries_sound p.1.kind then p.1.channels else 16

abbrev pub sound_fault : List AssetFacts → ℕ → ℕ → ℕ → Data → Option ProjectRefusal
sound_fault assets frames channels i d =
    option_or (object_fault (Sound i) (sound_members frames (input_channels (clip_asset assets d)) channels d) d)
    (found_fault (member_name (Sound i) (codes "asset")) true (clip_asset assets d))

abbrev pub sound_in : List AssetFacts → Data → SoundFacts
sound_in assets d = record {
  asset = place_in (clip_asset assets d);
  at = number_in (codes "at") 0 d;
  from = number_in (codes "from") 0 d;
  count = number_in (codes "count") 0 d;
  gains = map gain_of (list_in (codes "gains") d);
}

-- ---- the whole

abbrev pub assets_in : Data → List AssetFacts
assets_in d = map asset_in (list_in (codes "assets") d)

abbrev pub namespace_in : Data → List ℕ
namespace_in d = value_or [] (parsed (text_in (codes "namespace") d))

abbrev pub top_shape_fault : Data → Option ProjectRefusal
top_shape_fault d = shape_fault Project (is_one_of (names_of project_members)) (as_object d)

abbrev pub project_fault : Data → Option ProjectRefusal
project_fault d =
    option_or (object_fault Project project_members d)
    (option_or (assets_fault 0 [] (list_in (codes "assets") d))
    (option_or (first_of (picture_fault (assets_in d) (number_in (codes "frames") 0 d)) 0 (list_in (codes "picture") d))
    (first_of (sound_fault (assets_in d) (number_in (codes "frames") 0 d) (number_in (codes "channels") 0 d)) 0 (list_in (codes "sound") d))))

abbrev pub project_in : Data → ProjectFacts
project_in d = record {
  title = text_in (codes "title") d;
  kind = text_in (codes "kind") d;
  issued = text_in (codes "issued") d;
  namespace = namespace_in d;
  width = number_in (codes "width") 0 d;
  height = number_in (codes "height") 0 d;
  fps = number_in (codes "fps") 0 d;
  rate = number_in (codes "rate") 0 d;
  power = number_in (codes "power") 0 d;
  channels = number_in (codes "channels") 0 d;
  frames = number_in (codes "frames") 0 d;
  assets = assets_in d;
  picture = map (picture_in (assets_in d)) (list_in (codes "picture") d);
  sound = map (sound_in (assets_in d)) (list_in (codes "sound") d);
}

abbrev pub project_or : Option ProjectRefusal → ProjectFacts → Result ProjectFacts ProjectRefusal
project_or None facts = Ok facts
project_or (Some refusal) facts = Err refusal

-- of the value that `serde_json` reads, if it reads one
abbrev pub accepts_value : Option Data → Result ProjectFacts ProjectRefusal
accepts_value None = Err NotJson
accepts_value (Some d) = project_or (project_fault d) (project_in d)

abbrev pub json_value : List ℕ → Option Data
json_value text = if is_utf8 text then read text else None

-- a project, or the first refusal
abbrev pub accepts : List ℕ → Result ProjectFacts ProjectRefusal
accepts text = if nat_lt 8388608 (length text) then Err (FileTooLong (length text)) else accepts_value (json_value text)
