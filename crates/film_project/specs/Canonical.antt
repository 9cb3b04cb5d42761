-- The canonical JSON (RFC 8259) of a project: all members are there, in the order of their names' bytes.
use Rattle.std.specs.Prelude.{ℕ, List, ◌∷◌, [], map, codes}
use Rattle.serde_json.specs.Data.{Data, number, unsigned, string, array, object, Members, member, no_members, put}
use Rattle.serde_json.specs.View.{items_of}
use Rattle.serde_json.specs.Written.{compact_text}
use Rattle.uuid.specs.Text.{hyphenated_text, lower}
use Rattle.film_project.specs.Facts.{nth_asset, AssetFacts, PictureFacts, GainFacts, SoundFacts, ProjectFacts}
use Rattle.film_project.specs.declared.asset.AssetKind.{AssetKind}
use Rattle.film_project.specs.declared.asset.AssetKind.TheVariants.{Rgb48, Ppm, J2c, Pcm24}

abbrev pub whole : ℕ → Data
whole n = number (unsigned n)

abbrev pub list : List Data → Data
list ds = array (items_of ds)

abbrev pub kind_word : AssetKind → List ℕ
kind_word Rgb48 = codes "rgb48"
kind_word Ppm = codes "ppm"
kind_word J2c = codes "j2c"
kind_word Pcm24 = codes "pcm24"

abbrev pub asset_data : AssetFacts → Data
asset_data a =
    object (member (codes "channels") (whole a.channels)
    (member (codes "file") (string a.file)
    (member (codes "id") (string a.id)
    (member (codes "kind") (string (kind_word a.kind)) no_members))))

abbrev pub id_at : List AssetFacts → ℕ → List ℕ
id_at assets i = (nth_asset assets i).id

abbrev pub picture_data : List AssetFacts → PictureFacts → Data
picture_data assets c =
    object (member (codes "asset") (string (id_at assets c.asset))
    (member (codes "at") (whole c.at)
    (member (codes "count") (whole c.count)
    (member (codes "from") (whole c.from)
    (member (codes "hold") (whole c.hold) no_members)))))

abbrev pub gain_data : GainFacts → Data
gain_data g = list (whole g.from ∷ whole g.to ∷ whole g.gain ∷ [])

abbrev pub sound_data : List AssetFacts → SoundFacts → Data
sound_data assets c =
    object (member (codes "asset") (string (id_at assets c.asset))
    (member (codes "at") (whole c.at)
    (member (codes "count") (whole c.count)
    (member (codes "from") (whole c.from)
    (member (codes "gains") (list (map gain_data c.gains)) no_members)))))

abbrev pub project_data : ProjectFacts → Data
project_data p =
    object (member (codes "assets") (list (map asset_data p.assets))
    (member (codes "channels") (whole p.channels)
    (member (codes "fps") (whole p.fps)
    (member (codes "frames") (whole p.frames)
    (member (codes "height") (whole p.height)
    (member (codes "issued") (string p.issued)
    (member (codes "kind") (string p.kind)
    (member (codes "namespace") (string (hyphenated_text lower p.namespace))
    (member (codes "picture") (list (map (picture_data p.assets) p.picture))
    (member (codes "power") (whole p.power)
    (member (codes "rate") (whole p.rate)
    (member (codes "sound") (list (map (sound_data p.assets) p.sound))
    (member (codes "title") (string p.title)
    (member (codes "width") (whole p.width) no_members))))))))))))))

-- the text of a project
abbrev pub canonical_text : ProjectFacts → List ℕ
canonical_text p = compact_text (project_data p)

-- the members as they are put in, in three parts
abbrev pub with_numbers : ProjectFacts → Members → Members
with_numbers p ms =
    put (codes "width") (whole p.width) (put (codes "rate") (whole p.rate) (put (codes "power") (whole p.power) (put (codes "height") (whole p.height)
    (put (codes "frames") (whole p.frames) (put (codes "fps") (whole p.fps) (put (codes "channels") (whole p.channels) ms))))))

abbrev pub with_texts : ProjectFacts → Members → Members
with_texts p ms =
    put (codes "title") (string p.title) (put (codes "namespace") (string (hyphenated_text lower p.namespace))
    (put (codes "kind") (string p.kind) (put (codes "issued") (string p.issued) ms)))

abbrev pub with_lists : ProjectFacts → Members → Members
with_lists p ms =
    put (codes "sound") (list (map (sound_data p.assets) p.sound)) (put (codes "picture") (list (map (picture_data p.assets) p.picture))
    (put (codes "assets") (list (map asset_data p.assets)) ms))
