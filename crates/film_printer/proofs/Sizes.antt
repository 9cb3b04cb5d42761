-- How long the canonical text of a project is.
use Rattle.std.proofs.Common.{◌≡◌, ℕ, zero, suc, ◌+◌, ◌^◌, ◌<◌, ◌≤◌, List, [], ◌∷◌, ◌++◌, map, length, length-append, slice_index, All, true, false, ◌==◌, decimal, codes, refl, arith, lit<}
use Rattle.std.specs.List.{list_all}
use Rattle.std.proofs.lemmas.Bool.{and_parts}
use Rattle.std.proofs.lemmas.Bool.Decides.{nat_tests}
use Rattle.json.specs.Print.{quoted}
use Rattle.serde_json.specs.Data.{member, no_members, string}
use Rattle.serde_json.specs.Written.{compact_text, members_text}
use Rattle.uuid.specs.Text.{hyphenated_text, lower}
use Rattle.film_project.specs.Canonical.{whole, list, asset_data, picture_data, gain_data, sound_data, project_data, kind_word, id_at}
use Rattle.film_project.specs.Facts.{AssetFacts, PictureFacts, GainFacts, SoundFacts, ProjectFacts}
use Rattle.film_project.specs.Members.{is_frame_rate}
use Rattle.film_project.specs.Rules.{IsAsset, IsPictureClip, IsGain, FitsSound, IsProject}
use Rattle.film_project.specs.Texts.{is_name_byte}
use Rattle.film_printer.proofs.Size.{name_or, plain_text, any_text, id_size, file_size, title_size, issued_size, kind_size, namespace_size, kind_word_size, member_size, mapped_size, number_size}

all_at : (s : List ℕ) → list_all is_name_byte s ≡ true → (k : ℕ) → k < length s → is_name_byte (slice_index s k) ≡ true
all_at [] e k h = absurd (omega arith)
all_at (b ∷ s) e zero h = (and_parts (is_name_byte b) (list_all is_name_byte s) e).0
all_at (b ∷ s) e (suc k) h = all_at s (and_parts (is_name_byte b) (list_all is_name_byte s) e).1 k (omega arith)

-- a member's name has its letters and two quotes
key_size : (s : List ℕ) → list_all is_name_byte s ≡ true → length (quoted s) ≤ length s + 2
key_size s e = plain_text s (λ k h. name_or (is_name_byte (slice_index s k)) (slice_index s k == 47) (all_at s e k h))

-- ---- parts

asset_size : (a : AssetFacts) → IsAsset a → length (compact_text (asset_data a)) ≤ 326
asset_size a r =
    let m1 = member (codes "kind") (string (kind_word a.kind)) no_members in
    let s1 : length (members_text true m1) ≤ 53 =
    member_size true (codes "kind") (string (kind_word a.kind)) no_members 6 44 1 (key_size (codes "kind") refl) (kind_word_size a.kind) (omega arith) in
    let m2 = member (codes "id") (string a.id) m1 in
    let s2 : length (members_text true m2) ≤ 101 =
    member_size true (codes "id") (string a.id) m1 4 42 53 (key_size (codes "id") refl) (id_size a.id r.id_kept) s1 in
    let m3 = member (codes "file") (string a.file) m2 in
    let s3 : length (members_text true m3) ≤ 311 =
    member_size true (codes "file") (string a.file) m2 6 202 101 (key_size (codes "file") refl) (file_size a.file r.file_kept) s2 in
    let m4 = member (codes "channels") (whole a.channels) m3 in
    let s4 : length (members_text false m4) ≤ 325 =
    member_size false (codes "channels") (whole a.channels) m3 10 2 311 (key_size (codes "channels") refl) (number_size 2 a.channels (omega arith) (omega (arith, r.most_channels)) (omega (arith, r.most_channels))) s3 in
    omega (arith, s4)

id_at_size : (xs : List AssetFacts) (k : ℕ) → All IsAsset xs → length (quoted (id_at xs k)) ≤ 42
id_at_size [] k kept = omega (arith, any_text [])
id_at_size (a ∷ rest) zero kept = id_size a.id (kept 0 a (omega arith)).id_kept
id_at_size (a ∷ rest) (suc k) kept = id_at_size rest k (λ j d h. kept (suc j) d (omega arith))

clip_number : (n : ℕ) → n ≤ 999999 → length (decimal n) ≤ 6
clip_number n h = number_size 6 n (omega arith) (omega (arith, h)) (omega (arith, h))

picture_size : (xs : List AssetFacts) (c : PictureFacts) → All IsAsset xs → IsPictureClip c → length (compact_text (picture_data xs c)) ≤ 105
picture_size xs c kept r =
    let m1 = member (codes "hold") (whole c.hold) no_members in
    let s1 : length (members_text true m1) ≤ 12 =
    member_size true (codes "hold") (whole c.hold) no_members 6 3 1 (key_size (codes "hold") refl) (number_size 3 c.hold (omega arith) (omega (arith, r.most_hold)) (omega (arith, r.most_hold))) (omega arith) in
    let m2 = member (codes "from") (whole c.from) m1 in
    let s2 : length (members_text true m2) ≤ 26 =
    member_size true (codes "from") (whole c.from) m1 6 6 12 (key_size (codes "from") refl) (clip_number c.from (omega (arith, r.from_in_range))) s1 in
    let m3 = member (codes "count") (whole c.count) m2 in
    let s3 : length (members_text true m3) ≤ 41 =
    member_size true (codes "count") (whole c.count) m2 7 6 26 (key_size (codes "count") refl) (clip_number c.count (omega (arith, r.most_count))) s2 in
    let m4 = member (codes "at") (whole c.at) m3 in
    let s4 : length (members_text true m4) ≤ 53 =
    member_size true (codes "at") (whole c.at) m3 4 6 41 (key_size (codes "at") refl) (clip_number c.at (omega (arith, r.at_in_range))) s3 in
    let m5 = member (codes "asset") (string (id_at xs c.asset)) m4 in
    let s5 : length (members_text false m5) ≤ 104 =
    member_size false (codes "asset") (string (id_at xs c.asset)) m4 7 42 53 (key_size (codes "asset") refl) (id_at_size xs c.asset kept) s4 in
    omega (arith, s5)

gain_size : (g : GainFacts) → IsGain g → length (compact_text (gain_data g)) ≤ 14
gain_size g r =
    let from = number_size 2 g.from (omega arith) (omega (arith, r.from_in_range)) (omega (arith, r.from_in_range)) in
    let to = number_size 2 g.to (omega arith) (omega (arith, r.to_in_range)) (omega (arith, r.to_in_range)) in
    let gain = number_size 6 g.gain (omega arith) (omega (arith, r.gain_in_range)) (omega (arith, r.gain_in_range)) in
    let last = decimal g.gain ++ 93 ∷ [] in
    omega (arith, from, to, gain, length-append (decimal g.from) (44 ∷ (decimal g.to ++ 44 ∷ last)), length-append (decimal g.to) (44 ∷ last), length-append (decimal g.gain) (93 ∷ []))

sound_size : (frames channels : ℕ) (xs : List AssetFacts) (c : SoundFacts) → All IsAsset xs → FitsSound frames channels xs c → length (compact_text (sound_data xs c)) ≤ 3945
sound_size frames channels xs c kept r =
    let all : length (compact_text (list (map gain_data c.gains))) ≤ 3842 =
    omega (arith, mapped_size gain_data 14 c.gains (λ k d h. gain_size _ (r.gains k d h).rules), r.rules.most_gains) in
    let m1 = member (codes "gains") (list (map gain_data c.gains)) no_members in
    let s1 : length (members_text true m1) ≤ 3852 =
    member_size true (codes "gains") (list (map gain_data c.gains)) no_members 7 3842 1 (key_size (codes "gains") refl) all (omega arith) in
    let m2 = member (codes "from") (whole c.from) m1 in
    let s2 : length (members_text true m2) ≤ 3866 =
    member_size true (codes "from") (whole c.from) m1 6 6 3852 (key_size (codes "from") refl) (clip_number c.from (omega (arith, r.rules.from_in_range))) s1 in
    let m3 = member (codes "count") (whole c.count) m2 in
    let s3 : length (members_text true m3) ≤ 3881 =
    member_size true (codes "count") (whole c.count) m2 7 6 3866 (key_size (codes "count") refl) (clip_number c.count (omega (arith, r.rules.most_count))) s2 in
    let m4 = member (codes "at") (whole c.at) m3 in
    let s4 : length (members_text true m4) ≤ 3893 =
    member_size true (codes "at") (whole c.at) m3 4 6 3881 (key_size (codes "at") refl) (clip_number c.at (omega (arith, r.rules.at_in_range))) s3 in
    let m5 = member (codes "asset") (string (id_at xs c.asset)) m4 in
    let s5 : length (members_text false m5) ≤ 3944 =
    member_size false (codes "asset") (string (id_at xs c.asset)) m4 7 42 3893 (key_size (codes "asset") refl) (id_at_size xs c.asset kept) s4 in
    omega (arith, s5)

-- ---- the whole

rate_below : (n : ℕ) → is_frame_rate n ≡ true → n < 100
rate_below n e = grind (arith, nat_tests)

small_number : (k n most : ℕ) → n ≤ most → 0 < k → most < 10 ^ k → most < 2 ^ 64 → length (decimal n) ≤ k
small_number k n most h some fits fits_too = number_size k n some (omega (arith, h, fits)) (omega (arith, h, fits_too))

pub project_size : (p : ProjectFacts) → IsProject p → length (compact_text (project_data p)) < 4400000
project_size p r =
    let assets : length (compact_text (list (map asset_data p.assets))) ≤ 327002 =
    omega (arith, mapped_size asset_data 326 p.assets (λ k d h. asset_size _ (r.each_asset k d h)), r.most_assets) in
    let pictures : length (compact_text (list (map (picture_data p.assets) p.picture))) ≤ 106002 =
    omega (arith, mapped_size (picture_data p.assets) 105 p.picture (λ k d h. picture_size p.assets _ r.each_asset (r.picture_fits k d h).rules), r.most_picture) in
    let sounds : length (compact_text (list (map (sound_data p.assets) p.sound))) ≤ 3946002 =
    omega (arith, mapped_size (sound_data p.assets) 3945 p.sound (λ k d h. sound_size p.frames p.channels p.assets _ r.each_asset (r.sound_fits k d h)), r.most_sound) in
    let fps : p.fps ≤ 99 = omega (arith, rate_below p.fps r.fps_known) in
    let m1 = member (codes "width") (whole p.width) no_members in
    let s1 : length (members_text true m1) ≤ 14 =
    member_size true (codes "width") (whole p.width) no_members 7 4 1 (key_size (codes "width") refl) (small_number 4 p.width 2048 r.most_width (lit< tt) (lit< tt) (lit< tt)) (omega arith) in
    let m2 = member (codes "title") (string p.title) m1 in
    let s2 : length (members_text true m2) ≤ 625 =
    member_size true (codes "title") (string p.title) m1 7 602 14 (key_size (codes "title") refl) (title_size p.title r.title_kept) s1 in
    let m3 = member (codes "sound") (list (map (sound_data p.assets) p.sound)) m2 in
    let s3 : length (members_text true m3) ≤ 3946636 =
    member_size true (codes "sound") (list (map (sound_data p.assets) p.sound)) m2 7 3946002 625 (key_size (codes "sound") refl) sounds s2 in
    let m4 = member (codes "rate") (whole p.rate) m3 in
    let s4 : length (members_text true m4) ≤ 3946647 =
    member_size true (codes "rate") (whole p.rate) m3 6 3 3946636 (key_size (codes "rate") refl) (small_number 3 p.rate 250 r.most_rate (lit< tt) (lit< tt) (lit< tt)) s3 in
    let m5 = member (codes "power") (whole p.power) m4 in
    let s5 : length (members_text true m5) ≤ 3946658 =
    member_size true (codes "power") (whole p.power) m4 7 2 3946647 (key_size (codes "power") refl) (small_number 2 p.power 13 r.most_power (lit< tt) (lit< tt) (lit< tt)) s4 in
    let m6 = member (codes "picture") (list (map (picture_data p.assets) p.picture)) m5 in
    let s6 : length (members_text true m6) ≤ 4052671 =
    member_size true (codes "picture") (list (map (picture_data p.assets) p.picture)) m5 9 106002 3946658 (key_size (codes "picture") refl) pictures s5 in
    let m7 = member (codes "namespace") (string (hyphenated_text lower p.namespace)) m6 in
    let s7 : length (members_text true m7) ≤ 4052902 =
    member_size true (codes "namespace") (string (hyphenated_text lower p.namespace)) m6 11 218 4052671 (key_size (codes "namespace") refl) (namespace_size p.namespace) s6 in
    let m8 = member (codes "kind") (string p.kind) m7 in
    let s8 : length (members_text true m8) ≤ 4052990 =
    member_size true (codes "kind") (string p.kind) m7 6 80 4052902 (key_size (codes "kind") refl) (kind_size p.kind r.kind_kept) s7 in
    let m9 = member (codes "issued") (string p.issued) m8 in
    let s9 : length (members_text true m9) ≤ 4053116 =
    member_size true (codes "issued") (string p.issued) m8 8 116 4052990 (key_size (codes "issued") refl) (issued_size p.issued r.issued_kept) s8 in
    let m10 = member (codes "height") (whole p.height) m9 in
    let s10 : length (members_text true m10) ≤ 4053130 =
    member_size true (codes "height") (whole p.height) m9 8 4 4053116 (key_size (codes "height") refl) (small_number 4 p.height 1080 r.most_height (lit< tt) (lit< tt) (lit< tt)) s9 in
    let m11 = member (codes "frames") (whole p.frames) m10 in
    let s11 : length (members_text true m11) ≤ 4053146 =
    member_size true (codes "frames") (whole p.frames) m10 8 6 4053130 (key_size (codes "frames") refl) (small_number 6 p.frames 432000 r.most_frames (lit< tt) (lit< tt) (lit< tt)) s10 in
    let m12 = member (codes "fps") (whole p.fps) m11 in
    let s12 : length (members_text true m12) ≤ 4053155 =
    member_size true (codes "fps") (whole p.fps) m11 5 2 4053146 (key_size (codes "fps") refl) (small_number 2 p.fps 99 fps (lit< tt) (lit< tt) (lit< tt)) s11 in
    let m13 = member (codes "channels") (whole p.channels) m12 in
    let s13 : length (members_text true m13) ≤ 4053169 =
    member_size true (codes "channels") (whole p.channels) m12 10 2 4053155 (key_size (codes "channels") refl) (small_number 2 p.channels 16 r.most_channels (lit< tt) (lit< tt) (lit< tt)) s12 in
    let m14 = member (codes "assets") (list (map asset_data p.assets)) m13 in
    let s14 : length (members_text false m14) ≤ 4380181 =
    member_size false (codes "assets") (list (map asset_data p.assets)) m13 8 327002 4053169 (key_size (codes "assets") refl) assets s13 in
    omega (arith, s14)
