-- Each frame of a package that doesn't lie ready is the encoding of a raw picture.
use Rattle.std.proofs.Common.{◌≡◌, ℕ, ◌+◌, ◌*◌, ◌≤◌, Bool, true, false, cond, List, length, take, drop, Some, None, Ok, Err, refl, sym, subst, ◌∙◌, ap, arith}
use Rattle.std.proofs.lemmas.Bool.Decides.{nat_tests}
use Rattle.std.proofs.lemmas.List.{length-drop, length-replicate, length-take-le}
use Rattle.std.specs.Fmt.{decimal}
use Rattle.std.specs.Prelude.{nat_le, Option, Result}
use Rattle.film_project.specs.Facts.{AssetFacts, ProjectFacts, asset_at}
use Rattle.film_project.specs.Rules.{IsProject}
use Rattle.film_project.specs.declared.asset.AssetKind.{AssetKind}
use Rattle.film_project.specs.declared.asset.AssetKind.TheVariants.{Rgb48, Ppm, J2c, Pcm24}
use Rattle.film_timeline.specs.Timeline.{cells_of}
use Rattle.film_timeline.specs.declared.cell.Cell.{Cell}
use Rattle.film_timeline.specs.declared.cell.Cell.TheVariants.{Black, Frame}
use Rattle.frame_files.specs.Name.{frame_name}
use Rattle.frame_files.specs.declared.name.FrameFormat.TheVariants as format
use Rattle.frame_values.specs.Causes.{AreEncodedFrames, IsEncodedFrame, is_j2c, is_ready}
use Rattle.frame_values.specs.Encoded.{encoded, IsEncodingOf}
use Rattle.frame_values.specs.Shown.{Shown, asset_shown, black, cell_shown, cells_shown, raw_shown}
use Rattle.mast_world.specs.Content.{Files, part}
use Rattle.ppm_head.specs.Header.{header_end}
use Rattle.ppm_head.specs.declared.header.BadHeader as head
use Rattle.raw_frames.specs.Frames.{behind_header, frame_size, of_file, pixels_at, ppm_frame, rgb48_frame}
use Rattle.raw_frames.specs.Kinds.{shown_frame}
use Rattle.raw_frames.specs.declared.refusal.FrameRefusal.{FrameRefusal}
use Rattle.picture_track.proofs.Outcomes.{each_shown}

-- ---- a raw picture has all bytes of a frame

where_ok : (t : Bool) (good pixels : List ℕ) (why : FrameRefusal) → cond t (Ok good) (Err why) ≡ Ok pixels → (t ≡ true) × (good ≡ pixels)
where_ok true good pixels why is = (refl, cc)
where_ok false good pixels why is = absurd (cc)

pixels_whole : (at size : ℕ) (bytes pixels : List ℕ) → pixels_at at size bytes ≡ Ok pixels → length pixels ≡ size
unfolding pixels_at
pixels_whole at size bytes pixels is =
    let parts = where_ok (nat_le (at + size) (length bytes)) (part bytes at size) pixels _ is in
    let test = parts.0 in
    let within : at + size ≤ length bytes = grind (arith, nat_tests) in
    let rest : size ≤ length (drop at bytes) = rw (length-drop at bytes) (omega arith) in
    ap length (sym parts.1) ∙ length-take-le size (drop at bytes) rest

file_whole : (frame : List ℕ → Result (List ℕ) FrameRefusal) (size : ℕ) → ((bytes pixels : List ℕ) → frame bytes ≡ Ok pixels → length pixels ≡ size) → (file : Option (List ℕ)) (pixels : List ℕ) → of_file frame file ≡ Ok pixels → length pixels ≡ size
file_whole frame size whole None pixels is = absurd (cc)
file_whole frame size whole (Some bytes) pixels is = whole bytes pixels is

behind_whole : (size : ℕ) (bytes : List ℕ) (end : Result ℕ head.BadHeader) (pixels : List ℕ) → behind_header size bytes end ≡ Ok pixels → length pixels ≡ size
behind_whole size bytes (Ok at) pixels is = pixels_whole at size bytes pixels is
behind_whole size bytes (Err bad) pixels is = absurd (cc)

picture_whole : (kind : AssetKind) (files : Files) (file : List ℕ) (index width height : ℕ) (pixels : List ℕ) → shown_frame kind files file index width height ≡ Ok pixels → length pixels ≡ frame_size width height
picture_whole Rgb48 files file index width height pixels is =
    file_whole (rgb48_frame index (frame_size width height)) (frame_size width height)
    (λ bytes. pixels_whole (index * frame_size width height) (frame_size width height) bytes)
    (files file) pixels is
picture_whole Ppm files file index width height pixels is =
    file_whole (ppm_frame (decimal width) (decimal height) (frame_size width height)) (frame_size width height)
    (λ bytes. behind_whole (frame_size width height) bytes (header_end (decimal width) (decimal height) (take 1024 bytes)))
    (files (frame_name file index format.Ppm)) pixels is
picture_whole J2c files file index width height pixels is = absurd (cc)
picture_whole Pcm24 files file index width height pixels is = absurd (cc)

-- ---- frames

abbrev EncodesAll : ProjectFacts → Type 0
EncodesAll project = (raw : List ℕ) → length raw ≡ frame_size project.width project.height → IsEncodingOf project raw (encoded project raw)

of_raw : (project : ProjectFacts) (name : List ℕ) (taken : ℕ) (raw : Result (List ℕ) FrameRefusal) (shown : Shown) → raw_shown project name taken raw ≡ Ok shown → (pixels : List ℕ) × (raw ≡ Ok pixels) × (encoded project pixels ≡ shown.value)
of_raw project name taken (Ok pixels) shown is = (pixels, refl, cc)
of_raw project name taken (Err why) shown is = absurd (cc)

of_picture :
    (files : Files) (project : ProjectFacts) (kind : AssetKind) (name file : List ℕ) (index taken : ℕ) (shown : Shown) → EncodesAll project →
    raw_shown project name taken (shown_frame kind files file index project.width project.height) ≡ Ok shown → (raw : List ℕ) × IsEncodingOf project raw shown.value
of_picture files project kind name file index taken shown all is =
    let parts = of_raw project name taken (shown_frame kind files file index project.width project.height) shown is in
    (parts.0, subst (λ value. IsEncodingOf project parts.0 value) parts.2 (all parts.0 (picture_whole kind files file index project.width project.height parts.0 parts.1)))

of_asset :
    (kind : AssetKind) (files : Files) (project : ProjectFacts) (asset : AssetFacts) (index : ℕ) (shown : Shown) → EncodesAll project →
    is_j2c kind ≡ false → asset_shown kind files project asset index ≡ Ok shown → (raw : List ℕ) × IsEncodingOf project raw shown.value
of_asset J2c files project asset index shown all unready is = absurd (cc)
of_asset Rgb48 files project asset index shown all unready is = of_picture files project Rgb48 _ asset.file index _ shown all is
of_asset Ppm files project asset index shown all unready is = of_picture files project Ppm _ asset.file index _ shown all is
of_asset Pcm24 files project asset index shown all unready is = absurd (cc)

encoded_frame : (files : Files) (project : ProjectFacts) (cell : Cell) (shown : Shown) → EncodesAll project → is_ready project cell ≡ false → cell_shown files project cell ≡ Ok shown → IsEncodedFrame files project cell
unfolding cell_shown
encoded_frame files project Black shown all unready is = record {
  raw = black project;
  shown = record { value = encoded project (black project); taken = 0 };
  is = refl;
  of = all (black project) (length-replicate (frame_size project.width project.height) 0);
}
encoded_frame files project (Frame asset index) shown all unready is =
    let it = of_asset (asset_at project asset).kind files project (asset_at project asset) index shown all unready is in
    record { raw = it.0; shown = shown; is = is; of = it.1 }

-- where all cells are shown
pub encoded_frames :
    (files : Files) (project : ProjectFacts) (frames : List Shown) →
    ((project : ProjectFacts) (raw : List ℕ) → IsProject project → length raw ≡ frame_size project.width project.height → IsEncodingOf project raw (encoded project raw)) →
    IsProject project → cells_shown files project (cells_of project) ≡ Ok frames → AreEncodedFrames files project
encoded_frames files project frames law rules all f cell at unready =
    let one = each_shown files project (cells_of project) frames all f cell at in
    encoded_frame files project cell one.0 (λ raw whole. law project raw rules whole) unready one.1
