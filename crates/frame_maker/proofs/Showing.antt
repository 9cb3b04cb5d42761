-- What a cell shows, by what is shown of its asset.
use Rattle.std.proofs.Common.{◌≡◌, ◌≢◌, ℕ, List, refl, sym, ap, ◌∙◌, arith}
use Rattle.film_project.specs.Facts.{AssetFacts, ProjectFacts, asset_at}
use Rattle.film_project.specs.declared.asset.AssetKind.{AssetKind}
use Rattle.film_project.specs.declared.asset.AssetKind.TheVariants.{Rgb48, Ppm, J2c, Pcm24}
use Rattle.film_timeline.specs.declared.cell.Cell.{Cell}
use Rattle.film_timeline.specs.declared.cell.Cell.TheVariants.{Black, Frame}
use Rattle.frame_maker.specs.Making.{IsEnd, IsShown, picture_shown}
use Rattle.frame_values.specs.Causes.{IsCellCause, Shows}
use Rattle.frame_values.specs.Encoded.{encoded, IsEncodingOf}
use Rattle.frame_values.specs.Shown.{asset_shown, black, cell_shown, file_of, raw_shown, raw_taken}
use Rattle.frame_values.specs.declared.ends.CellEnd.{CellEnd}
use Rattle.frame_values.specs.declared.ends.CellEnd.TheVariants.{Missing, Bad, SourceFault, NoMemory}
use Rattle.mast_world.specs.Content.{Files}
use Rattle.raw_frames.specs.Frames.{frame_size}
use Rattle.raw_frames.specs.Kinds.{shown_frame}

by_kind :
    (kind : AssetKind) (files : Files) (project : ProjectFacts) (asset : AssetFacts) (index : ℕ) → kind ≢ J2c →
    asset_shown kind files project asset index ≡ raw_shown project (file_of asset index)
    (raw_taken kind (files (file_of asset index)) (frame_size project.width project.height))
    (shown_frame kind files asset.file index project.width project.height)
by_kind J2c files project asset index other = absurd (other refl)
by_kind Rgb48 files project asset index other = refl
by_kind Ppm files project asset index other = refl
by_kind Pcm24 files project asset index other = refl

-- an asset without codestreams shows raw pictures
pub shown_as_picture :
    (files : Files) (project : ProjectFacts) (asset : AssetFacts) (index : ℕ) → asset.kind ≢ J2c →
    picture_shown files project asset index ≡ asset_shown asset.kind files project asset index
shown_as_picture files project asset index other = sym (by_kind asset.kind files project asset index other)

pub shows_black :
    (files : Files) (project : ProjectFacts) (cell : Cell) (bytes : List ℕ) (taken : ℕ) → cell ≡ Black →
    IsEncodingOf project (black project) bytes → Shows files project cell bytes taken taken
unfolding cell_shown
shows_black files project cell bytes taken is e = record {
  shown = record { value = encoded project (black project); taken = 0 };
  is = ap (cell_shown files project) is;
  value = e.value_is;
  taken = omega arith;
}

frame_is :
    (files : Files) (project : ProjectFacts) (cell : Cell) (place index : ℕ) (asset : AssetFacts) → cell ≡ Frame place index →
    asset ≡ asset_at project place → cell_shown files project cell ≡ asset_shown asset.kind files project asset index
unfolding cell_shown
frame_is files project cell place index asset is same =
    ap (cell_shown files project) is ∙ ap (λ (a : AssetFacts). asset_shown a.kind files project a index) (sym same)

pub shows_frame :
    (files : Files) (project : ProjectFacts) (cell : Cell) (place index : ℕ) (asset : AssetFacts) (bytes : List ℕ) (before now : ℕ) →
    cell ≡ Frame place index → asset ≡ asset_at project place →
    IsShown (asset_shown asset.kind files project asset index) bytes before now → Shows files project cell bytes before now
shows_frame files project cell place index asset bytes before now is same s = record {
  shown = s.shown;
  is = frame_is files project cell place index asset is same ∙ s.is;
  value = s.value;
  taken = s.taken;
}

pub frame_end :
    {A : Type 0} (tells : Type 0) (files : Files) (project : ProjectFacts) (cell : Cell) (place index : ℕ) (asset : AssetFacts)
    (absent faults : A → ℕ) (before now : A) (end : CellEnd) → cell ≡ Frame place index → asset ≡ asset_at project place →
    IsEnd tells (asset_shown asset.kind files project asset index) project (file_of asset index) absent faults before now end →
    IsCellCause tells files project cell absent faults before now end
frame_end tells files project cell place index asset absent faults before now (Missing name) is same e = (
  record {
    asset = place;
    index = index;
    shown = is;
    named = e.0 ∙ ap (λ (a : AssetFacts). file_of a index) same;
  },
  e.1,
  λ told. frame_is files project cell place index asset is same ∙ e.2 told,
)
frame_end tells files project cell place index asset absent faults before now (Bad why) is same e =
    (e.0, λ told. frame_is files project cell place index asset is same ∙ e.1 told)
frame_end tells files project cell place index asset absent faults before now SourceFault is same e = e
frame_end tells files project cell place index asset absent faults before now NoMemory is same e = tt
