-- What a project says of the cells of its frames.
use Rattle.std.proofs.Common.{◌≡◌, ◌≢◌, ℕ, ◌+◌, ◌-◌, ◌/◌, ◌<◌, ◌≤◌, Bool, true, false, cond, List, [], ◌∷◌, ◌++◌, length, reverse, Option, Some, None, find, refl, sym, ◌∙◌, subst, arith}
use Rattle.std.proofs.Math.Nat.{div-le_self}
use Rattle.std.proofs.lemmas.List.{reverse-append}
use Rattle.std.proofs.lemmas.List.Elements.{All-head, All-push, All-same, All-tail}
use Rattle.std.proofs.lemmas.List.FromFn.{get_or-map-range_with_len}
use Rattle.std.proofs.lemmas.Option.{get_or_from_slice_get, same_Some, slice_get_within}
use Rattle.std.specs.Prelude.{All}
use Rattle.film_plan.proofs.Cells.{length-cells_of}
use Rattle.film_project.specs.Facts.{PictureFacts, ProjectFacts, asset_at}
use Rattle.film_project.specs.Rules.{FitsPicture, IsProject}
use Rattle.film_project.specs.declared.asset.AssetKind.TheVariants.{Pcm24}
use Rattle.film_timeline.specs.Timeline.{cell_at, cells_of, covers, last_covering, shown_in}
use Rattle.film_timeline.specs.declared.cell.Cell.TheVariants.{Black, Frame}
use Rattle.frame_values.specs.Causes.{IsCellOf}

-- a cell that shows an asset's frame shows a picture
pub record IsPictureAt (project : ProjectFacts) (asset index : ℕ) : Type 0 where
  pub there : asset < length project.assets
  pub few : index < 10000000
  pub shows : (asset_at project asset).kind ≢ Pcm24

first_holds : {X : Type 0} (P : X → Type 0) (b : Bool) (x y : X) (later : Option X) → P x → (later ≡ Some y → P y) → cond b (Some x) later ≡ Some y → P y
first_holds P true x y later here on is = subst P (same_Some x y is) here
first_holds P false x y later here on is = on is

-- what holds of each item holds of the one that is found
found_holds : {X : Type 0} (P : X → Type 0) (p : X → Bool) (xs : List X) (y : X) → All P xs → find p xs ≡ Some y → P y
found_holds P p [] y all is = absurd (cc)
found_holds P p (x ∷ xs) y all is =
    first_holds P (p x) x y (find p xs) (All-head P x xs all) (found_holds P p xs y (All-tail P x xs all)) is

all_reverse : {X : Type 0} (P : X → Type 0) (xs : List X) → All P xs → All P (reverse xs)
all_reverse P [] all = all
all_reverse P (x ∷ xs) all =
    All-same P (reverse (x ∷ xs)) (reverse xs ++ x ∷ []) (reverse-append (x ∷ []) xs)
    (All-push P (reverse xs) x (all_reverse P xs (All-tail P x xs all)) (All-head P x xs all))

covering_fits : (project : ProjectFacts) (f : ℕ) (clip : PictureFacts) → IsProject project → last_covering project.picture f ≡ Some clip → FitsPicture project.frames project.assets clip
unfolding last_covering
covering_fits project f clip rules is =
    found_holds (FitsPicture project.frames project.assets) (λ clip. covers clip f) (reverse project.picture) clip
    (all_reverse (FitsPicture project.frames project.assets) project.picture rules.picture_fits) is

shown_fits :
    (project : ProjectFacts) (f asset index : ℕ) (o : Option PictureFacts) → f < 432000 →
    ((clip : PictureFacts) → o ≡ Some clip → FitsPicture project.frames project.assets clip) →
    shown_in o f ≡ Frame asset index → IsPictureAt project asset index
shown_fits project f asset index None small fits is = absurd (cc)
shown_fits project f asset index (Some clip) small fits is =
    let fit : FitsPicture project.frames project.assets clip = fits clip refl in
    let same_asset : clip.asset ≡ asset = cc in
    let same_index : clip.from + (f - clip.at) / clip.hold ≡ index = cc in
    let less : (f - clip.at) / clip.hold ≤ f - clip.at = div-le_self (f - clip.at) clip.hold in
    record {
      there = subst (λ (place : ℕ). place < length project.assets) same_asset fit.there;
      few = omega (arith, fit.rules.from_in_range);
      shows = subst (λ (place : ℕ). (asset_at project place).kind ≢ Pcm24) same_asset fit.shows;
    }

pub is_picture : (project : ProjectFacts) (asset index : ℕ) → IsProject project → IsCellOf project (Frame asset index) → IsPictureAt project asset index
is_picture project asset index rules (f, at) =
    let within : f < length (cells_of project) = slice_get_within (cells_of project) f (Frame asset index) at in
    let below : f < project.frames = subst (λ (n : ℕ). f < n) (length-cells_of project) within in
    let here : cell_at project.picture f ≡ Frame asset index =
    sym (get_or-map-range_with_len (cell_at project.picture) 0 project.frames f f Black below (omega arith))
    ∙ get_or_from_slice_get (cells_of project) f (Frame asset index) Black at in
    shown_fits project f asset index (last_covering project.picture f) (omega (arith, rules.most_frames))
    (λ clip is. covering_fits project f clip rules is) here
