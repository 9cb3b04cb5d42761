-- The plain values of a project.
use Rattle.std.specs.Prelude.{ℕ, List, [], slice_index_or}
use Rattle.film_project.specs.declared.asset.AssetKind.{AssetKind}
use Rattle.film_project.specs.declared.asset.AssetKind.TheVariants.{Rgb48}

pub record AssetFacts : Type 0 where
  pub id : List ℕ
  pub kind : AssetKind
  pub file : List ℕ
  pub channels : ℕ

-- `asset` is the place in the list of assets
pub record PictureFacts : Type 0 where
  pub asset : ℕ
  pub at : ℕ
  pub from : ℕ
  pub count : ℕ
  pub hold : ℕ

pub record GainFacts : Type 0 where
  pub from : ℕ
  pub to : ℕ
  pub gain : ℕ

pub record SoundFacts : Type 0 where
  pub asset : ℕ
  pub at : ℕ
  pub from : ℕ
  pub count : ℕ
  pub gains : List GainFacts

pub record ProjectFacts : Type 0 where
  pub title : List ℕ
  pub kind : List ℕ
  pub issued : List ℕ
  pub namespace : List ℕ
  pub width : ℕ
  pub height : ℕ
  pub fps : ℕ
  pub rate : ℕ
  pub power : ℕ
  pub channels : ℕ
  pub frames : ℕ
  pub assets : List AssetFacts
  pub picture : List PictureFacts
  pub sound : List SoundFacts

-- what stands for an asset that isn't there
abbrev pub no_asset : AssetFacts
no_asset = record { id = []; kind = Rgb48; file = []; channels = 0 }

-- the asset at this place of a list, and of the project's
abbrev pub nth_asset : List AssetFacts → ℕ → AssetFacts
nth_asset assets place = slice_index_or assets place no_asset

abbrev pub asset_at : ProjectFacts → ℕ → AssetFacts
asset_at project place = nth_asset project.assets place
