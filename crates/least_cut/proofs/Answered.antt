-- What a search has found at its end.
use Rattle.std.proofs.Common.{◌≡◌, ℕ, ◌*◌, ◌≤◌, sym, subst, inl, inr, arith, List, length, ℤ, Option, Some, None}
use Rattle.std.proofs.lemmas.Bool.{cases_lt}
use Rattle.mast_base.specs.declared.limits.Limits.{Limits}
use Rattle.floor_laws.specs.Searches.{IsSearched}
use Rattle.codec_terms.specs.declared.picture.Shape.{Shape}
use Rattle.codec_laws.specs.Bounds.{FitBands}
use Rattle.picture_sets.specs.Sets.{PictureSets}
use Rattle.picture_blocks.specs.Blocks.{PictureBlocks, AreBlocksOf, AreCodedAt}
use Rattle.block_packets.specs.Coded.{AreCodedBlocks}
use Rattle.least_cut.specs.Below.{AreNoneBelow, IsBest}
use Rattle.least_cut.specs.Begun.{IsBegun}
use Rattle.least_cut.specs.Searches.{IsSearch, IsEnded}
use Rattle.least_cut.specs.declared.search.Search.{Search}
use Rattle.least_cut.proofs.Steps.{floors-near}

module _ (limits : Limits) (first : ℕ) (q : List ℤ) (blocks : PictureBlocks) (search : Search) (ended : IsEnded limits first q blocks search) where
  best-when : (best : Option ℕ) → search.best ≡ best → IsBest limits blocks.shape q search.sizes.cut first best
  best-when best e = subst (IsBest limits blocks.shape q search.sizes.cut first) e ended.found.best_of

  -- the least of the cuts that were looked at
  pub best-searched : (best : ℕ) → search.best ≡ Some best → IsSearched limits blocks.shape q search.sizes.cut best
  best-searched best e = (best-when (Some best) e).1

  -- down to the floors' cut the code-blocks are coded
  pub best-above : (best : ℕ) → search.best ≡ Some best → search.floors.cut ≤ best
  best-above best e =
      let low = floors-near limits blocks.shape q search ended.found.near in
      omega (arith, low.0, (best-searched best e).reached)

  pub first-above : search.floors.cut ≤ first
  first-above = let low = floors-near limits blocks.shape q search ended.found.near in omega (arith, low.0, ended.found.reached)

  pub none-below : search.best ≡ None → AreNoneBelow limits blocks.shape q first
  none-below e = λ lower below. elim (cases_lt lower search.sizes.cut) [
    | inl before ↦ ended.none lower before
    | inr looked_at ↦ best-when None e lower looked_at (omega arith)
  ]

-- ---- from the beginning to the end

pub coded-first : (q : List ℤ) (sets : PictureSets) (cut : ℕ) (before after : PictureBlocks) → IsBegun q sets before → after.shape ≡ before.shape → AreBlocksOf q after
    → AreCodedAt q cut after → AreCodedBlocks q cut after
coded-first q sets cut before after begun same parts coded = record {
  whole = subst (λ (s : Shape). length q ≡ 3 * (s.width * s.height)) (sym same) begun.whole;
  fits = subst (λ (s : Shape). FitBands s q) (sym same) begun.fits;
  parts = parts;
  coded = coded;
}

pub ended-when : (limits : Limits) (start : ℕ) (q : List ℤ) (middle after : PictureBlocks) (first last : Search) → AreCodedBlocks q start middle
    → first.floors.cut ≡ start → IsSearch limits start middle.shape q first
    → (IsSearch limits start middle.shape q first → AreCodedBlocks q first.floors.cut middle → IsEnded limits start q after last) → IsEnded limits start q after last
ended-when limits start q middle after first last coded at s down = down s (subst (λ (n : ℕ). AreCodedBlocks q n middle) (sym at) coded)
