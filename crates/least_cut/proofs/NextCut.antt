-- Code-blocks that are coded down to the next cut: only those of one sub-band have to be coded further.
use Rattle.std.proofs.Common.{◌≡◌, ◌≢◌, ℕ, suc, ◌-◌, ◌%◌, ◌<◌, ◌≤◌, sym, ap, ◌∙◌, subst, inl, inr, arith, List, length, ℤ}
use Rattle.std.proofs.lemmas.Bool.{cases_lt}
use Rattle.codec_terms.specs.declared.picture.Shape.{Shape}
use Rattle.codec_terms.specs.declared.picture.Band.{Band}
use Rattle.codec_terms.specs.Bands.{rank, lowest_plane}
use Rattle.codec_terms.specs.Precincts.{block_columns, block_rows}
use Rattle.codec_terms.specs.BlockDecisions.{plane_count}
use Rattle.band_starts.specs.Places.{IsPictureBand}
use Rattle.band_starts.specs.Blocks.{block_place}
use Rattle.cut_laws.specs.Ranks.{band_at_rank, band_changed}
use Rattle.cut_laws.proofs.RankLaws.{rank-one, next-others}
use Rattle.picture_sets.specs.Sets.{picture_block}
use Rattle.picture_blocks.specs.Blocks.{PictureBlocks, of_picture, block_at, AreCodedAt, IsBandCoded, IsFurther}

-- in the sub-bands that don't change
others : (q : List ℤ) (cut : ℕ) (before after : PictureBlocks) → AreCodedAt q (suc cut) (of_picture after.shape before.blocks) → IsFurther before after
    → (band : Band) (x y : ℕ) → IsPictureBand band → x < block_columns after.shape band → y < block_rows after.shape band → rank band ≢ cut % 48
    → plane_count (picture_block after.shape q band x y) - lowest_plane cut band ≤ length (block_at after band x y).endings
others q cut before after coded further band x y picture column row other =
    let was = coded.each band x y picture column row in
    let more = further.each (block_place after.shape band x y) in
    let same = next-others cut band picture other in
    omega (arith, was, more, same)

pub coded-next : (q : List ℤ) (cut : ℕ) (before after : PictureBlocks) → after.shape ≡ before.shape → AreCodedAt q (suc cut) before → IsFurther before after
    → IsBandCoded q (band_changed cut) (lowest_plane cut (band_changed cut)) after → AreCodedAt q cut after
coded-next q cut before after same coded further here =
    let moved = subst (λ (s : Shape). AreCodedAt q (suc cut) (of_picture s before.blocks)) (sym same) coded in
    record {
      each = λ band x y picture column row. elim (cases_lt (rank band) (cut % 48)) [
        | inl below ↦ others q cut before after moved further band x y picture column row (omega arith)
        | inr above ↦ elim (cases_lt (cut % 48) (rank band)) [
          | inl behind ↦ others q cut before after moved further band x y picture column row (omega arith)
          | inr least ↦ let own : cut % 48 ≡ rank band = omega arith in
              let changed : band_changed cut ≡ band = ap band_at_rank own ∙ rank-one band picture in
              (subst (λ (b : Band). IsBandCoded q b (lowest_plane cut b) after) changed here).each x y column row
        ]
      ];
    }

-- the one sub-band, as a program names it
pub band-next : (q : List ℤ) (cut : ℕ) (band : Band) (lowest : ℕ) (after : PictureBlocks) → band ≡ band_changed cut → lowest ≡ lowest_plane cut band
    → IsBandCoded q band lowest after → IsBandCoded q (band_changed cut) (lowest_plane cut (band_changed cut)) after
band-next q cut band lowest after changed is h =
    subst (λ (b : Band). IsBandCoded q b (lowest_plane cut b) after) changed (subst (λ (n : ℕ). IsBandCoded q band n after) is h)
