-- The words of one sub-band among those of a picture.
use Rattle.std.proofs.Common.{◌≡◌, ℕ, sym, ap, ap₂, ◌∙◌, subst, List, take, drop}
use Rattle.std.proofs.lemmas.List.{take-map, drop-map}
use Rattle.codec_terms.specs.declared.picture.Shape.{Shape}
use Rattle.codec_terms.specs.declared.picture.Band.{Band}
use Rattle.codec_terms.specs.Bands.{band_length, band_start, band_values}
use Rattle.codec_terms.specs.Codestream.{block_of}
use Rattle.quantiser.specs.Signed.{signed_value, signed_values}
use Rattle.picture_sets.specs.Blocks.{IsSplit}
use Rattle.picture_sets.specs.Sets.{picture_block, block_in}
use Rattle.picture_sets.specs.declared.block.BlockSets.{BlockSets}

band_words : (shape : Shape) (band : Band) (words : List ℕ) (start long : ℕ) → start ≡ band_start shape band → long ≡ band_length shape band
    → signed_values (take long (drop start words)) ≡ band_values shape (signed_values words) band
unfolding band_values
band_words shape band words start long e p =
    ap₂ (λ (n m : ℕ). signed_values (take n (drop m words))) p e
    ∙ (sym (take-map signed_value (band_length shape band) (drop (band_start shape band) words))
    ∙ ap (take (band_length shape band)) (sym (drop-map signed_value (band_start shape band) words)))

-- sets of a block of the sub-band's words are those of the picture's block
pub of_picture : (shape : Shape) (band : Band) (words : List ℕ) (start long x y : ℕ) (sets : BlockSets) → start ≡ band_start shape band → long ≡ band_length shape band
    → IsSplit (block_in shape band (take long (drop start words)) x y) sets → IsSplit (picture_block shape (signed_values words) band x y) sets
of_picture shape band words start long x y sets e p are =
    subst (λ vs. IsSplit (block_of shape band vs x y) sets) (band_words shape band words start long e p) are
