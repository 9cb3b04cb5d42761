-- Code-blocks that are begun.
use Rattle.std.proofs.Common.{◌≡◌, ℕ, ◌<◌, ◌≤◌, sym, ap, ◌∙◌, subst, arith, List, length, ℤ, nat_lt, rules, take, drop, ◌++◌}
use Rattle.std.proofs.Math.Seq.{take-append_seam}
use Rattle.std.specs.Int.{from_bool}
use Rattle.codec_terms.specs.declared.picture.Shape.{Shape}
use Rattle.codec_terms.specs.declared.picture.Band.{Band}
use Rattle.codec_terms.specs.Bands.{rank, lowest_plane}
use Rattle.codec_terms.specs.Precincts.{block_columns, block_rows}
use Rattle.codec_terms.specs.BlockDecisions.{Block, plane_count}
use Rattle.block_coder.specs.Codes.{Progress, IsPartOfCode}
use Rattle.band_starts.specs.Places.{IsPictureBand}
use Rattle.band_starts.specs.Blocks.{block_place, all_block_count}
use Rattle.picture_blocks.specs.Blocks.{of_picture, IsCodedTo, AreBlocksOf, AreCodedAt}
use Rattle.picture_blocks.specs.Started.{AreStartedBefore}

-- a block of 15 bit-planes at most, of which none is coded
pub begun : (a b : Block) (n : ℕ) (c : Progress) → a ≡ b → n ≡ plane_count a → n ≤ 15 → IsPartOfCode a c → IsCodedTo 15 b c
begun a b n c same count few of = record {
  of = subst (λ (d : Block). IsPartOfCode d c) same of;
  down = let counts : plane_count a ≡ plane_count b = ap plane_count same in omega (arith, counts, count, few);
}

-- what a whole list is put over
pub whole : {A : Type 0} → (items all : List A) (n : ℕ) → length items ≡ n → take n (items ++ drop (length items) all) ≡ items
whole items all n long = ap (λ (n : ℕ). take n (items ++ drop (length items) all)) (sym long) ∙ take-append_seam items (drop (length items) all)

none-below : (n : ℕ) → from_bool (nat_lt n 0) ≡ 0
none-below n = search rules

pub last-plane : (band : Band) → lowest_plane 720 band ≡ 15
last-plane band = let none = none-below (rank band) in omega (arith, none)

abbrev pub Within : Type 0
Within = (shape : Shape) (band : Band) (x y : ℕ) → IsPictureBand band → x < block_columns shape band → y < block_rows shape band → block_place shape band x y < all_block_count shape

pub started-blocks : Within → (s shape : Shape) (q : List ℤ) (blocks : List Progress) → s ≡ shape → AreStartedBefore (all_block_count s) s q blocks → AreBlocksOf q (of_picture shape blocks)
started-blocks within s shape q blocks same started =
    subst (λ (shape : Shape). AreBlocksOf q (of_picture shape blocks)) same
    (record { each = λ band x y is wide high. (started.each band x y is wide high (within s band x y is wide high)).of })

pub started-coded : Within → (s shape : Shape) (q : List ℤ) (blocks : List Progress) → s ≡ shape → AreStartedBefore (all_block_count s) s q blocks → AreCodedAt q 720 (of_picture shape blocks)
started-coded within s shape q blocks same started =
    subst (λ (shape : Shape). AreCodedAt q 720 (of_picture shape blocks)) same
    (record {
      each = λ band x y is wide high.
          let down = (started.each band x y is wide high (within s band x y is wide high)).down in
          let last = last-plane band in
          omega (arith, down, last);
    })
