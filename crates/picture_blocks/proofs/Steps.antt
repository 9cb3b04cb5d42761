-- Code-blocks that are coded further, one by one and sub-band by sub-band.
use Rattle.std.proofs.Common.{◌≡◌, ℕ, ◌+◌, ◌-◌, ◌*◌, ◌<◌, ◌≤◌, sym, ap₂, ◌∙◌, subst, arith, List, length, set, get_or, ℤ, inl, inr, get_or-set_other, get_or-set_same}
use Rattle.std.proofs.lemmas.Bool.{cases_lt}
use Rattle.std.proofs.lemmas.Bool.Decides.{eqb_tells}
use Rattle.std.proofs.lemmas.List.{get_or_default}
use Rattle.codec_terms.specs.declared.picture.Shape.{Shape}
use Rattle.codec_terms.specs.declared.picture.Band.{Band}
use Rattle.codec_terms.specs.Bands.{band_place, lowest_plane}
use Rattle.codec_terms.specs.Precincts.{block_columns, block_rows}
use Rattle.codec_terms.specs.BlockDecisions.{Block, plane_count}
use Rattle.block_coder.specs.Codes.{Progress, IsPartOfCode}
use Rattle.band_starts.specs.Places.{IsPictureBand}
use Rattle.band_starts.specs.Blocks.{block_count, block_place}
use Rattle.band_starts.proofs.Members.{band_place-small}
use Rattle.picture_sets.specs.Sets.{picture_block}
use Rattle.picture_sets.proofs.Bands.{same_band, place_in, one_place, set_each, IsNth}
use Rattle.picture_blocks.specs.Blocks.{PictureBlocks, of_picture, no_code, slot, AreBlocksOf, AreCodedAt, IsBandCoded, IsFurther}

-- ---- one code-block

pub set-blocks : (shape : Shape) (q : List ℤ) (blocks : List Progress) (place : ℕ) (band : Band) (x y : ℕ) (b : Block) (c : Progress)
    → IsPictureBand band → x < block_columns shape band → y < block_rows shape band → place ≡ block_place shape band x y → place < length blocks
    → b ≡ picture_block shape q band x y → IsPartOfCode b c → AreBlocksOf q (of_picture shape blocks) → AreBlocksOf q (of_picture shape (set blocks place c))
set-blocks shape q blocks place band x y b c is wide high e inside same of parts = record {
  each = λ d i j is-d wide-d high-d.
      set_each (λ band x y s. IsPartOfCode (picture_block shape q band x y) s) no_code shape blocks place band x y c is wide high e inside
      (subst (λ (b : Block). IsPartOfCode b c) same of) d i j is-d wide-d high-d (λ other. parts.each d i j is-d wide-d high-d);
}

pub set-further : (shape : Shape) (blocks : List Progress) (place : ℕ) (c d : Progress) → place < length blocks → length (get_or blocks place d).endings ≤ length c.endings
    → IsFurther (of_picture shape blocks) (of_picture shape (set blocks place c))
set-further shape blocks place c d inside longer =
    let more : length (slot blocks place).endings ≤ length c.endings =
    subst (λ (e : Progress). length e.endings ≤ length c.endings) (get_or_default blocks place d no_code inside) longer in
    record {
      each = λ p. elim (eqb_tells p place) [
        | inl same ↦ subst (λ (n : ℕ). length (slot blocks n).endings ≤ length (slot (set blocks place c) n).endings) (sym (same.1))
            (subst (λ (d : Progress). length (slot blocks place).endings ≤ length d.endings) (sym (get_or-set_same blocks place c no_code inside)) more)
        | inr other ↦ subst (λ (d : Progress). length (slot blocks p).endings ≤ length d.endings) (sym (get_or-set_other blocks place p c no_code (other.1))) (omega arith)
      ];
    }

pub set-coded : (shape : Shape) (q : List ℤ) (blocks : List Progress) (place lowest : ℕ) (band : Band) (x y : ℕ) (b : Block) (c : Progress) → place < length blocks
    → b ≡ picture_block shape q band x y → plane_count b - lowest ≤ length c.endings
    → plane_count (picture_block shape q band x y) - lowest ≤ length (slot (set blocks place c) place).endings
set-coded shape q blocks place lowest band x y b c inside same down =
    subst (λ (d : Progress). plane_count (picture_block shape q band x y) - lowest ≤ length d.endings) (sym (get_or-set_same blocks place c no_code inside))
    (subst (λ (b : Block). plane_count b - lowest ≤ length c.endings) same down)

pub part-at : (shape : Shape) (q : List ℤ) (blocks : List Progress) (place : ℕ) (band : Band) (x y : ℕ) (b : Block) → IsPictureBand band → x < block_columns shape band → y < block_rows shape band
    → place ≡ block_place shape band x y → place < length blocks → b ≡ picture_block shape q band x y → AreBlocksOf q (of_picture shape blocks) → (d : Progress) → IsPartOfCode b (get_or blocks place d)
part-at shape q blocks place band x y b is wide high e inside same parts d =
    subst (IsPartOfCode b) (get_or_default blocks place no_code d inside)
    (subst (λ (n : ℕ). IsPartOfCode b (slot blocks n)) (sym e) (subst (λ (b : Block). IsPartOfCode b (slot blocks (block_place shape band x y))) (sym same) (parts.each band x y is wide high)))

-- ---- within a sub-band

pub same-further : (blocks : PictureBlocks) → IsFurther blocks blocks
same-further blocks = record { each = λ p. omega arith }

pub still-further : (a b c : PictureBlocks) → IsFurther a b → IsFurther b c → IsFurther a c
still-further a b c first then = record { each = λ p. let one = first.each p in let two = then.each p in omega (arith, one, two) }

-- the first n are coded down to a bit-plane
pub record AreFirstCoded (q : List ℤ) (band : Band) (lowest n : ℕ) (shape : Shape) (blocks : List Progress) : Type 0 where
  pub each : (x y : ℕ) → x < block_columns shape band → y < block_rows shape band → y * block_columns shape band + x < n
      → plane_count (picture_block shape q band x y) - lowest ≤ length (slot blocks (block_place shape band x y)).endings

pub none-coded : (q : List ℤ) (band : Band) (lowest : ℕ) (shape : Shape) (blocks : List Progress) → AreFirstCoded q band lowest 0 shape blocks
none-coded q band lowest shape blocks = record { each = λ x y wide high below. absurd (omega (arith, below)) }

pub coded-more : (q : List ℤ) (band : Band) (lowest n place : ℕ) (shape : Shape) (before after : List Progress) (x y : ℕ) → IsPictureBand band → IsNth shape band n x y → place ≡ block_place shape band x y
    → IsFurther (of_picture shape before) (of_picture shape after) → plane_count (picture_block shape q band x y) - lowest ≤ length (slot after place).endings
    → AreFirstCoded q band lowest n shape before → AreFirstCoded q band lowest (n + 1) shape after
coded-more q band lowest n place shape before after x y is nth e further down done = record {
  each = λ i j wide high below. elim (cases_lt (j * block_columns shape band + i) n) [
    | inl earlier ↦ (
        let old = done.each i j wide high earlier in
        let more = further.each (block_place shape band i j) in
        omega (arith, old, more))
    | inr late ↦ (
        let here : block_place shape band x y ≡ block_place shape band i j = let at = nth.place in omega (arith, at, below, late) in
        let this = one_place shape band band x y i j is is nth.column nth.row wide high here in
        subst (λ (k : ℕ). plane_count (picture_block shape q band k j) - lowest ≤ length (slot after (block_place shape band i j)).endings) (this.1.0)
        (subst (λ (k : ℕ). plane_count (picture_block shape q band x k) - lowest ≤ length (slot after (block_place shape band i j)).endings) (this.1.1)
        (subst (λ (k : ℕ). plane_count (picture_block shape q band x y) - lowest ≤ length (slot after k).endings) (e ∙ here) down)))
  ];
}

-- the number of a sub-band's code-blocks is past each of them
pub all-first : (q : List ℤ) (band : Band) (lowest n columns rows : ℕ) (shape : Shape) (blocks : List Progress) → columns ≡ block_columns shape band → rows ≡ block_rows shape band → columns * rows ≤ n
    → AreFirstCoded q band lowest n shape blocks → IsBandCoded q band lowest (of_picture shape blocks)
all-first q band lowest n columns rows shape blocks across down all done =
    let count : columns * rows ≡ block_count shape band = ap₂ (λ (a b : ℕ). a * b) across down in
    record { each = λ x y wide high. done.each x y wide high (let below = place_in shape band x y wide high in omega (arith, below, count, all)) }

-- ---- sub-band after sub-band

-- what is coded stays so where each is coded as far as before
pub band-further : (q : List ℤ) (band : Band) (lowest : ℕ) (before after : PictureBlocks) → before.shape ≡ after.shape → IsFurther before after → IsBandCoded q band lowest before → IsBandCoded q band lowest after
band-further q band lowest before after same further coded =
    record {
      each = subst
          (λ (s : Shape). (x y : ℕ) → x < block_columns s band → y < block_rows s band
          → plane_count (picture_block s q band x y) - lowest ≤ length (slot after.blocks (block_place s band x y)).endings) same
          (λ x y wide high. let old = coded.each x y wide high in let more = further.each (block_place before.shape band x y) in omega (arith, old, more));
    }

abbrev pub AreBandsCoded : List ℤ → ℕ → ℕ → PictureBlocks → Type 0
AreBandsCoded q cut place blocks = (band : Band) → IsPictureBand band → band_place band < place → IsBandCoded q band (lowest_plane cut band) blocks

pub bands-more : (q : List ℤ) (cut place : ℕ) (band : Band) (before after : PictureBlocks) → IsPictureBand band → band_place band ≡ place → before.shape ≡ after.shape → IsFurther before after
    → IsBandCoded q band (lowest_plane cut band) after → AreBandsCoded q cut place before → AreBandsCoded q cut (place + 1) after
bands-more q cut place band before after is at same further coded done other is-other below = elim (cases_lt (band_place other) place) [
  | inl earlier ↦ band-further q other (lowest_plane cut other) before after same further (done other is-other earlier)
  | inr late ↦ subst (λ (d : Band). IsBandCoded q d (lowest_plane cut d) after) (same_band band other is is-other (omega (arith, at, below, late))) coded
]

pub all-coded : (q : List ℤ) (cut place : ℕ) (blocks : PictureBlocks) → 48 ≤ place → AreBandsCoded q cut place blocks → AreCodedAt q cut blocks
all-coded q cut place blocks all done = record {
  each = λ band x y is. (done band is (let small = band_place-small band is in omega (arith, all, small))).each x y;
}
