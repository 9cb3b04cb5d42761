-- A code-block's rows in those of its sub-band.
use Rattle.std.proofs.Common.{◌≡◌, ℕ, ◌+◌, ◌*◌, ◌<◌, ◌≤◌, sym, ap, ◌∙◌, arith, List, [], All, length, take, drop, get_or, ℤ, pos}
use Rattle.std.proofs.Math.Nat.{mul_comm}
use Rattle.std.proofs.lemmas.Nat.{mul-add-lt}
use Rattle.std.proofs.lemmas.List.{length-map, get_or-map, get_or-take, get_or-drop}
use Rattle.std.proofs.lemmas.List.Elements.{All-weaker}
use Rattle.codec_terms.specs.declared.picture.Shape.{Shape}
use Rattle.codec_terms.specs.declared.picture.Band.{Band}
use Rattle.codec_terms.specs.Grid.{grid_of, items_of, part_of}
use Rattle.codec_terms.specs.Bands.{band_columns, band_rows, band_length}
use Rattle.codec_terms.specs.Precincts.{block_width, block_height}
use Rattle.codec_terms.specs.Codestream.{block_of}
use Rattle.codec_laws.specs.Bounds.{IsRowOf, IsGridOf}
use Rattle.codec_laws.proofs.Grids.{IsGridOf-part_of, IsGridOf-grid_of, IsRowOf-items_of}
use Rattle.codec_laws.proofs.GridItems.{get_or-items_of, get_or-grid_of}
use Rattle.quantiser.specs.Signed.{signed_value, signed_values}
use Rattle.block_sets.specs.Squares.{AreRowsOf}

abbrev Any : ℤ → Type 0
Any v = Unit {0}

module _ (columns rows across down width height : ℕ) (items : List ℤ) (whole : length items ≡ rows * columns)
    (wide : across + width ≤ columns) (high : down + height ≤ rows) where
  part-grid : IsGridOf Any width height (part_of across down width height (grid_of columns rows items))
  part-grid =
      IsGridOf-part_of Any across down width height columns rows (grid_of columns rows items) wide high
      (IsGridOf-grid_of Any columns rows items whole (λ k d p. tt))

  part-item : (x y : ℕ) → x < width → y < height
      → get_or (items_of (part_of across down width height (grid_of columns rows items))) (y * width + x) (pos 0)
      ≡ get_or items ((down + y) * columns + (across + x)) (pos 0)
  part-item x y p q =
      let grid : List (List ℤ) = grid_of columns rows items in
      let part : List (List ℤ) = part_of across down width height grid in
      let kept : List (List ℤ) = take height (drop down grid) in
      let row : List ℤ = get_or grid (down + y) [] in
      let sizes : All (λ (row : List ℤ). length row ≡ width) part = All-weaker (IsRowOf Any width) (λ (row : List ℤ). length row ≡ width) (λ row r. r.size) part part-grid.each in
      let count : length part ≡ height = part-grid.size in
      let long : y < length kept = omega (arith, count, length-map kept (λ (row : List ℤ). take width (drop across row))) in
      get_or-items_of width part x y (pos 0) sizes (omega (arith, count)) p
      ∙ (ap (λ (row : List ℤ). get_or row x (pos 0)) (get_or-map (λ (row : List ℤ). take width (drop across row)) kept y [] [] long)
      ∙ (ap (λ (row : List ℤ). get_or (take width (drop across row)) x (pos 0)) (get_or-take height (drop down grid) y [] q ∙ get_or-drop down grid y [])
      ∙ (get_or-take width (drop across row) x (pos 0) p
      ∙ (get_or-drop across row x (pos 0)
      ∙ get_or-grid_of columns rows items (across + x) (down + y) (pos 0) (omega arith) (omega arith)))))

module _ (shape : Shape) (band : Band) (words : List ℕ) (bx by : ℕ) (whole : length words ≡ band_length shape band)
    (across : 32 * bx < band_columns shape band) (down : 32 * by < band_rows shape band) where
  items-whole : length (signed_values words) ≡ band_rows shape band * band_columns shape band
  items-whole = length-map words signed_value ∙ (whole ∙ mul_comm (band_columns shape band) (band_rows shape band))

  pub rows-of_band : AreRowsOf (block_of shape band (signed_values words) bx by) (band_columns shape band) (drop (32 * by * band_columns shape band + 32 * bx) words)
  unfolding block_of
  rows-of_band = record {
    each = λ x y p q.
        let columns : ℕ = band_columns shape band in
        let from : ℕ = 32 * by * columns + 32 * bx in
        let place : from + (y * columns + x) ≡ (32 * by + y) * columns + (32 * bx + x) = omega arith in
        let inside = mul-add-lt (32 * by + y) columns (32 * bx + x) (band_rows shape band) (omega arith) (omega arith) in
        let value = part-item columns (band_rows shape band) (32 * bx) (32 * by) (block_width shape band bx) (block_height shape band by) (signed_values words) items-whole (omega arith) (omega arith) x y p q in
        ap signed_value (get_or-drop from words (y * columns + x) 0 ∙ ap (λ (k : ℕ). get_or words k 0) place)
        ∙ (sym (get_or-map signed_value words ((32 * by + y) * columns + (32 * bx + x)) 0 (pos 0) (rw whole inside)) ∙ sym value);
  }

  pub block-whole : length (block_of shape band (signed_values words) bx by).values ≡ block_width shape band bx * block_height shape band by
  unfolding block_of
  block-whole =
      let grid = part-grid (band_columns shape band) (band_rows shape band) (32 * bx) (32 * by) (block_width shape band bx) (block_height shape band by) (signed_values words) items-whole (omega arith) (omega arith) in
      (IsRowOf-items_of Any (block_width shape band bx) (block_height shape band by) _ grid).size ∙ mul_comm (block_height shape band by) (block_width shape band bx)
