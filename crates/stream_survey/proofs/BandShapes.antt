-- The shapes of a precinct's sub-bands, one by one.
use Rattle.std.proofs.Common.{◌≡◌, ◌∙◌, ℕ, ◌+◌, ◌<◌, sym, ap, ap₂, arith, List, [], ◌∷◌, ◌++◌, length, take, set, get_or, Some}
use Rattle.std.specs.List.{slice_get}
use Rattle.std.specs.Option.{option_map}
use Rattle.std.proofs.Math.Nat.{min-le_left}
use Rattle.std.proofs.lemmas.List.{take_more, take_more_set, take_all, length-map}
use Rattle.std.proofs.lemmas.Option.{slice_get-map, get_or_from_slice_get}
use Rattle.codec_terms.specs.declared.picture.Shape.{Shape}
use Rattle.codec_terms.specs.declared.picture.Band.{Band}
use Rattle.codec_terms.specs.declared.packet.BandShape.{BandShape}
use Rattle.codec_terms.specs.declared.reading.MainHead.{MainHead}
use Rattle.codec_terms.specs.Bands.{resolution_bands}
use Rattle.codec_terms.specs.Precincts.{blocks_in}
use Rattle.codec_terms.specs.StreamReading.{band_shape}
use Rattle.packet_places.specs.declared.precinct.PrecinctAt.{PrecinctAt}
use Rattle.packet_scan.specs.Scanning.{IsSmallShape}
use Rattle.stream_survey.specs.Shapes.{shapes_at}

pub small-area : (shape : Shape) (band : Band) (number mb columns rows : ℕ) → columns ≡ (blocks_in shape band number).columns → rows ≡ (blocks_in shape band number).rows
    → IsSmallShape (record { columns = columns; rows = rows; mb = mb })
small-area shape band number mb columns rows h k = record { few_columns = rw h (min-le_left 4 _); few_rows = rw k (min-le_left 4 _) }

module _ (head : MainHead) (p : PrecinctAt) where
  abbrev bands : List Band
  bands = resolution_bands p.component p.resolution

  shape-at : (i : ℕ) (band : Band) (d : BandShape) → slice_get bands i ≡ Some band → get_or (shapes_at head p) i d ≡ band_shape head p.number band
  shape-at i band d h =
      get_or_from_slice_get (shapes_at head p) i (band_shape head p.number band) d
      (slice_get-map (band_shape head p.number) bands i ∙ ap (option_map (band_shape head p.number)) h)

  pub one_shape_more : (shapes : List BandShape) (i : ℕ) (band : Band) (s : BandShape) → i < length shapes → i < length bands → slice_get bands i ≡ Some band → s ≡ band_shape head p.number band
      → take i shapes ≡ take i (shapes_at head p) → take (i + 1) (set shapes i s) ≡ take (i + 1) (shapes_at head p)
  one_shape_more shapes i band s inside within there is same =
      take_more_set shapes i s inside
      ∙ ap₂ (λ (xs : List BandShape) (x : BandShape). xs ++ x ∷ []) same (is ∙ sym (shape-at i band s there))
      ∙ sym (take_more (shapes_at head p) i s (omega (arith, within, length-map bands (band_shape head p.number))))

  pub all_shapes : (shapes : List BandShape) (i : ℕ) → length bands ≡ i → take i shapes ≡ take i (shapes_at head p) → take (length bands) shapes ≡ shapes_at head p
  all_shapes shapes i size same =
      ap (λ n. take n shapes) size ∙ same ∙ take_all i (shapes_at head p) (omega (arith, size, length-map bands (band_shape head p.number)))
