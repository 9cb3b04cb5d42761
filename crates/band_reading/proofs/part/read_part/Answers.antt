use Rattle.std.proofs.Common.{◌≡◌, ◌∙◌, ℕ, ◌+◌, ◌*◌, ◌/◌, ◌%◌, ◌<◌, ◌≤◌, sym, ap, subst, inl, inr, arith, length, get_or}
use Rattle.std.proofs.lemmas.Bool.{cases_lt}
use Rattle.std.proofs.lemmas.List.{get_or_read}
use Rattle.std.specs.Prelude.{slice_index}
use Rattle.codec_terms.specs.declared.packet.PacketBlock.{PacketBlock}
use Rattle.codec_terms.specs.Bands.{band_columns, band_rows}
use Rattle.codec_terms.specs.PacketReading.{no_block}
use Rattle.codec_terms.specs.Precincts.{BlockArea, group_length, block_columns, block_rows, precinct_columns, precinct_rows, resolution}
use Rattle.codec_terms.specs.StreamReading.{stated_planes}
use Rattle.band_reading.specs.Samples.{block_in, place_in_part, IsSample}
use Rattle.band_reading.proofs.Standing.{column_inside, row_inside, column_small, row_small, number_row, number_column, to_block, from_block, in_precinct, block_wide, part_done, IsSample-kept}
use Rattle.band_map.proofs.Sides.{along-few}
use Rattle.band_reading.proofs.part.read_part.Goals as goal

pub overflow_add-x : goal.overflow_add-x
overflow_add-x c =
    let columns_is : c.blocks_of-area.result.columns ≡ group_length (block_columns c.args.head.now.shape c.args.band) 4 (c.args.number % precinct_columns c.args.head.now.shape (resolution c.args.band)) = ap (λ (a : BlockArea). a.columns) c.blocks_of-area.ensures in
    let rows_is : c.blocks_of-area.result.rows ≡ group_length (block_rows c.args.head.now.shape c.args.band) 4 (c.args.number / precinct_columns c.args.head.now.shape (resolution c.args.band)) = ap (λ (a : BlockArea). a.rows) c.blocks_of-area.ensures in
    let x_is : c.blocks_of-area.result.x ≡ 4 * (c.args.number % precinct_columns c.args.head.now.shape (resolution c.args.band)) = ap (λ (a : BlockArea). a.x) c.blocks_of-area.ensures in
    let y_is : c.blocks_of-area.result.y ≡ 4 * (c.args.number / precinct_columns c.args.head.now.shape (resolution c.args.band)) = ap (λ (a : BlockArea). a.y) c.blocks_of-area.ensures in
    let inside : c.loop-n.n < c.blocks_of-area.result.columns * c.blocks_of-area.result.rows = omega (arith, c.loop-n-test.true) in
    let few : precinct_columns c.args.head.now.shape (resolution c.args.band) ≤ 256 = along-few c.args.head.now.shape.width (resolution c.args.band) (let w = c.requires.size.greatest_width in omega arith) in
    let small = column_small c.loop-n.n (c.args.number % precinct_columns c.args.head.now.shape (resolution c.args.band)) c.blocks_of-area.result.columns c.blocks_of-area.result.rows (block_columns c.args.head.now.shape c.args.band) (precinct_columns c.args.head.now.shape (resolution c.args.band)) columns_is inside (number_column c.args.number (precinct_columns c.args.head.now.shape (resolution c.args.band)) (precinct_rows c.args.head.now.shape (resolution c.args.band)) c.requires.number) few in
    omega (arith, x_is, small)

pub overflow_add-y : goal.overflow_add-y
overflow_add-y c =
    let columns_is : c.blocks_of-area.result.columns ≡ group_length (block_columns c.args.head.now.shape c.args.band) 4 (c.args.number % precinct_columns c.args.head.now.shape (resolution c.args.band)) = ap (λ (a : BlockArea). a.columns) c.blocks_of-area.ensures in
    let rows_is : c.blocks_of-area.result.rows ≡ group_length (block_rows c.args.head.now.shape c.args.band) 4 (c.args.number / precinct_columns c.args.head.now.shape (resolution c.args.band)) = ap (λ (a : BlockArea). a.rows) c.blocks_of-area.ensures in
    let x_is : c.blocks_of-area.result.x ≡ 4 * (c.args.number % precinct_columns c.args.head.now.shape (resolution c.args.band)) = ap (λ (a : BlockArea). a.x) c.blocks_of-area.ensures in
    let y_is : c.blocks_of-area.result.y ≡ 4 * (c.args.number / precinct_columns c.args.head.now.shape (resolution c.args.band)) = ap (λ (a : BlockArea). a.y) c.blocks_of-area.ensures in
    let inside : c.loop-n.n < c.blocks_of-area.result.columns * c.blocks_of-area.result.rows = omega (arith, c.loop-n-test.true) in
    let few : precinct_rows c.args.head.now.shape (resolution c.args.band) ≤ 256 = along-few c.args.head.now.shape.height (resolution c.args.band) (let h = c.requires.size.greatest_height in omega arith) in
    let small = row_small c.loop-n.n (c.args.number / precinct_columns c.args.head.now.shape (resolution c.args.band)) c.blocks_of-area.result.columns c.blocks_of-area.result.rows (block_rows c.args.head.now.shape c.args.band) (precinct_rows c.args.head.now.shape (resolution c.args.band)) rows_is inside (number_row c.args.number (precinct_columns c.args.head.now.shape (resolution c.args.band)) (precinct_rows c.args.head.now.shape (resolution c.args.band)) c.requires.number) few in
    omega (arith, y_is, small)

pub read_block_to-requires-clause-wide : goal.read_block_to-requires-clause-wide
read_block_to-requires-clause-wide c =
    let columns_is : c.blocks_of-area.result.columns ≡ group_length (block_columns c.args.head.now.shape c.args.band) 4 (c.args.number % precinct_columns c.args.head.now.shape (resolution c.args.band)) = ap (λ (a : BlockArea). a.columns) c.blocks_of-area.ensures in
    let rows_is : c.blocks_of-area.result.rows ≡ group_length (block_rows c.args.head.now.shape c.args.band) 4 (c.args.number / precinct_columns c.args.head.now.shape (resolution c.args.band)) = ap (λ (a : BlockArea). a.rows) c.blocks_of-area.ensures in
    let x_is : c.blocks_of-area.result.x ≡ 4 * (c.args.number % precinct_columns c.args.head.now.shape (resolution c.args.band)) = ap (λ (a : BlockArea). a.x) c.blocks_of-area.ensures in
    let y_is : c.blocks_of-area.result.y ≡ 4 * (c.args.number / precinct_columns c.args.head.now.shape (resolution c.args.band)) = ap (λ (a : BlockArea). a.y) c.blocks_of-area.ensures in
    let inside : c.loop-n.n < c.blocks_of-area.result.columns * c.blocks_of-area.result.rows = omega (arith, c.loop-n-test.true) in
    let h = column_inside c.loop-n.n (c.args.number % precinct_columns c.args.head.now.shape (resolution c.args.band)) c.blocks_of-area.result.columns c.blocks_of-area.result.rows (block_columns c.args.head.now.shape c.args.band) columns_is inside in
    omega (arith, x_is, h)

pub read_block_to-requires-clause-high : goal.read_block_to-requires-clause-high
read_block_to-requires-clause-high c =
    let columns_is : c.blocks_of-area.result.columns ≡ group_length (block_columns c.args.head.now.shape c.args.band) 4 (c.args.number % precinct_columns c.args.head.now.shape (resolution c.args.band)) = ap (λ (a : BlockArea). a.columns) c.blocks_of-area.ensures in
    let rows_is : c.blocks_of-area.result.rows ≡ group_length (block_rows c.args.head.now.shape c.args.band) 4 (c.args.number / precinct_columns c.args.head.now.shape (resolution c.args.band)) = ap (λ (a : BlockArea). a.rows) c.blocks_of-area.ensures in
    let x_is : c.blocks_of-area.result.x ≡ 4 * (c.args.number % precinct_columns c.args.head.now.shape (resolution c.args.band)) = ap (λ (a : BlockArea). a.x) c.blocks_of-area.ensures in
    let y_is : c.blocks_of-area.result.y ≡ 4 * (c.args.number / precinct_columns c.args.head.now.shape (resolution c.args.band)) = ap (λ (a : BlockArea). a.y) c.blocks_of-area.ensures in
    let inside : c.loop-n.n < c.blocks_of-area.result.columns * c.blocks_of-area.result.rows = omega (arith, c.loop-n-test.true) in
    let h = row_inside c.loop-n.n (c.args.number / precinct_columns c.args.head.now.shape (resolution c.args.band)) c.blocks_of-area.result.columns c.blocks_of-area.result.rows (block_rows c.args.head.now.shape c.args.band) rows_is inside in
    omega (arith, y_is, h)

pub loop-n-preserved : goal.loop-n-preserved
loop-n-preserved c =
    let columns_is : c.blocks_of-area.result.columns ≡ group_length (block_columns c.args.head.now.shape c.args.band) 4 (c.args.number % precinct_columns c.args.head.now.shape (resolution c.args.band)) = ap (λ (a : BlockArea). a.columns) c.blocks_of-area.ensures in
    let rows_is : c.blocks_of-area.result.rows ≡ group_length (block_rows c.args.head.now.shape c.args.band) 4 (c.args.number / precinct_columns c.args.head.now.shape (resolution c.args.band)) = ap (λ (a : BlockArea). a.rows) c.blocks_of-area.ensures in
    let x_is : c.blocks_of-area.result.x ≡ 4 * (c.args.number % precinct_columns c.args.head.now.shape (resolution c.args.band)) = ap (λ (a : BlockArea). a.x) c.blocks_of-area.ensures in
    let y_is : c.blocks_of-area.result.y ≡ 4 * (c.args.number / precinct_columns c.args.head.now.shape (resolution c.args.band)) = ap (λ (a : BlockArea). a.y) c.blocks_of-area.ensures in
    let inside : c.loop-n.n < c.blocks_of-area.result.columns * c.blocks_of-area.result.rows = omega (arith, c.loop-n-test.true) in
    let many : length c.as_slice.result.now ≡ c.blocks_of-area.result.columns * c.blocks_of-area.result.rows =
    ap length c.as_slice.ensures ∙ (c.requires.part.blocks ∙ sym (ap (λ (a : BlockArea). a.columns * a.rows) c.blocks_of-area.ensures)) in
    let block_is : c.index-as_slice-n.result ≡ block_in c.args.part.now c.loop-n.n =
    get_or_read c.as_slice.result.now c.loop-n.n c.index-as_slice-n.result (rw many inside) c.index-as_slice-n.is no_block
    ∙ ap (λ blocks. get_or blocks c.loop-n.n no_block) c.as_slice.ensures in
    record {
      size = c.read_block_to.auto.out ∙ c.loop-n.invariant.size;
      done = λ x y wide high is below. elim (cases_lt (place_in_part c.args.head.now.shape c.args.band (x / 32) (y / 32)) c.loop-n.n) [
        | inl before ↦ IsSample-kept c.args.head.now.shape (stated_planes c.args.head.now c.args.band) c.args.band (block_in c.args.part.now (place_in_part c.args.head.now.shape c.args.band (x / 32) (y / 32))) c.loop-n.out c.read_block_to.new.out x y
            (c.read_block_to.ensures.outside x y wide (λ at. absurd (
            let place = from_block c.loop-n.n (c.args.number % precinct_columns c.args.head.now.shape (resolution c.args.band)) (c.args.number / precinct_columns c.args.head.now.shape (resolution c.args.band)) c.blocks_of-area.result.columns c.blocks_of-area.result.rows (block_columns c.args.head.now.shape c.args.band) (block_rows c.args.head.now.shape c.args.band) (x / 32) (y / 32) columns_is rows_is inside
            (at.column ∙ ap (λ (k : ℕ). k + c.loop-n.n % c.blocks_of-area.result.columns) x_is) (at.row ∙ ap (λ (k : ℕ). k + c.loop-n.n / c.blocks_of-area.result.columns) y_is) in
            let same : group_length (block_columns c.args.head.now.shape c.args.band) 4 (x / 32 / 4) ≡ c.blocks_of-area.result.columns = ap (group_length (block_columns c.args.head.now.shape c.args.band) 4) is.column ∙ sym columns_is in
            let place_is : place_in_part c.args.head.now.shape c.args.band (x / 32) (y / 32) ≡ c.loop-n.n = rw same place in
            omega (arith, before, place_is))))
            (c.loop-n.invariant.done x y wide high is before)
        | inr from ↦ (
            let place_is : place_in_part c.args.head.now.shape c.args.band (x / 32) (y / 32) ≡ c.loop-n.n = omega (arith, below, from) in
            let same : group_length (block_columns c.args.head.now.shape c.args.band) 4 (x / 32 / 4) ≡ c.blocks_of-area.result.columns = ap (group_length (block_columns c.args.head.now.shape c.args.band) 4) is.column ∙ sym columns_is in
            let place : y / 32 % 4 * c.blocks_of-area.result.columns + x / 32 % 4 ≡ c.loop-n.n = rw (← same) place_is in
            let stands = to_block c.loop-n.n (c.args.number % precinct_columns c.args.head.now.shape (resolution c.args.band)) (c.args.number / precinct_columns c.args.head.now.shape (resolution c.args.band)) c.blocks_of-area.result.columns c.blocks_of-area.result.rows (block_columns c.args.head.now.shape c.args.band) (block_rows c.args.head.now.shape c.args.band) (x / 32) (y / 32) columns_is rows_is inside
            (block_wide (band_columns c.args.head.now.shape c.args.band) x wide) is.column is.row place in
            let mb_is : slice_index c.args.head.now.mb c.kind_place.result ≡ stated_planes c.args.head.now c.args.band = ap (λ (k : ℕ). slice_index c.args.head.now.mb k) c.kind_place.ensures.place in
            subst (λ (block : PacketBlock). IsSample c.args.head.now.shape (stated_planes c.args.head.now c.args.band) c.args.band block c.read_block_to.new.out x y)
            (block_is ∙ ap (block_in c.args.part.now) (sym place_is))
            (subst (λ (mb : ℕ). IsSample c.args.head.now.shape mb c.args.band c.index-as_slice-n.result c.read_block_to.new.out x y) mb_is
            (c.read_block_to.ensures.inside x y wide high (record {
              column = stands.0 ∙ ap (λ (k : ℕ). k + c.loop-n.n % c.blocks_of-area.result.columns) (sym x_is);
              row = stands.1 ∙ ap (λ (k : ℕ). k + c.loop-n.n / c.blocks_of-area.result.columns) (sym y_is);
            }))))
      ];
      kept = λ x y wide out.
          c.read_block_to.ensures.outside x y wide (λ at. out (
          let both = in_precinct c.loop-n.n (c.args.number % precinct_columns c.args.head.now.shape (resolution c.args.band)) (c.args.number / precinct_columns c.args.head.now.shape (resolution c.args.band)) c.blocks_of-area.result.columns c.blocks_of-area.result.rows (block_columns c.args.head.now.shape c.args.band) (block_rows c.args.head.now.shape c.args.band) (x / 32) (y / 32) columns_is rows_is inside
          (at.column ∙ ap (λ (k : ℕ). k + c.loop-n.n % c.blocks_of-area.result.columns) x_is) (at.row ∙ ap (λ (k : ℕ). k + c.loop-n.n / c.blocks_of-area.result.columns) y_is) in
          record { column = both.0; row = both.1 }))
          ∙ c.loop-n.invariant.kept x y wide out;
    }

pub returns-clause-inside : goal.returns-clause-inside
returns-clause-inside c = λ x y wide high is.
    let columns_is : c.blocks_of-area.result.columns ≡ group_length (block_columns c.args.head.now.shape c.args.band) 4 (c.args.number % precinct_columns c.args.head.now.shape (resolution c.args.band)) = ap (λ (a : BlockArea). a.columns) c.blocks_of-area.ensures in
    let rows_is : c.blocks_of-area.result.rows ≡ group_length (block_rows c.args.head.now.shape c.args.band) 4 (c.args.number / precinct_columns c.args.head.now.shape (resolution c.args.band)) = ap (λ (a : BlockArea). a.rows) c.blocks_of-area.ensures in
    c.loop-n.invariant.done x y wide high is
    (part_done c.blocks_of-area.result.columns c.blocks_of-area.result.rows (block_columns c.args.head.now.shape c.args.band) (block_rows c.args.head.now.shape c.args.band) (x / 32) (y / 32) (c.args.number % precinct_columns c.args.head.now.shape (resolution c.args.band)) (c.args.number / precinct_columns c.args.head.now.shape (resolution c.args.band)) c.loop-n.n columns_is rows_is
    (block_wide (band_columns c.args.head.now.shape c.args.band) x wide) (block_wide (band_rows c.args.head.now.shape c.args.band) y high) is.column is.row (omega (arith, c.loop-n-test.false)))
