use Rattle.std.proofs.Common.{◌≡◌, ◌∙◌, ℕ, ◌*◌, ◌/◌, ◌<◌, ap, ap₂, subst, inl, inr, arith}
use Rattle.std.proofs.lemmas.Bool.{cases_lt}
use Rattle.std.proofs.lemmas.Nat.{mul-add-lt}
use Rattle.codec_terms.specs.Bands.{band_columns, band_rows}
use Rattle.codec_terms.specs.Precincts.{precinct_columns, precinct_rows, precinct_number, resolution}
use Rattle.codec_terms.specs.StreamReading.{stated_planes}
use Rattle.band_reading.specs.Samples.{block_at, IsSample}
use Rattle.band_reading.proofs.Standing.{IsSample-kept, number_of, of_number, block_wide}
use Rattle.band_reading.proofs.BandRead.{has, all_read, planes_few, block_at-is}
use Rattle.band_reading.proofs.band.read_band.Goals as goal

pub read_part-requires-clause-planes : goal.read_part-requires-clause-planes
read_part-requires-clause-planes c = planes_few c.args.head.now c.args.band c.requires.planes

pub loop-number-preserved : goal.loop-number-preserved
loop-number-preserved c =
    let precincts = has c.args.head.now c.args.packets.now c.args.band c.requires.band c.requires.size c.requires.packets in
    record {
      size = c.read_part.auto.out ∙ c.loop-number.invariant.size;
      done = λ x y wide high below.
          elim (cases_lt (precinct_number c.args.head.now.shape (resolution c.args.band) (x / 32 / 4) (y / 32 / 4)) c.loop-number.number) [
            | inl before ↦ IsSample-kept c.args.head.now.shape (stated_planes c.args.head.now c.args.band) c.args.band (block_at c.args.head.now.shape c.args.packets.now c.args.band (x / 32) (y / 32))
                c.loop-number.out c.read_part.new.out x y
                (c.read_part.ensures.outside x y wide (λ is. absurd (omega (arith, before, number_of c.args.head.now.shape c.args.band c.loop-number.number x y is))))
                (c.loop-number.invariant.done x y wide high before)
            | inr from ↦ (
                let here : precinct_number c.args.head.now.shape (resolution c.args.band) (x / 32 / 4) (y / 32 / 4) ≡ c.loop-number.number = omega (arith, below, from) in
                let column : x / 32 / 4 < precinct_columns c.args.head.now.shape (resolution c.args.band) = omega (arith, block_wide (band_columns c.args.head.now.shape c.args.band) x wide, precincts.in_columns) in
                subst (λ block. IsSample c.args.head.now.shape (stated_planes c.args.head.now c.args.band) c.args.band block c.read_part.new.out x y)
                (block_at-is c.args.head.now.shape c.args.packets.now c.args.band c.packet_band_of-part.result.now c.loop-number.number (x / 32) (y / 32) c.packet_band_of-part.ensures.part here)
                (c.read_part.ensures.inside x y wide high (of_number c.args.head.now.shape c.args.band c.loop-number.number x y column here)))
          ];
    }

pub returns : goal.returns
returns c =
    let precincts = has c.args.head.now c.args.packets.now c.args.band c.requires.band c.requires.size c.requires.packets in
    all_read c.args.head.now c.args.packets.now c.args.band c.requires.band c.requires.size c.requires.packets c.loop-number.out (c.loop-number.invariant.size ∙ c.requires.whole)
    (λ x y wide high.
    let column : x / 32 / 4 < precinct_columns c.args.head.now.shape (resolution c.args.band) = omega (arith, block_wide (band_columns c.args.head.now.shape c.args.band) x wide, precincts.in_columns) in
    let row : y / 32 / 4 < precinct_rows c.args.head.now.shape (resolution c.args.band) = omega (arith, block_wide (band_rows c.args.head.now.shape c.args.band) y high, precincts.in_rows) in
    let number = mul-add-lt (y / 32 / 4) (precinct_columns c.args.head.now.shape (resolution c.args.band)) (x / 32 / 4) (precinct_rows c.args.head.now.shape (resolution c.args.band)) row column in
    let all : c.precincts-across.result.0 * c.precincts-across.result.1 ≡ precinct_columns c.args.head.now.shape (resolution c.args.band) * precinct_rows c.args.head.now.shape (resolution c.args.band) =
    ap₂ (λ (a b : ℕ). a * b)
    (c.precincts-across.ensures.columns ∙ ap (precinct_columns c.args.head.now.shape) c.resolution_of.ensures)
    (c.precincts-across.ensures.rows ∙ ap (precinct_rows c.args.head.now.shape) c.resolution_of.ensures) in
    c.loop-number.invariant.done x y wide high (omega (arith, number, all, c.loop-number-test.false)))
