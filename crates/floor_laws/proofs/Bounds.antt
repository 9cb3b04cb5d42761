-- Floors are no longer than what they are the floors of, so that they fit 32 bits.
use Rattle.std.proofs.Common.{ℕ, zero, suc, ◌^◌, ◌<◌, ◌≤◌, arith, List, sum_by, ℤ}
use Rattle.std.specs.List.{range_with_len}
use Rattle.codec_terms.specs.declared.picture.Shape.{Shape}
use Rattle.codec_terms.specs.Precincts.{Precinct}
use Rattle.codec_laws.specs.Bounds.{IsPictureSize, FitBands}
use Rattle.cut_laws.proofs.Lengths.{packet-bound, part-bound, stream-bound}
use Rattle.floor_laws.specs.Floors.{precinct_floor, resolution_floor, part_floor, stream_floor}
use Rattle.floor_laws.proofs.LeastLengths.{packet-floor, part-floor, stream-floor}
use Rattle.floor_laws.proofs.Changes.{part-by_resolution}

pub precinct-bound : (shape : Shape) (q : List ℤ) (cut component : ℕ) (precinct : Precinct) → FitBands shape q → component < 3 → precinct.resolution < 6
    → precinct_floor shape q cut component precinct < 2 ^ 24
precinct-bound shape q cut component precinct fits inside small =
    let bound = packet-bound shape q cut component precinct fits inside small in
    let floor = packet-floor shape q cut cut component precinct (omega arith) in
    omega (arith, bound, floor)

pub part_floor-bound : (shape : Shape) (q : List ℤ) (cut component : ℕ) → IsPictureSize shape → FitBands shape q → component < 3
    → part_floor shape q cut component < 2 ^ 30
part_floor-bound shape q cut component size fits inside =
    omega (arith, part-bound shape q cut component size fits inside, part-floor shape q cut cut component (omega arith))

pub stream_floor-bound : (shape : Shape) (q : List ℤ) (cut : ℕ) → IsPictureSize shape → FitBands shape q → stream_floor shape q cut < 2 ^ 32
stream_floor-bound shape q cut size fits =
    omega (arith, stream-bound shape q cut size fits, stream-floor shape q cut cut (omega arith))

one-of_six : (f : ℕ → ℕ) (r : ℕ) → r < 6 → f r ≤ sum_by f (range_with_len 0 6)
one-of_six f zero small = omega arith
one-of_six f (suc zero) small = omega arith
one-of_six f (suc (suc zero)) small = omega arith
one-of_six f (suc (suc (suc zero))) small = omega arith
one-of_six f (suc (suc (suc (suc zero)))) small = omega arith
one-of_six f (suc (suc (suc (suc (suc zero))))) small = omega arith
one-of_six f (suc (suc (suc (suc (suc (suc r)))))) small = absurd (omega arith)

pub resolution-bound : (shape : Shape) (q : List ℤ) (cut component r : ℕ) → IsPictureSize shape → FitBands shape q → component < 3 → r < 6
    → resolution_floor shape q cut component r < 2 ^ 30
resolution-bound shape q cut component r size fits inside small =
    omega (
      arith,
      part-by_resolution shape q cut component,
      one-of_six (resolution_floor shape q cut component) r small,
      part_floor-bound shape q cut component size fits inside,
    )
