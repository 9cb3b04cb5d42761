-- Each coefficient belongs to exactly one code-block, and each code-block to exactly one precinct.
use Rattle.std.proofs.Common.{ℕ, ◌*◌, ◌/◌, ◌^◌, ◌<◌, ◌≤◌, arith, true, false}
use Rattle.std.specs.Int.{div_ceil}
use Rattle.std.specs.List.{AllByRecursion}
use Rattle.codec_terms.specs.declared.picture.Shape.{Shape}
use Rattle.codec_terms.specs.Bands.{band_side, component_bands, resolution_bands}
use Rattle.codec_terms.specs.Precincts.{OneGroup, HasPrecincts}

pub one_block : (n x : ℕ) → x < n → OneGroup n 32 x
one_block n x inside = record { group = x / 32; counted = omega arith; holds = omega arith; alone = λ g h. omega arith }

pub one_precinct : (n x : ℕ) → x < n → OneGroup n 4 x
one_precinct n x inside = record { group = x / 4; counted = omega arith; holds = omega arith; alone = λ g h. omega arith }

reach1_false : (n : ℕ) → div_ceil (band_side n 1 false) 32 ≤ 4 * div_ceil (div_ceil n (2 ^ 0)) 256
reach1_false n = omega arith

reach1_true : (n : ℕ) → div_ceil (band_side n 1 true) 32 ≤ 4 * div_ceil (div_ceil n (2 ^ 0)) 256
reach1_true n = omega arith

reach2_false : (n : ℕ) → div_ceil (band_side n 2 false) 32 ≤ 4 * div_ceil (div_ceil n (2 ^ 1)) 256
reach2_false n = omega arith

reach2_true : (n : ℕ) → div_ceil (band_side n 2 true) 32 ≤ 4 * div_ceil (div_ceil n (2 ^ 1)) 256
reach2_true n = omega arith

reach3_false : (n : ℕ) → div_ceil (band_side n 3 false) 32 ≤ 4 * div_ceil (div_ceil n (2 ^ 2)) 256
reach3_false n = omega arith

reach3_true : (n : ℕ) → div_ceil (band_side n 3 true) 32 ≤ 4 * div_ceil (div_ceil n (2 ^ 2)) 256
reach3_true n = omega arith

reach4_false : (n : ℕ) → div_ceil (band_side n 4 false) 32 ≤ 4 * div_ceil (div_ceil n (2 ^ 3)) 256
reach4_false n = omega arith

reach4_true : (n : ℕ) → div_ceil (band_side n 4 true) 32 ≤ 4 * div_ceil (div_ceil n (2 ^ 3)) 256
reach4_true n = omega arith

reach5_false : (n : ℕ) → div_ceil (band_side n 5 false) 32 ≤ 4 * div_ceil (div_ceil n (2 ^ 4)) 256
reach5_false n = omega arith

reach5_true : (n : ℕ) → div_ceil (band_side n 5 true) 32 ≤ 4 * div_ceil (div_ceil n (2 ^ 4)) 256
reach5_true n = omega arith

reach_least : (n : ℕ) → div_ceil (band_side n 5 false) 32 ≤ 4 * div_ceil (div_ceil n (2 ^ 5)) 128
reach_least n = omega arith

pub has_precincts : (shape : Shape) (component : ℕ) → AllByRecursion (HasPrecincts shape) (component_bands component)
unfolding component_bands resolution_bands
has_precincts shape component = (
  record { in_columns = reach_least shape.width; in_rows = reach_least shape.height },
  (
    record { in_columns = reach5_true shape.width; in_rows = reach5_false shape.height },
    (
      record { in_columns = reach5_false shape.width; in_rows = reach5_true shape.height },
      (
        record { in_columns = reach5_true shape.width; in_rows = reach5_true shape.height },
        (
          record { in_columns = reach4_true shape.width; in_rows = reach4_false shape.height },
          (
            record { in_columns = reach4_false shape.width; in_rows = reach4_true shape.height },
            (
              record { in_columns = reach4_true shape.width; in_rows = reach4_true shape.height },
              (
                record { in_columns = reach3_true shape.width; in_rows = reach3_false shape.height },
                (
                  record { in_columns = reach3_false shape.width; in_rows = reach3_true shape.height },
                  (
                    record { in_columns = reach3_true shape.width; in_rows = reach3_true shape.height },
                    (
                      record { in_columns = reach2_true shape.width; in_rows = reach2_false shape.height },
                      (
                        record { in_columns = reach2_false shape.width; in_rows = reach2_true shape.height },
                        (
                          record { in_columns = reach2_true shape.width; in_rows = reach2_true shape.height },
                          (
                            record { in_columns = reach1_true shape.width; in_rows = reach1_false shape.height },
                            (
                              record { in_columns = reach1_false shape.width; in_rows = reach1_true shape.height },
                              (
                                record { in_columns = reach1_true shape.width; in_rows = reach1_true shape.height },
                                tt,
                              ),
                            ),
                          ),
                        ),
                      ),
                    ),
                  ),
                ),
              ),
            ),
          ),
        ),
      ),
    ),
  ),
)
