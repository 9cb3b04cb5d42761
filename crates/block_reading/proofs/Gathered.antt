-- The values of a block by what is kept of its samples.
use Rattle.std.proofs.Common.{◌≡◌, ℕ, ◌+◌, ◌*◌, ◌/◌, ◌%◌, ◌^◌, ◌<◌, ◌≤◌, sym, ap, ◌∙◌, arith, inl, inr, true, false, List, length, get_or, ℤ, pos}
use Rattle.std.specs.Prelude.{zip}
use Rattle.std.proofs.lemmas.Bool.{and_from, cases_lt, lt-ltb}
use Rattle.std.proofs.lemmas.Nat.{mul-add-lt, div_below}
use Rattle.std.proofs.Math.Nat.{mul_comm}
use Rattle.std.proofs.lemmas.List.{get_or-map, length-map, ext_get_or}
use Rattle.std.proofs.lemmas.Slice.Zip.{get_or-zip, length-zip}
use Rattle.codec_terms.specs.BlockReading.{Area, Known, signed, known_values}
use Rattle.block_sets.specs.Places.{word_of, bit_of}
use Rattle.block_sets.proofs.Inverses.{column_at-place, row_at-place}
use Rattle.block_passes.specs.Scan.{has_sample}
use Rattle.block_reading.specs.declared.room.ReadRoom.{ReadRoom}
use Rattle.block_reading.specs.Scan.{block_at}
use Rattle.block_reading.specs.Known.{HasRoom, value_in}
use Rattle.block_reading.specs.Bounds.{IsBelow}

module _ (a : Area) (s : ReadRoom) (k : Known) (narrow : a.width ≤ 32) (low : a.height ≤ 32) (h : HasRoom a s k) (below : IsBelow (2 ^ 31) k) where
  module _ (x y : ℕ) (wide : x < a.width) (high : y < a.height) where
    some : has_sample (block_at a) (word_of x y) (bit_of x y) ≡ true
    unfolding has_sample
    some =
        rw (column_at-place x y (omega arith) (omega arith), row_at-place x y (omega arith) (omega arith))
        (and_from _ _ (lt-ltb x a.width wide) (lt-ltb y a.height high))

    cell : word_of x y * 64 + bit_of x y ≡ y / 4 * 128 + y % 4 + 4 * x
    cell = omega arith

    magnitude-cell : get_or s.magnitudes (y / 4 * 128 + y % 4 + 4 * x) 0 ≡ get_or k.magnitudes (y * a.width + x) 0
    magnitude-cell =
        rw (cell, column_at-place x y (omega arith) (omega arith), row_at-place x y (omega arith) (omega arith)) at (h.magnitudes (word_of x y) (bit_of x y) (omega arith) (omega arith) some)

    negative-cell : get_or s.negative (y / 4 * 128 + y % 4 + 4 * x) false ≡ get_or k.negative (y * a.width + x) false
    negative-cell =
        rw (cell, column_at-place x y (omega arith) (omega arith), row_at-place x y (omega arith) (omega arith)) at (h.negative (word_of x y) (bit_of x y) (omega arith) (omega arith) some)

    pub value-here : value_in s x y ≡ get_or (known_values k) (y * a.width + x) (pos 0)
    value-here =
        let inside : y * a.width + x < a.width * a.height = mul-add-lt y a.width x a.height high wide in
        let m = get_or k.magnitudes (y * a.width + x) 0 in
        let small : get_or k.magnitudes (y * a.width + x) 0 % 2 ^ 31 ≡ get_or k.magnitudes (y * a.width + x) 0 = omega (arith, below (y * a.width + x)) in
        rw (magnitude-cell, negative-cell, small)
        (sym (get_or-map signed (zip k.negative k.magnitudes) (y * a.width + x) (false, 0) (pos 0) (omega (arith, length-zip k.negative k.magnitudes, h.negative_size, h.magnitudes_size))
        ∙ ap signed (get_or-zip k.negative k.magnitudes (y * a.width + x) (false, 0) (omega (arith, h.negative_size)) (omega (arith, h.magnitudes_size)))))

  pub values-size : length (known_values k) ≡ a.width * a.height
  values-size = length-map (zip k.negative k.magnitudes) signed ∙ omega (arith, length-zip k.negative k.magnitudes, h.negative_size, h.magnitudes_size)

  pub all-values : (out : List ℤ) → length out ≡ a.width * a.height
      → ((x y : ℕ) → x < a.width → y < a.height → get_or out (y * a.width + x) (pos 0) ≡ value_in s x y) → out ≡ known_values k
  all-values out size each =
      ext_get_or (pos 0) out (known_values k) (size ∙ sym values-size) (λ n p. at n (rw (← size) p))
    where
      at : (n : ℕ) → n < a.width * a.height → get_or out n (pos 0) ≡ get_or (known_values k) n (pos 0)
      at n p = elim (cases_lt 0 a.width) [
        | inl some ↦ (
            let row : n / a.width * a.width + n % a.width ≡ n = omega (arith, mul_comm (n / a.width) a.width) in
            let x : n % a.width < a.width = omega arith in
            let y : n / a.width < a.height = div_below n a.width a.height some (omega (arith, p, mul_comm a.width a.height)) in
            rw row at (each (n % a.width) (n / a.width) x y ∙ value-here (n % a.width) (n / a.width) x y))
        | inr none ↦ (
            let zero : a.width ≡ 0 = omega arith in
            absurd (omega (arith, rw zero at p)))
      ]
