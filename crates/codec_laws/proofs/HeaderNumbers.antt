-- Numbers, numbers of passes and lengths are read back from a header's bits.
use Rattle.std.proofs.Common.{◌≡◌, ℕ, zero, suc, ◌+◌, ◌*◌, ◌-◌, ◌/◌, ◌%◌, ◌^◌, ◌<◌, ◌≤◌, refl, sym, ap, subst, ◌∙◌, arith, Bool, true, false, List, ◌∷◌, ◌++◌, length, replicate, append_assoc, inl, inr, mod-eq_of_lt}
use Rattle.std.specs.Prelude.{◌==◌, if◌then◌else◌}
use Rattle.std.specs.Int.{from_bool}
use Rattle.std.proofs.lemmas.Nat.{mod-pow-add}
use Rattle.std.proofs.Math.Nat.{pow-succ'}
use Rattle.std.proofs.lemmas.Bool.{cases_lt, le-ltb, lt-ltb, le-leb, lt-leb}
use Rattle.codec_terms.specs.declared.packet.HeadRefusal.TheVariants.{WideLength}
use Rattle.std.proofs.lemmas.List.{length-append, length-replicate}
use Rattle.codec_terms.specs.Bits.{low_bits, bit_length, log2}
use Rattle.codec_terms.specs.Reading.{on_ok, done, ◌>>=◌}
use Rattle.codec_terms.specs.PacketHeader.{pass_bits, growth, length_bits}
use Rattle.codec_terms.specs.PacketReading.{BitPlace, Bits, bit_read, number_read, passes_above, many_passes, some_passes, more_passes, passes_from, pass_count_read, ones_read_within, ones_read, size_of_bits, size_read, refused_here}
use Rattle.codec_laws.specs.BitsAhead.{IsAhead, Gives}
use Rattle.codec_laws.proofs.PackedBits.{IsAhead-bit, length-ahead}
use Rattle.codec_laws.proofs.Planes.{bit_length-within, within-bit_length}

-- ---- steps behind one another

pub Gives-done : {A : Type 0} (bytes : List ℕ) (p : BitPlace) (v : A) (bits : List Bool) (end : ℕ) → IsAhead bytes p bits end → Gives bytes (done v) p v bits end
Gives-done bytes p v bits end here = record { behind = p; read = refl; ahead = here }

pub Gives-then : {A B : Type 0} (bytes : List ℕ) (step : Bits A) (f : A → Bits B) (p : BitPlace) (v : A) (w : B) (bits more : List Bool) (end : ℕ)
    → Gives bytes step p v bits end → ((behind : BitPlace) → IsAhead bytes behind bits end → Gives bytes (f v) behind w more end)
    → Gives bytes (step >>= f) p w more end
Gives-then bytes step f p v w bits more end g next =
    let h = next g.behind g.ahead in
    record { behind = h.behind; read = ap (λ r. on_ok r (λ r. f r.0 r.1)) g.read ∙ h.read; ahead = h.ahead }

-- ---- a number

from_bool-bit : (n : ℕ) → from_bool (n % 2 == 1) ≡ n % 2
from_bool-bit n = by_value (n % 2) (omega arith)
  where
    by_value : (m : ℕ) → m < 2 → from_bool (m == 1) ≡ m
    by_value zero small = refl
    by_value (suc zero) small = refl
    by_value (suc (suc m)) small = absurd (omega arith)

-- behind m come the lowest suc k bits of n
one_bit_more : (m n k : ℕ) → (2 * m + n / 2 ^ k % 2) * 2 ^ k + n % 2 ^ k ≡ m * 2 ^ suc k + n % 2 ^ suc k
one_bit_more m n k =
    let split : n % 2 ^ (1 + k) ≡ n / 2 ^ k % 2 * 2 ^ k + n % 2 ^ k = mod-pow-add n 1 k in
    let one : 1 + k ≡ suc k = omega arith in
    let same : n % 2 ^ suc k ≡ n / 2 ^ k % 2 * 2 ^ k + n % 2 ^ k = ap (λ e. n % 2 ^ e) (sym one) ∙ split in
    rw (same, pow-succ' 2 k) (omega arith)

number_read-from : (bytes : List ℕ) (end k m n : ℕ) (p : BitPlace) (bits : List Bool) → IsAhead bytes p (low_bits k n ++ bits) end → Gives bytes (number_read bytes k m) p (m * 2 ^ k + n % 2 ^ k) bits end
unfolding number_read low_bits
number_read-from bytes end zero m n p bits here =
    let value : m ≡ m * 2 ^ 0 + n % 2 ^ 0 = omega arith in
    subst (λ v. Gives bytes (done m) p v bits end) value (Gives-done bytes p m bits end here)
number_read-from bytes end (suc k) m n p bits here =
    let value : (2 * m + from_bool (n / 2 ^ k % 2 == 1)) * 2 ^ k + n % 2 ^ k ≡ m * 2 ^ suc k + n % 2 ^ suc k =
    rw (from_bool-bit (n / 2 ^ k)) (one_bit_more m n k) in
    subst (λ v. Gives bytes (number_read bytes (suc k) m) p v bits end) value
    (Gives-then bytes (bit_read bytes) (λ bit. number_read bytes k (2 * m + from_bool bit)) p (n / 2 ^ k % 2 == 1) _ (low_bits k n ++ bits) bits end
    (IsAhead-bit bytes end p (n / 2 ^ k % 2 == 1) (low_bits k n ++ bits) here)
    (λ behind ahead. number_read-from bytes end k (2 * m + from_bool (n / 2 ^ k % 2 == 1)) n behind bits ahead))

pub number_read-is : (bytes : List ℕ) (end k n : ℕ) (p : BitPlace) (bits : List Bool) → n < 2 ^ k → IsAhead bytes p (low_bits k n ++ bits) end → Gives bytes (number_read bytes k 0) p n bits end
number_read-is bytes end k n p bits small here =
    let value : 0 * 2 ^ k + n % 2 ^ k ≡ n = omega (arith, mod-eq_of_lt small) in
    subst (λ v. Gives bytes (number_read bytes k 0) p v bits end) value (number_read-from bytes end k 0 n p bits here)

-- ---- a number of passes

module _ (bytes : List ℕ) (end : ℕ) (p : BitPlace) (bits : List Bool) where
  one_pass : IsAhead bytes p (false ∷ bits) end → Gives bytes (pass_count_read bytes) p 1 bits end
  unfolding pass_count_read
  one_pass here =
      Gives-then bytes (bit_read bytes) (passes_from bytes) p false 1 bits bits end (IsAhead-bit bytes end p false bits here)
      (λ q ahead. Gives-done bytes q 1 bits end ahead)

  two_passes : IsAhead bytes p (true ∷ false ∷ bits) end → Gives bytes (pass_count_read bytes) p 2 bits end
  unfolding pass_count_read
  two_passes here =
      Gives-then bytes (bit_read bytes) (passes_from bytes) p true 2 (false ∷ bits) bits end (IsAhead-bit bytes end p true (false ∷ bits) here)
      (λ q ahead. Gives-then bytes (bit_read bytes) (more_passes bytes) q false 2 bits bits end (IsAhead-bit bytes end q false bits ahead)
      (λ r follows. Gives-done bytes r 2 bits end follows))

  -- behind two ones
  from_three : (v n : ℕ) (more : List Bool) → n < 4 → ((q : BitPlace) → IsAhead bytes q more end → Gives bytes (some_passes bytes n) q v bits end)
      → IsAhead bytes p (true ∷ true ∷ (low_bits 2 n ++ more)) end → Gives bytes (pass_count_read bytes) p v bits end
  unfolding pass_count_read
  from_three v n more small next here =
      Gives-then bytes (bit_read bytes) (passes_from bytes) p true v (true ∷ (low_bits 2 n ++ more)) bits end (IsAhead-bit bytes end p true (true ∷ (low_bits 2 n ++ more)) here)
      (λ q ahead. Gives-then bytes (bit_read bytes) (more_passes bytes) q true v (low_bits 2 n ++ more) bits end (IsAhead-bit bytes end q true (low_bits 2 n ++ more) ahead)
      (λ r follows. Gives-then bytes (number_read bytes 2 0) (some_passes bytes) r n v more bits end (number_read-is bytes end 2 n r more small follows) next))

  three_to_five : (n : ℕ) → n < 3 → IsAhead bytes p (true ∷ true ∷ (low_bits 2 n ++ bits)) end → Gives bytes (pass_count_read bytes) p (3 + n) bits end
  three_to_five n small here =
      from_three (3 + n) n bits (omega arith)
      (λ q ahead. subst (λ t. Gives bytes (if t then done (3 + n) else (number_read bytes 5 0 >>= many_passes bytes)) q (3 + n) bits end) (sym (lt-ltb n 3 small)) (Gives-done bytes q (3 + n) bits end ahead))
      here

  -- behind four ones
  from_six : (v n : ℕ) (more : List Bool) → n < 32 → ((q : BitPlace) → IsAhead bytes q more end → Gives bytes (many_passes bytes n) q v bits end)
      → IsAhead bytes p (true ∷ true ∷ true ∷ true ∷ (low_bits 5 n ++ more)) end → Gives bytes (pass_count_read bytes) p v bits end
  unfolding low_bits
  from_six v n more small next here =
      from_three v 3 (low_bits 5 n ++ more) (omega arith)
      (λ q ahead. Gives-then bytes (number_read bytes 5 0) (many_passes bytes) q n v more bits end (number_read-is bytes end 5 n q more small ahead) next)
      here

  six_to_thirty_six : (n : ℕ) → n < 31 → IsAhead bytes p (true ∷ true ∷ true ∷ true ∷ (low_bits 5 n ++ bits)) end → Gives bytes (pass_count_read bytes) p (6 + n) bits end
  six_to_thirty_six n small here =
      from_six (6 + n) n bits (omega arith)
      (λ q ahead. subst (λ t. Gives bytes (if t then done (6 + n) else (number_read bytes 7 0 >>= passes_above bytes 37)) q (6 + n) bits end) (sym (lt-ltb n 31 small)) (Gives-done bytes q (6 + n) bits end ahead))
      here

  from_thirty_seven : (n : ℕ) → n < 128 → IsAhead bytes p (replicate 9 true ++ (low_bits 7 n ++ bits)) end → Gives bytes (pass_count_read bytes) p (37 + n) bits end
  unfolding low_bits
  from_thirty_seven n small here =
      from_six (37 + n) 31 (low_bits 7 n ++ bits) (omega arith)
      (λ q ahead. Gives-then bytes (number_read bytes 7 0) (passes_above bytes 37) q n (37 + n) bits bits end (number_read-is bytes end 7 n q bits small ahead)
      (λ r follows. Gives-done bytes r (37 + n) bits end follows))
      here

pub pass_count_read-is : (bytes : List ℕ) (end n : ℕ) (p : BitPlace) (bits : List Bool) → 1 ≤ n → n ≤ 164 → IsAhead bytes p (pass_bits n ++ bits) end → Gives bytes (pass_count_read bytes) p n bits end
pass_count_read-is bytes end n p bits some few here = elim (cases_lt n 2) [
  | inl one ↦ (let same : 1 ≡ n = omega arith in subst (λ m. IsAhead bytes p (pass_bits m ++ bits) end → Gives bytes (pass_count_read bytes) p m bits end) same (one_pass bytes end p bits) here)
  | inr more ↦ elim (cases_lt n 3) [
    | inl two ↦ (let same : 2 ≡ n = omega arith in subst (λ m. IsAhead bytes p (pass_bits m ++ bits) end → Gives bytes (pass_count_read bytes) p m bits end) same (two_passes bytes end p bits) here)
    | inr more ↦ elim (cases_lt n 6) [
      | inl five ↦ (let same : 3 + (n - 3) ≡ n = omega arith in
          subst (λ m. Gives bytes (pass_count_read bytes) p m bits end) same
          (three_to_five bytes end p bits (n - 3) (omega arith) (subst (λ xs. IsAhead bytes p (xs ++ bits) end) (pass_bits-three n more (omega arith)) here)))
      | inr more ↦ elim (cases_lt n 37) [
        | inl thirty_six ↦ (let same : 6 + (n - 6) ≡ n = omega arith in
            subst (λ m. Gives bytes (pass_count_read bytes) p m bits end) same
            (six_to_thirty_six bytes end p bits (n - 6) (omega arith) (subst (λ xs. IsAhead bytes p (xs ++ bits) end) (pass_bits-six n more (omega arith)) here)))
        | inr more ↦ (let same : 37 + (n - 37) ≡ n = omega arith in
            subst (λ m. Gives bytes (pass_count_read bytes) p m bits end) same
            (from_thirty_seven bytes end p bits (n - 37) (omega arith) (subst (λ xs. IsAhead bytes p (xs ++ bits) end) (pass_bits-thirty_seven n more) here)))
      ]
    ]
  ]
]
  where
    pass_bits-three : (n : ℕ) → 3 ≤ n → n ≤ 5 → pass_bits n ≡ replicate 2 true ++ low_bits 2 (n - 3)
    pass_bits-three n low high = rw (lt-leb n 1 (omega arith), lt-leb n 2 (omega arith), le-leb n 5 high) refl

    pass_bits-six : (n : ℕ) → 6 ≤ n → n ≤ 36 → pass_bits n ≡ replicate 4 true ++ low_bits 5 (n - 6)
    pass_bits-six n low high = rw (lt-leb n 1 (omega arith), lt-leb n 2 (omega arith), lt-leb n 5 (omega arith), le-leb n 36 high) refl

    pass_bits-thirty_seven : (n : ℕ) → 37 ≤ n → pass_bits n ≡ replicate 9 true ++ low_bits 7 (n - 37)
    pass_bits-thirty_seven n low = rw (lt-leb n 1 (omega arith), lt-leb n 2 (omega arith), lt-leb n 5 (omega arith), lt-leb n 36 (omega arith)) refl

-- ---- a length

ones_read_within-is : (bytes : List ℕ) (end k m n : ℕ) (p : BitPlace) (bits : List Bool) → n < k → IsAhead bytes p (replicate n true ++ false ∷ bits) end → Gives bytes (ones_read_within bytes k m) p (m + n) bits end
unfolding ones_read_within
ones_read_within-is bytes end zero m n p bits enough here = absurd (omega arith)
ones_read_within-is bytes end (suc k) m zero p bits enough here =
    Gives-then bytes (bit_read bytes) (λ bit. if bit then ones_read_within bytes k (suc m) else done m) p false (m + 0) bits bits end (IsAhead-bit bytes end p false bits here)
    (λ q ahead. let same : m ≡ m + 0 = omega arith in subst (λ v. Gives bytes (done m) q v bits end) same (Gives-done bytes q m bits end ahead))
ones_read_within-is bytes end (suc k) m (suc n) p bits enough here =
    Gives-then bytes (bit_read bytes) (λ bit. if bit then ones_read_within bytes k (suc m) else done m) p true (m + suc n) (replicate n true ++ false ∷ bits) bits end
    (IsAhead-bit bytes end p true (replicate n true ++ false ∷ bits) here)
    (λ q ahead. let same : suc m + n ≡ m + suc n = omega arith in subst (λ v. Gives bytes (ones_read_within bytes k (suc m)) q v bits end) same
    (ones_read_within-is bytes end k (suc m) n q bits (omega arith) ahead))

ones_read-is : (bytes : List ℕ) (end n : ℕ) (p : BitPlace) (bits : List Bool) → IsAhead bytes p (replicate n true ++ false ∷ bits) end → Gives bytes (ones_read bytes) p n bits end
ones_read-is bytes end n p bits here =
    let size : length (replicate n true ++ false ∷ bits) ≡ n + suc (length bits) = length-append (replicate n true) (false ∷ bits) ∙ ap (λ m. m + suc (length bits)) (length-replicate n true) in
    let same : 0 + n ≡ n = omega arith in
    subst (λ v. Gives bytes (ones_read bytes) p v bits end) same
    (ones_read_within-is bytes end (8 * length bytes) 0 n p bits (omega (arith, length-ahead bytes end p (replicate n true ++ false ∷ bits) here, size)) here)

-- a length's field holds it, and has at most 32 bits
field_size : (passes len : ℕ) → passes ≤ 164 → len < 2 ^ 32 → (3 + growth passes len + log2 passes ≤ 32) × (len < 2 ^ (3 + growth passes len + log2 passes))
field_size passes len few small =
    let bits : bit_length len ≤ 32 = bit_length-within len 32 small (omega arith) in
    let passes_bits : bit_length passes ≤ 8 = bit_length-within passes 8 (omega arith) (omega arith) in
    (omega (arith, bits, passes_bits), within-bit_length len (3 + growth passes len + log2 passes) (omega arith) (omega arith))

pub size_read-is : (bytes : List ℕ) (end passes len : ℕ) (p : BitPlace) (bits : List Bool) → passes ≤ 164 → len < 2 ^ 32 → IsAhead bytes p (length_bits passes len ++ bits) end → Gives bytes (size_read bytes passes) p len bits end
size_read-is bytes end passes len p bits few small here =
    let g : ℕ = growth passes len in
    let n : ℕ = 3 + growth passes len + log2 passes in
    let field = field_size passes len few small in
    let apart : length_bits passes len ++ bits ≡ replicate g true ++ false ∷ (low_bits n len ++ bits) = append_assoc (replicate g true) (false ∷ low_bits n len) bits in
    Gives-then bytes (ones_read bytes) (λ k. size_of_bits bytes (3 + k + log2 passes)) p g len (low_bits n len ++ bits) bits end
    (ones_read-is bytes end g p (low_bits n len ++ bits) (subst (λ xs. IsAhead bytes p xs end) apart here))
    (λ q ahead. in_field q n field.0 field.1 ahead)
  where
    in_field : (q : BitPlace) (n : ℕ) → n ≤ 32 → len < 2 ^ n → IsAhead bytes q (low_bits n len ++ bits) end → Gives bytes (size_of_bits bytes n) q len bits end
    in_field q n most holds ahead =
        subst (λ t. Gives bytes (if t then refused_here bytes (λ at. WideLength at n) else number_read bytes n 0) q len bits end) (sym (le-ltb 32 n most))
        (number_read-is bytes end n len q bits holds ahead)
