-- Code values of sums, by the least sums at which they rise.
use Rattle.std.proofs.Common.{◌≡◌, ℕ, zero, suc, ◌+◌, ◌-◌, ◌*◌, ◌/◌, ◌^◌, ◌<◌, ◌≤◌, ◌⊎◌, true, refl, subst, ◌∙◌, arith, inl, inr, lit≤, List, length, get_or, leb, false}
use Rattle.std.specs.Prelude.{max, IsTrue}
use Rattle.std.proofs.lemmas.Bool.{leb-true, leb-false, le-leb, cases_lt, cases_order, cond-true, cond-false, lt-ltb, le-ltb}
use Rattle.std.proofs.lemmas.List.{get_or_default}
use Rattle.std.proofs.lemmas.List.FromFn.{length-map-range_with_len, get_or-map-range_with_len}
use Rattle.std.specs.List.Sorted.{IsPartitionPoint, IsPartitionedBy}
use Rattle.std.proofs.lemmas.Nat.{mul-le}
use Rattle.std.proofs.Math.Nat.{pow-le-pow_left}
use Rattle.codec_terms.specs.Colour.{is_code_within, greatest_from, fifth_root, fifths, fraction, below_peak, code_value}
use Rattle.codec_terms.proofs.ColourLaws.{codes_downward, code_value-greatest, fifth_root-greatest, fifth_root-mono, fifths-mono}
use Rattle.xyz_convert.specs.Entries.{light_of, code_of, power_of, least_above, most_sum, entry_start, list_of, IsTable}

-- ---- the greatest light

of_three : (p : ℕ) → 11 ≤ p → p ≤ 13 → (p ≡ 11) ⊎ ((p ≡ 12) ⊎ (p ≡ 13))
of_three p low high = grind arith

whole_at_11 : fifths 11 (2 ^ 24) ≡ 2 ^ 24
unfolding greatest_from
whole_at_11 = refl

whole_at_12 : fifths 12 (2 ^ 24) ≡ 2 ^ 24
unfolding greatest_from
whole_at_12 = refl

whole_at_13 : fifths 13 (2 ^ 24) ≡ 2 ^ 24
unfolding greatest_from
whole_at_13 = refl

whole_light : (p : ℕ) → 11 ≤ p → p ≤ 13 → fifths p (2 ^ 24) ≡ 2 ^ 24
whole_light p low high = elim (of_three p low high) [ inl e ↦ rw e whole_at_11 | inr (inl e) ↦ rw e whole_at_12 | inr (inr e) ↦ rw e whole_at_13 ]

pub light_of-most : (p s : ℕ) → 11 ≤ p → p ≤ 13 → s < 2 ^ 16 → light_of p s ≤ 2 ^ 24
unfolding light_of
light_of-most p s low high small =
    subst (λ m. fifths p (fraction s) ≤ m) (whole_light p low high) (fifths-mono p (fraction s) (2 ^ 24) (omega arith))

pub power_of-mono : (m n : ℕ) → m ≤ n → power_of m ≤ power_of n
unfolding power_of
power_of-mono m n h = fifths-mono 13 (m * 2 ^ 24 / 4095) (n * 2 ^ 24 / 4095) (omega arith)

above_peak : 2 ^ 24 ≤ power_of 4096
unfolding power_of
above_peak = subst (λ m. m ≤ fifths 13 (4096 * 2 ^ 24 / 4095)) (whole_light 13 (omega arith) (omega arith)) (fifths-mono 13 (2 ^ 24) (4096 * 2 ^ 24 / 4095) (omega arith))

-- ---- the least sum above a code value

within-from : (m u : ℕ) → (max 1 m * 52370 + 47999) / 48000 ≤ u → max 1 m ≤ below_peak u
within-from m u h = omega arith

within-to : (m u : ℕ) → max 1 m ≤ below_peak u → (max 1 m * 52370 + 47999) / 48000 ≤ u
within-to m u h = omega arith

code-from : (y v : ℕ) → y < 4095 → max 1 (power_of (y + 1)) ≤ v → y < code_value v
unfolding power_of
code-from y zero small h = absurd (omega arith)
code-from y (suc v) small h =
    let within : IsTrue (is_code_within (suc v) (y + 1)) = le-leb (power_of (y + 1)) (suc v) (omega arith) in
    let least = (code_value-greatest v).greatest (y + 1) (omega arith) within in
    omega arith

code-to : (y v : ℕ) → y < code_value v → max 1 (power_of (y + 1)) ≤ v
unfolding power_of code_value
code-to y zero h = absurd (omega arith)
code-to y (suc v) h =
    let is = code_value-greatest v in
    let down = codes_downward (suc v) (y + 1) (code_value (suc v)) (omega arith) is.holds in
    let within : power_of (y + 1) ≤ suc v = leb-true _ _ down in
    omega arith

pub code-below : (v : ℕ) → code_value v < 4096
unfolding code_value
code-below zero = omega arith
code-below (suc v) = (code_value-greatest v).below

pub code_of-below : (u : ℕ) → code_of u < 4096
unfolding code_of
code_of-below u = code-below (below_peak u)

pub least_above-from : (y u : ℕ) → y < 4096 → u ≤ most_sum → least_above y ≤ u → y < code_of u
unfolding least_above code_of
least_above-from y u small most h =
    let within = within-from (power_of (y + 1)) u h in
    code-from y (below_peak u) (elim (cases_lt y 4095) [ inl less ↦ less | inr top ↦ absurd (past top within) ]) within
  where
    past : 4095 ≤ y → max 1 (power_of (y + 1)) ≤ below_peak u → ⊥
    past top within = omega (arith, above_peak, power_of-mono 4096 (y + 1) (omega arith))

pub least_above-to : (y u : ℕ) → y < code_of u → least_above y ≤ u
unfolding least_above code_of
least_above-to y u h = within-to (power_of (y + 1)) u (code-to y (below_peak u) h)

-- ---- from 2^16 on no two code values begin within 2^8 sums

rise_at :
    (g h r s : ℕ) → 1921493 ≤ g → g + 4097 ≤ h → r ≤ s → 4571631 ≤ s →
    g * g / 2 ^ 24 * r / 2 ^ 24 + 234 ≤ h * h / 2 ^ 24 * s / 2 ^ 24
rise_at g h r s far step root wide =
    let square : (g + 4097) * (g + 4097) ≤ h * h = mul-le (g + 4097) (g + 4097) h h step step in
    let more : g * g / 2 ^ 24 + 939 ≤ h * h / 2 ^ 24 = omega arith in
    product (g * g / 2 ^ 24) (h * h / 2 ^ 24) more
  where
    product : (a b : ℕ) → a + 939 ≤ b → a * r / 2 ^ 24 + 234 ≤ b * s / 2 ^ 24
    product a b more =
        let of_root : a * r ≤ a * s = mul-le a r a s (omega arith) root in
        let of_square : (a + 939) * s ≤ b * s = mul-le (a + 939) s b s more (omega arith) in
        omega arith

wide_root : (g : ℕ) → 1921493 ≤ g → 4571631 ≤ fifth_root (g ^ 3 * 2 ^ 48)
wide_root g far =
    let cube : 1921493 ^ 3 ≤ g ^ 3 = pow-le-pow_left far 3 in
    (fifth_root-greatest (g ^ 3 * 2 ^ 48)).greatest 4571631 (omega arith) (le-leb (4571631 ^ 5) (g ^ 3 * 2 ^ 48) (omega arith))

power_of-rise : (n : ℕ) → 469 ≤ n → power_of n + 234 ≤ power_of (n + 1)
unfolding power_of
power_of-rise n far =
    let g = n * 2 ^ 24 / 4095 in
    let h = (n + 1) * 2 ^ 24 / 4095 in
    let step : g + 4097 ≤ h = omega arith in
    let cubes : g ^ 3 ≤ h ^ 3 = pow-le-pow_left (let less : g ≤ h = omega arith in less) 3 in
    rise_at g h (fifth_root (g ^ 3 * 2 ^ 48)) (fifth_root (h ^ 3 * 2 ^ 48)) (omega arith) step
    (fifth_root-mono (g ^ 3 * 2 ^ 48) (h ^ 3 * 2 ^ 48) (omega arith)) (wide_root h (omega arith))

fits_at_peak : power_of 4096 ≤ 2 ^ 25
unfolding power_of greatest_from
fits_at_peak = lit≤ tt

near : power_of 469 ≤ 60067
unfolding power_of greatest_from
near = lit≤ tt

least_above-rise : (y : ℕ) → 2 ^ 16 < least_above y → least_above y + 255 ≤ least_above (y + 1)
unfolding least_above
least_above-rise y far =
    let high : 469 ≤ y + 1 = elim (cases_lt (y + 1) 469) [ inl less ↦ absurd (low less) | inr more ↦ more ] in
    omega (arith, power_of-rise (y + 1) high)
  where
    low : y + 1 < 469 → ⊥
    low less = omega (arith, near, power_of-mono (y + 1) 469 (omega arith))

pub code_of-mono : (a b : ℕ) → a ≤ b → b ≤ most_sum → code_of a ≤ code_of b
code_of-mono a b less most =
    elim (cases_lt (code_of b) (code_of a)) [
      | inl above ↦ absurd (omega (arith, least_above-from (code_of b) b (code_of-below b) most (omega (arith, least_above-to (code_of b) a above))))
      | inr within ↦ within
    ]

-- sums of one entry have at most two code values
pub code_of-near : (a b : ℕ) → 2 ^ 16 ≤ a → b < a + 2 ^ 8 → a ≤ most_sum → code_of b ≤ code_of a + 1
code_of-near a b far near most =
    elim (cases_lt (code_of a + 1) (code_of b)) [
      | inl above ↦ absurd (past above)
      | inr within ↦ within
    ]
  where
    past : code_of a + 1 < code_of b → ⊥
    past above =
        let reached = least_above-to (code_of a + 1) b above in
        elim (cases_lt a (least_above (code_of a))) [
          | inl after ↦ omega (arith, least_above-rise (code_of a) (omega arith))
          | inr before ↦ omega (arith, least_above-from (code_of a) a (code_of-below a) most before)
        ]

-- ---- the thresholds, searched

pub power_of-small : (n : ℕ) → n ≤ 4096 → power_of n ≤ 2 ^ 25
power_of-small n h = omega (arith, fits_at_peak, power_of-mono n 4096 h)

entry_at : (above : List ℕ) (k d : ℕ) → IsTable least_above 4096 above → k < 4096 → get_or above k d ≡ least_above k
entry_at above k d is inside = get_or_default above k d 0 (let h : k < length above = omega (arith, is.size) in h) ∙ is.entry k inside

pub thresholds-partitioned : (above : List ℕ) (sum : ℕ) → IsTable least_above 4096 above → sum ≤ most_sum → IsPartitionedBy (λ y. leb y sum) above
thresholds-partitioned above sum is most = λ i j d less inside reached.
    let at : get_or above j d ≡ least_above j = entry_at above j d is (omega (arith, is.size)) in
    let before : get_or above i d ≡ least_above i = entry_at above i d is (omega (arith, is.size)) in
    let high = least_above-from j sum (omega (arith, is.size)) most (omega (arith, leb-true (get_or above j d) sum reached)) in
    le-leb (get_or above i d) sum (omega (arith, least_above-to i sum (omega arith)))

pub code_of-point :
    (above : List ℕ) (sum r : ℕ) → IsTable least_above 4096 above → sum ≤ most_sum → r ≤ length above →
    IsPartitionPoint (λ y. leb y sum ≡ true) (λ y. leb y sum ≡ false) above r → r ≡ code_of sum
code_of-point above sum r is most within point = elim (cases_order r (code_of sum)) [
  | inl same ↦ same
  | inr (inl less) ↦ absurd (too_low less)
  | inr (inr more) ↦ absurd (too_high more)
]
  where
    too_low : r < code_of sum → ⊥
    too_low less =
        let inside : r < 4096 = omega (arith, code_of-below sum) in
        let unreached : sum < get_or above r 0 = leb-false _ _ (point.1 r 0 (omega arith) (omega (arith, is.size))) in
        omega (arith, is.entry r inside, least_above-to r sum less)

    too_high : code_of sum < r → ⊥
    too_high more =
        let inside : code_of sum < 4096 = code_of-below sum in
        let reached : get_or above (code_of sum) 0 ≤ sum = leb-true _ _ (point.0 (code_of sum) 0 (omega arith) more) in
        omega (arith, least_above-from (code_of sum) sum inside most (omega (arith, is.entry (code_of sum) inside)))

-- ---- entries of the table of code values

pub entry_start-fine : (at : ℕ) → at < 2 ^ 16 → entry_start at ≡ at
unfolding entry_start
entry_start-fine at h = cond-true _ _ _ (lt-ltb at (2 ^ 16) h)

pub entry_start-coarse : (at : ℕ) → 2 ^ 16 ≤ at → entry_start at ≡ (at - 2 ^ 16) * 2 ^ 8
unfolding entry_start
entry_start-coarse at h = cond-false _ _ _ (le-ltb at (2 ^ 16) h)

-- ---- tables that a chain made

pub IsTable-list_of : (f : ℕ → ℕ) (n : ℕ) (xs : List ℕ) → xs ≡ list_of f n → IsTable f n xs
unfolding list_of
IsTable-list_of f n xs e = rw e (record {
  size = length-map-range_with_len f 0 n;
  entry = λ at inside. get_or-map-range_with_len f 0 n at at 0 inside (omega arith);
})
