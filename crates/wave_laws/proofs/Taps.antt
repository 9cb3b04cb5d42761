-- How great odd samples become by steps 1 to 3 together, of which the parts partly cancel.
use Rattle.std.proofs.Common.{◌≡◌, ℕ, zero, suc, ◌+◌, ◌*◌, ◌-◌, ◌%◌, ◌<◌, ◌≤◌, min, refl, sym, ap, subst, ◌∙◌, arith, List, length, All, ℤ, pos, negsuc, neg_ℤ, ◌+ℤ◌, ◌-ℤ◌, ◌*ℤ◌, unsigned_abs}
use Rattle.std.specs.Int.{int_shr}
use Rattle.std.proofs.lemmas.Int.{ints}
use Rattle.std.proofs.lemmas.Bool.{cases_lt}
use Rattle.std.proofs.lemmas.List.Elements.{All-from_get_or}
use Rattle.std.proofs.lemmas.List.FromFn.{get_or-map-range_with_len}
use Rattle.std.proofs.Math.Logic.{⊎_elim}
use Rattle.codec_terms.specs.Wavelet.{sample, scaled}
use Rattle.wave_laws.specs.Ranges.{IsWithin, IsAtMost, AreHalvesWithin}
use Rattle.wave_laws.specs.Rows.{step_factor, lifted_by, lifted_odd, lifted_even, odd_once, even_once, odd_twice}
use Rattle.wave_laws.proofs.Halves.{length-lifted_odd, length-lifted_even}
use Rattle.wave_laws.proofs.Bounds.{sample_is}

record Rest (v : ℤ) : Type 0 where
  pub rest : ℕ
  pub small : rest < 65536
  pub is : v ≡ pos 65536 *ℤ int_shr v 16 +ℤ pos rest

rest_of : (v : ℤ) → Rest v
rest_of (pos n) = record { rest = n % 65536; small = omega arith; is = omega (arith, ints) }
rest_of (negsuc n) = record { rest = 65535 - n % 65536; small = omega arith; is = omega (arith, ints) }

-- a number within m, from -m on
record Near (m : ℕ) (v : ℤ) : Type 0 where
  pub place : ℕ
  pub small : place ≤ 2 * m
  pub is : v +ℤ pos m ≡ pos place

near : (m : ℕ) (v : ℤ) → IsWithin m v → Near m v
near m (pos n) h = record { place = m + n; small = omega arith; is = omega (arith, ints) }
near m (negsuc n) h = record { place = m - suc n; small = omega arith; is = omega (arith, ints) }

-- the sum of the samples, each times its part in the three steps, and of what is rounded off
whole_sum : (ez ea eb ef op oc on p c n a b o : ℤ) (r1 r2 r3 r4 r5 r6 : ℕ)
    → neg_ℤ (pos 103949) *ℤ (ea +ℤ ez) ≡ pos 65536 *ℤ (p -ℤ op) +ℤ pos r1
    → neg_ℤ (pos 103949) *ℤ (ea +ℤ eb) ≡ pos 65536 *ℤ (c -ℤ oc) +ℤ pos r2
    → neg_ℤ (pos 103949) *ℤ (eb +ℤ ef) ≡ pos 65536 *ℤ (n -ℤ on) +ℤ pos r3
    → neg_ℤ (pos 3472) *ℤ (p +ℤ c) ≡ pos 65536 *ℤ (a -ℤ ea) +ℤ pos r4
    → neg_ℤ (pos 3472) *ℤ (c +ℤ n) ≡ pos 65536 *ℤ (b -ℤ eb) +ℤ pos r5
    → pos 57862 *ℤ (a +ℤ b) ≡ pos 65536 *ℤ (o -ℤ c) +ℤ pos r6
    → pos 281474976710656 *ℤ o +ℤ pos 3893173568 *ℤ pos r2 +ℤ pos 135293073422944 *ℤ (ea +ℤ eb) +ℤ pos 3792044032 *ℤ pos (r4 + r5) +ℤ pos 4294967296 *ℤ pos r6
    ≡ pos 20883028115936 *ℤ (ez +ℤ ef) +ℤ pos 255143022952448 *ℤ oc -ℤ pos 13165976879104 *ℤ (op +ℤ on) +ℤ pos 200896864 *ℤ pos (r1 + r3)
whole_sum ez ea eb ef op oc on p c n a b o r1 r2 r3 r4 r5 r6 e1 e2 e3 e4 e5 e6 = omega (arith, ints)

bound : (m : ℕ) (ez ea eb ef op oc on o : ℤ) (r1 r2 r3 r4 r5 r6 : ℕ) → 4096 ≤ m
    → Near m ez → Near m ea → Near m eb → Near m ef → Near m op → Near m oc → Near m on
    → r1 < 65536 → r2 < 65536 → r3 < 65536 → r4 < 65536 → r5 < 65536 → r6 < 65536
    → pos 281474976710656 *ℤ o +ℤ pos 3893173568 *ℤ pos r2 +ℤ pos 135293073422944 *ℤ (ea +ℤ eb) +ℤ pos 3792044032 *ℤ pos (r4 + r5) +ℤ pos 4294967296 *ℤ pos r6
    ≡ pos 20883028115936 *ℤ (ez +ℤ ef) +ℤ pos 255143022952448 *ℤ oc -ℤ pos 13165976879104 *ℤ (op +ℤ on) +ℤ pos 200896864 *ℤ pos (r1 + r3)
    → 1000 * unsigned_abs o ≤ 2111 * m
bound m ez ea eb ef op oc on (pos o) r1 r2 r3 r4 r5 r6 big nez nea neb nef nop noc non s1 s2 s3 s4 s5 s6 e = omega (arith, ints)
bound m ez ea eb ef op oc on (negsuc o) r1 r2 r3 r4 r5 r6 big nez nea neb nef nop noc non s1 s2 s3 s4 s5 s6 e = omega (arith, ints)

-- ---- a step, with what it rounds off

moved : (v q own : ℤ) (r : ℕ) → v ≡ pos 65536 *ℤ q +ℤ pos r → v ≡ pos 65536 *ℤ (own +ℤ q -ℤ own) +ℤ pos r
moved v q own r e = omega (arith, ints)

record Rounds (k own before behind v : ℤ) : Type 0 where
  pub rest : ℕ
  pub small : rest < 65536
  pub is : k *ℤ (before +ℤ behind) ≡ pos 65536 *ℤ (v -ℤ own) +ℤ pos rest

rounds : (k own before behind v : ℤ) → v ≡ lifted_by k own before behind → Rounds k own before behind v
rounds k own before behind v e =
    let r = rest_of (k *ℤ (before +ℤ behind)) in
    subst (Rounds k own before behind) (sym e) (record { rest = r.rest; small = r.small; is = moved (k *ℤ (before +ℤ behind)) (int_shr (k *ℤ (before +ℤ behind)) 16) own r.rest r.is })

-- an odd sample after step 1, of which this even one is a neighbour
pub record Side (m : ℕ) (own v : ℤ) : Type 0 where
  pub odd : ℤ
  pub other : ℤ
  pub odd_small : IsWithin m odd
  pub other_small : IsWithin m other
  pub is : v ≡ lifted_by (step_factor 1) odd own other

pub third_together : (m : ℕ) (ea eb oc p c n a b o : ℤ) → 4096 ≤ m → IsWithin m ea → IsWithin m eb → IsWithin m oc → Side m ea p → Side m eb n
    → c ≡ lifted_by (step_factor 1) oc ea eb → a ≡ lifted_by (step_factor 2) ea p c → b ≡ lifted_by (step_factor 2) eb c n → o ≡ lifted_by (step_factor 3) c a b
    → IsAtMost 2111 m o
third_together m ea eb oc p c n a b o big ha hb hc sp sn ec ea' eb' eo =
    let r1 = rounds (step_factor 1) sp.odd ea sp.other p sp.is in
    let r2 = rounds (step_factor 1) oc ea eb c ec in
    let r3 = rounds (step_factor 1) sn.odd eb sn.other n sn.is in
    let r4 = rounds (step_factor 2) ea p c a ea' in
    let r5 = rounds (step_factor 2) eb c n b eb' in
    let r6 = rounds (step_factor 3) c a b o eo in
    bound m sp.other ea eb sn.other sp.odd oc sn.odd o r1.rest r2.rest r3.rest r4.rest r5.rest r6.rest big
    (near m sp.other sp.other_small) (near m ea ha) (near m eb hb) (near m sn.other sn.other_small) (near m sp.odd sp.odd_small) (near m oc hc) (near m sn.odd sn.odd_small)
    r1.small r2.small r3.small r4.small r5.small r6.small
    (whole_sum sp.other ea eb sn.other sp.odd oc sn.odd p c n a b o r1.rest r2.rest r3.rest r4.rest r5.rest r6.rest r1.is r2.is r3.is r4.is r5.is r6.is)

-- ---- a line

pub lifted_by-turned : (k own before behind : ℤ) → lifted_by k own before behind ≡ lifted_by k own behind before
lifted_by-turned k own before behind =
    let same : before +ℤ behind ≡ behind +ℤ before = omega (arith, ints) in
    ap (λ (v : ℤ). own +ℤ scaled k v) same

sample-lifted_odd : (k : ℤ) (even odd : List ℤ) (i : ℕ) → i < length odd
    → sample (lifted_odd k even odd) i ≡ lifted_by k (sample odd i) (sample even i) (sample even (min (suc i) (length even - 1)))
unfolding lifted_odd
sample-lifted_odd k even odd i inside =
    get_or-map-range_with_len (λ i. lifted_by k (sample odd i) (sample even i) (sample even (min (suc i) (length even - 1)))) 0 (length odd) i i (pos 0) inside (omega arith)

sample-lifted_even : (k : ℤ) (even odd : List ℤ) (i : ℕ) → i < length even
    → sample (lifted_even k even odd) i ≡ lifted_by k (sample even i) (sample odd (i - 1)) (sample odd (min i (length odd - 1)))
unfolding lifted_even
sample-lifted_even k even odd i inside =
    get_or-map-range_with_len (λ i. lifted_by k (sample even i) (sample odd (i - 1)) (sample odd (min i (length odd - 1)))) 0 (length even) i i (pos 0) inside (omega arith)

within : (m : ℕ) (line : List ℤ) (i : ℕ) → All (IsWithin m) line → IsWithin m (sample line i)
within m line i each = sample_is (IsWithin m) line i (omega arith) each

once_at : (m : ℕ) (even odd : List ℤ) (i j : ℕ) → AreHalvesWithin m even odd → i < length odd → min (suc i) (length even - 1) ≡ j
    → sample (odd_once even odd) i ≡ lifted_by (step_factor 1) (sample odd i) (sample even i) (sample even j)
once_at m even odd i j h inside e =
    sample-lifted_odd (step_factor 1) even odd i inside ∙ ap (λ (x : ℕ). lifted_by (step_factor 1) (sample odd i) (sample even i) (sample even x)) e

-- odd sample i after step 1, as a neighbour of the even sample before it and of the one behind it
side_behind : (m : ℕ) (even odd : List ℤ) (i : ℕ) → AreHalvesWithin m even odd → i < length odd → Side m (sample even i) (sample (odd_once even odd) i)
side_behind m even odd i h inside =
    let j : ℕ = min (suc i) (length even - 1) in
    record {
      odd = sample odd i;
      other = sample even j;
      odd_small = within m odd i h.odds;
      other_small = within m even j h.evens;
      is = once_at m even odd i j h inside refl;
    }

side_before : (m : ℕ) (even odd : List ℤ) (i j : ℕ) → AreHalvesWithin m even odd → i < length odd → min (suc i) (length even - 1) ≡ j → Side m (sample even j) (sample (odd_once even odd) i)
side_before m even odd i j h inside e = record {
  odd = sample odd i;
  other = sample even i;
  odd_small = within m odd i h.odds;
  other_small = within m even i h.evens;
  is = once_at m even odd i j h inside e ∙ lifted_by-turned (step_factor 1) (sample odd i) (sample even i) (sample even j);
}

before_suc : (i : ℕ) → i ≡ suc i - 1
before_suc i = omega arith

-- the odd sample before even sample i
left_side : (m : ℕ) (even odd : List ℤ) (i : ℕ) → AreHalvesWithin m even odd → i < length odd → Side m (sample even i) (sample (odd_once even odd) (i - 1))
left_side m even odd zero h inside = side_behind m even odd 0 h inside
left_side m even odd (suc i) h inside =
    subst (λ (k : ℕ). Side m (sample even (suc i)) (sample (odd_once even odd) k)) (before_suc i) (side_before m even odd i (suc i) h (omega arith) (omega (arith, h.fewer)))

-- even sample j behind odd sample i, after step 2, and the odd one behind it
record Behind (m : ℕ) (even odd : List ℤ) (i j : ℕ) : Type 0 where
  pub next : ℤ
  pub side : Side m (sample even j) next
  pub is : sample (even_once even odd) j ≡ lifted_by (step_factor 2) (sample even j) (sample (odd_once even odd) i) next

behind_inner : (m : ℕ) (even odd : List ℤ) (i : ℕ) → AreHalvesWithin m even odd → i < length odd → suc i < length even → Behind m even odd i (suc i)
behind_inner m even odd i h inside more =
    let once = odd_once even odd in
    let long = length-lifted_odd (step_factor 1) even odd in
    let k : ℕ = min (suc i) (length once - 1) in
    record {
      next = sample once k;
      side = ⊎_elim
          (λ further. subst (λ (x : ℕ). Side m (sample even (suc i)) (sample once x)) (let e : suc i ≡ k = omega arith in e) (side_behind m even odd (suc i) h further))
          (λ last. subst (λ (x : ℕ). Side m (sample even (suc i)) (sample once x)) (let e : i ≡ k = omega arith in e) (side_before m even odd i (suc i) h inside (omega arith)))
          (cases_lt (suc i) (length odd));
      is = sample-lifted_even (step_factor 2) even once (suc i) more
          ∙ ap (λ (x : ℕ). lifted_by (step_factor 2) (sample even (suc i)) (sample once x) (sample once k)) (sym (before_suc i));
    }

behind_last : (m : ℕ) (even odd : List ℤ) (i : ℕ) → AreHalvesWithin m even odd → i < length odd → length even ≤ suc i → Behind m even odd i i
behind_last m even odd i h inside last =
    let once = odd_once even odd in
    let long = length-lifted_odd (step_factor 1) even odd in
    let own : min i (length once - 1) ≡ i = omega arith in
    record {
      next = sample once (i - 1);
      side = left_side m even odd i h inside;
      is = sample-lifted_even (step_factor 2) even once i (omega (arith, h.fewer))
          ∙ (ap (λ (x : ℕ). lifted_by (step_factor 2) (sample even i) (sample once (i - 1)) (sample once x)) own
          ∙ lifted_by-turned (step_factor 2) (sample even i) (sample once (i - 1)) (sample once i));
    }

third_of : (m : ℕ) (even odd : List ℤ) (i j : ℕ) → 4096 ≤ m → AreHalvesWithin m even odd → i < length odd → min (suc i) (length even - 1) ≡ j → Behind m even odd i j → IsAtMost 2111 m (sample (odd_twice even odd) i)
third_of m even odd i j big h inside place b =
    let once = odd_once even odd in
    let evens = even_once even odd in
    let long = length-lifted_odd (step_factor 1) even odd in
    let wide = length-lifted_even (step_factor 2) even once in
    let own : min i (length once - 1) ≡ i = omega arith in
    let there : min (suc i) (length evens - 1) ≡ j = omega arith in
    third_together m (sample even i) (sample even j) (sample odd i) (sample once (i - 1)) (sample once i) b.next (sample evens i) (sample evens j) (sample (odd_twice even odd) i) big
    (within m even i h.evens) (within m even j h.evens) (within m odd i h.odds) (left_side m even odd i h inside) b.side
    (once_at m even odd i j h inside place)
    (sample-lifted_even (step_factor 2) even once i (omega (arith, h.fewer)) ∙ ap (λ (x : ℕ). lifted_by (step_factor 2) (sample even i) (sample once (i - 1)) (sample once x)) own)
    b.is
    (sample-lifted_odd (step_factor 3) evens once i (omega arith) ∙ ap (λ (x : ℕ). lifted_by (step_factor 3) (sample once i) (sample evens i) (sample evens x)) there)

third_at : (m : ℕ) (even odd : List ℤ) (i : ℕ) → 4096 ≤ m → AreHalvesWithin m even odd → i < length odd → IsAtMost 2111 m (sample (odd_twice even odd) i)
third_at m even odd i big h inside =
    ⊎_elim
    (λ more. third_of m even odd i (suc i) big h inside (omega arith) (behind_inner m even odd i h inside more))
    (λ last. third_of m even odd i i big h inside (omega (arith, h.fewer)) (behind_last m even odd i h inside last))
    (cases_lt (suc i) (length even))

pub All-odd_twice : (m : ℕ) (even odd : List ℤ) → 4096 ≤ m → AreHalvesWithin m even odd → All (IsAtMost 2111 m) (odd_twice even odd)
All-odd_twice m even odd big h =
    All-from_get_or (IsAtMost 2111 m) (odd_twice even odd) (pos 0)
    (λ i inside. third_at m even odd i big h (omega (arith, length-lifted_odd (step_factor 3) (even_once even odd) (odd_once even odd), length-lifted_odd (step_factor 1) even odd)))
