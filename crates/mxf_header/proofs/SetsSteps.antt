-- The sets of a file, byte by byte of the table.
use Rattle.std.proofs.Common.{◌≡◌, ◌∙◌, ℕ, ◌+◌, ◌<◌, Bool, true, false, cond, List, [], ◌∷◌, ◌++◌, filter, take, length, get_or, sym, ap, append-nil, append_assoc, arith}
use Rattle.std.specs.List.{enumerate_from, flat_map}
use Rattle.std.proofs.lemmas.List.{take_more, length-take-le}
use Rattle.std.proofs.lemmas.List.Elements.{filter-append}
use Rattle.std.proofs.lemmas.Grind.{flat_map-append}
use Rattle.track_terms.specs.Facts.{PlainFacts}
use Rattle.track_terms.specs.Kinds.{has_set}
use Rattle.track_terms.specs.Sets.{set_of}

enumerate_from-append : (n : ℕ) (xs ys : List ℕ) → enumerate_from n (xs ++ ys) ≡ enumerate_from n xs ++ enumerate_from (n + length xs) ys
enumerate_from-append n [] ys = ap (λ k. enumerate_from k ys) (omega arith)
enumerate_from-append n (x ∷ xs) ys =
    ap (λ rest. (n, x) ∷ rest)
    (enumerate_from-append (n + 1) xs ys ∙ ap (λ k. enumerate_from (n + 1) xs ++ enumerate_from k ys) (omega arith))

module _ (facts : PlainFacts) (bytes : List ℕ) (i : ℕ) (there : i < length bytes) where
  -- the sets of the first bytes of the table
  abbrev pub sets_in : List ℕ → List ℕ
  sets_in bytes = flat_map (set_of facts) (filter (λ (k, byte). has_set facts.kind k) (enumerate_from 1 bytes))

  one : Bool → List ℕ
  one has = flat_map (set_of facts) (cond has ((i + 1, get_or bytes i 0) ∷ []) [])

  more : sets_in (take (i + 1) bytes) ≡ sets_in (take i bytes) ++ one (has_set facts.kind (i + 1))
  unfolding one
  more =
      let long : length (take i bytes) ≡ i = length-take-le i bytes (omega (arith, there)) in
      let number : 1 + length (take i bytes) ≡ i + 1 = omega (arith, long) in
      let last = get_or bytes i 0 ∷ [] in
      ap sets_in (take_more bytes i 0 there)
      ∙ ap (λ es. flat_map (set_of facts) (filter (λ (k, byte). has_set facts.kind k) es)) (enumerate_from-append 1 (take i bytes) last)
      ∙ ap (λ k. flat_map (set_of facts) (filter (λ (k, byte). has_set facts.kind k) (enumerate_from 1 (take i bytes) ++ enumerate_from k last))) number
      ∙ ap (flat_map (set_of facts)) (filter-append (λ (k, byte). has_set facts.kind k) (enumerate_from 1 (take i bytes)) (enumerate_from (i + 1) last))
      ∙ flat_map-append (set_of facts) _ _

  pub sets_in-kept : (o out out' : List ℕ) → has_set facts.kind (i + 1) ≡ true → out ≡ o ++ sets_in (take i bytes)
      → out' ≡ out ++ set_of facts (i + 1, get_or bytes i 0) → out' ≡ o ++ sets_in (take (i + 1) bytes)
  unfolding one
  sets_in-kept o out out' has before put =
      put
      ∙ ap (λ out. out ++ set_of facts (i + 1, get_or bytes i 0)) before
      ∙ append_assoc o (sets_in (take i bytes)) (set_of facts (i + 1, get_or bytes i 0))
      ∙ ap (λ s. o ++ s)
      (ap (λ s. sets_in (take i bytes) ++ s) (sym (append-nil (set_of facts (i + 1, get_or bytes i 0))))
      ∙ sym (more ∙ ap (λ b. sets_in (take i bytes) ++ one b) has))

  pub sets_in-passed : has_set facts.kind (i + 1) ≡ false → sets_in (take (i + 1) bytes) ≡ sets_in (take i bytes)
  unfolding one
  sets_in-passed has = more ∙ ap (λ b. sets_in (take i bytes) ++ one b) has ∙ append-nil (sets_in (take i bytes))
