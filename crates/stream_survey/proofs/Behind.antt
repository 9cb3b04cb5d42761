-- What is counted so far, in front of what is counted from here on.
use Rattle.std.proofs.Common.{◌≡◌, ◌∙◌, ℕ, ◌+◌, refl, ap, arith, List, ◌∷◌, sum_by, Result, Ok, Err}
use Rattle.std.proofs.lemmas.List.Sums.{sum_by-cons}
use Rattle.codec_terms.specs.declared.packet.PacketBand.{PacketBand}
use Rattle.codec_terms.specs.declared.reading.ReadRefusal.{ReadRefusal}
use Rattle.codec_terms.specs.Reading.{on_ok}
use Rattle.codec_terms.specs.StreamReading.{included_in}
use Rattle.stream_survey.specs.declared.counts.Counted.{Counted}
use Rattle.stream_survey.specs.Counts.{included_blocks, counted, counted_parts}

abbrev pub behind : ℕ → Result Counted ReadRefusal → Result Counted ReadRefusal
behind n rest = on_ok rest (λ (c : Counted). Ok (record { blocks = n + c.blocks; next = c.next }))

pub behind-none : (rest : Result Counted ReadRefusal) → rest ≡ behind 0 rest
behind-none (Ok c) = let same : c.blocks ≡ 0 + c.blocks = omega arith in ap (λ (k : ℕ). Ok (record { blocks = k; next = c.next })) same
behind-none (Err e) = refl

moved : (n m : ℕ) (rest : Result Counted ReadRefusal) → behind n (behind m rest) ≡ behind (n + m) rest
moved n m (Ok c) =
    let same : n + (m + c.blocks) ≡ n + m + c.blocks = omega arith in
    ap (λ (k : ℕ). Ok (record { blocks = k; next = c.next })) same
moved n m (Err e) = refl

module _ (whole before : Result Counted ReadRefusal) (n : ℕ) (so_far : whole ≡ behind n before) where
  pub one_more : (m after : ℕ) (rest : Result Counted ReadRefusal) → before ≡ behind m rest → after ≡ n + m → whole ≡ behind after rest
  one_more m after rest h same = so_far ∙ ap (behind n) h ∙ moved n m rest ∙ rw same refl

  pub all_read : (p : ℕ) → before ≡ Ok (record { blocks = 0; next = p }) → whole ≡ Ok (record { blocks = n; next = p })
  all_read p h =
      let same : n + 0 ≡ n = omega arith in
      so_far ∙ ap (behind n) h ∙ ap (λ (k : ℕ). Ok (record { blocks = k; next = p })) same

  pub refused_there : (refusal : ReadRefusal) → before ≡ Err refusal → whole ≡ Err refusal
  refused_there refusal h = so_far ∙ ap (behind n) h

pub counted-front : (bands : List PacketBand) (rest : Result (List (List PacketBand) × ℕ) ReadRefusal)
    → counted (on_ok rest (λ r. Ok (bands ∷ r.0, r.1))) ≡ behind (sum_by included_in bands) (counted rest)
counted-front bands (Ok r) = ap (λ (k : ℕ). Ok (record { blocks = k; next = r.1 })) (sum_by-cons (λ (bands : List PacketBand). sum_by included_in bands) bands r.0)
counted-front bands (Err e) = refl

pub counted_parts-front : (part : List (List PacketBand)) (rest : Result (List (List (List PacketBand)) × ℕ) ReadRefusal)
    → counted_parts (on_ok rest (λ r. Ok (part ∷ r.0, r.1))) ≡ behind (included_blocks part) (counted_parts rest)
counted_parts-front part (Ok r) = ap (λ (k : ℕ). Ok (record { blocks = k; next = r.1 })) (sum_by-cons included_blocks part r.0)
counted_parts-front part (Err e) = refl

-- a refusal isn't counted
pub counted-refused : (r : Result (List (List PacketBand) × ℕ) ReadRefusal) (e : ReadRefusal) → counted r ≡ Err e → r ≡ Err e
counted-refused (Ok r) e h = cc
counted-refused (Err e') e h = let same : e' ≡ e = cc in ap Err same

pub counted_parts-refused : (r : Result (List (List (List PacketBand)) × ℕ) ReadRefusal) (e : ReadRefusal) → counted_parts r ≡ Err e → r ≡ Err e
counted_parts-refused (Ok r) e h = cc
counted_parts-refused (Err e') e h = let same : e' ≡ e = cc in ap Err same
