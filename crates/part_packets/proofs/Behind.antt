-- What is read so far, in front of what is read from here on.
use Rattle.std.proofs.Common.{◌≡◌, ◌∙◌, ℕ, refl, sym, ap, List, [], ◌∷◌, ◌++◌, append_assoc, append-nil, Result, Ok, Err}
use Rattle.codec_terms.specs.declared.reading.ReadRefusal.{ReadRefusal}
use Rattle.codec_terms.specs.Reading.{on_ok}
use Rattle.part_packets.specs.Refused.{IsRefused}

abbrev pub Reads : Type 0 → Type 0
Reads A = Result (List A × ℕ) ReadRefusal

abbrev pub behind : {A : Type 0} → List A → Reads A → Reads A
behind items rest = on_ok rest (λ r. Ok (items ++ r.0, r.1))

abbrev pub in_front : {A : Type 0} → A → Reads A → Reads A
in_front item rest = on_ok rest (λ r. Ok (item ∷ r.0, r.1))

pub behind-none : {A : Type 0} (rest : Reads A) → rest ≡ behind [] rest
behind-none (Ok r) = refl
behind-none (Err refusal) = refl

moved : {A : Type 0} (items : List A) (item : A) (rest : Reads A) → behind items (in_front item rest) ≡ behind (items ++ item ∷ []) rest
moved items item (Ok r) = ap (λ xs. Ok (xs, r.1)) (sym (append_assoc items (item ∷ []) r.0))
moved items item (Err refusal) = refl

module _ {A : Type 0} (whole before : Reads A) (items : List A) (so_far : whole ≡ behind items before) where
  pub one_more : (item : A) (after : List A) (rest : Reads A) → before ≡ in_front item rest → after ≡ items ++ item ∷ [] → whole ≡ behind after rest
  one_more item after rest h same = so_far ∙ ap (λ r. behind items r) h ∙ moved items item rest ∙ rw same refl

  pub all_read : (p : ℕ) → before ≡ Ok ([], p) → whole ≡ Ok (items, p)
  all_read p h = so_far ∙ ap (λ r. behind items r) h ∙ ap (λ xs. Ok (xs, p)) (append-nil items)

  pub refused_there : (refusal : ReadRefusal) → IsRefused before refusal → IsRefused whole refusal
  refused_there refusal h = λ other. so_far ∙ ap (λ r. behind items r) (h other)
