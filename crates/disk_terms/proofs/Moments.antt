-- How histories go on.
use Rattle.std.proofs.Common.{◌≡◌, List, [], ◌∷◌, ◌++◌, length, drop, ◌⊎◌, inl, inr, sym, ◌∙◌, ap, subst, refl, append_assoc}
use Rattle.std.specs.Prelude.{All, ⊤}
use Rattle.std.proofs.lemmas.List.{append_cancel_right, drop_at}
use Rattle.std.proofs.lemmas.List.Elements.{All-nil, All-cons, All-head, All-append, All-drop, All-weaker}
use Rattle.disk_terms.specs.Disk.{Disk, History, HasPassed, IsChanged, IsSince, Trail, disks}

-- nothing has passed yet
pub HasPassed-same : {File : Type 0} (P : Disk File → Type 0) (now : History File) → HasPassed P now now
HasPassed-same P now = record { further = []; joined = refl; each = All-nil P }

-- one disk more
pub HasPassed-changed : {File : Type 0} (P : Disk File → Type 0) (file : File) (trail : Trail) (before now : History File)
    → IsChanged file trail before now → P now.newest → HasPassed P before now
HasPassed-changed P file trail before now change has = record {
  further = now.newest ∷ [];
  joined = ap (λ earlier. now.newest ∷ earlier) change.earlier;
  each = All-cons P now.newest [] has (All-nil P);
}

-- one run behind another
pub HasPassed-further : {File : Type 0} (P : Disk File → Type 0) (before middle now : History File)
    → HasPassed P before middle → HasPassed P middle now → HasPassed P before now
HasPassed-further P before middle now first then = record {
  further = then.further ++ first.further;
  joined = then.joined ∙ (ap (λ earlier. then.further ++ earlier) first.joined ∙ sym (append_assoc then.further first.further (disks before)));
  each = All-append P then.further first.further then.each first.each;
}

pub HasPassed-weaker : {File : Type 0} (P Q : Disk File → Type 0) (before now : History File) → ((disk : Disk File) → P disk → Q disk)
    → HasPassed P before now → HasPassed Q before now
HasPassed-weaker P Q before now weaker passed = record {
  further = passed.further;
  joined = passed.joined;
  each = All-weaker P Q weaker passed.further passed.each;
}

pub IsSince-passed : {File : Type 0} (P : Disk File → Type 0) (before now : History File) → HasPassed P before now → IsSince before now
IsSince-passed P before now passed = HasPassed-weaker P (λ _. ⊤) before now (λ _ _. tt) passed

newest_of : {File : Type 0} (P : Disk File → Type 0) (before now : History File) (further : List (Disk File)) → disks now ≡ further ++ disks before
    → All P further → P before.newest → P now.newest
newest_of P before now [] joined each first = let same : before.newest ≡ now.newest = cc in subst P same first
newest_of P before now (disk ∷ further) joined each first =
    let same : disk ≡ now.newest = cc in subst P same (All-head P disk further each)

-- what holds of each further disk and of the first holds of the newest
pub HasPassed-newest : {File : Type 0} (P : Disk File → Type 0) (before now : History File) → HasPassed P before now → P before.newest → P now.newest
HasPassed-newest P before now passed first = newest_of P before now passed.further passed.joined passed.each first

-- what holds of each disk up to now held of each up to a moment between
pub HasPassed-until : {File : Type 0} (P : Disk File → Type 0) (before moment now : History File) → HasPassed P before now
    → IsSince before moment → IsSince moment now → HasPassed P before moment
HasPassed-until P before moment now passed begun ended =
    let same : passed.further ≡ ended.further ++ begun.further = append_cancel_right passed.further (ended.further ++ begun.further) (disks before)
    (sym passed.joined ∙ (ended.joined ∙ (ap (λ earlier. ended.further ++ earlier) begun.joined
    ∙ sym (append_assoc ended.further begun.further (disks before))))) in
    let rest : drop (length ended.further) passed.further ≡ begun.further =
    ap (drop (length ended.further)) same ∙ drop_at ended.further begun.further (length ended.further) refl in
    record {
      further = begun.further;
      joined = begun.joined;
      each = subst (All P) rest (All-drop P (length ended.further) passed.further passed.each);
    }

-- two ends of one list: one is an end of the other
ends_of : {A : Type 0} (us vs xs ys : List A) → us ++ xs ≡ vs ++ ys → ((ws : List A) × (xs ≡ ws ++ ys)) ⊎ ((ws : List A) × (ys ≡ ws ++ xs))
ends_of [] vs xs ys same = inl (vs, same)
ends_of (u ∷ us) [] xs ys same = inr (u ∷ us, sym same)
ends_of (u ∷ us) (v ∷ vs) xs ys same = ends_of us vs xs ys (cc)

since : {File : Type 0} (before now : History File) → (further : List (Disk File)) × (disks now ≡ further ++ disks before) → IsSince before now
since before now h = record { further = h.0; joined = h.1; each = λ _ _ _. tt }

-- of two moments up to now one is since the other
pub IsSince-either : {File : Type 0} (one other now : History File) → IsSince one now → IsSince other now → IsSince other one ⊎ IsSince one other
IsSince-either one other now first second =
    elim (ends_of first.further second.further (disks one) (disks other) (sym first.joined ∙ second.joined)) [
      | inl h ↦ inl (since other one h)
      | inr h ↦ inr (since one other h)
    ]
