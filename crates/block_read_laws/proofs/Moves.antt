-- The encoder and the reader side by side. A step of both keeps what relates them, as long as what the encoder has
-- told behind it is a front of all decisions; then so is what it has told before.
use Rattle.std.proofs.Common.{◌≡◌, Bool, true, false, cond, List, [], ◌∷◌, refl, subst, fold, All}
use Rattle.std.proofs.lemmas.List.Elements.{All-head, All-tail}
use Rattle.codec_terms.specs.Mq.{Decision}
use Rattle.codec_terms.specs.BlockDecisions.{Walk}
use Rattle.codec_terms.specs.BlockReading.{Known}
use Rattle.block_read_laws.proofs.Decoding.{IsFront}

pub record Moves (ds : List Decision) (R S : Walk → Known → Type 0) (w v : Walk) (k j : Known) : Type 0 where
  pub back : IsFront v.decisions ds → IsFront w.decisions ds
  pub on : IsFront v.decisions ds → R w k → S v j

pub stays : (ds : List Decision) (R : Walk → Known → Type 0) (w : Walk) (k : Known) → Moves ds R R w w k k
stays ds R w k = record { back = λ f. f; on = λ f r. r }

pub followed : {ds : List Decision} {R S T : Walk → Known → Type 0} {w v u : Walk} {k j i : Known}
    → Moves ds R S w v k j → Moves ds S T v u j i → Moves ds R T w u k i
followed m n = record { back = λ f. m.back (n.back f); on = λ f r. n.on f (m.on (n.back f) r) }

-- both take one way or both the other
pub either : (ds : List Decision) (R S : Walk → Known → Type 0) (w v u : Walk) (k j i : Known) (s t : Bool)
    → (R w k → s ≡ t) → (s ≡ true → Moves ds R S w v k j) → (s ≡ false → Moves ds R S w u k i)
    → Moves ds R S w (cond s v u) k (cond t j i)
either ds R S w v u k j i true t same first second =
    let m : Moves ds R S w v k j = first refl in
    record { back = λ f. m.back f; on = λ f r. subst (λ (s : Bool). S v (cond s j i)) (same r) (m.on f r) }
either ds R S w v u k j i false t same first second =
    let m : Moves ds R S w u k i = second refl in
    record { back = λ f. m.back f; on = λ f r. subst (λ (s : Bool). S u (cond s j i)) (same r) (m.on f r) }

-- folds keep what each pair of their steps keeps
pub fold_moves : {A : Type 0} (ds : List Decision) (R : Walk → Known → Type 0) (Q : A → Type 0) (f : Walk → A → Walk)
    (g : Known → A → Known)
    → ((x : A) (w : Walk) (k : Known) → Q x → Moves ds R R w (f w x) k (g k x))
    → (xs : List A) (w : Walk) (k : Known) → All Q xs → Moves ds R R w (fold f w xs) k (fold g k xs)
fold_moves ds R Q f g step [] w k q = stays ds R w k
fold_moves ds R Q f g step (x ∷ xs) w k q =
    followed (step x w k (All-head Q x xs q)) (fold_moves ds R Q f g step xs (f w x) (g k x) (All-tail Q x xs q))
