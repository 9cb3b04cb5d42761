-- Ids of assets.
use Rattle.std.proofs.Common.{◌||◌, subst, ◌≡◌, ◌≢◌, ℕ, zero, suc, List, [], ◌∷◌, Bool, true, false, true≢false, map, All, bytes_eq, refl, sym, ◌∙◌, arith}
use Rattle.std.specs.List.{list_all}
use Rattle.std.proofs.lemmas.Bool.{or_parts, and_parts}
use Rattle.std.proofs.lemmas.Slice.Eq.{bytes_eq-Decides}
use Rattle.film_project.specs.Texts.{is_one_of}
use Rattle.film_project.specs.declared.asset.Asset.{Asset}

pub differs : (xs ys : List ℕ) → bytes_eq xs ys ≡ false → xs ≢ ys
differs xs ys e same = true≢false (sym ((bytes_eq-Decides xs ys).1 same) ∙ e)

pub same_itself : (xs : List ℕ) → bytes_eq xs xs ≡ true
same_itself xs = (bytes_eq-Decides xs xs).1 refl

-- no asset has an id that is none of theirs
pub is_one_of-none : (assets : List Asset) (id : List ℕ) → is_one_of (map (λ a. a.id) assets) id ≡ false → All (λ a. a.id ≢ id) assets
is_one_of-none [] id e k d h = absurd (omega arith)
is_one_of-none (a ∷ rest) id e zero d h = differs a.id id (or_parts (bytes_eq a.id id) _ e).0
is_one_of-none (a ∷ rest) id e (suc k) d h = is_one_of-none rest id (or_parts (bytes_eq a.id id) _ e).1 k d (omega arith)

this_or : (P : List ℕ → Bool) (b : Bool) (w s : List ℕ) (rest : Bool) → bytes_eq w s ≡ b → P w ≡ true → (rest ≡ true → P s ≡ true) → (b || rest) ≡ true → P s ≡ true
this_or P true w s rest is here other e = subst (λ t. P t ≡ true) ((bytes_eq-Decides w s).0 is) here
this_or P false w s rest is here other e = other e

-- what each of some words passes, a text that is one of them passes
pub word_passes : (P : List ℕ → Bool) (ws : List (List ℕ)) (s : List ℕ) → list_all P ws ≡ true → is_one_of ws s ≡ true → P s ≡ true
word_passes P [] s all e = absurd (cc)
word_passes P (w ∷ ws) s all e =
    let p = and_parts (P w) (list_all P ws) all in
    this_or P (bytes_eq w s) w s (is_one_of ws s) refl p.0 (word_passes P ws s p.1) e
