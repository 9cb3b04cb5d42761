-- Which node of a path a bit belongs to.
use Rattle.std.proofs.Common.{◌≡◌, ℕ, sym, subst, Bool, true, false, max, List, ◌∷◌, length}
use Rattle.std.specs.Prelude.{◌||◌}
use Rattle.std.proofs.lemmas.Bool.{false≢true}
use Rattle.codec_terms.specs.TagTree.{Found, found_above, is_open, path_wants}

second : (a b : Bool) → a ≡ false → (a || b) ≡ true → b ≡ true
second true b e h = absurd (false≢true (sym e))
second false b e h = h

-- a node that is shut leaves the bit to those below it
pub wanted-below : (t low x y : ℕ) (level : List (List Found)) (below : List (List (List Found))) (node : Found) → node ≡ found_above level (length below) x y
    → is_open t low node ≡ false → path_wants t low x y (level ∷ below) ≡ true → path_wants t (max low node.reached) x y below ≡ true
unfolding path_wants
wanted-below t low x y level below node e shut wanted =
    subst (λ (n : Found). path_wants t (max low n.reached) x y below ≡ true) (sym e)
    (second (is_open t low (found_above level (length below) x y)) _ (subst (λ n. is_open t low n ≡ false) e shut) wanted)
