-- The last clip that covers a frame: what it covers, and how it changes with one more clip.
use Rattle.std.proofs.Common.{◌≡◌, ℕ, zero, suc, Bool, true, false, cond, List, [], ◌∷◌, ◌++◌, map, take, get_or, ◌+◌, ◌-◌, ◌<◌, ◌≤◌, length, reverse, refl, ap, sym, ◌∙◌, IsTrue, Option, Some, find, arith}
use native.Mathlib.Numerals.{unary_clauses}
use Rattle.std.proofs.lemmas.List.{reverse-append, take_more, map-append}
use Rattle.std.specs.List.{range_with_len}
use Rattle.film_timeline.specs.declared.cell.Cell.{Cell}
use Rattle.film_project.specs.Facts.{PictureFacts, ProjectFacts}
use Rattle.film_timeline.specs.Timeline.{covers, last_covering, shown_in, cell_at, cells_of, CoversAll}

first_passes : {X : Type 0} (p : X → Bool) (b : Bool) (x y : X) (later : Option X) → p x ≡ b → (later ≡ Some y → p y ≡ true) → cond b (Some x) later ≡ Some y → p y ≡ true
first_passes p true x y later is on e = grind arith
first_passes p false x y later is on e = on e

-- what is found passes the test
find_passes : {X : Type 0} (p : X → Bool) (xs : List X) (y : X) → find p xs ≡ Some y → p y ≡ true
find_passes p [] y e = cc
find_passes p (x ∷ xs) y e = first_passes p (p x) x y (find p xs) refl (find_passes p xs y) e

pub last_covers : (clips : List PictureFacts) (f : ℕ) (clip : PictureFacts) → last_covering clips f ≡ Some clip → covers clip f ≡ true
unfolding last_covering
last_covers clips f clip e = find_passes (λ c. covers c f) (reverse clips) clip e

-- one more clip at the end comes before all others
one_more : (clips : List PictureFacts) (clip : PictureFacts) (f : ℕ) → last_covering (clips ++ clip ∷ []) f ≡ cond (covers clip f) (Some clip) (last_covering clips f)
unfolding last_covering
one_more clips clip f = ap (find (λ c. covers c f)) (reverse-append clips (clip ∷ []))

both : {X : Type 0} (a b : Bool) (c : X) (m n : Option X) → a ≡ b → m ≡ n → cond a (Some c) m ≡ cond b (Some c) n
both a b c m n e h = ap (λ v. cond v (Some c) m) e ∙ ap (λ o. cond b (Some c) o) h

-- a frame whose last clip is that of frame f, with one more clip that covers both frames or neither
pub steady_more : (clips : List PictureFacts) (i : ℕ) (clip : PictureFacts) (f g : ℕ) → i < length clips → clip ≡ get_or clips i clip → covers clip g ≡ covers clip f → last_covering (take i clips) g ≡ last_covering (take i clips) f → last_covering (take (i + 1) clips) g ≡ last_covering (take (i + 1) clips) f
steady_more clips i clip f g lt is same before =
    let seen = take i clips in
    let on : take (i + 1) clips ≡ seen ++ clip ∷ [] = take_more clips i clip lt ∙ ap (λ c. seen ++ c ∷ []) (sym is) in
    ap (λ l. last_covering l g) on
    ∙ one_more seen clip g
    ∙ both (covers clip g) (covers clip f) clip (last_covering seen g) (last_covering seen f) same before
    ∙ sym (one_more seen clip f)
    ∙ sym (ap (λ l. last_covering l f) on)

pub none_covers : (f g : ℕ) → last_covering [] g ≡ last_covering [] f
unfolding last_covering
none_covers f g = refl

-- a clip that covers a frame begins there or before, and ends behind it
pub within : (clip : PictureFacts) (f : ℕ) → IsTrue (covers clip f) → (clip.at ≤ f) × (f < clip.at + clip.count)
within clip f h = (grind arith, grind arith)

shown_same : (clips : List PictureFacts) (shown : Option PictureFacts) (from n : ℕ)
    → ((g : ℕ) → from ≤ g → g < from + n → last_covering clips g ≡ shown)
    → map (shown_in shown) (range_with_len from n) ≡ map (cell_at clips) (range_with_len from n)
shown_same clips shown from zero same = refl
shown_same clips shown from (suc n) same =
    let here : shown_in shown from ≡ cell_at clips from = sym (ap (λ s. shown_in s from) (same from (omega arith) (omega arith))) in
    simp unary_clauses (ap (λ c. c ∷ map (shown_in shown) (range_with_len (suc from) n)) here
    ∙ ap (λ cs. cell_at clips from ∷ cs) (shown_same clips shown (suc from) n (λ g low high. same g (omega (arith, low)) (omega (arith, high)))))

range_split : (from m n : ℕ) → range_with_len from (m + n) ≡ range_with_len from m ++ range_with_len (from + m) n
range_split from zero n = simp (unary_clauses) (ap (range_with_len from) (omega arith))
range_split from (suc m) n =
    let next : from + 1 + m ≡ from + suc m = omega arith in
    let more : suc m + n ≡ suc (m + n) = omega arith in
    let rest = range_split (from + 1) m n ∙ ap (λ a. range_with_len (from + 1) m ++ range_with_len a n) next in
    ap (range_with_len from) more ∙ ap (λ r. from ∷ r) rest

-- the cells up to frame f, with those up to the next change
pub next_cells : (clips : List PictureFacts) (shown : Option PictureFacts) (f until : ℕ) (done cells : List Cell) → f ≤ until
    → last_covering clips f ≡ shown → ((g : ℕ) → f ≤ g → g < until → last_covering clips g ≡ last_covering clips f)
    → done ≡ map (cell_at clips) (range_with_len 0 f) → cells ≡ done ++ map (shown_in shown) (range_with_len f (until - f))
    → cells ≡ map (cell_at clips) (range_with_len 0 until)
next_cells clips shown f until done cells order here steady so_far pushed =
    let from : f ≡ 0 + f = omega arith in
    let all : f + (until - f) ≡ until = omega (arith, order) in
    let run = shown_same clips shown f (until - f) (λ g low high. steady g low (omega (arith, high, all)) ∙ here) in
    pushed ∙ ap (λ l. l ++ map (shown_in shown) (range_with_len f (until - f))) so_far
    ∙ ap (λ l. map (cell_at clips) (range_with_len 0 f) ++ l) run
    ∙ sym (map-append (cell_at clips) (range_with_len 0 f) (range_with_len f (until - f)))
    ∙ ap (map (cell_at clips)) (ap (λ a. range_with_len 0 f ++ range_with_len a (until - f)) from ∙ sym (range_split 0 f (until - f)))
    ∙ ap (λ n. map (cell_at clips) (range_with_len 0 n)) all

-- the clip that is found covers its frame, and so all frames that have the same one
pub covers_run : (clips : List PictureFacts) (shown : Option PictureFacts) (f until : ℕ) → last_covering clips f ≡ shown
    → ((g : ℕ) → f ≤ g → g < until → last_covering clips g ≡ last_covering clips f) → CoversAll shown f until
covers_run clips shown f until here steady =
    λ g low high clip is. last_covers clips g clip (steady g low high ∙ here ∙ is)

pub all_cells : (project : ProjectFacts) (clips : List PictureFacts) (f : ℕ) → clips ≡ project.picture → f ≡ project.frames → map (cell_at clips) (range_with_len 0 f) ≡ cells_of project
all_cells project clips f same ends =
    ap (λ l. map (cell_at l) (range_with_len 0 f)) same ∙ ap (λ n. map (cell_at project.picture) (range_with_len 0 n)) ends
