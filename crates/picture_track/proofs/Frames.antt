-- What was taken for one frame.
use Rattle.std.proofs.Common.{◌≡◌, ℕ, zero, suc, ◌-◌, ◌*◌, ◌<◌, ◌≤◌, Bool, true, false, List, ◌++◌, length, take, get_or, Some, inl, inr, refl, sym, ◌∙◌, ap, subst, arith}
use Rattle.std.proofs.Math.Nat.{div-lt_iff_lt-mul}
use Rattle.std.proofs.lemmas.Option.{slice_get-get_or}
use Rattle.std.proofs.lemmas.Bool.Decides.{nat_tests}
use Rattle.std.proofs.lemmas.List.{drop_at, length-take-le, take-append-le, take-take}
use Rattle.std.specs.Prelude.{slice_get, IsTrue, IsOk, ◌↔◌}
use Rattle.film_plan.proofs.Cells.{length-cells_of}
use Rattle.film_plan.specs.Plan.{limits_of}
use Rattle.film_project.specs.Facts.{ProjectFacts}
use Rattle.film_project.specs.Members.{is_frame_rate}
use Rattle.film_timeline.specs.Timeline.{IsFresh, cells_of}
use Rattle.film_timeline.specs.declared.cell.Cell.{Cell}
use Rattle.film_timeline.specs.declared.cell.Cell.TheVariants.{Black}
use Rattle.frame_values.specs.Causes.{IsCellCause, Shows}
use Rattle.frame_values.specs.Shown.{cell_shown, cells_shown}
use Rattle.frame_values.specs.declared.ends.CellEnd.{CellEnd}
use Rattle.frame_values.specs.declared.ends.CellEnd.TheVariants as of_cell
use Rattle.mast_world.specs.Content.{Files, part}
use Rattle.picture_track.specs.Causes.{IsFrameCause, IsReached}
use Rattle.picture_track.specs.Ends.{frame_end}
use Rattle.picture_track.specs.Frames.{IsValueAt, TakesValue}
use borrow.Rule.Slice.PartMut.{post_of, put_mid}

-- whether frame f repeats the one before it
abbrev pub Repeats : List Cell → ℕ → Type 0
Repeats cells f = (0 < f) × (slice_get cells f ≡ slice_get cells (f - 1))

pub cell_there : (project : ProjectFacts) (cells : List Cell) (f : ℕ) → cells ≡ cells_of project → f < project.frames → f < length cells
cell_there project cells f are below = rw (are, length-cells_of project) below

-- the cell of frame f
pub cell_is : (project : ProjectFacts) (cells : List Cell) (f : ℕ) → cells ≡ cells_of project → f < length cells → slice_get (cells_of project) f ≡ Some (get_or cells f Black)
cell_is project cells f are below = sym (ap (λ cells. slice_get cells f) are) ∙ slice_get-get_or cells f Black below

-- the greatest limit
pub limit_small : (project : ProjectFacts) → project.rate ≤ 250 → IsTrue (is_frame_rate project.fps) → (limits_of project).frame ≤ 1302083
limit_small project rate known =
    let slow : 24 ≤ project.fps = grind (arith, nat_tests) in
    let below : project.rate * 125000 < 1302084 * project.fps = omega arith in
    let small = (div-lt_iff_lt-mul {k = project.fps} {x = project.rate * 125000} {y = 1302084} (omega arith)).1 below in
    omega (arith, small)

-- ---- values

-- the front of what was put into a room from a place on
pub behind_put : (at n k : ℕ) (room value : List ℕ) → at ≤ length room → n ≤ length value → part (put_mid at k room value) at n ≡ take n value
behind_put at n k room value there within =
    ap (take n) (drop_at (take at room) (value ++ post_of at k room) at (length-take-le at room there)) ∙ take-append-le n value (post_of at k room) within

-- the front of a room that was given back is what was put there
pub front_kept : (n size : ℕ) (room rest cut bytes : List ℕ) → bytes ≡ cut → cut ≡ take n (take size (room ++ rest)) → n ≤ size → n ≤ length room → bytes ≡ take n room
front_kept n size room rest cut bytes is from small within = is ∙ from ∙ take-take n size (room ++ rest) small ∙ take-append-le n room rest within

pub shows_same : (files : Files) (project : ProjectFacts) (cell other : Cell) (value bytes : List ℕ) (before now : ℕ) → cell ≡ other → bytes ≡ value → Shows files project cell value before now → Shows files project other bytes before now
shows_same files project cell other value bytes before now same is shows = record {
  shown = shows.shown;
  is = ap (cell_shown files project) (sym same) ∙ shows.is;
  value = is ∙ shows.value;
  taken = shows.taken;
}

-- what the frame before shows serves again
pub takes_again : (files : Files) (project : ProjectFacts) (cells : List Cell) (f : ℕ) (bytes : List ℕ) (taken : ℕ) (repeats : Bool) → cells ≡ cells_of project → (IsTrue repeats ↔ Repeats cells f) → repeats ≡ true → (0 < f → IsValueAt files project (f - 1) bytes) → TakesValue files project f bytes taken taken
takes_again files project cells f bytes taken repeats are test is held =
    let same : Repeats cells f = test.0 (rw is (search)) in
    let there : IsValueAt files project (f - 1) bytes = held same.0 in
    record {
      cell = there.cell;
      shown = there.shown;
      repeats = true;
      at = sym (ap (λ cells. slice_get cells f) are) ∙ same.1 ∙ ap (λ cells. slice_get cells (f - 1)) are ∙ there.at;
      is = there.is;
      made = there.made;
      test = subst (λ (cells : List Cell). IsTrue true ↔ Repeats cells f) are (rw is at test);
      taken = omega arith;
    }

-- a fresh frame was made
pub takes_fresh : (files : Files) (project : ProjectFacts) (cells : List Cell) (f : ℕ) (bytes : List ℕ) (before now : ℕ) (repeats : Bool) → cells ≡ cells_of project → f < length cells → (IsTrue repeats ↔ Repeats cells f) → repeats ≡ false → Shows files project (get_or cells f Black) bytes before now → TakesValue files project f bytes before now
takes_fresh files project cells f bytes before now repeats are below test is shows = record {
  cell = get_or cells f Black;
  shown = shows.shown;
  repeats = false;
  at = cell_is project cells f are below;
  is = shows.is;
  made = shows.value;
  test = subst (λ (cells : List Cell). IsTrue false ↔ Repeats cells f) are (rw is at test);
  taken = shows.taken;
}

-- ---- ends

is_fresh : (cells : List Cell) (f : ℕ) → (IsTrue false ↔ Repeats cells f) → IsFresh cells f
is_fresh cells zero test = inl refl
is_fresh cells (suc f) test = inr (λ same. cc (test.1 (omega arith, same)))

-- a fresh frame was reached
pub is_reached : (tells : Type 0) (files : Files) (project : ProjectFacts) (cells : List Cell) (f : ℕ) (repeats : Bool) → cells ≡ cells_of project → f < length cells → (IsTrue repeats ↔ Repeats cells f) → repeats ≡ false → (tells → IsOk (cells_shown files project (take f (cells_of project)))) → IsReached tells files project f (get_or cells f Black)
is_reached tells files project cells f repeats are below test is earlier = record {
  at = cell_is project cells f are below;
  fresh = is_fresh (cells_of project) f (subst (λ (cells : List Cell). IsTrue false ↔ Repeats cells f) are (rw is at test));
  earlier = earlier;
}

-- a fresh frame has no value by what its cell shows
pub frame_ends :
    {A : Type 0} (tells : Type 0) (files : Files) (project : ProjectFacts) (f : ℕ) (cell : Cell) (absent faults : A → ℕ) (before now : A) (end : CellEnd) →
    IsReached tells files project f cell →
    IsCellCause tells files project cell absent faults before now end → IsFrameCause tells files project absent faults before now (frame_end f end)
frame_ends tells files project f cell absent faults before now (of_cell.Missing name) reached is =
    (record { f = f; cell = cell; reached = reached; named = is.0; gone = is.2 }, is.1)
frame_ends tells files project f cell absent faults before now (of_cell.Bad why) reached is =
    record { cell = cell; reached = reached; fault = is.0; told = is.1 }
frame_ends tells files project f cell absent faults before now of_cell.SourceFault reached is = is
frame_ends tells files project f cell absent faults before now of_cell.NoMemory reached is = tt
