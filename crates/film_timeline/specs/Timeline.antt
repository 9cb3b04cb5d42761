-- What is shown in each frame of a project.
use Rattle.std.specs.Prelude.{◌≡◌, ◌≢◌, ◌≤◌, ◌<◌, ◌⊎◌, ℕ, ◌+◌, ◌-◌, ◌/◌, IsTrue, Bool, true, false, ◌&&◌, ◌==◌, nat_le, nat_lt, if◌then◌else◌, List, [], ◌∷◌, map, reverse, slice_get, Option, find}
use Rattle.std.specs.List.{range_with_len}
use Rattle.std.specs.Option.{ForSome, option_map_or}
use Rattle.film_project.specs.Facts.{PictureFacts, ProjectFacts}
use Rattle.film_timeline.specs.declared.cell.Cell.{Cell}
use Rattle.film_timeline.specs.declared.cell.Cell.TheVariants.{Black, Frame}

-- the clip shows a frame of its asset in frame f
abbrev pub covers : PictureFacts → ℕ → Bool
covers clip f = nat_le clip.at f && nat_lt f (clip.at + clip.count)

-- what the clip shows in frame f: each frame of its asset stands for `hold` frames
abbrev pub cell_in : PictureFacts → ℕ → Cell
cell_in clip f = Frame clip.asset (clip.from + (f - clip.at) / clip.hold)

-- the last clip of the list that covers frame f
unfoldable pub last_covering : List PictureFacts → ℕ → Option PictureFacts
last_covering clips f = find (λ clip. covers clip f) (reverse clips)

-- what the clip shows in frame f, or black where there is none
abbrev pub shown_in : Option PictureFacts → ℕ → Cell
shown_in shown f = option_map_or (λ clip. cell_in clip f) shown Black

-- the last clip that covers the frame decides
abbrev pub cell_at : List PictureFacts → ℕ → Cell
cell_at clips f = shown_in (last_covering clips f) f

-- where there is a clip, it covers each frame from one up to another
abbrev pub CoversAll : Option PictureFacts → ℕ → ℕ → Type 0
CoversAll shown from until =
    (f : ℕ) → from ≤ f → f < until → ForSome shown (λ clip. IsTrue (covers clip f))

-- the project's frames from the first to the last
abbrev pub cells_of : ProjectFacts → List Cell
cells_of project = map (cell_at project.picture) (range_with_len 0 project.frames)

-- frame f is the first one, or shows something else than the frame before it
abbrev pub IsFresh : List Cell → ℕ → Type 0
IsFresh cells f = (f ≡ 0) ⊎ (slice_get cells f ≢ slice_get cells (f - 1))

abbrev pub same_cell : Cell → Cell → Bool
same_cell Black Black = true
same_cell Black (Frame asset index) = false
same_cell (Frame asset index) Black = false
same_cell (Frame a i) (Frame b j) = a == b && i == j

-- what the fresh frames show
abbrev pub fresh_after : Cell → List Cell → List Cell
fresh_after before [] = []
fresh_after before (cell ∷ cells) = if same_cell before cell then fresh_after cell cells else cell ∷ fresh_after cell cells

abbrev pub fresh_cells : List Cell → List Cell
fresh_cells [] = []
fresh_cells (cell ∷ cells) = cell ∷ fresh_after cell cells

abbrev pub is_black : Cell → Bool
is_black Black = true
is_black (Frame asset index) = false
