-- The names of objects, members and items, as a refusal prints them.
use Rattle.std.specs.Prelude.{ℕ, List, [], ◌++◌, codes, decimal}
use Rattle.film_project.specs.declared.place.Place.{Place}
use Rattle.film_project.specs.declared.place.Place.TheVariants.{Project, Asset, Picture, Sound}

-- an item of a list: the list's name and the item's place
abbrev pub item_name : List ℕ → ℕ → List ℕ
item_name list index = list ++ (codes "[" ++ (decimal index ++ codes "]"))

-- the top value has no name
abbrev pub object_name : Place → List ℕ
object_name Project = []
object_name (Asset index) = item_name (codes "assets") index
object_name (Picture index) = item_name (codes "picture") index
object_name (Sound index) = item_name (codes "sound") index

-- what stands before the name of a member
abbrev pub prefix_of : Place → List ℕ
prefix_of Project = []
prefix_of (Asset index) = codes "assets[" ++ (decimal index ++ codes "].")
prefix_of (Picture index) = codes "picture[" ++ (decimal index ++ codes "].")
prefix_of (Sound index) = codes "sound[" ++ (decimal index ++ codes "].")

abbrev pub member_name : Place → List ℕ → List ℕ
member_name place member = prefix_of place ++ member
