-- The words of a command.
use Rattle.std.specs.Prelude.{ℕ, ◌==◌, ◌&&◌, codes, List, [], ◌∷◌, length, slice_index, Bool, not, nat_le, nat_lt, if◌then◌else◌, Option, Some, None, option_map}
use Rattle.std.specs.List.{list_all}
use Rattle.std.specs.Str.{bytes_eq}
use Rattle.std.specs.Str.Parse.{digits_value}
use Rattle.film_project.specs.Texts.{is_digit}

-- a word that is no option
abbrev pub is_positional : List ℕ → Bool
is_positional word = nat_lt 0 (length word) && not (slice_index word 0 == 45)

-- what `make` is asked for: the name of the project file, and the output folder
pub record MakeWords : Type 0 where
  pub project : List ℕ
  pub out : List ℕ

abbrev pub make_words : List (List ℕ) → Option MakeWords
make_words (command ∷ project ∷ out ∷ []) =
    if bytes_eq command (codes "make") && is_positional project && is_positional out then Some (record { project = project; out = out }) else None
make_words words = None

-- what `plan` is asked for: the name of the project file
abbrev pub plan_words : List (List ℕ) → Option (List ℕ)
plan_words (command ∷ project ∷ []) = if bytes_eq command (codes "plan") && is_positional project then Some project else None
plan_words words = None

-- what `read` is asked for: the name of a codestream's file
abbrev pub read_words : List (List ℕ) → Option (List ℕ)
read_words (command ∷ file ∷ []) = if bytes_eq command (codes "read") && is_positional file then Some file else None
read_words words = None

-- one to nine digits
abbrev pub is_number : List ℕ → Bool
is_number word = nat_lt 0 (length word) && nat_le (length word) 9 && list_all is_digit word

-- the number that they write
abbrev pub number_in : List ℕ → Option ℕ
number_in word = if is_number word then Some (digits_value 10 word) else None

-- what `frame` is asked for: the name of the project file, and the number of a frame
pub record FrameWords : Type 0 where
  pub project : List ℕ
  pub number : ℕ

abbrev pub frame_words : List (List ℕ) → Option FrameWords
frame_words (command ∷ project ∷ number ∷ []) =
    if bytes_eq command (codes "frame") && is_positional project then option_map (λ n. record { project = project; number = n }) (number_in number) else None
frame_words words = None
