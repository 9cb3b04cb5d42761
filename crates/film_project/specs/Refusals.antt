-- A refusal as it is printed: its code, and then its fields in their order.
use Rattle.std.specs.Prelude.{ℕ, List, ◌++◌, codes, decimal}
use Rattle.film_project.specs.declared.refusal.ProjectRefusal.{ProjectRefusal}
use Rattle.film_project.specs.declared.refusal.ProjectRefusal.TheVariants.{NotJson, NotObject, MissingMember, UnknownMember, WrongKind, OutOfRange, BadText, DoubleAsset, NoSuchAsset, TooLong, FileTooLong, NoMemory}

-- a name and a number, with one space between
abbrev pub name_and_number : List ℕ → ℕ → List ℕ
name_and_number name n = name ++ (codes " " ++ decimal n)

abbrev pub refusal_line : ProjectRefusal → List ℕ
refusal_line NotJson = codes "P1"
refusal_line (NotObject name) = codes "P2 " ++ name
refusal_line (MissingMember name) = codes "P3 " ++ name
refusal_line (UnknownMember name) = codes "P4 " ++ name
refusal_line (WrongKind name) = codes "P5 " ++ name
refusal_line (OutOfRange name value) = codes "P6 " ++ name_and_number name value
refusal_line (BadText name at) = codes "P7 " ++ name_and_number name at
refusal_line (DoubleAsset name) = codes "P8 " ++ name
refusal_line (NoSuchAsset name) = codes "P9 " ++ name
refusal_line (TooLong frames) = codes "P10 " ++ decimal frames
refusal_line (FileTooLong bytes) = codes "P11 " ++ decimal bytes
refusal_line NoMemory = codes "no memory"
