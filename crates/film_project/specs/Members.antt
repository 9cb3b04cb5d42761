-- Members of an object: what one has to be, and what is wrong with it.
use Rattle.std.specs.Prelude.{ℕ, ◌+◌, List, [], ◌∷◌, map, length, Bool, ◌&&◌, ◌||◌, ◌==◌, nat_le, nat_lt, if◌then◌else◌, Option, Some, None, is_some, option_map, option_and_then}
use Rattle.std.specs.Option.{option_or}
use Rattle.serde_json.specs.Data.{Data, Items, no_items, item}
use Rattle.serde_json.specs.Find.{get, as_number, as_u64, as_str, as_array}
use Rattle.film_project.specs.Facts.{GainFacts}
use Rattle.film_project.specs.Names.{member_name, item_name}
use Rattle.film_project.specs.Texts.{text_place}
use Rattle.film_project.specs.declared.place.Place.{Place}
use Rattle.film_project.specs.declared.text_rule.TextRule.{TextRule}
use Rattle.film_project.specs.declared.refusal.ProjectRefusal.{ProjectRefusal}
use Rattle.film_project.specs.declared.refusal.ProjectRefusal.TheVariants.{MissingMember, WrongKind, OutOfRange, BadText, TooLong}

-- what a member has to be
pub data Kind : Type 0 where
  text : TextRule → Kind
  -- a number from the first to the second
  number : ℕ → ℕ → Kind
  frame_rate : Kind
  frame_count : Kind
  -- a list of objects
  objects : Kind
  -- a list of three numbers each; the numbers of input and output channels
  gains : ℕ → ℕ → Kind

-- a row of an object's table
pub record Member : Type 0 where
  pub name : List ℕ
  pub optional : Bool
  pub kind : Kind

-- ---- values

-- an unsigned whole number without fraction or exponent
abbrev pub as_whole : Data → Option ℕ
as_whole d = option_and_then as_u64 (as_number d)

abbrev pub list_of : Items → List Data
list_of no_items = []
list_of (item d ds) = d ∷ list_of ds

abbrev pub as_list : Data → Option (List Data)
as_list d = option_map list_of (as_array d)

abbrev pub gain_from : Option ℕ → Option ℕ → Option ℕ → Option GainFacts
gain_from (Some from) (Some to) (Some gain) = Some (record { from = from; to = to; gain = gain })
gain_from (Some from) (Some to) None = None
gain_from (Some from) None gain = None
gain_from None to gain = None

-- three numbers
abbrev pub gain_of_list : List Data → Option GainFacts
gain_of_list [] = None
gain_of_list (a ∷ []) = None
gain_of_list (a ∷ b ∷ []) = None
gain_of_list (a ∷ b ∷ c ∷ []) = gain_from (as_whole a) (as_whole b) (as_whole c)
gain_of_list (a ∷ b ∷ c ∷ d ∷ ds) = None

abbrev pub as_gain : Data → Option GainFacts
as_gain d = option_and_then gain_of_list (as_list d)

abbrev pub value_or : {T : Type 0} → T → Option T → T
value_or absent None = absent
value_or absent (Some x) = x

abbrev pub number_in : List ℕ → ℕ → Data → ℕ
number_in name absent d = value_or absent (option_and_then as_whole (get name d))

abbrev pub text_in : List ℕ → Data → List ℕ
text_in name d = value_or [] (option_and_then as_str (get name d))

abbrev pub list_in : List ℕ → Data → List Data
list_in name d = value_or [] (option_and_then as_list (get name d))

abbrev pub no_gain : GainFacts
no_gain = record { from = 0; to = 0; gain = 0 }

abbrev pub gain_of : Data → GainFacts
gain_of d = value_or no_gain (as_gain d)

-- ---- faults

-- the first fault of a list's items, which are counted from i
abbrev pub first_of : {X : Type 0} → (ℕ → X → Option ProjectRefusal) → ℕ → List X → Option ProjectRefusal
first_of fault i [] = None
first_of fault i (x ∷ xs) = option_or (fault i x) (first_of fault (i + 1) xs)

abbrev pub text_fault : List ℕ → TextRule → Option (List ℕ) → Option ProjectRefusal
text_fault name rule None = Some (WrongKind name)
text_fault name rule (Some s) = option_map (BadText name) (text_place rule s)

-- a number passes a test of its range
abbrev pub range_fault : List ℕ → Bool → ℕ → Option ProjectRefusal
range_fault name passes n = if passes then None else Some (OutOfRange name n)

abbrev pub within : ℕ → ℕ → ℕ → Bool
within low high n = nat_le low n && nat_le n high

abbrev pub number_fault : List ℕ → ℕ → ℕ → Option ℕ → Option ProjectRefusal
number_fault name low high None = Some (WrongKind name)
number_fault name low high (Some n) = range_fault name (within low high n) n

abbrev pub is_frame_rate : ℕ → Bool
is_frame_rate n = (n == 24) || (n == 25) || (n == 30) || (n == 48)

abbrev pub rate_fault : List ℕ → Option ℕ → Option ProjectRefusal
rate_fault name None = Some (WrongKind name)
rate_fault name (Some n) = range_fault name (is_frame_rate n) n

abbrev pub count_fault : List ℕ → Option ℕ → Option ProjectRefusal
count_fault name None = Some (WrongKind name)
count_fault name (Some n) = if nat_lt 432000 n then Some (TooLong n) else range_fault name (nat_le 1 n) n

abbrev pub objects_fault : List ℕ → Option (List Data) → Option ProjectRefusal
objects_fault name None = Some (WrongKind name)
objects_fault name (Some ds) = range_fault name (nat_le (length ds) 1000) (length ds)

-- an item of `gains` has to be three numbers
abbrev pub gain_kind_fault : List ℕ → ℕ → Data → Option ProjectRefusal
gain_kind_fault name i d = if is_some (as_gain d) then None else Some (WrongKind (item_name name i))

-- and each has to be in its range
abbrev pub gain_range_fault : List ℕ → ℕ → ℕ → ℕ → GainFacts → Option ProjectRefusal
gain_range_fault name inputs outputs i g =
    option_or (range_fault (item_name name i) (nat_lt g.from inputs) g.from)
    (option_or (range_fault (item_name name i) (nat_lt g.to outputs) g.to) (range_fault (item_name name i) (nat_le g.gain 262144) g.gain))

abbrev pub gains_fault : List ℕ → ℕ → ℕ → Option (List Data) → Option ProjectRefusal
gains_fault name inputs outputs None = Some (WrongKind name)
gains_fault name inputs outputs (Some ds) =
    option_or (first_of (gain_kind_fault name) 0 ds)
    (option_or (range_fault name (nat_le (length ds) 256) (length ds))
    (first_of (gain_range_fault name inputs outputs) 0 (map gain_of ds)))

abbrev pub value_fault : List ℕ → Kind → Data → Option ProjectRefusal
value_fault name (text rule) d = text_fault name rule (as_str d)
value_fault name (number low high) d = number_fault name low high (as_whole d)
value_fault name frame_rate d = rate_fault name (as_whole d)
value_fault name frame_count d = count_fault name (as_whole d)
value_fault name objects d = objects_fault name (as_list d)
value_fault name (gains inputs outputs) d = gains_fault name inputs outputs (as_list d)

abbrev pub present_fault : List ℕ → Bool → Kind → Option Data → Option ProjectRefusal
present_fault name optional kind None = if optional then None else Some (MissingMember name)
present_fault name optional kind (Some d) = value_fault name kind d

abbrev pub member_fault : Place → Data → Member → Option ProjectRefusal
member_fault place d m = present_fault (member_name place m.name) m.optional m.kind (get m.name d)

-- the first fault of the members, in the table's order
abbrev pub members_fault : Place → Data → List Member → Option ProjectRefusal
members_fault place d [] = None
members_fault place d (m ∷ ms) = option_or (member_fault place d m) (members_fault place d ms)
