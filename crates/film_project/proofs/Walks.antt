-- Steps of walks over lists and places.
use Rattle.std.proofs.Common.{String, Global, string_bytes, ◌++◌, append_assoc, ◌≡◌, ℕ, suc, ◌+◌, ◌-◌, ◌<◌, List, [], ◌∷◌, Bool, true, false, Option, Some, None, refl, ap, sym, ◌∙◌, arith, map, length, drop, get_or, codes}
use Rattle.film_project.specs.Texts.{first_place}
use Rattle.std.specs.Option.{option_or}
use Rattle.std.proofs.lemmas.List.{map-append, drop_more}
use Rattle.film_project.specs.Accepts.{asset_in, asset_fault, assets_fault}
use Rattle.film_project.specs.Facts.{AssetFacts}
use Rattle.film_project.specs.Members.{text_in, list_of, first_of, Member, member_fault, members_fault}
use Rattle.film_project.specs.Names.{member_name}
use Rattle.film_project.specs.Objects.{unknown_fault}
use Rattle.film_project.specs.declared.place.Place.{Place}
use Rattle.film_project.specs.declared.refusal.ProjectRefusal.TheVariants.{UnknownMember}
use Rattle.film_project.specs.declared.refusal.ProjectRefusal.{ProjectRefusal}
use Rattle.serde_json.specs.Data.{Data}
use Rattle.serde_json.specs.View.{view, items_view, members_view}
use Rattle.serde_json.specs.declared.value.Value.{Value}

abbrev pub Entry : Type 0
Entry = String Global × Value

passed_by : (test : ℕ → Bool) (i k : ℕ) → test i ≡ false → first_place test i (suc k) ≡ first_place test (i + 1) k
passed_by test i k e = rw e

found_at : (test : ℕ → Bool) (i k : ℕ) → test i ≡ true → first_place test i (suc k) ≡ Some i
found_at test i k e = rw e

-- a place that does not pass the test is passed by
pub first_place-next : (test : ℕ → Bool) (i n : ℕ) → i < n → test i ≡ false → first_place test i (n - i) ≡ first_place test (i + 1) (n - (i + 1))
first_place-next test i n h e =
    let more : n - i ≡ suc (n - (i + 1)) = omega arith in
    ap (first_place test i) more ∙ passed_by test i (n - (i + 1)) e

-- one that does is the answer
pub first_place-here : (test : ℕ → Bool) (i n : ℕ) → i < n → test i ≡ true → first_place test i (n - i) ≡ Some i
first_place-here test i n h e =
    let more : n - i ≡ suc (n - (i + 1)) = omega arith in
    ap (first_place test i) more ∙ found_at test i (n - (i + 1)) e

-- the items of a list are its values
pub list_of-items_view : (vs : List Value) → list_of (items_view vs) ≡ map view vs
list_of-items_view [] = refl
list_of-items_view (v ∷ vs) = ap (λ ds. view v ∷ ds) (list_of-items_view vs)

-- the item at i, and those behind it
pub here_at : {X : Type 0} (xs : List X) (i : ℕ) (x : X) → i < length xs → x ≡ get_or xs i x → drop i xs ≡ x ∷ drop (i + 1) xs
here_at xs i x h e = drop_more xs i x h ∙ ap (λ y. y ∷ drop (i + 1) xs) (sym e)

either_assoc : (f g h : Option ProjectRefusal) → option_or f (option_or g h) ≡ option_or (option_or f g) h
either_assoc None g h = refl
either_assoc (Some r) g h = refl

-- ---- the first fault of a list

pub first_of-next : {X : Type 0} (fault : ℕ → X → Option ProjectRefusal) (i : ℕ) (xs : List X) (x : X) (rest : List X)
    → xs ≡ x ∷ rest → fault i x ≡ None → first_of fault i xs ≡ first_of fault (i + 1) rest
first_of-next fault i xs x rest here e = rw (here, e)

-- an asset without a fault, behind those that were found
pub assets_fault-next : (i : ℕ) (found : List AssetFacts) (a : AssetFacts) (ds : List Data) (d : Data) (rest : List Data)
    → ds ≡ d ∷ rest → asset_fault i (map (λ a. a.id) found) d ≡ None → a ≡ asset_in d
    → assets_fault i (map (λ a. a.id) found) ds ≡ assets_fault (i + 1) (map (λ a. a.id) (found ++ a ∷ [])) rest
assets_fault-next i found a ds d rest here none same =
    let ids : map (λ a. a.id) found ++ text_in (codes "id") d ∷ [] ≡ map (λ a. a.id) (found ++ a ∷ []) =
    ap (λ b. map (λ a. a.id) found ++ b.id ∷ []) (sym same) ∙ sym (map-append (λ a. a.id) found (a ∷ [])) in
    rw (here, none) (ap (λ seen. assets_fault (i + 1) seen rest) ids)

-- ---- what a loop has gathered, and what it still has to

pub gather-more : {B X : Type 0} (g : X → B) (done : List B) (a : B) (xs : List X) (x : X) (rest : List X) (all : List B)
    → xs ≡ x ∷ rest → a ≡ g x → done ++ map g xs ≡ all → (done ++ a ∷ []) ++ map g rest ≡ all
gather-more g done a xs x rest all here same e =
    append_assoc done (a ∷ []) (map g rest) ∙ ap (λ b. done ++ b ∷ map g rest) same ∙ ap (λ ys. done ++ map g ys) (sym here) ∙ e

-- ---- one fault after another

pub later : (f g h : Option ProjectRefusal) → f ≡ None → g ≡ h → option_or f g ≡ h
later f g h none e = rw none e

pub sooner : (f g : Option ProjectRefusal) (r : ProjectRefusal) → f ≡ Some r → option_or f g ≡ Some r
sooner f g r e = rw e

-- ---- the members of an object

pub members_fault-append : (place : Place) (d : Data) (ms ns : List Member)
    → members_fault place d (ms ++ ns) ≡ option_or (members_fault place d ms) (members_fault place d ns)
members_fault-append place d [] ns = refl
members_fault-append place d (m ∷ ms) ns = rw (members_fault-append place d ms ns) (either_assoc (member_fault place d m) _ _)

or_none : (f : Option ProjectRefusal) → option_or f None ≡ f
or_none None = refl
or_none (Some r) = refl

pub members_fault-sooner : (place : Place) (d : Data) (ms ns : List Member) (r : ProjectRefusal)
    → members_fault place d ms ≡ Some r → members_fault place d (ms ++ ns) ≡ Some r
members_fault-sooner place d ms ns r e = members_fault-append place d ms ns ∙ sooner _ _ r e

pub members_fault-later : (place : Place) (d : Data) (ms ns : List Member) (h : Option ProjectRefusal)
    → members_fault place d ms ≡ None → members_fault place d ns ≡ h → members_fault place d (ms ++ ns) ≡ h
members_fault-later place d ms ns h none e = members_fault-append place d ms ns ∙ later _ _ h none e

pub unknown_fault-next : (place : Place) (known : List ℕ → Bool) (es : List Entry) (e : Entry) (rest : List Entry)
    → es ≡ e ∷ rest → known (string_bytes e.0) ≡ true
    → unknown_fault place known (members_view es) ≡ unknown_fault place known (members_view rest)
unknown_fault-next place known es e rest here k = rw (here, k)

pub unknown_fault-here : (place : Place) (known : List ℕ → Bool) (es : List Entry) (e : Entry) (rest : List Entry)
    → es ≡ e ∷ rest → known (string_bytes e.0) ≡ false
    → unknown_fault place known (members_view es) ≡ Some (UnknownMember (member_name place (string_bytes e.0)))
unknown_fault-here place known es e rest here k = rw (here, k)
