-- What a fault of a ready codestream says.
use Rattle.std.proofs.Common.{◌≡◌, ℕ, zero, suc, ◌≤◌, Bool, true, false, cond, List, [], ◌∷◌, length, Some, Ok, Err, refl, sym, subst, arith}
use Rattle.std.proofs.lemmas.Bool.{ltb-true}
use Rattle.std.proofs.lemmas.Bool.Decides.{nat_tests}
use Rattle.std.proofs.lemmas.Option.{same_Some}
use Rattle.std.specs.Prelude.{◌==◌, ◌&&◌, nat_lt, Option, Result}
use Rattle.codec_terms.specs.StreamReading.{stream_read}
use Rattle.codec_terms.specs.declared.picture.Shape.{Shape}
use Rattle.codec_terms.specs.declared.reading.Coefficients.{Coefficients}
use Rattle.codec_terms.specs.declared.reading.ReadRefusal.{ReadRefusal}
use Rattle.film_plan.specs.Plan.{limits_of}
use Rattle.film_project.specs.Facts.{ProjectFacts}
use Rattle.frame_values.specs.Causes.{IsFault}
use Rattle.frame_values.specs.Encoded.{picture_size}
use Rattle.frame_values.specs.Ready.{part_fault, reading_fault, ready_fault, HasPart}
use Rattle.frame_values.specs.declared.ends.BadWhy.{BadWhy}
use Rattle.frame_values.specs.declared.ends.BadWhy.TheVariants.{Limit, Size, Stream}

first_part :
    (project : ProjectFacts) (got p : ℕ) (why : BadWhy) (later : Option BadWhy) (over : Bool) →
    HasPart why → nat_lt (limits_of project).component got ≡ over → (later ≡ Some why → IsFault project why) →
    cond over (Some (Limit (suc p) got)) later ≡ Some why → IsFault project why
first_part project got p why later true part test on is =
    let same : Limit (suc p) got ≡ why = same_Some (Limit (suc p) got) why is in
    let few : suc p ≤ 3 = subst HasPart (sym same) part in
    subst (IsFault project) same (omega (arith, few), ltb-true (limits_of project).component got test)
first_part project got p why later false part test on is = on is

parts_fault :
    (project : ProjectFacts) (parts : List ℕ) (p : ℕ) (why : BadWhy) → HasPart why →
    part_fault (limits_of project).component (suc p) parts ≡ Some why → IsFault project why
parts_fault project [] p why part is = absurd (cc)
parts_fault project (got ∷ parts) p why part is =
    first_part project got p why (part_fault (limits_of project).component (suc (suc p)) parts)
    (nat_lt (limits_of project).component got) part refl (parts_fault project parts (suc p) why part) is

other_size : (w w' h h' : ℕ) → ((w == w') && (h == h')) ≡ false → w ≡ w' → h ≡ h' → ⊥
other_size w w' h h' test same_width same_height = grind (arith, nat_tests)

by_size :
    (project : ProjectFacts) (shape : Shape) (parts : List ℕ) (why : BadWhy) (fits : Bool) → HasPart why →
    ((shape.width == project.width) && (shape.height == project.height)) ≡ fits →
    cond fits (part_fault (limits_of project).component 1 parts) (Some (Size shape.width shape.height)) ≡ Some why → IsFault project why
by_size project shape parts why true part test is = parts_fault project parts zero why part is
by_size project shape parts why false part test is =
    subst (IsFault project) (same_Some (Size shape.width shape.height) why is)
    (other_size shape.width project.width shape.height project.height test)

by_reading :
    (project : ProjectFacts) (bytes : List ℕ) (why : BadWhy) (r : Result Coefficients ReadRefusal) → HasPart why →
    stream_read bytes ≡ r → reading_fault (limits_of project) (picture_size project) r ≡ Some why → IsFault project why
by_reading project bytes why (Ok c) part read is =
    by_size project c.shape c.parts why ((c.shape.width == project.width) && (c.shape.height == project.height)) part refl is
by_reading project bytes why (Err refusal) part read is =
    subst (IsFault project) (same_Some (Stream refusal) why is) (bytes, read)

by_length :
    (project : ProjectFacts) (bytes : List ℕ) (why : BadWhy) (long : Bool) → HasPart why →
    nat_lt (limits_of project).frame (length bytes) ≡ long →
    cond long (Some (Limit 0 (length bytes))) (reading_fault (limits_of project) (picture_size project) (stream_read bytes)) ≡ Some why →
    IsFault project why
by_length project bytes why true part test is =
    subst (IsFault project) (same_Some (Limit 0 (length bytes)) why is) (ltb-true (limits_of project).frame (length bytes) test)
by_length project bytes why false part test is = by_reading project bytes why (stream_read bytes) part refl is

pub fault_is :
    (project : ProjectFacts) (bytes : List ℕ) (why : BadWhy) → HasPart why →
    ready_fault (limits_of project) (picture_size project) bytes ≡ Some why → IsFault project why
unfolding ready_fault
fault_is project bytes why part is = by_length project bytes why (nat_lt (limits_of project).frame (length bytes)) part refl is
