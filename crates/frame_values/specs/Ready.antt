-- What is wrong with a codestream that lies ready, if anything is: its length, its reading, its size or the length of a part,
-- in this order.
use Rattle.std.specs.Prelude.{ℕ, suc, ◌≤◌, ◌==◌, ◌&&◌, List, [], ◌∷◌, length, nat_lt, if◌then◌else◌, Option, Some, None, Result, Ok, Err, ⊤}
use Rattle.codec_terms.specs.StreamReading.{stream_read}
use Rattle.codec_terms.specs.declared.picture.Shape.{Shape}
use Rattle.codec_terms.specs.declared.reading.Coefficients.{Coefficients}
use Rattle.codec_terms.specs.declared.reading.ReadRefusal.{ReadRefusal}
use Rattle.mast_base.specs.declared.limits.Limits.{Limits}
use Rattle.frame_values.specs.declared.ends.BadWhy.{BadWhy}
use Rattle.frame_values.specs.declared.ends.BadWhy.TheVariants.{Limit, Size, Stream}

-- the first of the parts, from this one on, that has more bytes than a component may
abbrev pub part_fault : ℕ → ℕ → List ℕ → Option BadWhy
part_fault most part [] = None
part_fault most part (got ∷ parts) = if nat_lt most got then Some (Limit part got) else part_fault most (suc part) parts

abbrev pub survey_fault : Limits → Shape → Shape → List ℕ → Option BadWhy
survey_fault limits wanted shape parts =
    if (shape.width == wanted.width) && (shape.height == wanted.height)
    then part_fault limits.component 1 parts
    else Some (Size shape.width shape.height)

abbrev pub reading_fault : Limits → Shape → Result Coefficients ReadRefusal → Option BadWhy
reading_fault limits wanted (Ok c) = survey_fault limits wanted c.shape c.parts
reading_fault limits wanted (Err refusal) = Some (Stream refusal)

unfoldable pub ready_fault : Limits → Shape → List ℕ → Option BadWhy
ready_fault limits wanted bytes =
    if nat_lt limits.frame (length bytes) then Some (Limit 0 (length bytes))
    else reading_fault limits wanted (stream_read bytes)

-- where a limit is named, it is that of the whole or of one of the three parts
abbrev pub HasPart : BadWhy → Type 0
HasPart (Limit part got) = part ≤ 3
HasPart why = ⊤
