-- What is told of a codestream, and a refusal, as they are printed. Numbers are decimal.
use Rattle.std.specs.Prelude.{ℕ, List, ◌++◌, codes, decimal, slice_index, Option, Some, None}
use Rattle.codec_terms.specs.declared.packet.HeadRefusal.{HeadRefusal}
use Rattle.codec_terms.specs.declared.packet.HeadRefusal.TheVariants as head
use Rattle.codec_terms.specs.declared.picture.Shape.{Shape}
use Rattle.codec_terms.specs.declared.reading.MarkerRefusal.{MarkerRefusal}
use Rattle.codec_terms.specs.declared.reading.MarkerRefusal.TheVariants as marker
use Rattle.codec_terms.specs.declared.reading.ReadRefusal.{ReadRefusal}
use Rattle.codec_terms.specs.declared.reading.ReadRefusal.TheVariants.{Marker, Head, PartLength, After, NoMemory}
use Rattle.stream_inspect.specs.declared.file.Inspected.{Inspected}

abbrev pub size_lines : Shape → ℕ → List ℕ
size_lines shape size =
    codes "size " ++ (decimal shape.width ++ (codes "x" ++ (decimal shape.height ++ (codes "\nbytes " ++ (decimal size ++ codes "\n")))))

abbrev pub parts_line : List ℕ → List ℕ
parts_line parts =
    codes "parts " ++ (decimal (slice_index parts 0) ++ (codes " " ++ (decimal (slice_index parts 1) ++ (codes " " ++ (decimal (slice_index parts 2) ++ codes "\n")))))

abbrev pub cut_line : Option ℕ → List ℕ
cut_line (Some cut) = codes "cut " ++ (decimal cut ++ codes "\n")
cut_line None = codes "cut none\n"

abbrev pub blocks_line : ℕ → List ℕ
blocks_line blocks = codes "blocks " ++ decimal blocks

-- five lines; the last one has no end
abbrev pub inspected_text : Inspected → List ℕ
inspected_text it = size_lines it.survey.shape it.size ++ parts_line it.survey.parts ++ cut_line it.survey.cut ++ blocks_line it.survey.blocks

-- ---- a refusal: its code, and then its fields in their order

abbrev pub one_number : List ℕ → ℕ → List ℕ
one_number code n = code ++ decimal n

abbrev pub two_numbers : List ℕ → ℕ → ℕ → List ℕ
two_numbers code m n = code ++ (decimal m ++ (codes " " ++ decimal n))

abbrev pub marker_line : MarkerRefusal → List ℕ
marker_line (marker.Truncated at) = one_number (codes "M1 ") at
marker_line (marker.Marker at got) = two_numbers (codes "M2 ") at got
marker_line (marker.Field at got) = two_numbers (codes "M3 ") at got

abbrev pub head_line : HeadRefusal → List ℕ
head_line (head.Truncated at) = one_number (codes "H1 ") at
head_line (head.BadStuffing at) = one_number (codes "H2 ") at
head_line (head.TooManyPasses at n) = two_numbers (codes "H3 ") at n
head_line (head.LengthPast at n) = two_numbers (codes "H4 ") at n
head_line (head.WideLength at n) = two_numbers (codes "H5 ") at n
head_line head.NoMemory = codes "no memory"

abbrev pub refusal_line : ReadRefusal → List ℕ
refusal_line (Marker refusal) = marker_line refusal
refusal_line (Head refusal) = head_line refusal
refusal_line (PartLength part got) = two_numbers (codes "S1 ") part got
refusal_line (After at) = one_number (codes "S2 ") at
refusal_line NoMemory = codes "no memory"
