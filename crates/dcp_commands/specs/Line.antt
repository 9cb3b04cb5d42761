-- What is printed, and how a program ends.
use Rattle.std.specs.Prelude.{◌≡◌, ◌⊎◌, ℕ, codes, List, [], ◌∷◌, ◌++◌, take}
use Rattle.std.specs.Fmt.{decimal}
use Rattle.film_project.specs.Refusals.{refusal_line}
use Rattle.frame_values.specs.declared.ends.BadWhy.{BadWhy}
use Rattle.frame_values.specs.declared.ends.BadWhy.TheVariants.{Header, Short, Stream, Size, Limit}
use Rattle.stream_inspect.specs.Texts.{refusal_line as stream_line}
use Rattle.dcp_commands.specs.declared.status.Status.{Status}
use Rattle.dcp_commands.specs.declared.status.Status.TheVariants.{Done, Usage, ProjectRefused, InputMissing, InputShort, SourceFault, StoreFault, SinkFault, NoMemory, BadFrame, NoSuchFrame, BadStream, InputTooLong}

-- two numbers, with a space between them
abbrev pub number_pair : ℕ → ℕ → List ℕ
number_pair m n = decimal m ++ (codes " " ++ decimal n)

-- how a frame's input breaks its form
abbrev pub why_text : BadWhy → List ℕ
why_text (Header at) = codes "header " ++ decimal at
why_text (Short size need) = codes "short " ++ number_pair size need
why_text (Stream refusal) = codes "stream " ++ stream_line refusal
why_text (Size width height) = codes "size " ++ number_pair width height
why_text (Limit part got) = codes "limit " ++ number_pair part got

-- what `make` prints of a package
abbrev pub done_text : ℕ → ℕ → List ℕ
done_text frames kept = codes "done: " ++ (decimal frames ++ (codes " frames, " ++ (decimal kept ++ codes " kept\n")))

-- the text of a status; `done` is what the command prints where it is done, and of a failed print there is none
abbrev pub status_text : List ℕ → Status → List ℕ
status_text done Done = done
status_text done Usage = codes "usage: dcp make|plan|frame|read|trial"
status_text done (ProjectRefused refusal) = codes "project refused: " ++ refusal_line refusal
status_text done (InputMissing name) = codes "input missing: " ++ name
status_text done (InputShort asset size need) = codes "input short: " ++ (asset ++ (codes " has " ++ (decimal size ++ (codes " needs " ++ decimal need))))
status_text done SourceFault = codes "source fault"
status_text done StoreFault = codes "store fault"
status_text done SinkFault = []
status_text done NoMemory = codes "no memory"
status_text done (BadFrame frame why) = codes "bad frame: " ++ (decimal frame ++ (codes " " ++ why_text why))
status_text done (NoSuchFrame frame frames) = codes "no such frame: " ++ (decimal frame ++ (codes " of " ++ decimal frames))
status_text done (BadStream refusal) = codes "bad stream: " ++ stream_line refusal
status_text done (InputTooLong size) = codes "input too long: " ++ decimal size

-- what is printed under a status: what the command makes as it is, and of the others their text and a line feed
abbrev pub line_of : List ℕ → Status → List ℕ
line_of done Done = done
line_of done status = status_text done status ++ 10 ∷ []

-- the line of a status; that of `Done` is such a text
pub record IsLine (IsText : List ℕ → Type 0) (status : Status) (line : List ℕ) : Type 0 where
  pub done : List ℕ
  pub text : status ≡ Done → IsText done
  pub is : line ≡ line_of done status

-- what was printed under a status: its line; a front of some status' line where the sink failed; the line or nothing for want of memory
abbrev pub IsPrinted : (List ℕ → Type 0) → Status → List ℕ → List ℕ → Type 0
IsPrinted IsText SinkFault before now = (status : Status) × (line : List ℕ) × (n : ℕ) × IsLine IsText status line × (now ≡ before ++ take n line)
IsPrinted IsText NoMemory before now = (now ≡ before) ⊎ (now ≡ before ++ line_of [] NoMemory)
IsPrinted IsText status before now = (line : List ℕ) × IsLine IsText status line × (now ≡ before ++ line)

-- the exit status of a program
abbrev pub exit_code : Status → ℕ
exit_code Done = 0
exit_code Usage = 2
exit_code (ProjectRefused refusal) = 3
exit_code (InputMissing name) = 4
exit_code (InputShort asset size need) = 5
exit_code SourceFault = 7
exit_code StoreFault = 8
exit_code SinkFault = 9
exit_code NoMemory = 11
exit_code (BadFrame frame why) = 12
exit_code (NoSuchFrame frame frames) = 13
exit_code (BadStream refusal) = 14
exit_code (InputTooLong size) = 15
