-- What was printed of a status.
use Rattle.std.proofs.Common.{◌≡◌, ℕ, List, Ok, subst}
use Rattle.std.specs.Prelude.{IfOk, Result}
use Rattle.dcp_commands.specs.Line.{IsLine, IsPrinted}
use Rattle.dcp_commands.specs.declared.stopped.Stopped.{Stopped}
use Rattle.dcp_commands.specs.declared.status.Status.{Status}
use Rattle.dcp_commands.specs.declared.status.Status.TheVariants.{Done, Usage, ProjectRefused, InputMissing, InputShort, SourceFault, StoreFault, SinkFault, NoMemory, BadFrame, NoSuchFrame, BadStream, InputTooLong}

line_where : {P Q : List ℕ → Type 0} (status : Status) (line : List ℕ) → ((text : List ℕ) → P text → Q text) → IsLine P status line → IsLine Q status line
line_where status line more is = record { done = is.done; text = λ done. more is.done (is.text done); is = is.is }

-- the same, with less known of the text of `Done`
pub printed_where : {P Q : List ℕ → Type 0} (status : Status) (before now : List ℕ) → ((text : List ℕ) → P text → Q text) → IsPrinted P status before now → IsPrinted Q status before now
printed_where SinkFault before now more p = (p.0, p.1, p.2, line_where p.0 p.1 more p.3, p.4)
printed_where NoMemory before now more p = p
printed_where Done before now more p = (p.0, line_where Done p.0 more p.1, p.2)
printed_where Usage before now more p = (p.0, line_where Usage p.0 more p.1, p.2)
printed_where (ProjectRefused refusal) before now more p = (p.0, line_where (ProjectRefused refusal) p.0 more p.1, p.2)
printed_where (InputMissing name) before now more p = (p.0, line_where (InputMissing name) p.0 more p.1, p.2)
printed_where (InputShort asset size need) before now more p = (p.0, line_where (InputShort asset size need) p.0 more p.1, p.2)
printed_where SourceFault before now more p = (p.0, line_where SourceFault p.0 more p.1, p.2)
printed_where StoreFault before now more p = (p.0, line_where StoreFault p.0 more p.1, p.2)
printed_where (BadFrame frame why) before now more p = (p.0, line_where (BadFrame frame why) p.0 more p.1, p.2)
printed_where (NoSuchFrame frame frames) before now more p = (p.0, line_where (NoSuchFrame frame frames) p.0 more p.1, p.2)
printed_where (BadStream refusal) before now more p = (p.0, line_where (BadStream refusal) p.0 more p.1, p.2)
printed_where (InputTooLong size) before now more p = (p.0, line_where (InputTooLong size) p.0 more p.1, p.2)

-- what was printed of an outcome
pub printed_of :
    (Q : List ℕ → Type 0) (outcome : Result (List ℕ) Stopped) (status : Status) (before now : List ℕ) → IfOk outcome Q →
    IsPrinted (λ text. outcome ≡ Ok text) status before now → IsPrinted Q status before now
printed_of Q outcome status before now made p = printed_where status before now (λ text is. subst (λ r. IfOk r Q) is made) p
