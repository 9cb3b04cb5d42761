use Rattle.std.proofs.Common.{◌≡◌, Ok, ap, sym, ◌∙◌}
use Rattle.dcp_commands.specs.declared.status.Status.TheVariants.{Done}
use Rattle.dcp_commands.proofs.Making.{never_done}
use Rattle.dcp_commands.proofs.Printing.{printed_where}
use Rattle.dcp_commands.proofs.line.print.Goals as goal
use Rattle.dcp_commands.proofs.line.print.Goals.{in-Ok, in-Err}

pub returns-clause-printed : goal.returns-clause-printed
returns-clause-printed g c = λ tells.
    printed_where {P = λ text. (c.match-outcome.status.0 ≡ Done) × (text ≡ c.as_slice.result.now)} {Q = λ text. c.args.outcome ≡ Ok text} c.print_line.result (g.O.Sink.written c.args.out.now) (g.O.Sink.written c.print_line.new.out)
    (λ text made. elim c.match-outcome.branch [
      | in-Ok w ↦ w.in-Ok.is ∙ ap Ok (sym (made.1 ∙ c.as_slice.ensures ∙ ap (λ s. s.1) w.status-is))
      | in-Err w ↦ absurd (never_done w.in-Err.stopped (sym w.from.ensures ∙ sym (ap (λ s. s.0) w.status-is) ∙ made.0))
    ])
    (c.print_line.ensures.printed tells)
