use Rattle.dcp_commands.specs.Frame.{IsFrameText}
use Rattle.dcp_commands.proofs.Framing.{outcome_cause, outcome_left, outcome_told}
use Rattle.dcp_commands.proofs.Printing.{printed_of}
use Rattle.dcp_commands.proofs.frame.run_frame.Goals as goal

pub returns-clause-cause : goal.returns-clause-cause
returns-clause-cause g c =
    let source = g.S.Source in
    let sink = g.O.Sink in
    let shown = c.show_frame-outcome in
    outcome_cause source.tells (source.file c.args.source.now) c.args.name.now c.args.frame source.absent source.faults c.args.source.now shown.new.source sink.faults c.args.out.now c.print.new.out
    c.print.result shown.result c.print.ensures.answer shown.ensures.untroubled shown.ensures.ended c.print.ensures.sink_fault c.print.ensures.untroubled

pub returns-clause-told : goal.returns-clause-told
returns-clause-told g c = λ tells.
    let source = g.S.Source in
    let sink = g.O.Sink in
    let shown = c.show_frame-outcome in
    outcome_told source.tells (source.file c.args.source.now) c.args.name.now c.args.frame source.absent source.faults c.args.source.now shown.new.source sink.faults c.args.out.now c.print.new.out
    c.print.result shown.result tells c.print.ensures.answer shown.ensures.text shown.ensures.ended

pub returns-clause-complete : goal.returns-clause-complete
returns-clause-complete g c = λ tells ok calm quiet.
    let source = g.S.Source in
    let sink = g.O.Sink in
    let shown = c.show_frame-outcome in
    outcome_left source.tells (source.file c.args.source.now) c.args.name.now c.args.frame source.absent source.faults c.args.source.now shown.new.source sink.faults c.args.out.now c.print.new.out
    c.print.result shown.result tells ok calm quiet c.print.ensures.answer c.print.ensures.sink_fault shown.ensures.ended

pub returns-clause-printed : goal.returns-clause-printed
returns-clause-printed g c = λ tells.
    let shown = c.show_frame-outcome in
    printed_of (IsFrameText g.S.Source.tells (g.S.Source.file c.args.source.now) c.args.name.now c.args.frame) shown.result c.print.result (g.O.Sink.written c.args.out.now) (g.O.Sink.written c.print.new.out) shown.ensures.text (c.print.ensures.printed tells)
