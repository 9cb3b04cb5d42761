use Rattle.dcp_commands.proofs.Reading.{outcome_cause, outcome_left, outcome_told}
use Rattle.dcp_commands.proofs.read.run_read.Goals as goal

pub returns-clause-cause : goal.returns-clause-cause
returns-clause-cause g c =
    let source = g.S.Source in
    let sink = g.O.Sink in
    let shown = c.show_stream-outcome in
    outcome_cause source.tells (source.file c.args.source.now) c.args.name.now source.absent source.faults c.args.source.now shown.new.source sink.faults c.args.out.now c.print.new.out
    c.print.result shown.result c.print.ensures.answer shown.ensures.untroubled shown.ensures.ended c.print.ensures.sink_fault c.print.ensures.untroubled

pub returns-clause-told : goal.returns-clause-told
returns-clause-told g c = λ tells.
    let source = g.S.Source in
    let sink = g.O.Sink in
    let shown = c.show_stream-outcome in
    outcome_told source.tells (source.file c.args.source.now) c.args.name.now source.absent source.faults c.args.source.now shown.new.source sink.faults c.args.out.now c.print.new.out
    c.print.result shown.result tells c.print.ensures.answer shown.ensures.text shown.ensures.ended

pub returns-clause-complete : goal.returns-clause-complete
returns-clause-complete g c = λ tells ok calm quiet.
    let source = g.S.Source in
    let sink = g.O.Sink in
    let shown = c.show_stream-outcome in
    outcome_left source.tells (source.file c.args.source.now) c.args.name.now source.absent source.faults c.args.source.now shown.new.source sink.faults c.args.out.now c.print.new.out
    c.print.result shown.result tells ok calm quiet c.print.ensures.answer c.print.ensures.sink_fault shown.ensures.ended
