use Rattle.std.proofs.Common.{map, string_bytes}
use Rattle.dcp_commands.specs.Make.{IsMadeText}
use Rattle.dcp_commands.proofs.Making.{outcome_cause, outcome_left, outcome_told}
use Rattle.dcp_commands.proofs.Printing.{printed_of}
use Rattle.dcp_commands.proofs.make.run_make.Goals as goal

pub returns-clause-cause : goal.returns-clause-cause
returns-clause-cause g c =
    let source = g.S.Source in
    let volume = g.V.Volume in
    let sink = g.O.Sink in
    let made = c.make_package-outcome in
    outcome_cause source.tells (source.file c.args.source.now) (map string_bytes c.args.words.now) source.absent source.faults c.args.source.now made.new.source
    volume.tells volume.reads volume.put volume.faults volume.history c.args.volume.now made.new.volume sink.faults c.args.out.now c.print.new.out
    c.print.result made.result c.print.ensures.answer made.ensures.source_untroubled made.ensures.volume_untroubled made.ensures.ended
    c.print.ensures.sink_fault c.print.ensures.untroubled

pub returns-clause-told : goal.returns-clause-told
returns-clause-told g c = λ status tells wants.
    let source = g.S.Source in
    let volume = g.V.Volume in
    let sink = g.O.Sink in
    let made = c.make_package-outcome in
    outcome_told source.tells (source.file c.args.source.now) (map string_bytes c.args.words.now) source.absent source.faults c.args.source.now made.new.source
    volume.tells volume.reads volume.put volume.faults volume.history c.args.volume.now made.new.volume sink.faults c.args.out.now c.print.new.out
    volume.tells (volume.reads made.new.volume) (source.taken c.args.source.now) (source.taken made.new.source)
    c.print.result status made.result tells wants c.print.ensures.answer (made.ensures.package tells) made.ensures.ended

pub returns-clause-complete : goal.returns-clause-complete
returns-clause-complete g c = λ tells some calm still quiet.
    let source = g.S.Source in
    let volume = g.V.Volume in
    let sink = g.O.Sink in
    let made = c.make_package-outcome in
    outcome_left source.tells (source.file c.args.source.now) (map string_bytes c.args.words.now) source.absent source.faults c.args.source.now made.new.source
    volume.tells volume.reads volume.put volume.faults volume.history c.args.volume.now made.new.volume sink.faults c.args.out.now c.print.new.out
    c.print.result made.result tells some calm still quiet c.print.ensures.answer c.print.ensures.sink_fault made.ensures.ended

pub returns-clause-printed : goal.returns-clause-printed
returns-clause-printed g c = λ tells.
    let made = c.make_package-outcome in
    printed_of (IsMadeText g.S.Source.tells (g.S.Source.file c.args.source.now) (map string_bytes c.args.words.now)) made.result c.print.result (g.O.Sink.written c.args.out.now) (g.O.Sink.written c.print.new.out) made.ensures.text (c.print.ensures.printed tells)
