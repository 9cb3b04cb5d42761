-- The bytes of a frame of the words are what `run` prints.
use Rattle.std.proofs.Common.{◌≡◌, Some, map, string_bytes, ap, sym, ◌∙◌}
use Rattle.dcp_commands.specs.Words.{FrameWords, frame_words}
use Rattle.dcp_commands.proofs.Printing.{printed_where}
use Rattle.dcp_commands.proofs.Running.{frame_bytes}
use Rattle.dcp_commands.proofs.command.run.Goals as goal

pub returns-in-Some-frame_words-clause-printed : goal.returns-in-Some-frame_words-clause-printed
returns-in-Some-frame_words-clause-printed g c = λ tells.
    let words = map string_bytes c.args.words.now in
    let asked : FrameWords = record { project = c.as_bytes-in-Some-frame_words.result.now; number = c.in-Some-frame_words.asked.number } in
    let named : frame_words words ≡ Some asked =
    sym c.in-Some-frame_words.ensures ∙ ap (λ p. Some (record { project = p; number = c.in-Some-frame_words.asked.number })) (sym c.as_bytes-in-Some-frame_words.ensures.value) in
    printed_where c.run_frame.result (g.O.Sink.written c.args.out.now) (g.O.Sink.written c.run_frame.new.out)
    (frame_bytes g.S.Source.tells (g.S.Source.file c.args.source.now) words asked (sym c.in_default.ensures) named) (c.run_frame.ensures.printed tells)
