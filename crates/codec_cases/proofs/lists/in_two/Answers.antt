use Rattle.std.proofs.Common.{map}
use Rattle.mq_coder.specs.Decisions.{decision_of}
use Rattle.codec_cases.proofs.Pauses.{run-coded, paused}
use Rattle.codec_cases.proofs.lists.in_two.Goals as goal

pub go_on-requires : goal.go_on-requires
go_on-requires g c =
    let ds = map decision_of c.args.first.now in (
      ds,
      paused ds c.code_all.new.self c.bytes.result.now c.ending-ending.result c.states-states.result c.ending_laws.ensures.now
          (run-coded c.new-coder.result c.code_all.new.self ds c.new-coder.ensures c.in_ok-code_all.ensures.ok)
          c.bytes.ensures c.ending-ending.ensures c.states-states.ensures,
    )
