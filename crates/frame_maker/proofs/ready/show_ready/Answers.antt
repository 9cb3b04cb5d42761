use Rattle.std.proofs.Common.{◌≡◌, ◌<◌, ◌++◌, length, take, drop, Some, sym, ap, ◌∙◌, arith, length-take}
use Rattle.std.proofs.Math.Seq.{take-append_seam}
use Rattle.std.specs.Prelude.{option_map}
use Rattle.film_plan.specs.Plan.{limits_of}
use Rattle.frame_maker.proofs.Reading.{long_end, shown_moved}
use Rattle.frame_maker.proofs.ready.show_ready.Goals as goal

pub returns-then-size-from-clause-ended : goal.returns-then-size-from-clause-ended
returns-then-size-from-clause-ended g c =
    let project = c.args.plan.now.project in
    let size = c.in-Some.size in
    let files = g.S.Source.file c.args.source.now in
    let same = ap (λ limits. limits.frame) c.args.plan.now.limits_are in
    let long : (limits_of project).frame < size = omega (arith, same, c.from.ensures, c.if-size-from.true) in (
      long,
      λ tells.
          (let there : option_map length (files c.args.name) ≡ Some size =
          ap (λ name. option_map length (files name)) (sym c.as_slice.ensures) ∙ sym (c.in_ok-size.ensures.size tells) ∙ c.in-Some.is in
          long_end project c.args.name (files c.args.name) size there long),
    )

pub returns-clause-shown : goal.returns-clause-shown
returns-clause-shown g c = λ tells.
    let project = c.args.plan.now.project in
    let size = c.in-Some.size in
    let value = c.read_ready.new.value in
    let room = c.args.room.now in
    let same = ap (λ limits. limits.frame) c.args.plan.now.limits_are in
    let whole : size ≡ length value =
    omega (arith, same, c.from.ensures, c.if-size-from.false, c.requires.room, c.read_ready.auto.value, length-take size room) in
    shown_moved project c.args.name c.as_slice-2.result.now (g.S.Source.file c.args.source.now) (g.S.Source.file c.find.new.self)
    value (take size (value ++ drop size room)) (g.S.Source.taken c.args.source.now) (g.S.Source.taken c.find.new.self)
    (g.S.Source.taken c.read_ready.new.source) c.as_slice-2.ensures c.find.ensures.same_files c.find.ensures.same_taken
    (ap (λ n. take n (value ++ drop size room)) whole ∙ take-append_seam value (drop size room))
    (c.in_ok-read_ready.ensures.shown tells)
