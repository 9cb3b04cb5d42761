use Rattle.std.proofs.Common.{◌≡◌, length, Some, None, sym, ap, ap₂, ◌∙◌}
use Rattle.film_plan.specs.Plan.{limits_of}
use Rattle.frame_values.proofs.Faults.{fault_is}
use Rattle.frame_values.specs.Encoded.{picture_size}
use Rattle.frame_values.specs.Ready.{ready_fault}
use Rattle.mast_world.specs.Count.{counted}
use Rattle.frame_maker.proofs.Reading.{whole_file, ready_good, ready_bad}
use Rattle.frame_maker.proofs.ready.read_ready.Goals as goal

pub returns-in-None-clause-shown : goal.returns-in-None-clause-shown
returns-in-None-clause-shown g c = λ tells.
    let project = c.args.plan.now.project in
    let value = c.read.new.into in
    let file = g.S.Source.file c.args.source.now c.args.name.now in
    let before = g.S.Source.taken c.args.source.now in
    let good : ready_fault (limits_of project) (picture_size project) value ≡ None =
    sym (c.in-None.ensures.fault ∙ ap₂ (λ l s. ready_fault l s value) c.args.plan.now.limits_are c.picture_size.ensures) in
    ready_good project c.args.name.now file value before (g.S.Source.taken c.read.new.self)
    (whole_file file value (length c.args.value.now) (c.requires.there tells) (c.in_ok-read.ensures.bytes tells)) good
    (c.in_ok-read.ensures.count_taken ∙ ap (counted before) (sym c.read.auto.into))

pub returns-in-Some-clause-ended : goal.returns-in-Some-clause-ended
returns-in-Some-clause-ended g c =
    let project = c.args.plan.now.project in
    let value = c.read.new.into in
    let file = g.S.Source.file c.args.source.now c.args.name.now in
    let bad : ready_fault (limits_of project) (picture_size project) value ≡ Some c.in-Some.why =
    sym (c.in-Some.ensures.fault ∙ ap₂ (λ l s. ready_fault l s value) c.args.plan.now.limits_are c.picture_size.ensures) in (
      fault_is project value c.in-Some.why c.in-Some.ensures.part bad,
      λ tells. ready_bad project c.args.name.now file value c.in-Some.why
          (whole_file file value (length c.args.value.now) (c.requires.there tells) (c.in_ok-read.ensures.bytes tells)) bad,
    )
