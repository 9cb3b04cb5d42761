use Rattle.std.proofs.Common.{◌≡◌, ◌++◌, length, take, drop, min, Some, Ok, sym, ap₂, ◌∙◌, arith, length-append, length-drop, length-take}
use Rattle.std.specs.Prelude.{option_map}
use Rattle.std.proofs.lemmas.Result.{IfOk-weaker}
use Rattle.mast_world.specs.Content.{part_of}
use Rattle.raw_frames.specs.Frames.{of_file, pixels_at, ppm_frame, IsCause}
use Rattle.raw_frames.proofs.Reading.{ppm-good, ppm-bad, cause-earlier, IfErr-from}
use Rattle.raw_frames.proofs.pixels.ppm_pixels.Goals as goal

pub returns-in-Ok-clause-read : goal.returns-in-Ok-clause-read
returns-in-Ok-clause-read g c = λ tells.
    let file = g.S.Source.file c.args.source.now c.args.name.now in
    let size = length c.args.pixels.now in
    let there : option_map length file ≡ Some c.in-Some.have = sym (c.in_ok-have.ensures.size tells) ∙ c.in-Some.is in
    let few : length (take c.min.result c.args.pixels.now) ≡ min c.in-Some.have 1024 =
    omega (arith, length-take c.min.result c.args.pixels.now, c.min.ensures) in
    let room : length (c.read.new.into ++ drop c.min.result c.args.pixels.now) ≡ size =
    omega (arith, length-append c.read.new.into (drop c.min.result c.args.pixels.now), length-drop c.min.result c.args.pixels.now, length-take c.min.result c.args.pixels.now, c.read.auto.into) in
    let first : c.read.new.into ≡ part_of file 0 (min c.in-Some.have 1024) =
    c.in_ok-read.ensures.bytes tells ∙ ap₂ (λ f n. part_of (f c.args.name.now) 0 n) c.find.ensures.same_files few in
    let here : of_file (pixels_at c.in-Ok.at (length (c.read.new.into ++ drop c.min.result c.args.pixels.now))) (g.S.Source.file c.read.new.self c.args.name.now)
    ≡ of_file (ppm_frame c.args.width.now c.args.height.now size) file =
    ap₂ (λ f n. of_file (pixels_at c.in-Ok.at n) (f c.args.name.now)) (c.read.ensures.same_files ∙ c.find.ensures.same_files) room
    ∙ ppm-good file c.args.width.now c.args.height.now c.read.new.into size c.in-Some.have c.in-Ok.at there first c.in-Ok.ensures.end in
    IfOk-weaker c.read_pixels.result
    (λ _. of_file (pixels_at c.in-Ok.at (length (c.read.new.into ++ drop c.min.result c.args.pixels.now))) (g.S.Source.file c.read.new.self c.args.name.now) ≡ Ok c.read_pixels.new.pixels)
    (λ _. of_file (ppm_frame c.args.width.now c.args.height.now size) file ≡ Ok c.read_pixels.new.pixels)
    (λ _ e. sym here ∙ e) (c.read_pixels.ensures.read tells)

pub returns-in-Ok-clause-cause : goal.returns-in-Ok-clause-cause
returns-in-Ok-clause-cause g c =
    let file = g.S.Source.file c.args.source.now c.args.name.now in
    let size = length c.args.pixels.now in
    let room : length (c.read.new.into ++ drop c.min.result c.args.pixels.now) ≡ size =
    omega (arith, length-append c.read.new.into (drop c.min.result c.args.pixels.now), length-drop c.min.result c.args.pixels.now, length-take c.min.result c.args.pixels.now, c.read.auto.into) in
    let later = of_file (pixels_at c.in-Ok.at (length (c.read.new.into ++ drop c.min.result c.args.pixels.now))) (g.S.Source.file c.read.new.self c.args.name.now) in
    let shown = of_file (ppm_frame c.args.width.now c.args.height.now size) file in
    let here : g.S.Source.tells → later ≡ shown = λ tells.
    (let there : option_map length file ≡ Some c.in-Some.have = sym (c.in_ok-have.ensures.size tells) ∙ c.in-Some.is in
    let few : length (take c.min.result c.args.pixels.now) ≡ min c.in-Some.have 1024 =
    omega (arith, length-take c.min.result c.args.pixels.now, c.min.ensures) in
    let first : c.read.new.into ≡ part_of file 0 (min c.in-Some.have 1024) =
    c.in_ok-read.ensures.bytes tells ∙ ap₂ (λ f n. part_of (f c.args.name.now) 0 n) c.find.ensures.same_files few in
    ap₂ (λ f n. of_file (pixels_at c.in-Ok.at n) (f c.args.name.now)) (c.read.ensures.same_files ∙ c.find.ensures.same_files) room
    ∙ ppm-good file c.args.width.now c.args.height.now c.read.new.into size c.in-Some.have c.in-Ok.at there first c.in-Ok.ensures.end) in
    let count = rw c.in-Some.is at c.in_ok-have.ensures.count_absent in
    IfErr-from c.read_pixels.result
    (IsCause g.S.Source.tells later g.S.Source.absent g.S.Source.faults c.read.new.self c.read_pixels.new.source)
    (IsCause g.S.Source.tells shown g.S.Source.absent g.S.Source.faults c.args.source.now c.read_pixels.new.source)
    (λ why. cause-earlier g.S.Source.tells later shown g.S.Source.absent g.S.Source.faults c.args.source.now c.read.new.self
    c.read_pixels.new.source why here (omega (arith, count, c.read.ensures.same_absent))
    (omega (arith, c.in_ok-have.ensures.faults, c.in_ok-read.ensures.faults)))
    c.read_pixels.ensures.cause

pub returns-in-Err-clause-cause : goal.returns-in-Err-clause-cause
returns-in-Err-clause-cause g c = λ tells.
    let file = g.S.Source.file c.args.source.now c.args.name.now in
    let there : option_map length file ≡ Some c.in-Some.have = sym (c.in_ok-have.ensures.size tells) ∙ c.in-Some.is in
    let few : length (take c.min.result c.args.pixels.now) ≡ min c.in-Some.have 1024 =
    omega (arith, length-take c.min.result c.args.pixels.now, c.min.ensures) in
    let first : c.read.new.into ≡ part_of file 0 (min c.in-Some.have 1024) =
    c.in_ok-read.ensures.bytes tells ∙ ap₂ (λ f n. part_of (f c.args.name.now) 0 n) c.find.ensures.same_files few in
    ppm-bad file c.args.width.now c.args.height.now c.read.new.into (length c.args.pixels.now) c.in-Some.have c.in-Err.bad there first c.in-Err.ensures.end
