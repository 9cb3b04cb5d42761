use Rattle.std.proofs.Common.{◌≡◌, ◌≤◌, ◌<◌, ◌+◌, ◌*◌, ◌^◌, true, false, length, get_or, refl, ap, sym, subst, ◌∙◌, arith}
use Rattle.std.proofs.lemmas.Int.{ints}
use Rattle.mast_world.proofs.Kept.{source_kept, source_kept_on}
use Rattle.pcm_mix.specs.Mix.{clip_part, plays, samples_of}
use Rattle.pcm_mix.specs.Sums.{AreRaised}
use Rattle.pcm_mix.proofs.Mixed.{raised_by_clip, raised_without, taken_all, taken_more, taken_same}
use Rattle.pcm_mix.proofs.frame.add_clips.Goals as goal
use Rattle.pcm_mix.proofs.frame.add_clips.Goals.{then-plays+in_ok-add_clip, else-plays}

pub loop-clip-init : goal.loop-clip-init
loop-clip-init g c =
    let source = g.S.Source in
    record {
      raised = λ tells i to i_below to_below. omega (arith, ints);
      within = c.requires.room;
      taken = omega arith;
      untroubled = refl;
      same_absent = refl;
      kept = source_kept source.file source.absent source.taken source.faults c.args.source.now;
    }

pub loop-clip-preserved : goal.loop-clip-preserved
loop-clip-preserved g c =
    let source = g.S.Source in
    let files = source.file c.args.source.now in
    let project = c.args.project.now in
    let f = c.args.f in
    let n = c.loop-clip.clip-index in
    let clip = c.clip-item.result in
    let before = c.loop-clip.invariant in
    let sound : c.as_slice-clip-items.result.now ≡ project.sound = c.as_slice-clip-items.ensures ∙ ap (λ p. p.sound) c.project.view_is in
    let inside : n < length project.sound = omega (arith, c.loop-clip-test.true, ap length sound) in
    let is : clip ≡ get_or project.sound n clip = c.clip-item.is ∙ ap (λ clips. get_or clips n clip) sound in
    elim c.if-plays.branch [
      | then-plays+in_ok-add_clip w ↦ (
          let now = w.add_clip.new in
          let step = w.in_ok-add_clip.ensures in
          let test : plays clip f ≡ true = sym c.plays.ensures ∙ w.if-plays.true in
          rw (w.sums-is, w.source-is) (record {
            raised = λ tells. raised_by_clip files project f project.sound n clip (samples_of project) project.channels c.args.sums.now c.loop-clip.sums now.sums
                inside is test (before.raised tells)
                (subst (λ files. AreRaised (clip_part files project clip f) (samples_of project) project.channels c.loop-clip.sums now.sums) before.kept.same_files (step.raised tells));
            within = λ i to i_below to_below. omega (arith, step.within (2 ^ 60 + n * 2 ^ 49) before.within i to i_below to_below);
            taken = taken_more project f project.sound n clip (source.taken c.args.source.now) (source.taken c.loop-clip.source) (source.taken now.source)
                inside is test before.taken step.taken;
            untroubled = step.untroubled ∙ before.untroubled;
            same_absent = step.same_absent ∙ before.same_absent;
            kept = source_kept_on source.file source.absent source.taken source.faults c.args.source.now c.loop-clip.source now.source before.kept step.kept;
          }))
      | else-plays w ↦ (
          let test : plays clip f ≡ false = sym c.plays.ensures ∙ w.if-plays.false in
          rw (w.sums-is, w.source-is) (record {
            raised = λ tells. raised_without files project f project.sound n clip (samples_of project) project.channels c.args.sums.now c.loop-clip.sums
                inside is test (before.raised tells);
            within = λ i to i_below to_below. omega (arith, before.within i to i_below to_below);
            taken = taken_same project f project.sound n clip (source.taken c.args.source.now) (source.taken c.loop-clip.source) inside is test before.taken;
            untroubled = before.untroubled;
            same_absent = before.same_absent;
            kept = before.kept;
          }))
    ]

pub returns-clause-taken : goal.returns-clause-taken
returns-clause-taken g c =
    let project = c.args.project.now in
    let sound : c.as_slice-clip-items.result.now ≡ project.sound = c.as_slice-clip-items.ensures ∙ ap (λ p. p.sound) c.project.view_is in
    let all : length project.sound ≤ c.loop-clip.clip-index = omega (arith, c.loop-clip-test.false, ap length sound) in
    taken_all project c.args.f c.loop-clip.clip-index (g.S.Source.taken c.args.source.now) (g.S.Source.taken c.loop-clip.source) all c.loop-clip.invariant.taken
