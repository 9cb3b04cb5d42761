use Rattle.std.proofs.Common.{◌≡◌, max, arith, ◌∙◌}
use Rattle.film_plan.specs.Needs as spec
use Rattle.film_plan.proofs.Greatest.{greatest_more, ord_max-max}
use Rattle.film_plan.proofs.needs.frames_played.Goals as goal

pub loop-clip-preserved : goal.loop-clip-preserved
loop-clip-preserved c =
    let greater : c.max-most.result ≡ max c.loop-clip.most c.clip_played.result = c.max-most.ensures ∙ ord_max-max c.loop-clip.most c.clip_played.result in
    let more = greatest_more (spec.frames_played c.args.place) c.args.clips.now c.loop-clip.clip-index c.clip-item.result (omega arith) c.clip-item.is in
    record {
      value = omega (arith, greater, more);
      small = omega (arith, greater);
    }
