use Rattle.std.proofs.Common.{◌≢◌, ◌∙◌, ◌<◌, length, arith, below_more}
use Rattle.std.proofs.lemmas.List.{length-set, get_or-set_other, get_or-set_same}
use Rattle.cut_floors.proofs.floors.all_floors.Goals as goal

pub loop-place-preserved : goal.loop-place-preserved
loop-place-preserved c = (
  length-set c.loop-place.packets c.loop-place.place _ ∙ c.loop-place.invariant.0,
  λ q coded. below_more _ _
      (λ k below. let other : k ≢ c.loop-place.place = omega arith in get_or-set_other c.loop-place.packets c.loop-place.place k _ 0 other ∙ c.loop-place.invariant.1 q coded k below)
      (let there : c.loop-place.place < length c.loop-place.packets = omega (arith, c.loop-place.invariant.0) in
      get_or-set_same c.loop-place.packets c.loop-place.place _ 0 there ∙ c.resolution_floor.ensures q coded),
)

pub returns : goal.returns
returns c = λ q coded. record { count = c.loop-place.invariant.0; each = λ k below. c.loop-place.invariant.1 q coded k (omega arith) }
