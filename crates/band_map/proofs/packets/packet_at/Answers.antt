use Rattle.std.proofs.Common.{◌≡◌, ◌*◌, ◌+◌, ap, ap₂, sym, ◌∙◌, arith, Some}
use Rattle.std.specs.Option.{option_map}
use Rattle.codec_terms.specs.Precincts.{Precinct}
use Rattle.band_laws.specs.Places.{place_precincts, place_count}
use Rattle.band_map.proofs.Search.{item-here, item-later}
use Rattle.band_map.proofs.Places.{packets-from_first, IsFirst, length-place, place-item}
use Rattle.band_map.proofs.packets.packet_at.Goals as goal

pub loop-place-init : goal.loop-place-init
loop-place-init c = packets-from_first c.args.shape c.args.n

pub returns-then-left-count : goal.returns-then-left-count
returns-then-left-count c =
    let shape = c.args.shape in
    let place = c.loop-place.place in
    let columns = c.precincts_along-columns.result in
    let first = c.least_resolution-first.result in
    let left = c.loop-place.left in
    let here : IsFirst shape place columns first = record { columns_are = c.precincts_along-columns.ensures.number; first_is = c.least_resolution-first.ensures } in
    let count = length-place shape place columns first here in
    let all : columns * c.precincts_along-rows.result ≡ place_count shape =
    ap₂ (λ a b. a * b) c.precincts_along-columns.ensures.number c.precincts_along-rows.ensures.number in
    ap (λ m. Some (first + left, m)) c.number_at.ensures
    ∙ sym (ap (option_map (λ (p : Precinct). (p.resolution, p.number)))
    (c.loop-place.invariant
    ∙ (item-here (place_precincts shape) (place_count shape) place left (omega arith) (omega arith)
    ∙ place-item shape place columns first left here (omega arith))))

pub loop-place-preserved : goal.loop-place-preserved
loop-place-preserved c =
    let shape = c.args.shape in
    let place = c.loop-place.place in
    let columns = c.precincts_along-columns.result in
    let first = c.least_resolution-first.result in
    let here : IsFirst shape place columns first = record { columns_are = c.precincts_along-columns.ensures.number; first_is = c.least_resolution-first.ensures } in
    let count = length-place shape place columns first here in
    let all : columns * c.precincts_along-rows.result ≡ place_count shape =
    ap₂ (λ a b. a * b) c.precincts_along-columns.ensures.number c.precincts_along-rows.ensures.number in
    c.loop-place.invariant ∙ item-later (place_precincts shape) (place_count shape) place c.loop-place.left _ (omega arith) (omega arith)
