use Rattle.std.proofs.Common.{◌≡◌, ◌+◌, ◌∙◌, ap, sym, suc, sum_by, arith}
use Rattle.std.specs.List.{range_with_len}
use Rattle.band_laws.specs.Places.{precinct_count}
use Rattle.band_laws.proofs.Before.{length-packet_order}
use Rattle.band_map.proofs.Search.{sum_by-range_more}
use Rattle.band_map.proofs.packets.packet_count.Goals as goal

pub loop-resolution-preserved : goal.loop-resolution-preserved
loop-resolution-preserved c =
    let r = c.loop-resolution.resolution in
    let more = sum_by-range_more (precinct_count c.args.shape) 0 r in
    let e : suc r ≡ r + 1 = omega arith in
    let at : precinct_count c.args.shape (0 + r) ≡ precinct_count c.args.shape r = ap (precinct_count c.args.shape) (omega arith) in
    record {
      sum = omega (arith, ap (λ n. sum_by (precinct_count c.args.shape) (range_with_len 0 n)) e);
      few = omega arith;
    }

pub returns : goal.returns
returns c =
    let e : c.loop-resolution.resolution ≡ 6 = omega arith in
    c.loop-resolution.invariant.sum
    ∙ (ap (λ n. sum_by (precinct_count c.args.shape) (range_with_len 0 n)) e ∙ sym (length-packet_order c.args.shape))
