use Rattle.std.proofs.Common.{◌∙◌, ◌+◌, ◌-◌}
use Rattle.std.specs.List.{range_with_len}
use Rattle.std.proofs.lemmas.Result.{err_from_is_err_and}
use Rattle.packet_reading.proofs.Behind.{one_more, all_read, refused_there}
use Rattle.packet_reading.proofs.BlockSteps.{next_block, no_blocks}
use Rattle.packet_reading.proofs.bands.read_band.Goals as goal

pub returns-in_err-head-clause-refused : goal.returns-in_err-head-clause-refused
returns-in_err-head-clause-refused c =
    let e = err_from_is_err_and c.from_residual-in_err-head.result c.from_residual-in_err-head.ensures.1 in
    let l = c.loop-at in
    let next = next_block l.at c.in_ok-count.count c.loop-at-test.true in
    rw (e.1, e.2) (refused_there _ _ l.heads l.invariant.same c.in_err-head.field-0.0
    (rw next (c.in_err-head.ensures.refused (range_with_len (l.at + 1) (c.in_ok-count.count - (l.at + 1))))))

pub loop-at-preserved : goal.loop-at-preserved
loop-at-preserved c =
    let l = c.loop-at in
    let next = next_block l.at c.in_ok-count.count c.loop-at-test.true in
    record {
      layers = c.read_block.ensures.layers_size ∙ l.invariant.layers;
      planes = c.read_block.ensures.planes_size ∙ l.invariant.planes;
      same =
          one_more _ _ l.heads l.invariant.same c.in_ok-head.head c.push.new.list _
          (rw next (c.in_ok-head.ensures.read (range_with_len (l.at + 1) (c.in_ok-count.count - (l.at + 1)))))
          c.in_ok-push.ensures.pushed;
    }

pub returns-clause-read : goal.returns-clause-read
returns-clause-read c =
    let l = c.loop-at in
    all_read _ _ l.heads l.invariant.same l.place
    (no_blocks c.args.bytes.now c.args.shape.mb l.layers l.planes l.at c.in_ok-count.count l.place c.loop-at-test.false)
