use Rattle.std.proofs.Common.{◌∙◌}
use Rattle.std.proofs.lemmas.Result.{err_from_is_err_and}
use Rattle.packet_scan.proofs.Scans.{ends-more, ends-past, ends-none}
use Rattle.packet_scan.proofs.codewords.codewords_end.Goals as goal

pub returns-in_err-at-clause-refused : goal.returns-in_err-at-clause-refused
returns-in_err-at-clause-refused c =
    let e = err_from_is_err_and c.from_residual.result c.from_residual.ensures.1 in
    let l = c.loop-size in
    rw (e.1, e.2, c.in_err-at.ensures.refused)
    (l.invariant ∙ ends-past _ c.args.sizes.now l.size-index l.at 0 c.loop-size-test.true c.in_err-at.ensures.past)

pub loop-size-preserved : goal.loop-size-preserved
loop-size-preserved c =
    let l = c.loop-size in
    l.invariant ∙ ends-more _ c.args.sizes.now l.size-index l.at c.in_ok-at.at 0 c.loop-size-test.true c.in_ok-at.ensures.within c.in_ok-at.ensures.end

pub returns-clause-end : goal.returns-clause-end
returns-clause-end c =
    let l = c.loop-size in
    l.invariant ∙ ends-none _ c.args.sizes.now l.size-index l.at c.loop-size-test.false
