use Rattle.std.proofs.Common.{◌≡◌, ◌∙◌, ◌+◌, ◌-◌, ◌*◌, suc, sym, ap, arith, true, false}
use Rattle.std.proofs.lemmas.Result.{err_from_is_err_and}
use Rattle.codec_terms.specs.TagTree.{wants, pushed}
use Rattle.header_bits.proofs.Leaves.{leaf_read_within-none, leaf_read_within-unwanted, leaf_read_within-more, leaf_read_within-err}
use Rattle.packet_reading.proofs.block_head.read_leaf.Goals as goal

pub returns-then-not-wants-clause-read : goal.returns-then-not-wants-clause-read
returns-then-not-wants-clause-read c =
    let a = c.args in
    let l = c.loop in
    let unwanted : wants a.threshold l.tree a.at ≡ false =
    ap (λ t. wants t l.tree a.at) (sym c.from-threshold.ensures) ∙ sym c.wants.ensures ∙ c.if-not-wants.true in
    l.invariant.same ∙ leaf_read_within-unwanted a.bytes.now a.threshold a.at _ l.tree l.place unwanted

pub returns-in_err-bit-clause-refused : goal.returns-in_err-bit-clause-refused
returns-in_err-bit-clause-refused c =
    let p = err_from_is_err_and c.from_residual.result c.from_residual.ensures.1 in
    let a = c.args in
    let l = c.loop in
    let most = c.from-threshold.result * c.level_count.result in
    let wanted : wants a.threshold l.tree a.at ≡ true =
    ap (λ t. wants t l.tree a.at) (sym c.from-threshold.ensures) ∙ sym c.wants.ensures ∙ c.if-not-wants.false in
    let one : most - l.counter ≡ suc (most - (l.counter + 1)) = omega arith in
    rw (p.1, p.2) (l.invariant.same ∙ leaf_read_within-err a.bytes.now a.threshold a.at _ _ l.tree l.place c.in_err-bit.field-0.0 wanted c.in_err-bit.ensures.refused one)

pub loop-preserved : goal.loop-preserved
loop-preserved c =
    let a = c.args in
    let l = c.loop in
    let most = c.from-threshold.result * c.level_count.result in
    let wanted : wants a.threshold l.tree a.at ≡ true =
    ap (λ t. wants t l.tree a.at) (sym c.from-threshold.ensures) ∙ sym c.wants.ensures ∙ c.if-not-wants.false in
    let push : c.push.new.self ≡ pushed c.in_ok-bit.bit a.threshold l.tree a.at =
    c.push.ensures.pushed ∙ ap (λ t. pushed c.in_ok-bit.bit t l.tree a.at) c.from-threshold.ensures in
    let one : most - l.counter ≡ suc (most - (l.counter + 1)) = omega arith in
    record {
      size = c.push.ensures.size ∙ l.invariant.size;
      same = l.invariant.same
          ∙ leaf_read_within-more a.bytes.now a.threshold a.at _ _ l.tree c.push.new.self l.place c.read_bit.new.self c.in_ok-bit.bit wanted c.in_ok-bit.ensures.read push one;
    }

pub returns-clause-read : goal.returns-clause-read
returns-clause-read c =
    let a = c.args in
    let l = c.loop in
    let most = c.from-threshold.result * c.level_count.result in
    let none : most - l.counter ≡ 0 = omega arith in
    l.invariant.same ∙ leaf_read_within-none a.bytes.now a.threshold a.at _ l.tree l.place none
