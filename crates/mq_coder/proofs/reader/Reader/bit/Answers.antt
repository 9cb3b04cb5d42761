use Rattle.std.proofs.Common.{◌≡◌, ◌-◌, ◌/◌, ◌^◌, ◌≤◌, cond, ap, sym, subst, ◌∙◌, arith, get_or}
use Rattle.std.specs.Prelude.{nat_lt}
use Rattle.std.specs.Bool.{beq}
use Rattle.std.proofs.lemmas.Bool.{cond-true, cond-false}
use Rattle.codec_terms.specs.Mq.{decoded_bit, decoder_after}
use Rattle.mq_coder.specs.Sources.{reading_of}
use Rattle.mq_coder.proofs.Bits.{row-small, bit-quiet, after-quiet, bit-moved, after-moved, part-low, part-thin}
use Rattle.mq_coder.proofs.Coding.{states-set, next-below}
use Rattle.mq_coder.proofs.reader.Reader.bit.Goals as goal
use Rattle.mq_coder.proofs.reader.Reader.bit.Goals.{then-is_mps, else-is_mps}

pub overflow_sub-is_mps : goal.overflow_sub-is_mps
overflow_sub-is_mps c =
    omega (arith, row-small c.self.inside.states c.args.context c.row_of-row.result c.row_of-row.ensures, c.self.invariant.wide)

pub part_of-part-requires-clause-qe : goal.part_of-part-requires-clause-qe
part_of-part-requires-clause-qe c = row-small c.self.inside.states c.args.context c.row_of-row.result c.row_of-row.ensures

pub invariant_of-self : goal.invariant_of-self
invariant_of-self c =
    record {
      wide = c.if-part-ge32768.true;
      narrow = part-thin c.self.inside.states c.args.context c.row_of-row.result (reading_of c.self.inside.at c.self.inside.source) (reading_of c.part_of-part.result c.self.inside.source)
          c.row_of-row.ensures (c.part_of-part.ensures.part c.self.inside.source) c.self.invariant.narrow;
      shifts = omega (arith, c.part_of-part.ensures.ct, c.self.invariant.shifts);
      states = c.self.invariant.states;
    }

pub invariant_of-self-2 : goal.invariant_of-self-2
invariant_of-self-2 c =
    let m = beq (nat_lt (c.self.inside.at.a - c.row_of-row.result.qe) c.row_of-row.result.qe) (nat_lt (c.self.inside.at.c / 2 ^ 16) c.row_of-row.result.qe) in
    let chosen : c.if-is_mps.self ≡ cond m c.row_of-row.result.after_mps c.row_of-row.result.after_lps =
    elim c.if-is_mps.branch [
      | then-is_mps w ↦ w.self-is ∙ sym (cond-true _ _ _ w.if-is_mps.true)
      | else-is_mps w ↦ w.self-is ∙ sym (cond-false _ _ _ w.if-is_mps.false)
    ] in
    record {
      wide = c.renormalise-done.ensures.wide;
      narrow = c.renormalise-done.ensures.narrow;
      shifts = c.renormalise-done.ensures.shifts;
      states = states-set c.self.inside.states c.args.context c.if-is_mps.self
          (next-below m (get_or c.self.inside.states c.args.context 0) c.if-is_mps.self c.row_of-row.result c.row_of-row.ensures chosen)
          c.self.invariant.states;
    }

pub returns-then-part-ge32768-clause-bit : goal.returns-then-part-ge32768-clause-bit
returns-then-part-ge32768-clause-bit c =
    bit-quiet c.self.inside.states c.args.context c.row_of-row.result (reading_of c.self.inside.at c.self.inside.source) c.row_of-row.ensures
    (subst (λ r. 0x8000 ≤ r.a) (c.part_of-part.ensures.part c.self.inside.source) c.if-part-ge32768.true)
    ∙ ap (λ d. decoded_bit d c.args.context) c.self.view_is

pub returns-then-part-ge32768-clause-after : goal.returns-then-part-ge32768-clause-after
returns-then-part-ge32768-clause-after c =
    after-quiet c.self.inside.states c.args.context c.row_of-row.result (reading_of c.self.inside.at c.self.inside.source) (reading_of c.part_of-part.result c.self.inside.source)
    c.row_of-row.ensures (c.part_of-part.ensures.part c.self.inside.source) c.if-part-ge32768.true
    ∙ ap (λ d. decoder_after d c.args.context) c.self.view_is

pub renormalise-done-requires-clause-positive : goal.renormalise-done-requires-clause-positive
renormalise-done-requires-clause-positive c =
    part-low c.self.inside.states c.args.context c.row_of-row.result (reading_of c.self.inside.at c.self.inside.source) (reading_of c.part_of-part.result c.self.inside.source)
    c.row_of-row.ensures (c.part_of-part.ensures.part c.self.inside.source) c.self.invariant.wide

pub returns-clause-bit : goal.returns-clause-bit
returns-clause-bit c =
    bit-moved c.self.inside.states c.args.context c.row_of-row.result (reading_of c.self.inside.at c.self.inside.source) c.row_of-row.ensures
    ∙ ap (λ d. decoded_bit d c.args.context) c.self.view_is

pub returns-clause-after : goal.returns-clause-after
returns-clause-after c =
    let m = beq (nat_lt (c.self.inside.at.a - c.row_of-row.result.qe) c.row_of-row.result.qe) (nat_lt (c.self.inside.at.c / 2 ^ 16) c.row_of-row.result.qe) in
    let chosen : c.if-is_mps.self ≡ cond m c.row_of-row.result.after_mps c.row_of-row.result.after_lps =
    elim c.if-is_mps.branch [
      | then-is_mps w ↦ w.self-is ∙ sym (cond-true _ _ _ w.if-is_mps.true)
      | else-is_mps w ↦ w.self-is ∙ sym (cond-false _ _ _ w.if-is_mps.false)
    ] in
    after-moved c.self.inside.states c.args.context c.if-is_mps.self c.row_of-row.result (reading_of c.self.inside.at c.self.inside.source)
    (reading_of c.part_of-part.result c.self.inside.source) (reading_of c.renormalise-done.result c.renormalise-done.new.source) c.row_of-row.ensures (c.part_of-part.ensures.part c.self.inside.source)
    c.if-part-ge32768.false c.renormalise-done.ensures.on chosen
    ∙ ap (λ d. decoder_after d c.args.context) c.self.view_is
