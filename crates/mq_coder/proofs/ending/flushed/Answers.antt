use Rattle.std.proofs.Common.{◌≡◌, reverse, ap, subst, sym, ◌∙◌}
use Rattle.codec_terms.specs.Mq.{last_byte, coded}
use Rattle.mq_laws.specs.Ready.{Ready}
use Rattle.mq_laws.proofs.Lengths.{coded-ready}
use Rattle.mq_coder.proofs.Coding.{enc}
use Rattle.mq_coder.proofs.Endings.{flushed-is, codeword-is}
use Rattle.mq_coder.proofs.Resume.{holds, again}
use Rattle.mq_coder.proofs.ending.flushed.Goals as goal

pub tail_of-tail-requires-clause-wide : goal.tail_of-tail-requires-clause-wide
tail_of-tail-requires-clause-wide c =
    let ds = c.requires.0 in
    let same = again (coded ds).registers c.args.bytes.now c.begin.new.out c.args.ending.now c.interval_of.result
    (holds ds c.args.bytes.now c.args.ending.now c.requires.1) (c.in_ok-begin.ensures.ok ds c.requires.1) c.interval_of.ensures in
    (subst Ready (sym same) (coded-ready ds)).high

pub tail_of-tail-requires-clause-narrow : goal.tail_of-tail-requires-clause-narrow
tail_of-tail-requires-clause-narrow c =
    let ds = c.requires.0 in
    let same = again (coded ds).registers c.args.bytes.now c.begin.new.out c.args.ending.now c.interval_of.result
    (holds ds c.args.bytes.now c.args.ending.now c.requires.1) (c.in_ok-begin.ensures.ok ds c.requires.1) c.interval_of.ensures in
    (subst Ready (sym same) (coded-ready ds)).valid.narrow

pub tail_of-tail-requires-clause-shifts : goal.tail_of-tail-requires-clause-shifts
tail_of-tail-requires-clause-shifts c =
    let ds = c.requires.0 in
    let same = again (coded ds).registers c.args.bytes.now c.begin.new.out c.args.ending.now c.interval_of.result
    (holds ds c.args.bytes.now c.args.ending.now c.requires.1) (c.in_ok-begin.ensures.ok ds c.requires.1) c.interval_of.ensures in
    (subst Ready (sym same) (coded-ready ds)).valid.shifts

pub tail_of-tail-requires-clause-within : goal.tail_of-tail-requires-clause-within
tail_of-tail-requires-clause-within c =
    let ds = c.requires.0 in
    let same = again (coded ds).registers c.args.bytes.now c.begin.new.out c.args.ending.now c.interval_of.result
    (holds ds c.args.bytes.now c.args.ending.now c.requires.1) (c.in_ok-begin.ensures.ok ds c.requires.1) c.interval_of.ensures in
    (subst Ready (sym same) (coded-ready ds)).valid.sound.within

pub returns : goal.returns
returns c =
    λ ds k.
    let same = again (coded ds).registers c.args.bytes.now c.begin.new.out c.args.ending.now c.interval_of.result
    (holds ds c.args.bytes.now c.args.ending.now k) (c.in_ok-begin.ensures.ok ds k) c.interval_of.ensures in
    let last : c.last_of.result ≡ last_byte (reverse c.begin.new.out) =
    c.last_of.ensures ∙ ap (λ l. last_byte (reverse l)) c.as_slice.ensures in
    c.into_bytes.ensures
    ∙ flushed-is (coded ds) c.interval_of.result c.begin.new.out c.end_with.new.bytes (coded ds).states c.last_of.result
    c.tail_of-tail.result (ap (λ r. enc r (coded ds).states) same) last c.tail_of-tail.ensures c.in_ok-end_with.ensures
    ∙ codeword-is (coded ds) ds (λ _. coded ds)
