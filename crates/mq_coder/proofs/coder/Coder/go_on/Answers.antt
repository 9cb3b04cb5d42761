use Rattle.std.proofs.Common.{◌≡◌, subst, sym, ap₂, ◌∙◌}
use Rattle.codec_terms.specs.Mq.{coded}
use Rattle.mq_coder.specs.Bytes.{registers_of}
use Rattle.mq_laws.specs.Ready.{Ready}
use Rattle.mq_laws.proofs.Lengths.{coded-ready}
use Rattle.mq_coder.proofs.Coding.{enc}
use Rattle.mq_coder.proofs.Resume.{holds, again}
use Rattle.mq_coder.proofs.coder.Coder.go_on.Goals as goal

pub invariant_of-self-2 : goal.invariant_of-self-2
invariant_of-self-2 c =
    let ds = c.requires.0 in
    let k = c.requires.1.continues in
    let same : registers_of c.interval_of-self-inside.result c.begin.new.out ≡ (coded ds).registers =
    again (coded ds).registers c.args.bytes.now c.begin.new.out c.args.ending.now c.interval_of-self-inside.result
    (holds ds c.args.bytes.now c.args.ending.now k) (c.in_ok-begin.ensures.ok ds k) c.interval_of-self-inside.ensures in
    record { ready = subst Ready (sym same) (coded-ready ds); states = c.states.invariant }

pub returns-clause-ok : goal.returns-clause-ok
returns-clause-ok c =
    λ ds p.
    ap₂ enc
    (again (coded ds).registers c.args.bytes.now c.begin.new.out c.args.ending.now c.interval_of-self-inside.result
    (holds ds c.args.bytes.now c.args.ending.now p.continues) (c.in_ok-begin.ensures.ok ds p.continues) c.interval_of-self-inside.ensures)
    (c.states.view_is ∙ p.states_are)
