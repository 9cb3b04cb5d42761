use Rattle.std.proofs.Common.{◌∙◌, ap, refl}
use Rattle.std.specs.Prelude.{nat_lt}
use Rattle.codec_terms.specs.TagTree.{Node, node_bits}
use Rattle.packet_size.specs.Counting.{counted}
use Rattle.packet_size.proofs.NodeBits.{bits-untold, bits-known}
use Rattle.packet_size.proofs.node.Node.tell.Goals as goal
use Rattle.packet_size.proofs.node.Node.tell.Goals.{then-not-self, else-not-self}

pub returns-clause-bits : goal.returns-clause-bits
returns-clause-bits c =
    let a = c.args in
    let s = c.self.inside in
    let node : Node = record { value = s.value; reached = s.reached; known = s.known } in
    elim c.if-not-self.branch [
      | then-not-self w ↦ w.counter-is
          ∙ bits-untold a.threshold a.low w.from.result (nat_lt s.value a.threshold) node a.counter.now w.put_run.new.self w.if-not-self.true
          (rw (w.from.ensures, w.saturating_sub.ensures, c.max-raised.ensures, c.min-reached.ensures) refl) refl w.put_run.ensures.counted
          ∙ ap (λ (n : Node). counted a.counter.now (node_bits a.threshold a.low n)) c.self.view_is
      | else-not-self w ↦ w.counter-is ∙ bits-known a.threshold a.low node a.counter.now w.if-not-self.false
          ∙ ap (λ (n : Node). counted a.counter.now (node_bits a.threshold a.low n)) c.self.view_is
    ]
