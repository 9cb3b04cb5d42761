use Rattle.std.proofs.Common.{◌∙◌, inl, inr, sym, ap, arith}
use Rattle.std.proofs.lemmas.Result.{err_from_is_err_and}
use Rattle.codec_terms.specs.TagTree.{Found}
use Rattle.packet_scan.proofs.NodeReading.{node-shut, node-found, node-refused}
use Rattle.packet_scan.proofs.node.Node.read.Goals as goal
use Rattle.packet_scan.proofs.node.Node.read.Goals.{then-self-via-then-self, then-self-via-else-self+then-threshold-raised}

pub returns-then-self-clause-read : goal.returns-then-self-clause-read
returns-then-self-clause-read c =
    let n = c.args.self.now in
    let known = ap (λ (q : Found). q.known) (sym c.self.view_is) in
    let reached = ap (λ (q : Found). q.reached) (sym c.self.view_is) in
    node-shut c.args.bytes.now c.args.threshold c.args.low n c.args.place.now
    (elim c.then-self.branch [
      | then-self-via-then-self w ↦ inl (known ∙ w.if-self.true)
      | then-self-via-else-self+then-threshold-raised w ↦ inr (omega (arith, w.if-threshold-raised.true, c.max-raised.ensures, reached))
    ])

pub returns-in_err-zeros-clause-refused : goal.returns-in_err-zeros-clause-refused
returns-in_err-zeros-clause-refused c =
    let e = err_from_is_err_and c.from_residual.result c.from_residual.ensures.1 in
    let n = c.args.self.now in
    let known = ap (λ (q : Found). q.known) (sym c.self.view_is) in
    let reached = ap (λ (q : Found). q.reached) (sym c.self.view_is) in
    rw (e.1, e.2)
    (node-refused c.args.bytes.now c.args.threshold c.args.low c.max-raised.result n c.args.place.now c.in_err-zeros.field-0.0
    (known ∙ c.if-self.false) (omega (arith, c.max-raised.ensures, reached)) c.if-threshold-raised.false c.in_err-zeros.ensures.refused)

pub returns-clause-read : goal.returns-clause-read
returns-clause-read c =
    let n = c.args.self.now in
    let known = ap (λ (q : Found). q.known) (sym c.self.view_is) in
    let reached = ap (λ (q : Found). q.reached) (sym c.self.view_is) in
    node-found c.args.bytes.now c.args.threshold c.args.low c.max-raised.result n c.args.place.now c.read_zeros.new.place c.in_ok-zeros.zeros
    (known ∙ c.if-self.false) (omega (arith, c.max-raised.ensures, reached)) c.if-threshold-raised.false c.in_ok-zeros.ensures.read

pub returns-clause-reached : goal.returns-clause-reached
returns-clause-reached c = omega (arith, c.in_ok-zeros.ensures.least, c.max-raised.ensures)
