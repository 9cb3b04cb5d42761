use Rattle.std.proofs.Common.{◌≡◌, ◌≤◌, Bool, sym, subst}
use Rattle.std.specs.Prelude.{MatchBool}
use Rattle.least_cut.specs.Below.{AreNoneBelow}
use Rattle.least_cut.proofs.Steps.{none-over}
use Rattle.least_cut.proofs.search.Search.is_done.Goals as goal

pub returns-then-is_over : goal.returns-then-is_over
returns-then-is_over c = λ first shape q s.
    let a = c.args in
    let search = a.self.now in
    let over = (c.is_over.ensures shape q s.floors_of).0 c.if-is_over.true in
    subst (λ (b : Bool). MatchBool b (AreNoneBelow a.limits shape q search.sizes.cut) ((1 ≤ search.sizes.cut) × (search.floors.cut ≡ search.sizes.cut)))
    (sym c.if-is_over.true)
    (none-over a.limits shape q search s.near (λ lower below. c.stop_laws.ensures.stop a.limits shape q search.floors.cut lower over below))
