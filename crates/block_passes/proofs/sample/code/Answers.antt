use Rattle.std.proofs.Common.{◌∙◌, ap, take, [], ◌∷◌, ◌++◌, ℕ}
use Rattle.block_passes.proofs.States.{told-with_decision}
use Rattle.block_passes.proofs.sample.code.Goals as goal

pub returns-clause-told : goal.returns-clause-told
returns-clause-told c = λ b v context bit h small is.
    told-with_decision b _ _ v context bit small c.push.ensures.words c.push.ensures.significant c.push.ensures.visited
    (c.push.ensures.list ∙ ap (λ (n : ℕ). take c.args.state.now.count c.args.state.now.decisions ++ n ∷ []) is) h
