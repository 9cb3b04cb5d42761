use Rattle.std.proofs.Common.{sym, ◌∙◌, arith}
use Rattle.std.proofs.lemmas.List.{length-replicate, same_lists, get_or_default, get_or-replicate}
use Rattle.frame_maker.proofs.black.is_black.Goals as goal

pub returns : goal.returns
returns c = λ all. same_lists _ _ (sym (length-replicate _ 0)) (λ k d inside.
    get_or_default c.args.raw.now k d 0 inside
    ∙ (c.loop-byte.invariant k (omega (arith, inside, c.loop-byte-test.false)) ∙ sym (get_or-replicate _ k 0 d inside)))
