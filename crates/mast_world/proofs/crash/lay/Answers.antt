use Rattle.std.proofs.Common.{◌≡◌, ◌∙◌, ap, subst, length, replicate, take, ◌++◌, ◌-◌, rules}
use Rattle.std.specs.Prelude.{OnOk, max, vec_len}
use Rattle.mast_world.specs.Content.{overwritten}
use Rattle.mast_world.proofs.CrashImages.{laid_grown}
use Rattle.mast_world.proofs.crash.lay.Goals as goal

pub returns : goal.returns
returns c =
    let old = c.args.bytes.now.items in
    let len : vec_len c.args.bytes.now ≡ length old = search rules in
    let is : c.max-size.result ≡ max (length old) c.args.at = c.max-size.ensures ∙ ap (λ n. max n c.args.at) (c.len.ensures ∙ len) in
    let grown = c.in_ok-resize.ensures.items ∙ ap (λ n. take c.max-size.result old ++ replicate (c.max-size.result - n) 0) len in
    subst (λ now. OnOk c.overwrite.result (c.overwrite.new.bytes.items ≡ now))
    (ap (λ before. overwritten before c.args.at c.args.new.now) grown ∙ laid_grown c.args.at c.args.new.now old c.max-size.result is)
    c.overwrite.ensures.ok
