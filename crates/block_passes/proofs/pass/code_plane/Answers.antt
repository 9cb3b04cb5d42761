use Rattle.std.proofs.Common.{refl}
use Rattle.block_passes.proofs.Planes.{told-start, told-cleaned}
use Rattle.block_passes.proofs.pass.code_plane.Goals as goal

pub returns : goal.returns
returns c = λ b p is h.
    let begun = told-start b p c.args.state.now _ refl refl refl refl h in
    told-cleaned b p is.whole c.clean_all.new.state _ _ refl refl refl refl refl
    (c.clean_all.ensures.told b p _ is (c.refine_all.ensures.told b p _ is (c.propagate_all.ensures.told b p _ is begun)))
