use Rattle.std.proofs.Common.{◌≡◌, ◌*◌, arith, ◌∙◌, ap, replicate}
use Rattle.codec_terms.specs.Grid.{grid_of}
use Rattle.tag_tree.proofs.Grids.{grid_of-replicate}
use Rattle.tag_tree.proofs.grid.Grid.filled.Goals as goal

pub returns : goal.returns
returns g c =
    let all : c.loop.counter ≡ c.args.rows * c.args.columns = omega (arith, c.loop.auto.counter-end, c.loop-test.false) in
    ap (λ items. grid_of c.args.columns c.args.rows items) (c.loop.invariant ∙ ap (λ n. replicate n c.args.item) all)
    ∙ grid_of-replicate c.args.columns c.args.rows c.args.item
