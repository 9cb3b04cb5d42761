use Rattle.std.proofs.Common.{◌≡◌, ◌∙◌, ◌*◌, sym, ap, ap₂, arith, length, map}
use Rattle.std.proofs.lemmas.List.{length-set, take_all}
use Rattle.codec_terms.specs.Grid.{grid_of}
use Rattle.codec_terms.specs.TagTree.{new_node}
use Rattle.tag_tree.specs.Children.{wide}
use Rattle.tag_tree.proofs.Parents.{whole-values, values-more, map-grid_of, grid_of-sized}
use Rattle.tag_tree.proofs.grid.Grid+Node.set_values.Goals as goal

pub index_mut-requires : goal.index_mut-requires
index_mut-requires c =
    let s = c.self.inside in
    let same : length c.args.values.now ≡ length (grid_of s.columns s.rows s.items.items) * wide (grid_of s.columns s.rows s.items.items) = c.requires ∙ ap (λ grid. length grid * wide grid) (sym c.self.view_is) in
    let whole = whole-values s.columns s.rows s.items.items c.args.values.now c.self.invariant same in
    omega (arith, whole, c.loop-at.invariant.whole, c.loop-at.self-inside.items.ok.0, c.loop-at-test.true)

pub loop-at-preserved : goal.loop-at-preserved
loop-at-preserved c =
    let s = c.self.inside in
    let same : length c.args.values.now ≡ length (grid_of s.columns s.rows s.items.items) * wide (grid_of s.columns s.rows s.items.items) = c.requires ∙ ap (λ grid. length grid * wide grid) (sym c.self.view_is) in
    let whole = whole-values s.columns s.rows s.items.items c.args.values.now c.self.invariant same in
    let l = c.loop-at in
    record {
      columns = l.invariant.columns;
      rows = l.invariant.rows;
      whole = length-set l.self-inside.items.items l.at c.new.result ∙ l.invariant.whole;
      done = values-more l.self-inside.items.items c.args.values.now l.at c.new.result (omega (arith, whole, l.invariant.whole, c.loop-at-test.true)) c.loop-at-test.true c.new.ensures l.invariant.done;
    }

pub returns : goal.returns
returns c =
    let s = c.self.inside in
    let l = c.loop-at in
    let same : length c.args.values.now ≡ length (grid_of s.columns s.rows s.items.items) * wide (grid_of s.columns s.rows s.items.items) = c.requires ∙ ap (λ grid. length grid * wide grid) (sym c.self.view_is) in
    let whole = whole-values s.columns s.rows s.items.items c.args.values.now c.self.invariant same in
    let all : l.self-inside.items.items ≡ map new_node c.args.values.now =
    sym (take_all l.at l.self-inside.items.items (omega (arith, whole, l.invariant.whole, c.loop-at-test.false)))
    ∙ l.invariant.done ∙ ap (map new_node) (take_all l.at c.args.values.now c.loop-at-test.false) in
    ap₂ (λ m n. grid_of m n l.self-inside.items.items) l.invariant.columns l.invariant.rows
    ∙ ap (grid_of s.columns s.rows) all
    ∙ sym (map-grid_of new_node s.columns s.rows c.args.values.now)
    ∙ ap (map (map new_node)) (sym (grid_of-sized s.columns s.rows s.items.items c.args.values.now c.self.invariant)
    ∙ ap (λ grid. grid_of (wide grid) (length grid) c.args.values.now) c.self.view_is)
