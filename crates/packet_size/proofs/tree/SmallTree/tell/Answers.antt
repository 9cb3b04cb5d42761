use Rattle.std.proofs.Common.{◌≡◌, ◌∙◌, ◌+◌, ◌*◌, ◌/◌, ◌<◌, ap, ap₂, arith, get_or}
use Rattle.codec_terms.specs.TagTree.{Node, Tree, no_node, node_told}
use Rattle.packet_size.specs.SmallTrees.{half, IsSmall}
use Rattle.packet_size.specs.Trees.{tree_of}
use Rattle.packet_size.proofs.Paths.{told-is, bits-are, item-any, parent-inside, leaf-inside, parent_at, leaf_at, top_told, parent_told, leaf_told_at}
use Rattle.packet_size.proofs.tree.SmallTree.tell.Goals as goal

pub returns-clause-told : goal.returns-clause-told
unfolding tree_of
returns-clause-told c =
    let s = c.args.self.now in
    let t = c.args.threshold in
    let x = c.args.at.x in
    let y = c.args.at.y in
    let i = y / 2 * c.div_ceil-half.result + x / 2 in
    let small : IsSmall s.columns s.rows = s.no_more.small in
    let place : i ≡ y / 2 * half s.columns + x / 2 = ap (λ h. y / 2 * h + x / 2) c.div_ceil-half.ensures in
    let inside : i < 4 = parent-inside s.columns s.rows i x y small c.requires.column c.requires.row place in
    let parent : get_or s.parents i c.index-self-above.result ≡ parent_at s.columns s.parents x y =
    item-any s.parents i c.index-self-above.result no_node (omega (arith, inside)) ∙ ap (λ i. get_or s.parents i no_node) place in
    let leaf : get_or s.leaves (y * s.columns + x) c.index-self-at.result ≡ leaf_at s.columns s.leaves x y =
    item-any s.leaves (y * s.columns + x) c.index-self-at.result no_node (omega (arith, leaf-inside s.columns s.rows x y small c.requires.column c.requires.row)) in
    let top : c.tell-low.new.self ≡ top_told t s.top = c.tell-low.ensures.told in
    let low = c.tell-low.ensures.reached ∙ ap (λ (n : Node). n.reached) top in
    let above : c.tell-low-2.new.self ≡ parent_told t s.columns s.top s.parents x y = c.tell-low-2.ensures.told ∙ ap₂ (node_told t) low parent in
    let next = c.tell-low-2.ensures.reached ∙ ap (λ (n : Node). n.reached) above in
    let lowest : c.tell.new.self ≡ leaf_told_at t s.columns s.top s.parents s.leaves x y = c.tell.ensures.told ∙ ap₂ (node_told t) next leaf in
    ap (λ levels. let tree : Tree = record { columns = s.columns; levels = levels } in tree)
    (told-is t s.columns s.rows s.top s.parents s.leaves x y s.no_more c.requires.column c.requires.row i c.tell-low.new.self c.tell-low-2.new.self c.tell.new.self place top above lowest)

pub returns-clause-bits : goal.returns-clause-bits
unfolding tree_of
returns-clause-bits c =
    let s = c.args.self.now in
    let t = c.args.threshold in
    let x = c.args.at.x in
    let y = c.args.at.y in
    let i = y / 2 * c.div_ceil-half.result + x / 2 in
    let small : IsSmall s.columns s.rows = s.no_more.small in
    let place : i ≡ y / 2 * half s.columns + x / 2 = ap (λ h. y / 2 * h + x / 2) c.div_ceil-half.ensures in
    let inside : i < 4 = parent-inside s.columns s.rows i x y small c.requires.column c.requires.row place in
    let parent : get_or s.parents i c.index-self-above.result ≡ parent_at s.columns s.parents x y =
    item-any s.parents i c.index-self-above.result no_node (omega (arith, inside)) ∙ ap (λ i. get_or s.parents i no_node) place in
    let leaf : get_or s.leaves (y * s.columns + x) c.index-self-at.result ≡ leaf_at s.columns s.leaves x y =
    item-any s.leaves (y * s.columns + x) c.index-self-at.result no_node (omega (arith, leaf-inside s.columns s.rows x y small c.requires.column c.requires.row)) in
    let top : c.tell-low.new.self ≡ top_told t s.top = c.tell-low.ensures.told in
    let low = c.tell-low.ensures.reached ∙ ap (λ (n : Node). n.reached) top in
    let above : c.tell-low-2.new.self ≡ parent_told t s.columns s.top s.parents x y = c.tell-low-2.ensures.told ∙ ap₂ (node_told t) low parent in
    let next = c.tell-low-2.ensures.reached ∙ ap (λ (n : Node). n.reached) above in
    bits-are t s.columns s.rows s.top s.parents s.leaves x y s.no_more c.requires.column c.requires.row
    c.args.counter.now c.tell-low.new.counter c.tell-low-2.new.counter c.tell.new.counter c.tell-low.result c.tell-low-2.result
    (get_or s.parents i c.index-self-above.result) (get_or s.leaves (y * s.columns + x) c.index-self-at.result) low next parent leaf c.tell-low.ensures.bits c.tell-low-2.ensures.bits c.tell.ensures.bits
