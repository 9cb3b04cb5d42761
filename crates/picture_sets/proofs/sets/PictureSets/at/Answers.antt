use Rattle.std.proofs.Common.{◌≡◌, ℤ, List, refl, sym, ap, ◌∙◌, subst, arith}
use Rattle.codec_terms.specs.declared.picture.Shape.{Shape}
use Rattle.codec_terms.specs.Precincts.{block_width, block_height}
use Rattle.codec_terms.specs.Codestream.{block_of}
use Rattle.picture_sets.specs.Blocks.{IsSplit}
use Rattle.picture_sets.specs.Sets.{PictureSets, picture_block, AreSetsOfPicture}
use Rattle.picture_sets.specs.declared.block.BlockSets.{BlockSets}
use Rattle.picture_sets.proofs.Planes.{is_block}
use Rattle.picture_sets.proofs.sets.PictureSets.at.Goals as goal

of_shape : (c : goal.After-lowest_planes) → c.self.inside.shape ≡ c.args.self.now.shape
of_shape c = ap (λ (v : PictureSets). v.shape) c.self.view_is

width_is : (c : goal.After-lowest_planes) → block_width c.args.self.now.shape c.args.band c.args.x ≡ c.block_size-width.result.0
width_is c = sym (c.block_size-width.ensures.width ∙ ap (λ (s : Shape). block_width s c.args.band c.args.x) (of_shape c))

height_is : (c : goal.After-lowest_planes) → block_height c.args.self.now.shape c.args.band c.args.y ≡ c.block_size-width.result.1
height_is c = sym (c.block_size-width.ensures.height ∙ ap (λ (s : Shape). block_height s c.args.band c.args.y) (of_shape c))

is_split : (c : goal.After-lowest_planes) (q : List ℤ) → AreSetsOfPicture q c.args.self.now → IsSplit (picture_block c.args.self.now.shape q c.args.band c.args.x c.args.y) c.sets_of-block.result.now
is_split c q are =
    subst (IsSplit (picture_block c.args.self.now.shape q c.args.band c.args.x c.args.y)) (sym c.sets_of-block.ensures)
    (are.each c.args.band c.args.x c.args.y c.requires.picture c.requires.column c.requires.row)

pub lowest_planes-requires-clause-count : goal.lowest_planes-requires-clause-count
lowest_planes-requires-clause-count c =
    let split = c.requires.of.1.each c.args.band c.args.x c.args.y c.requires.picture c.requires.column c.requires.row in
    let planes = c.from.ensures ∙ ap (λ (s : BlockSets). s.planes) c.sets_of-block.ensures in
    omega (arith, planes, split.few)

pub returns-clause-block : goal.returns-clause-block
unfolding block_of
returns-clause-block c =
    let b = picture_block c.args.self.now.shape c.requires.of.0 c.args.band c.args.x c.args.y in
    let split = is_split c c.requires.of.0 c.requires.of.1 in
    let planes = c.from.ensures ∙ split.planes in
    is_block b _ _
    (c.lowest_planes.ensures.planes b refl (width_is c) (height_is c) split.sets planes)
    (c.lowest_planes.ensures.whole b refl (width_is c) (height_is c) split.sets planes)
    c.lowest_planes.ensures.count planes (omega (arith, c.from.ensures, split.few))

pub returns-clause-same : goal.returns-clause-same
unfolding block_of
returns-clause-same c = λ q are.
    let split = is_split c q are in
    c.lowest_planes.ensures.whole (picture_block c.args.self.now.shape q c.args.band c.args.x c.args.y) refl (width_is c) (height_is c) split.sets (c.from.ensures ∙ split.planes)
