use Rattle.std.proofs.Common.{◌≡◌, ◌<◌, ℕ, arith, length}
use Rattle.std.proofs.lemmas.Result.{on_ok_weaker}
use Rattle.picture_blocks.proofs.Steps.{set-blocks, set-further, set-coded, part-at}
use Rattle.picture_blocks.proofs.coding.code_block.Goals as goal

under : (place at all long : ℕ) → at < all → place ≡ at → long ≡ all → place < long
under place at all long below e p = omega arith

pub code_further-requires-clause-of : goal.code_further-requires-clause-of
code_further-requires-clause-of c =
    part-at c.args.sets.now.shape c.requires.of.0 c.args.blocks.now c.args.place c.args.band c.args.x c.args.y _ c.requires.picture c.requires.column c.requires.row c.requires.place
    (under _ _ _ _ (c.block_laws.ensures.within c.args.sets.now.shape c.args.band c.args.x c.args.y c.requires.picture c.requires.column c.requires.row) c.requires.place c.requires.there)
    (c.at-planes.ensures.same c.requires.of.0 c.requires.of.1.0) c.requires.of.1.1 c.index-blocks-place.result

inside : (c : goal.After-code_further) → c.args.place < length c.args.blocks.now
inside c =
    under _ _ _ _ (c.block_laws.ensures.within c.args.sets.now.shape c.args.band c.args.x c.args.y c.requires.picture c.requires.column c.requires.row) c.requires.place c.requires.there

pub returns-clause-blocks : goal.returns-clause-blocks
returns-clause-blocks c = λ q are parts.
    set-blocks c.args.sets.now.shape q c.args.blocks.now c.args.place c.args.band c.args.x c.args.y _ c.code_further.new.block c.requires.picture c.requires.column c.requires.row c.requires.place
    (inside c) (c.at-planes.ensures.same q are) c.code_further.ensures.of parts

pub returns-clause-further : goal.returns-clause-further
returns-clause-further c =
    set-further c.args.sets.now.shape c.args.blocks.now c.args.place c.code_further.new.block c.index-blocks-place.result (inside c) c.code_further.ensures.further

pub returns-clause-coded : goal.returns-clause-coded
returns-clause-coded c =
    on_ok_weaker c.code_further.result
    (λ down q are.
    set-coded c.args.sets.now.shape q c.args.blocks.now c.args.place c.args.lowest c.args.band c.args.x c.args.y _ c.code_further.new.block (inside c) (c.at-planes.ensures.same q are) down)
    c.code_further.ensures.coded
