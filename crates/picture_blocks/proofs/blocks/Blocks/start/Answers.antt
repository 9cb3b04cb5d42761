use Rattle.std.proofs.Common.{◌≡◌, List, sym, ap, ◌∙◌, subst, length, rules}
use Rattle.block_coder.specs.Codes.{Progress}
use Rattle.picture_blocks.specs.Blocks.{PictureBlocks, of_picture, AreBlocksOf, AreCodedAt}
use Rattle.picture_blocks.proofs.Begun.{started-blocks, started-coded, whole}
use Rattle.picture_blocks.proofs.blocks.Blocks.start.Goals as goal

pub returns-clause-blocks : goal.returns-clause-blocks
returns-clause-blocks c = λ q are.
    let shape = c.requires.shape ∙ sym (ap (λ (v : PictureBlocks). v.shape) c.self.view_is) in
    let long : length c.start_bands.new.blocks ≡ c.self.inside.blocks.len = search rules in
    subst (λ (blocks : List Progress). AreBlocksOf q (of_picture c.self.inside.shape blocks)) (sym (whole c.start_bands.new.blocks c.self.inside.blocks.items c.self.inside.blocks.len long))
    (started-blocks c.block_laws.ensures.within _ _ q c.start_bands.new.blocks shape (c.start_bands.ensures q are))

pub returns-clause-coded : goal.returns-clause-coded
returns-clause-coded c = λ q are.
    let shape = c.requires.shape ∙ sym (ap (λ (v : PictureBlocks). v.shape) c.self.view_is) in
    let long : length c.start_bands.new.blocks ≡ c.self.inside.blocks.len = search rules in
    subst (λ (blocks : List Progress). AreCodedAt q 720 (of_picture c.self.inside.shape blocks)) (sym (whole c.start_bands.new.blocks c.self.inside.blocks.items c.self.inside.blocks.len long))
    (started-coded c.block_laws.ensures.within _ _ q c.start_bands.new.blocks shape (c.start_bands.ensures q are))
