-- The laws of tag trees.
use Rattle.codec_laws.proofs.TagTrees.{leaf_read-is, leaf_bits-alike, HasLeaf-leaf_told, leaf_of-leaf_told, leaf_of-other, leaf_value-is}
use Rattle.codec_laws.proofs.TreeLevels.{AreSameTrees-new, HasLeaf-new, leaf_of-new}
use Rattle.codec_laws.proofs.packets.tag_tree_laws.Goals as goal

pub returns-clause-new : goal.returns-clause-new
returns-clause-new c = AreSameTrees-new

pub returns-clause-leaves : goal.returns-clause-leaves
returns-clause-leaves c = HasLeaf-new

pub returns-clause-values : goal.returns-clause-values
returns-clause-values c = leaf_of-new

pub returns-clause-read : goal.returns-clause-read
returns-clause-read c = leaf_read-is

pub returns-clause-kept : goal.returns-clause-kept
returns-clause-kept c = HasLeaf-leaf_told

pub returns-clause-told : goal.returns-clause-told
returns-clause-told c = leaf_of-leaf_told

pub returns-clause-known : goal.returns-clause-known
returns-clause-known c = leaf_value-is

pub returns-clause-above : goal.returns-clause-above
returns-clause-above c = leaf_bits-alike

pub returns-clause-others : goal.returns-clause-others
returns-clause-others c = leaf_of-other
