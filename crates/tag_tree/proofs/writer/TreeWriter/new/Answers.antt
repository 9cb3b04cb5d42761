use Rattle.tag_tree.proofs.Answered.{are_read_back}
use Rattle.tag_tree.proofs.NewTree.{filled-is}
use Rattle.tag_tree.proofs.writer.TreeWriter.new.Goals as goal

pub invariant_of-result : goal.invariant_of-result
invariant_of-result c =
    let a = c.args in
    (filled-is a.columns a.rows c.in_ok-levels.levels.len a.values.now c.in_ok-levels.levels.items _ c.fill.new.levels c.requires c.in_ok-levels.ensures.whole c.in_ok-levels.levels.ok.0 c.deref_mut.ensures.value c.fill.ensures).whole

pub returns-clause-tree : goal.returns-clause-tree
returns-clause-tree c =
    let a = c.args in
    (filled-is a.columns a.rows c.in_ok-levels.levels.len a.values.now c.in_ok-levels.levels.items _ c.fill.new.levels c.requires c.in_ok-levels.ensures.whole c.in_ok-levels.levels.ok.0 c.deref_mut.ensures.value c.fill.ensures).tree

pub returns-clause-leaves : goal.returns-clause-leaves
returns-clause-leaves c =
    let a = c.args in
    (filled-is a.columns a.rows c.in_ok-levels.levels.len a.values.now c.in_ok-levels.levels.items _ c.fill.new.levels c.requires c.in_ok-levels.ensures.whole c.in_ok-levels.levels.ok.0 c.deref_mut.ensures.value c.fill.ensures).leaves

pub returns-clause-read_back : goal.returns-clause-read_back
returns-clause-read_back c = λ qs leaves. are_read_back c.args.columns c.args.rows c.args.values.now _ qs c.requires (returns-clause-tree c) leaves
