use Rattle.std.proofs.Common.{◌++◌, ◌-◌, ◌+◌, ◌∙◌, sym, ap₂, length}
use Rattle.std.specs.List.{range_with_len}
use Rattle.codec_terms.specs.TagTree.{Tree, leaves_bits}
use Rattle.tag_tree.proofs.Answered.{all_read_back}
use Rattle.tag_tree.proofs.NewTree.{no-leaf-yet, one-leaf-more, all-leaves}
use Rattle.tag_tree.proofs.writer.write_tree.Goals as goal

pub loop-at-init : goal.loop-at-init
loop-at-init c = record {
  leaves = c.in_ok-tree.ensures.leaves ∙ sym c.requires;
  sent = no-leaf-yet c.args.threshold (length c.args.values.now) c.in_ok-tree.tree c.new-bits.result c.new-bits.ensures;
}

pub loop-at-preserved : goal.loop-at-preserved
loop-at-preserved c =
    let l = c.loop-at in
    let e = c.in_ok-leaf_at.ensures in
    record {
      leaves = e.size ∙ l.invariant.leaves;
      sent = ap₂ (λ bits (tree : Tree). bits ++ leaves_bits c.args.threshold tree (range_with_len (l.at + 1) (length c.args.values.now - (l.at + 1)))) e.bits e.told
          ∙ one-leaf-more c.args.threshold l.at (length c.args.values.now) l.tree l.bits _ c.loop-at-test.true l.invariant.sent;
    }

pub returns-clause-bits : goal.returns-clause-bits
returns-clause-bits c =
    let l = c.loop-at in
    all-leaves c.args.threshold l.at (length c.args.values.now) l.tree l.bits _ c.loop-at-test.false l.invariant.sent
    ∙ ap₂ (λ (tree : Tree) n. leaves_bits c.args.threshold tree (range_with_len 0 n)) c.in_ok-tree.ensures.tree c.requires

pub returns-clause-read_back : goal.returns-clause-read_back
returns-clause-read_back c = all_read_back c.args.columns c.args.rows c.args.threshold c.args.values.now c.loop-at.bits c.requires (returns-clause-bits c)
