use Rattle.std.proofs.Common.{◌≡◌, ◌∷◌, ap, subst, sym, ◌∙◌, arith, false, true, replicate}
use Rattle.codec_terms.specs.TagTree.{is_root}
use Rattle.tag_tree.specs.Sizes.{IsWhole}
use Rattle.tag_tree.proofs.Heights.{Grown, Grown-none, Grown-more, Grown-same, Grown-whole}
use Rattle.tag_tree.proofs.levels.levels_of.Goals as goal

pub loop-levels-init : goal.loop-levels-init
loop-levels-init g c =
    subst (λ levels. Grown c.args.node c.args.columns c.args.rows c.args.columns c.args.rows levels) (sym c.new-levels.ensures.items)
    (Grown-none c.args.node c.args.columns c.args.rows (omega (arith, c.if-columns-eq0.false)) (omega (arith, c.if-rows-eq0.false)))

pub filled-requires-clause-columns : goal.filled-requires-clause-columns
filled-requires-clause-columns g c = omega (arith, c.loop-levels.invariant.narrow, c.requires.columns)

pub filled-requires-clause-rows : goal.filled-requires-clause-rows
filled-requires-clause-rows g c = omega (arith, c.loop-levels.invariant.low, c.requires.rows)

pub loop-levels-preserved : goal.loop-levels-preserved
loop-levels-preserved g c =
    let l = c.loop-levels in
    let more : c.insert.new.self.items ≡ replicate l.high (replicate l.wide c.args.node) ∷ l.levels.items = c.in_ok-insert.ensures.items ∙ ap (λ grid. grid ∷ l.levels.items) c.in_ok-filled.ensures in
    let other : is_root l.wide l.high ≡ false = sym c.is_root.ensures ∙ c.loop-levels-test.true in
    rw (c.div_ceil-wide.ensures, c.div_ceil-high.ensures, more)
    (Grown-more c.args.node c.args.columns c.args.rows l.wide l.high l.levels.items c.requires.columns c.requires.rows other l.invariant)

pub returns-clause-levels : goal.returns-clause-levels
returns-clause-levels g c =
    let l = c.loop-levels in
    let last : c.insert-2.new.self.items ≡ replicate l.high (replicate l.wide c.args.node) ∷ l.levels.items = c.in_ok-insert-2.ensures.items ∙ ap (λ grid. grid ∷ l.levels.items) c.in_ok-filled-2.ensures in
    let root : is_root l.wide l.high ≡ true = sym c.is_root.ensures ∙ c.loop-levels-test.false in
    last ∙ Grown-same c.args.node c.args.columns c.args.rows l.wide l.high l.levels.items root l.invariant

pub returns-clause-whole : goal.returns-clause-whole
returns-clause-whole g c =
    let l = c.loop-levels in
    let last : c.insert-2.new.self.items ≡ replicate l.high (replicate l.wide c.args.node) ∷ l.levels.items = c.in_ok-insert-2.ensures.items ∙ ap (λ grid. grid ∷ l.levels.items) c.in_ok-filled-2.ensures in
    let root : is_root l.wide l.high ≡ true = sym c.is_root.ensures ∙ c.loop-levels-test.false in
    subst (λ levels. IsWhole c.args.columns c.args.rows levels) (sym last) (Grown-whole c.args.node c.args.columns c.args.rows l.wide l.high l.levels.items root l.invariant)
