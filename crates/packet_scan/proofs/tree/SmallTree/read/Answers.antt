use Rattle.std.proofs.Common.{◌≡◌, ◌∙◌, ◌+◌, ◌*◌, ◌/◌, ◌<◌, sym, ap, arith, refl, get_or, set}
use Rattle.std.proofs.lemmas.Result.{err_from_is_err_and}
use Rattle.codec_terms.specs.TagTree.{leaf_value}
use Rattle.codec_laws.specs.TreeReading.{no_found}
use Rattle.packet_scan.specs.SmallTrees.{shown}
use Rattle.packet_scan.specs.Trees.{tree_of}
use Rattle.packet_scan.proofs.SmallPaths.{parent_number, parent-inside, leaf-inside, item-any, no-more-top-any, no-more-any, refused-top, refused-parent, refused-leaf, all-read, value-is}
use Rattle.packet_scan.proofs.tree.SmallTree.read.Goals as goal

pub invariant_of-self : goal.invariant_of-self
invariant_of-self c =
    let s = c.args.self.now in
    let at = c.args.at in
    record {
      no_more =
          no-more-top-any c.args.bytes.now c.args.threshold s.columns s.rows s.top s.parents s.leaves at.x at.y s.no_more c.requires.column c.requires.row (omega arith) (omega arith)
          c.read.result c.read.new.self c.args.place.now c.read.new.place c.read.ensures.read c.read.ensures.kept;
    }

pub returns-in_err-low-clause-refused : goal.returns-in_err-low-clause-refused
unfolding tree_of
returns-in_err-low-clause-refused c =
    let e = err_from_is_err_and c.from_residual.result c.from_residual.ensures.1 in
    let s = c.args.self.now in
    let at = c.args.at in
    rw (e.1, e.2)
    (refused-top c.args.bytes.now c.args.threshold s.columns s.rows s.top s.parents s.leaves at.x at.y s.no_more c.requires.column c.requires.row (omega arith) (omega arith)
    c.args.place.now c.in_err-low.field-0.0 c.in_err-low.ensures.refused)

pub invariant_of-self-2 : goal.invariant_of-self-2
invariant_of-self-2 c =
    let s = c.args.self.now in
    let at = c.args.at in
    let i = at.y / 2 * c.div_ceil-half.result + at.x / 2 in
    let place : i ≡ parent_number s.columns at.x at.y = ap (λ h. at.y / 2 * h + at.x / 2) c.div_ceil-half.ensures in
    let inside : i < 4 = parent-inside s.columns s.rows i at.x at.y s.no_more.small c.requires.column c.requires.row place in
    let parent : get_or s.parents i c.index-self-above.result ≡ get_or s.parents i no_found = item-any s.parents i c.index-self-above.result no_found (omega (arith, inside)) in
    record {
      no_more =
          no-more-any c.args.bytes.now c.args.threshold s.columns s.rows s.top s.parents s.leaves at.x at.y s.no_more c.requires.column c.requires.row (omega arith) (omega arith)
          c.read-2.result c.read.new.self c.read-2.new.self c.in_ok-low.low i c.args.place.now c.read.new.place c.read.new.place c.read-2.new.place place
          c.in_ok-low.ensures.read c.in_ok-low.ensures.reached (rw (← parent) c.read-2.ensures.read) (rw (← parent) c.read-2.ensures.kept);
    }

pub returns-in_err-low-2-clause-refused : goal.returns-in_err-low-2-clause-refused
unfolding tree_of
returns-in_err-low-2-clause-refused c =
    let e = err_from_is_err_and c.from_residual-in_err-low-2.result c.from_residual-in_err-low-2.ensures.1 in
    let s = c.args.self.now in
    let at = c.args.at in
    let i = at.y / 2 * c.div_ceil-half.result + at.x / 2 in
    let place : i ≡ parent_number s.columns at.x at.y = ap (λ h. at.y / 2 * h + at.x / 2) c.div_ceil-half.ensures in
    let inside : i < 4 = parent-inside s.columns s.rows i at.x at.y s.no_more.small c.requires.column c.requires.row place in
    let parent : get_or s.parents i c.index-self-above.result ≡ get_or s.parents i no_found = item-any s.parents i c.index-self-above.result no_found (omega (arith, inside)) in
    rw (e.1, e.2)
    (refused-parent c.args.bytes.now c.args.threshold s.columns s.rows s.top s.parents s.leaves at.x at.y s.no_more c.requires.column c.requires.row (omega arith) (omega arith)
    c.args.place.now c.read.new.place c.read.new.self (get_or s.parents i c.index-self-above.result) (get_or s.leaves (at.y * s.columns + at.x) no_found) c.in_ok-low.low i (at.y * s.columns + at.x)
    c.in_ok-low.ensures.read c.in_ok-low.ensures.reached place refl parent refl c.in_err-low-2.field-0.0 c.in_err-low-2.ensures.refused)

pub returns-in_err-value-clause-refused : goal.returns-in_err-value-clause-refused
unfolding tree_of
returns-in_err-value-clause-refused c =
    let e = err_from_is_err_and c.from_residual-in_err-value.result c.from_residual-in_err-value.ensures.1 in
    let s = c.args.self.now in
    let at = c.args.at in
    let i = at.y / 2 * c.div_ceil-half.result + at.x / 2 in
    let j = at.y * s.columns + at.x in
    let place : i ≡ parent_number s.columns at.x at.y = ap (λ h. at.y / 2 * h + at.x / 2) c.div_ceil-half.ensures in
    let inside : i < 4 = parent-inside s.columns s.rows i at.x at.y s.no_more.small c.requires.column c.requires.row place in
    let within : j < 16 = leaf-inside s.columns s.rows at.x at.y s.no_more.small c.requires.column c.requires.row in
    let parent : get_or s.parents i c.index-self-above.result ≡ get_or s.parents i no_found = item-any s.parents i c.index-self-above.result no_found (omega (arith, inside)) in
    let leaf : get_or s.leaves j c.index-self-leaf.result ≡ get_or s.leaves j no_found = item-any s.leaves j c.index-self-leaf.result no_found (omega (arith, within)) in
    rw (e.1, e.2)
    (refused-leaf c.args.bytes.now c.args.threshold s.columns s.rows s.top s.parents s.leaves at.x at.y s.no_more c.requires.column c.requires.row (omega arith) (omega arith)
    c.args.place.now c.read.new.place c.read.new.self (get_or s.parents i c.index-self-above.result) (get_or s.leaves j c.index-self-leaf.result) c.in_ok-low.low i j
    c.in_ok-low.ensures.read c.in_ok-low.ensures.reached place refl parent leaf
    c.read-2.new.self c.read-2.new.place c.in_ok-low-2.low c.in_ok-low-2.ensures.read c.in_ok-low-2.ensures.reached c.in_err-value.field-0.0 c.in_err-value.ensures.refused)

pub returns-clause-read : goal.returns-clause-read
unfolding tree_of
returns-clause-read c =
    let s = c.args.self.now in
    let at = c.args.at in
    let i = at.y / 2 * c.div_ceil-half.result + at.x / 2 in
    let j = at.y * s.columns + at.x in
    let place : i ≡ parent_number s.columns at.x at.y = ap (λ h. at.y / 2 * h + at.x / 2) c.div_ceil-half.ensures in
    let inside : i < 4 = parent-inside s.columns s.rows i at.x at.y s.no_more.small c.requires.column c.requires.row place in
    let within : j < 16 = leaf-inside s.columns s.rows at.x at.y s.no_more.small c.requires.column c.requires.row in
    let parent : get_or s.parents i c.index-self-above.result ≡ get_or s.parents i no_found = item-any s.parents i c.index-self-above.result no_found (omega (arith, inside)) in
    let leaf : get_or s.leaves j c.index-self-leaf.result ≡ get_or s.leaves j no_found = item-any s.leaves j c.index-self-leaf.result no_found (omega (arith, within)) in
    all-read c.args.bytes.now c.args.threshold s.columns s.rows s.top s.parents s.leaves at.x at.y s.no_more c.requires.column c.requires.row (omega arith) (omega arith)
    c.args.place.now c.read.new.place c.read.new.self (get_or s.parents i c.index-self-above.result) (get_or s.leaves j c.index-self-leaf.result) c.in_ok-low.low i j
    c.in_ok-low.ensures.read c.in_ok-low.ensures.reached place refl parent leaf
    c.read-2.new.self c.read-2.new.place c.in_ok-low-2.low c.in_ok-low-2.ensures.read c.in_ok-low-2.ensures.reached c.read_value.new.self c.read_value.new.place c.in_ok-value.ensures.read

pub returns-clause-value : goal.returns-clause-value
unfolding tree_of
returns-clause-value c =
    let s = c.args.self.now in
    let at = c.args.at in
    let i = at.y / 2 * c.div_ceil-half.result + at.x / 2 in
    let j = at.y * s.columns + at.x in
    let place : i ≡ parent_number s.columns at.x at.y = ap (λ h. at.y / 2 * h + at.x / 2) c.div_ceil-half.ensures in
    c.in_ok-value.ensures.value
    ∙ value-is c.args.bytes.now c.args.threshold s.columns s.rows s.top s.parents s.leaves at.x at.y s.no_more c.requires.column c.requires.row (omega arith) (omega arith)
    c.read.new.self c.read-2.new.self c.read_value.new.self
    ∙ ap (λ i. leaf_value (record { columns = s.columns; levels = shown s.columns s.rows c.read.new.self (set s.parents i c.read-2.new.self) (set s.leaves j c.read_value.new.self) }) j) (sym place)
