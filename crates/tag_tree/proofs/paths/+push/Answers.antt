use Rattle.std.proofs.Common.{◌≡◌, subst, sym, ◌∙◌, true, arith}
use Rattle.codec_terms.specs.TagTree.{path_wants}
use Rattle.codec_laws.specs.TreeReading.{no_found}
use Rattle.tag_tree.specs.Sizes.{HasPlace}
use Rattle.tag_tree.proofs.Wanted.{wanted-below}
use Rattle.tag_tree.proofs.paths.+push.Goals as goal

pub push-requires : goal.push-requires
push-requires t c =
    let a = c.args in
    let size = c.in-Some.ensures.cases.1 in
    let wanted = subst (λ levels. path_wants a.threshold a.low a.leaf.x a.leaf.y levels ≡ true) c.in-Some.ensures.cases.0 c.requires.wanted in
    let place = subst (λ levels. HasPlace a.leaf.x a.leaf.y levels) c.in-Some.ensures.cases.0 c.requires.place in (
      omega (arith, c.decreases, size),
      (
        place.1,
        (
          omega (arith, size, c.requires.few),
          subst (λ low. path_wants a.threshold low a.leaf.x a.leaf.y c.in-Some.below.now ≡ true) (sym c.raised.ensures)
              (wanted-below a.threshold a.low a.leaf.x a.leaf.y c.in-Some.level.now c.in-Some.below.now c.get-node.result (c.get-node.ensures no_found) (sym c.is_open.ensures ∙ c.if-is_open.false) wanted),
        ),
      ),
    )
