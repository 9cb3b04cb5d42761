use Rattle.std.proofs.Common.{◌∙◌, sym, ap, arith, refl}
use Rattle.std.specs.Prelude.{not}
use Rattle.code_markers.proofs.Segments.{comment_end-comment, cut_with-some, cut_with-other}
use Rattle.code_markers.proofs.segment.read_comment.Goals as goal
use Rattle.code_markers.proofs.segment.read_comment.Goals.{else-is_none-via-then-is_none+else-next-at, else-is_none-via-else-is_none}

pub returns-else-is_none-clause-head : goal.returns-else-is_none-clause-head
returns-else-is_none-clause-head c =
    let b = c.args.bytes.now in
    elim c.else-is_none.branch [
      | else-is_none-via-then-is_none+else-next-at w ↦
          let same = cut_with-other b c.args.at c.in_ok-next.next c.args.head.now.cut (λ k. omega (arith, c.type_inv.bytes k)) (comment_end-comment b c.args.at c.in_ok-next.next (sym c.in_ok-next.ensures)) w.if-next-at.false in
          rw same refl
      | else-is_none-via-else-is_none w ↦ rw (cut_with-some b c.args.at c.args.head.now.cut (c.is_none.ensures ∙ ap not w.if-is_none.false)) refl
    ]
