use Rattle.std.proofs.Common.{◌≡◌, ◌+◌, ◌&&◌, take, drop, length, true, false, sym, ap, ◌∙◌}
use Rattle.std.specs.Prelude.{◌==◌, nat_eq}
use Rattle.std.specs.List.{starts_with}
use Rattle.std.specs.Str.{bytes_eq}
use Rattle.std.proofs.lemmas.Bool.{cond-true, cond-false, eq-eqb, ne_eqb}
use Rattle.std.proofs.lemmas.List.{take_rest}
use Rattle.ppm_head.specs.Header.{token_len}
use Rattle.ppm_head.proofs.Parts.{token_end-by, and-true, and-false_left, and-false_right}
use Rattle.ppm_head.proofs.tokens.token_end.Goals as goal
use Rattle.ppm_head.proofs.tokens.token_end.Goals.{else-start-len-via-then-start-len+else-starts_with, else-start-len-via-else-start-len}

pub returns-then-starts_with-clause-end : goal.returns-then-starts_with-clause-end
returns-then-starts_with-clause-end c =
    let len = c.token_len-len.result in
    let rest = take_rest c.args.bytes.now c.args.start in
    let begins : starts_with nat_eq c.args.wanted.now (take len (drop c.args.start c.args.bytes.now)) ≡ true =
    ap (λ r. starts_with nat_eq c.args.wanted.now (take len r)) (sym rest) ∙ sym c.starts_with.ensures.value ∙ c.if-starts_with.true in
    sym (cond-true _ _ _ (and-true _ _ (eq-eqb (c.args.start + len) (length c.args.bytes.now) c.if-start-len.true) begins))
    ∙ token_end-by c.args.wanted.now c.args.bytes.now c.args.start len (c.token_len-len.ensures.len ∙ ap token_len rest)

pub returns-then-eq-clause-end : goal.returns-then-eq-clause-end
returns-then-eq-clause-end c =
    let len = c.token_len-len.result in
    let rest = take_rest c.args.bytes.now c.args.start in
    let whole : (c.args.start + len == length c.args.bytes.now && starts_with nat_eq c.args.wanted.now (take len (drop c.args.start c.args.bytes.now))) ≡ false =
    elim c.else-start-len.branch [
      | else-start-len-via-then-start-len+else-starts_with w ↦
          and-false_right _ _ (ap (λ r. starts_with nat_eq c.args.wanted.now (take len r)) (sym rest) ∙ sym w.starts_with.ensures.value ∙ w.if-starts_with.false)
      | else-start-len-via-else-start-len w ↦ and-false_left _ _ (ne_eqb (c.args.start + len) (length c.args.bytes.now) w.if-start-len.false)
    ] in
    let wanted : bytes_eq (take len (drop c.args.start c.args.bytes.now)) c.args.wanted.now ≡ true =
    ap (λ r. bytes_eq (take len r) c.args.wanted.now) (sym rest) ∙ sym c.eq.ensures ∙ c.if-eq.true in
    sym (cond-true _ _ _ wanted) ∙ sym (cond-false _ _ _ whole)
    ∙ token_end-by c.args.wanted.now c.args.bytes.now c.args.start len (c.token_len-len.ensures.len ∙ ap token_len rest)

pub returns-else-eq-clause-end : goal.returns-else-eq-clause-end
returns-else-eq-clause-end c =
    let len = c.token_len-len.result in
    let rest = take_rest c.args.bytes.now c.args.start in
    let whole : (c.args.start + len == length c.args.bytes.now && starts_with nat_eq c.args.wanted.now (take len (drop c.args.start c.args.bytes.now))) ≡ false =
    elim c.else-start-len.branch [
      | else-start-len-via-then-start-len+else-starts_with w ↦
          and-false_right _ _ (ap (λ r. starts_with nat_eq c.args.wanted.now (take len r)) (sym rest) ∙ sym w.starts_with.ensures.value ∙ w.if-starts_with.false)
      | else-start-len-via-else-start-len w ↦ and-false_left _ _ (ne_eqb (c.args.start + len) (length c.args.bytes.now) w.if-start-len.false)
    ] in
    let other : bytes_eq (take len (drop c.args.start c.args.bytes.now)) c.args.wanted.now ≡ false =
    ap (λ r. bytes_eq (take len r) c.args.wanted.now) (sym rest) ∙ sym c.eq.ensures ∙ c.if-eq.false in
    sym (cond-false _ _ _ other) ∙ sym (cond-false _ _ _ whole)
    ∙ token_end-by c.args.wanted.now c.args.bytes.now c.args.start len (c.token_len-len.ensures.len ∙ ap token_len rest)
