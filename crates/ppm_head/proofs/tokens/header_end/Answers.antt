use Rattle.std.proofs.Common.{◌≡◌, ◌∷◌, [], Err, ap, ◌∙◌, rules}
use Rattle.std.specs.Prelude.{codes}
use Rattle.ppm_head.specs.Header.{go_on, header_end, tokens_end}
use Rattle.ppm_head.proofs.tokens.header_end.Goals as goal

pub returns-in_err-magic-clause-end : goal.returns-in_err-magic-clause-end
unfolding header_end tokens_end
returns-in_err-magic-clause-end c =
    (let same : c.from_residual.result ≡ Err c.in_err-magic.field-0.0 = search rules in same)
    ∙ ap (go_on (tokens_end (c.args.width.now ∷ c.args.height.now ∷ codes "65535" ∷ []) c.args.bytes.now)) c.in_err-magic.ensures.end

pub returns-in_err-columns-clause-end : goal.returns-in_err-columns-clause-end
unfolding header_end tokens_end
returns-in_err-columns-clause-end c =
    (let same : c.from_residual-in_err-columns.result ≡ Err c.in_err-columns.field-0.0 = search rules in same)
    ∙ ap (go_on (tokens_end (c.args.height.now ∷ codes "65535" ∷ []) c.args.bytes.now)) c.in_err-columns.ensures.end
    ∙ ap (go_on (tokens_end (c.args.width.now ∷ c.args.height.now ∷ codes "65535" ∷ []) c.args.bytes.now)) c.in_ok-magic.ensures.end

pub returns-in_err-rows-clause-end : goal.returns-in_err-rows-clause-end
unfolding header_end tokens_end
returns-in_err-rows-clause-end c =
    (let same : c.from_residual-in_err-rows.result ≡ Err c.in_err-rows.field-0.0 = search rules in same)
    ∙ ap (go_on (tokens_end (codes "65535" ∷ []) c.args.bytes.now)) c.in_err-rows.ensures.end
    ∙ ap (go_on (tokens_end (c.args.height.now ∷ codes "65535" ∷ []) c.args.bytes.now)) c.in_ok-columns.ensures.end
    ∙ ap (go_on (tokens_end (c.args.width.now ∷ c.args.height.now ∷ codes "65535" ∷ []) c.args.bytes.now)) c.in_ok-magic.ensures.end

pub returns-in_err-depth-clause-end : goal.returns-in_err-depth-clause-end
unfolding header_end tokens_end
returns-in_err-depth-clause-end c =
    (let same : c.from_residual-in_err-depth.result ≡ Err c.in_err-depth.field-0.0 = search rules in same)
    ∙ ap (go_on (tokens_end [] c.args.bytes.now)) c.in_err-depth.ensures.end
    ∙ ap (go_on (tokens_end (codes "65535" ∷ []) c.args.bytes.now)) c.in_ok-rows.ensures.end
    ∙ ap (go_on (tokens_end (c.args.height.now ∷ codes "65535" ∷ []) c.args.bytes.now)) c.in_ok-columns.ensures.end
    ∙ ap (go_on (tokens_end (c.args.width.now ∷ c.args.height.now ∷ codes "65535" ∷ []) c.args.bytes.now)) c.in_ok-magic.ensures.end

pub returns-clause-end : goal.returns-clause-end
unfolding header_end tokens_end
returns-clause-end c =
    c.white_end.ensures.end
    ∙ ap (go_on (tokens_end [] c.args.bytes.now)) c.in_ok-depth.ensures.end
    ∙ ap (go_on (tokens_end (codes "65535" ∷ []) c.args.bytes.now)) c.in_ok-rows.ensures.end
    ∙ ap (go_on (tokens_end (c.args.height.now ∷ codes "65535" ∷ []) c.args.bytes.now)) c.in_ok-columns.ensures.end
    ∙ ap (go_on (tokens_end (c.args.width.now ∷ c.args.height.now ∷ codes "65535" ∷ []) c.args.bytes.now)) c.in_ok-magic.ensures.end
