use Rattle.std.proofs.Common.{◌≡◌, ◌<◌, All, sym, ap, ◌∙◌, subst, true≢false, unwrap_or, []}
use Rattle.film_reader.proofs.Namespaces.{namespace-parsed, namespace-small, namespace_bytes}
use Rattle.film_reader.proofs.read.namespace_of.Goals as goal

pub unreachable-requires : goal.unreachable-requires
unreachable-requires c =
    true≢false (sym (c.in-Err.ensures.ok.1 (_, sym (namespace-parsed c.args.text.now c.requires))))

pub returns-clause-bytes : goal.returns-clause-bytes
returns-clause-bytes c =
    let same = c.in-Ok.ensures.bytes ∙ sym (namespace-parsed c.args.text.now c.requires) in
    let is : c.into_bytes.result ≡ namespace_bytes c.args.text.now = c.into_bytes.ensures ∙ ap (λ o. unwrap_or o []) same in
    subst (All (λ b. b < 256)) (sym is) (namespace-small c.args.text.now c.requires)
