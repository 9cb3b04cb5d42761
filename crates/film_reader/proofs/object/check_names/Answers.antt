use Rattle.std.proofs.Common.{rules, ℕ, List, ◌≡◌, true, false, Some, sym, ap, ◌∙◌, string_bytes}
use Rattle.std.specs.List.{list_any}
use Rattle.std.specs.Str.{bytes_eq}
use Rattle.film_project.specs.Names.{member_name}
use Rattle.film_project.specs.declared.refusal.ProjectRefusal.TheVariants.{UnknownMember}
use Rattle.film_project.proofs.Walks.{Entry, unknown_fault-next, unknown_fault-here}
use Rattle.film_reader.proofs.object.check_names.Goals as goal

pub loop-key-preserved : goal.loop-key-preserved
loop-key-preserved c =
    let known = λ (name : List ℕ). list_any (λ word. bytes_eq word.now name) c.args.names.now in
    let e : Entry = (c.in-Some.key.now, c.in-Some.field-0-1.now) in
    let k : known (string_bytes c.in-Some.key.now) ≡ true =
    ap known (sym c.as_str.ensures.value) ∙ sym c.is_one_of.ensures ∙ search rules in
    c.loop-key.invariant ∙ unknown_fault-next c.args.place known _ e c.next.new.self c.in-Some.ensures.steps k

pub returns-then-not-is_one_of : goal.returns-then-not-is_one_of
returns-then-not-is_one_of c other =
    let known = λ (name : List ℕ). list_any (λ word. bytes_eq word.now name) c.args.names.now in
    let e : Entry = (c.in-Some.key.now, c.in-Some.field-0-1.now) in
    let k : known (string_bytes c.in-Some.key.now) ≡ false =
    ap known (sym c.as_str.ensures.value) ∙ sym c.is_one_of.ensures ∙ search rules in
    let named : c.in_ok-name_member.field-0 ≡ member_name c.args.place (string_bytes c.in-Some.key.now) =
    c.in_ok-name_member.ensures {u = tt} ∙ ap (member_name c.args.place) c.as_str-then-not-is_one_of.ensures.value in
    c.loop-key.invariant ∙ unknown_fault-here c.args.place known c.loop-key.key-iterator e c.next.new.self c.in-Some.ensures.steps k
    ∙ ap (λ name. Some (UnknownMember name)) (sym named)
