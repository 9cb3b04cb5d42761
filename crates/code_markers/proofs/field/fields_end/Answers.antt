use Rattle.std.proofs.Common.{◌≡◌, ◌∙◌, ◌+◌, sym, ap, map, drop, get_or, ◌∷◌, [], Ok}
use Rattle.std.proofs.lemmas.List.{drop_all}
use Rattle.std.proofs.lemmas.Result.{err_from_is_err_and}
use Rattle.codec_terms.specs.MainReading.{fields_end}
use Rattle.code_markers.specs.declared.field.Field.TheVariants.{U8}
use Rattle.code_markers.specs.Fields.{rule_of}
use Rattle.code_markers.proofs.Places.{fields_end-on, fields_end-err, fields_end-none, fields_end-behind, map-drop}
use Rattle.code_markers.proofs.field.fields_end.Goals as goal

pub returns-in_err-at-clause-is : goal.returns-in_err-at-clause-is
returns-in_err-at-clause-is c =
    let p = err_from_is_err_and c.from_residual.result c.from_residual.ensures.1 in
    let b = c.args.bytes.now in
    let i = c.loop-field.field-index in
    let fields = c.args.fields.now in
    rw (p.1, p.2) (sym (c.loop-field.invariant.same ∙ ap (λ rules. fields_end b rules c.loop-field.at) (map-drop rule_of fields i (U8 0) c.loop-field-test.true)
    ∙ fields_end-err b (rule_of (get_or fields i (U8 0)) ∷ []) (map rule_of (drop (i + 1) fields)) c.loop-field.at c.in_err-at.field-0.0 (sym c.in_err-at.ensures)))

pub loop-field-preserved : goal.loop-field-preserved
loop-field-preserved c =
    let b = c.args.bytes.now in
    let i = c.loop-field.field-index in
    let fields = c.args.fields.now in
    record {
      within = (fields_end-behind b (rule_of (get_or fields i (U8 0)) ∷ []) c.loop-field.at c.in_ok-at.at c.loop-field.invariant.within (sym c.in_ok-at.ensures)).within;
      same = c.loop-field.invariant.same ∙ ap (λ rules. fields_end b rules c.loop-field.at) (map-drop rule_of fields i (U8 0) c.loop-field-test.true)
          ∙ fields_end-on b (rule_of (get_or fields i (U8 0)) ∷ []) (map rule_of (drop (i + 1) fields)) c.loop-field.at c.in_ok-at.at (sym c.in_ok-at.ensures);
    }

pub returns-clause-is : goal.returns-clause-is
returns-clause-is c =
    let b = c.args.bytes.now in
    sym (c.loop-field.invariant.same
    ∙ ap (λ fields. fields_end b (map rule_of fields) c.loop-field.at) (drop_all c.loop-field.field-index c.args.fields.now c.loop-field-test.false)
    ∙ fields_end-none b c.loop-field.at)

pub returns-clause-place : goal.returns-clause-place
returns-clause-place c =
    let b = c.args.bytes.now in
    let whole : fields_end b (map rule_of c.args.fields.now) c.args.start ≡ Ok c.loop-field.at =
    c.loop-field.invariant.same
    ∙ ap (λ fields. fields_end b (map rule_of fields) c.loop-field.at) (drop_all c.loop-field.field-index c.args.fields.now c.loop-field-test.false)
    ∙ fields_end-none b c.loop-field.at in
    (fields_end-behind b (map rule_of c.args.fields.now) c.args.start c.loop-field.at c.requires whole).place
