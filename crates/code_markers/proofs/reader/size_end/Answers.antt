use Rattle.std.proofs.Common.{[], ◌≡◌, ◌∙◌, ◌+◌, sym, ap, ap₂, take, drop, map}
use Rattle.std.proofs.lemmas.Result.{err_from_is_err_and}
use Rattle.codec_terms.specs.MainReading.{number_at, fields_end, size_rules}
use Rattle.code_markers.specs.Fields.{rule_of}
use Rattle.code_markers.proofs.Places.{fields_end-on, fields_end-err}
use Rattle.code_markers.proofs.Segments.{size_front}
use Rattle.code_markers.proofs.Results.{OnOk-known}
use Rattle.code_markers.proofs.reader.size_end.Goals as goal

pub returns-in_err-tile_at-clause-is : goal.returns-in_err-tile_at-clause-is
returns-in_err-tile_at-clause-is c =
    let p = err_from_is_err_and c.from_residual.result c.from_residual.ensures.1 in
    let b = c.args.bytes.now in
    let rules = size_rules (number_at b (c.args.at + 4) 4) (number_at b (c.args.at + 8) 4) in
    rw (p.1, p.2) (sym (fields_end-err b (take 4 rules) (drop 4 rules) c.args.at c.in_err-tile_at.field-0.0 (sym c.in_err-tile_at.ensures.is)))

pub returns-clause-is : goal.returns-clause-is
returns-clause-is c =
    let b = c.args.bytes.now in
    let rules = size_rules (number_at b (c.args.at + 4) 4) (number_at b (c.args.at + 8) 4) in
    let same : map rule_of c.tile_rules.result ≡ drop 4 rules = c.tile_rules.ensures ∙ ap₂ (λ w h. drop 4 (size_rules w h)) c.number_at-width.ensures.is c.number_at-height.ensures.is in
    c.fields_end-2.ensures.is ∙ ap (λ later. fields_end b later c.in_ok-tile_at.tile_at) same
    ∙ sym (fields_end-on b (take 4 rules) (drop 4 rules) c.args.at c.in_ok-tile_at.tile_at (sym c.in_ok-tile_at.ensures.is))

pub returns-clause-size : goal.returns-clause-size
returns-clause-size c =
    OnOk-known c.fields_end-2.result (size_front c.args.bytes.now c.args.at c.in_ok-tile_at.tile_at [] (sym c.in_ok-tile_at.ensures.is))
