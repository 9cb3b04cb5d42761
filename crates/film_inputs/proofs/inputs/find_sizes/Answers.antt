use Rattle.std.proofs.Common.{◌≡◌, ◌<◌, [], ◌∷◌, ◌++◌, length, map, ap, sym, ◌∙◌, arith}
use Rattle.std.proofs.lemmas.List.FromFn.{map-range_with_len_more}
use Rattle.std.proofs.lemmas.Result.{err_from_is_err_and}
use Rattle.std.specs.List.{range_with_len}
use Rattle.mast_world.proofs.Kept.{source_kept_on}
use Rattle.film_inputs.specs.Causes.{IsGoneAt, IsGoneInput, IsInputCause}
use Rattle.film_inputs.specs.Inputs.{missing_before, size_at}
use Rattle.film_inputs.proofs.Planning.{cause_of, ended_by, gone_input, input_cause, missing_more}
use Rattle.film_inputs.proofs.inputs.find_sizes.Goals as goal

pub returns-in_err-size_of-clause-ended : goal.returns-in_err-size_of-clause-ended
returns-in_err-size_of-clause-ended g c =
    let source = g.S.Source in
    let files = source.file c.args.source.now in
    let project = c.args.project.now in
    let before = c.loop-place.invariant in
    let end = c.in_err-size_of.field-0.0 in
    let p = err_from_is_err_and c.from_residual-in_err-size_of.result c.from_residual-in_err-size_of.ensures.1 in
    let seen : length c.project.inside.assets ≡ length project.assets = ap (λ p. length p.assets) c.project.view_is in
    let below : c.loop-place.place < length project.assets = omega (arith, c.loop-place-test.true, c.len-count.ensures, seen) in
    let gone = IsGoneAt source.tells (source.file c.loop-place.source) project c.loop-place.place in
    ended_by c.from_residual-in_err-size_of.result p.0 end
    (IsInputCause source.absent source.faults c.args.source.now c.size_of.new.source (IsGoneInput source.tells files project)) p.1 p.2
    (input_cause source.absent source.faults c.args.source.now c.loop-place.source c.size_of.new.source gone (IsGoneInput source.tells files project) end
    before.kept.absent_kept before.kept.faults_kept
    (λ name is. gone_input source.tells files project c.loop-place.place name below before.there (rw before.kept.same_files at is))
    (cause_of c.size_of.result end (IsInputCause source.absent source.faults c.loop-place.source c.size_of.new.source gone) c.in_err-size_of.was c.size_of.ensures.ended))

pub loop-place-preserved : goal.loop-place-preserved
loop-place-preserved g c =
    let source = g.S.Source in
    let files = source.file c.args.source.now in
    let project = c.args.project.now in
    let before = c.loop-place.invariant in
    let step = c.in_ok-size_of.ensures in
    record {
      there = λ tells. missing_more files project c.loop-place.place (before.there tells) ∙ rw (← before.kept.same_files) (step.there tells);
      sizes = λ tells.
          c.in_ok-push.ensures.items
          ∙ ap (λ sizes. sizes ++ c.in_ok-size_of.field-0 ∷ []) (before.sizes tells)
          ∙ ap (λ size. map (size_at files project) (range_with_len 0 c.loop-place.place) ++ size ∷ []) (rw (← before.kept.same_files) (step.size tells))
          ∙ sym (map-range_with_len_more (size_at files project) 0 c.loop-place.place c.loop-place.place (omega arith));
      count = omega (arith, before.count, c.in_ok-push.ensures.len);
      untroubled = step.untroubled ∙ before.untroubled;
      taken = step.same_taken ∙ before.taken;
      kept = source_kept_on source.file source.absent source.taken source.faults c.args.source.now c.loop-place.source c.size_of.new.source before.kept step.kept;
    }

pub returns-clause-there : goal.returns-clause-there
returns-clause-there g c = λ tells.
    let project = c.args.project.now in
    let seen : length c.project.inside.assets ≡ length project.assets = ap (λ p. length p.assets) c.project.view_is in
    let all : length project.assets ≡ c.loop-place.place = omega (arith, c.loop-place-test.false, c.loop-place.auto.place-end, c.len-count.ensures, seen) in
    ap (missing_before (g.S.Source.file c.args.source.now) project) all ∙ c.loop-place.invariant.there tells

pub returns-clause-sizes : goal.returns-clause-sizes
returns-clause-sizes g c = λ tells.
    let project = c.args.project.now in
    let seen : length c.project.inside.assets ≡ length project.assets = ap (λ p. length p.assets) c.project.view_is in
    let all : length project.assets ≡ c.loop-place.place = omega (arith, c.loop-place-test.false, c.loop-place.auto.place-end, c.len-count.ensures, seen) in
    c.loop-place.invariant.sizes tells ∙ ap (λ n. map (size_at (g.S.Source.file c.args.source.now) project) (range_with_len 0 n)) (sym all)
