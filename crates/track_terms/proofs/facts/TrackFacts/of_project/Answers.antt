use Rattle.std.proofs.Common.{◌≡◌, ◌∙◌, ℕ, ◌<◌, get_or, length, rules, subst, sym}
use Rattle.std.proofs.lemmas.List.Elements.{All-from_get_or}
use Rattle.std.specs.Prelude.{IsTrue}
use Rattle.film_project.specs.Texts.{keeps}
use Rattle.film_project.specs.declared.text_rule.TextRule.TheVariants.{Issued}
use Rattle.track_terms.proofs.facts.TrackFacts.of_project.Goals as goal

pub invariant_of-result : goal.invariant_of-result
invariant_of-result c =
    let rules_kept = c.project.invariant in
    let sixteen : length c.args.asset.now ≡ 16 = search rules in
    let small : (i : ℕ) → get_or c.args.asset.now i 0 < 256 = search rules in
    record {
      namespace_length = rules_kept.namespace_length;
      namespace_bytes = rules_kept.namespace_bytes;
      asset_length = sixteen;
      asset_bytes = All-from_get_or (λ b. b < 256) c.args.asset.now 0 (λ i below. small i);
      issued_kept = subst (λ s. IsTrue (keeps Issued s)) (sym (c.in_ok-copy_of-2.ensures ∙ c.as_slice.ensures)) rules_kept.issued_kept;
      fps_known = rules_kept.fps_known;
      some_frames = rules_kept.some_frames;
      most_frames = rules_kept.most_frames;
      least_width = rules_kept.least_width;
      most_width = rules_kept.most_width;
      least_height = rules_kept.least_height;
      most_height = rules_kept.most_height;
      most_channels = rules_kept.most_channels;
    }
