use Rattle.std.proofs.Common.{◌≡◌, true, All, sym, ◌∙◌, subst, arith}
use Rattle.film_project.specs.Rules.{FitsPicture, FitsSound}
use Rattle.film_project.specs.Texts.{keeps}
use Rattle.film_project.specs.declared.text_rule.TextRule.TheVariants as rule
use Rattle.film_reader.proofs.read.project_of.Goals as goal

pub invariant_of-result : goal.invariant_of-result
invariant_of-result c =
    let titles = c.in_ok-titles.ensures.titles in
    let format = c.in_ok-titles.ensures.format in
    let lists = c.in_ok-titles.ensures.lists in
    record {
      title_kept = subst (λ t. keeps rule.Title t ≡ true) (sym (c.in_ok-copy_of.ensures ∙ c.as_bytes.ensures.value)) titles.title_kept;
      kind_kept = subst (λ t. keeps rule.ContentKind t ≡ true) (sym (c.in_ok-copy_of-2.ensures ∙ c.as_bytes-2.ensures.value)) titles.kind_kept;
      issued_kept = subst (λ t. keeps rule.Issued t ≡ true) (sym (c.in_ok-copy_of-3.ensures ∙ c.as_bytes-3.ensures.value)) titles.issued_kept;
      namespace_length = titles.namespace_length;
      namespace_bytes = titles.namespace_bytes;
      least_width = format.least_width;
      most_width = format.most_width;
      least_height = format.least_height;
      most_height = format.most_height;
      fps_known = format.fps_known;
      least_rate = format.least_rate;
      most_rate = format.most_rate;
      least_power = format.least_power;
      most_power = format.most_power;
      most_channels = format.most_channels;
      some_frames = format.some_frames;
      most_frames = format.most_frames;
      most_assets = omega (arith, lists.most_assets, c.in_ok-assets.ensures.length);
      most_picture = omega (arith, lists.most_picture, c.in_ok-picture.ensures.length);
      most_sound = omega (arith, lists.most_sound, c.in_ok-sound.ensures.length);
      distinct_ids = c.in_ok-assets.ensures.distinct;
      each_asset = c.in_ok-assets.ensures.kept;
      picture_fits = subst (λ assets. All (FitsPicture c.in_ok-titles.format.frames assets) c.in_ok-picture.picture) c.as_slice.ensures c.in_ok-picture.ensures.fits;
      sound_fits = subst (λ assets. All (FitsSound c.in_ok-titles.format.frames c.in_ok-titles.format.channels assets) c.in_ok-sound.sound) c.as_slice-2.ensures c.in_ok-sound.ensures.fits;
    }
