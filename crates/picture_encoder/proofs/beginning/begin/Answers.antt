use Rattle.std.proofs.Common.{◌≡◌, ◌*◌, ◌<◌, ◌∙◌, sym, ap, subst, arith, List, ℤ}
use Rattle.codec_terms.specs.declared.picture.Shape.{Shape}
use Rattle.codec_terms.specs.Encode.{coefficients}
use Rattle.codec_laws.specs.Bounds.{FitBands}
use Rattle.quantiser.specs.Signed.{signed_values}
use Rattle.picture_sets.specs.Sets.{AreSetsOfPicture}
use Rattle.picture_encoder.proofs.beginning.begin.Goals as goal

pub fill-requires : goal.fill-requires
fill-requires c = c.words.ensures.size ∙ ap (λ (s : Shape). 3 * (s.width * s.height)) (c.transform.ensures.shape ∙ sym c.requires.sets_shape)

pub start-requires-clause-shape : goal.start-requires-clause-shape
start-requires-clause-shape c = c.fill.ensures.shape ∙ c.requires.sets_shape ∙ sym c.requires.blocks_shape

pub start-requires-clause-of : goal.start-requires-clause-of
start-requires-clause-of c =
    let bands = c.args.bands.now in (
      coefficients bands.shape bands.power c.args.raw.now,
      subst (λ (q : List ℤ). AreSetsOfPicture q c.fill.new.self) (ap signed_values c.words.ensures.words ∙ c.transform.ensures.words) c.fill.ensures.sets,
    )

pub returns-clause-begun : goal.returns-clause-begun
returns-clause-begun c =
    let bands = c.args.bands.now in
    let q = coefficients bands.shape bands.power c.args.raw.now in
    let wide : 0 < bands.shape.width = omega (arith, c.requires.size.least_width) in
    let high : 0 < bands.shape.height = omega (arith, c.requires.size.least_height) in
    let same : bands.shape ≡ c.start.new.self.shape = sym (c.start.ensures.shape ∙ c.requires.blocks_shape) in
    let sets : AreSetsOfPicture q c.fill.new.self =
    subst (λ (q : List ℤ). AreSetsOfPicture q c.fill.new.self) (ap signed_values c.words.ensures.words ∙ c.transform.ensures.words) c.fill.ensures.sets in
    record {
      whole = c.coefficient_laws.ensures.count bands.shape bands.power c.args.raw.now wide high c.requires.whole
          ∙ ap (λ (s : Shape). 3 * (s.width * s.height)) same;
      fits = subst (λ (s : Shape). FitBands s q) same (c.coefficient_laws.ensures.bounds bands.shape bands.power c.args.raw.now wide high c.requires.whole);
      sets_of = sets;
      blocks_of = c.start.ensures.blocks q sets;
    }
