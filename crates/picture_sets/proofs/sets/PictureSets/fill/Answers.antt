use Rattle.std.proofs.Common.{◌≡◌, ℕ, List, ◌++◌, sym, ap, ◌∙◌, subst, length, take, drop, rules}
use Rattle.std.proofs.Math.Seq.{take-append_seam}
use Rattle.quantiser.specs.Signed.{signed_values}
use Rattle.picture_sets.specs.Blocks.{IsSplit}
use Rattle.picture_sets.specs.Sets.{picture_block, sets_at}
use Rattle.picture_sets.specs.declared.block.BlockSets.{BlockSets}
use Rattle.picture_sets.proofs.sets.PictureSets.fill.Goals as goal

pub returns-clause-sets : goal.returns-clause-sets
returns-clause-sets c =
    let sets = c.fill_bands.new.sets in
    let behind = drop (length sets) c.self.inside.sets.items in
    let long : length sets ≡ c.self.inside.sets.len = search rules in
    let same : take c.self.inside.sets.len (sets ++ behind) ≡ sets = ap (λ (n : ℕ). take n (sets ++ behind)) (sym long) ∙ take-append_seam sets behind in
    record {
      each = λ band x y is wide high.
          subst (λ (s : List BlockSets). IsSplit (picture_block c.self.inside.shape (signed_values c.args.words.now) band x y) (sets_at c.self.inside.shape s band x y)) (sym same)
          (c.fill_bands.ensures.each band x y is wide high (c.block_laws.ensures.within _ band x y is wide high));
    }
