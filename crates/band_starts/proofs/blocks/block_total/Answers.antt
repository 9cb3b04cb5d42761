use Rattle.std.proofs.Common.{◌∙◌, ap, sym, ℕ, take, sum_by}
use Rattle.std.proofs.Math.Seq.{take-length}
use Rattle.codec_terms.specs.Bands.{all_bands}
use Rattle.band_starts.specs.Blocks.{block_count}
use Rattle.band_starts.proofs.Members.{length-all_bands}
use Rattle.band_starts.proofs.blocks.block_total.Goals as goal

pub returns-clause-total : goal.returns-clause-total
returns-clause-total c =
    c.blocks_before.ensures.count
    ∙ ap (sum_by (block_count c.args.shape)) (ap (λ (n : ℕ). take n all_bands) (sym length-all_bands) ∙ take-length all_bands)
