-- The lowest sets of a code-block, so many as it has planes, are its block.
use Rattle.std.proofs.Common.{◌≡◌, ℕ, ◌≤◌, sym, ap, ◌∙◌, subst, arith, length}
use Rattle.codec_terms.specs.BlockDecisions.{Block, plane_count}
use Rattle.block_sets.specs.Planes.{HasPlanesOf}
use Rattle.block_sets.specs.Rebuilt.{block_of}
use Rattle.block_sets.specs.declared.planes.BlockPlanes.{BlockPlanes}
use Rattle.block_coder.specs.Blocks.{IsBlock}

pub is_block : (b : Block) (planes : BlockPlanes) (count : ℕ) → HasPlanesOf b planes → block_of planes ≡ b → length planes.planes.now ≡ count
    → count ≡ plane_count b → count ≤ 15 → IsBlock planes
is_block b planes count has whole long is few = record {
  of = subst (λ (d : Block). HasPlanesOf d planes) (sym whole) has;
  count = long ∙ (is ∙ ap plane_count (sym whole));
  few = omega (arith, long, few);
}
