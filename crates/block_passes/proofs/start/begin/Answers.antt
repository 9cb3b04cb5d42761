use Rattle.std.proofs.Common.{refl, ◌∙◌, ◌≤◌, arith}
use Rattle.std.proofs.lemmas.List.{length-map}
use Rattle.codec_terms.specs.BlockDecisions.{is_significant_above, plane_start}
use Rattle.block_passes.proofs.Starts.{before-begun, significant-bits}
use Rattle.block_passes.proofs.start.begin.Goals as goal

pub returns : goal.returns
returns c = λ b h.
    let narrow : b.width ≤ 32 = omega (arith, h.width) in
    let low : b.height ≤ 32 = omega (arith, h.height) in
    let size = length-map b.values (is_significant_above c.args.index) ∙ h.whole in
    let now = c.unite_above-2.ensures b h in
    before-begun b c.args.index h.whole narrow low _ c.unite_above.new.set
    refl (c.mark_all.ensures b (plane_start b c.args.index).significant h size (significant-bits b c.args.index h.whole narrow low _ now)) now (c.unite_above.ensures b h) c.difference-state.ensures
