use Rattle.std.proofs.Common.{rules, arith, ◌∙◌}
use Rattle.std.specs.Int.{w32}
use Rattle.std.proofs.lemmas.Int.{to_z-of_z}
use Rattle.codec_terms.specs.Wavelet.{chroma_red}
use Rattle.dwt97.proofs.Made.{IsMadeTo-more}
use Rattle.dwt97.proofs.Components.{component-all}
use Rattle.dwt97.proofs.component.chroma_red_row.Goals as goal

pub loop-i-preserved : goal.loop-i-preserved
loop-i-preserved c = IsMadeTo-more _ _ _ _ _ _ (omega arith) c.loop-i.invariant (λ any. to_z-of_z w32 _ (search rules) ∙ c.chroma_red_of.ensures)

pub returns : goal.returns
returns c = component-all chroma_red c.loop-i.i _ _ _ _ _ (omega arith) (omega arith) (omega arith) (omega arith) c.loop-i.invariant
