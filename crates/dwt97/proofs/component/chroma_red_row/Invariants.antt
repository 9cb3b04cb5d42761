use Rattle.codec_terms.specs.Wavelet.{chroma_red}
use Rattle.dwt97.proofs.Made.{IsMadeTo}
use Rattle.dwt97.proofs.Components.{component_at, AnyPlace}
use Rattle.dwt97.proofs.component.chroma_red_row.Given as goal

abbrev pub invariant-loop-i : goal.invariant-loop-i
invariant-loop-i l = IsMadeTo AnyPlace (component_at chroma_red l.xs l.ys l.zs) l.i l.initial.row l.row
