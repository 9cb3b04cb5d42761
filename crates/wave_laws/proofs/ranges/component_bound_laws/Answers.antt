-- The bounds of components.
use Rattle.wave_laws.proofs.Components.{IsSmall-luma, IsSmall-chroma_blue, IsSmall-chroma_red, All-component_planes, All-picture_planes}
use Rattle.wave_laws.proofs.ranges.component_bound_laws.Goals as goal

pub returns-clause-luma : goal.returns-clause-luma
returns-clause-luma c = IsSmall-luma

pub returns-clause-blue : goal.returns-clause-blue
returns-clause-blue c = IsSmall-chroma_blue

pub returns-clause-red : goal.returns-clause-red
returns-clause-red c = IsSmall-chroma_red

pub returns-clause-planes : goal.returns-clause-planes
returns-clause-planes c = All-component_planes

pub returns-clause-pictures : goal.returns-clause-pictures
returns-clause-pictures c = All-picture_planes
