-- Each value computes.
use Rattle.std.proofs.Common.{refl}
use Rattle.codec_values.proofs.Computed.{computed_pictures}
use Rattle.codec_values.proofs.colour.colour_values.Goals as goal

pub returns-clause-white_x : goal.returns-clause-white_x
unfolding computed_pictures
returns-clause-white_x c = refl

pub returns-clause-white_y : goal.returns-clause-white_y
unfolding computed_pictures
returns-clause-white_y c = refl

pub returns-clause-white_z : goal.returns-clause-white_z
unfolding computed_pictures
returns-clause-white_z c = refl

pub returns-clause-black : goal.returns-clause-black
unfolding computed_pictures
returns-clause-black c = refl

pub returns-clause-dark : goal.returns-clause-dark
unfolding computed_pictures
returns-clause-dark c = refl
