-- Weights of the code, as the definitions have them.
use Rattle.std.specs.Prelude.{◌+◌, ◌≤◌}
use Rattle.codec_terms.specs.Colour as colour
use Rattle.xyz_convert.specs.declared.weights.Weights.{Weights}

abbrev pub weights_of : Weights → colour.Weights
weights_of w = record { red = w.red; green = w.green; blue = w.blue }

-- together they give no sum above the greatest
abbrev pub IsLight : Weights → Type 0
IsLight w = w.red + w.green + w.blue ≤ 71357
