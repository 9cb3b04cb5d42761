-- The names of frames' files.
use Rattle.std.specs.Prelude.{ℕ, ◌-◌, codes, List, ◌++◌, length, replicate}
use Rattle.std.specs.Fmt.{decimal}
use Rattle.frame_files.specs.declared.name.FrameFormat.{FrameFormat}
use Rattle.frame_files.specs.declared.name.FrameFormat.TheVariants.{J2c, Ppm}

-- a number in at least six digits
abbrev pub six_digits : ℕ → List ℕ
six_digits n = replicate (6 - length (decimal n)) 48 ++ decimal n

abbrev pub ending_of : FrameFormat → List ℕ
ending_of J2c = codes ".j2c"
ending_of Ppm = codes ".ppm"

-- the file of a frame in its folder
abbrev pub frame_name : List ℕ → ℕ → FrameFormat → List ℕ
frame_name folder index format = folder ++ codes "/" ++ six_digits index ++ ending_of format
