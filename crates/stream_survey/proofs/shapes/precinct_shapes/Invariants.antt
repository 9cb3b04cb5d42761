use Rattle.std.proofs.Common.{◌≡◌, ◌≤◌, All, take, length}
use Rattle.codec_terms.specs.Bands.{resolution_bands}
use Rattle.packet_scan.specs.Scanning.{IsSmallShape}
use Rattle.stream_survey.specs.Shapes.{shapes_at}
use Rattle.stream_survey.proofs.shapes.precinct_shapes.Given as goal

abbrev pub invariant-loop-i : goal.invariant-loop-i
invariant-loop-i l = record {
  taken : take l.i l.shapes ≡ take l.i (shapes_at l.head l.precinct);
  small : All IsSmallShape l.shapes;
  size : length l.shapes ≡ 3;
  within : l.i ≤ length (resolution_bands l.precinct.component l.precinct.resolution);
}
