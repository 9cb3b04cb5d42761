use Rattle.std.proofs.Common.{◌≡◌, length, take}
use Rattle.stream_reader.proofs.Filled.{values_end, first_values}
use Rattle.stream_reader.proofs.values.read_each.Given as goal

abbrev pub invariant-loop-place : goal.invariant-loop-place
invariant-loop-place l = record {
  size : length l.values ≡ length l.fn.values;
  done : take (values_end l.head.shape l.place) l.values ≡ first_values l.head l.parts l.place;
}
