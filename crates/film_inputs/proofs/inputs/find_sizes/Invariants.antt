use Rattle.std.proofs.Common.{◌≡◌, None, length, map}
use Rattle.std.specs.List.{range_with_len}
use Rattle.mast_world.specs.Changes.{IsSameSource}
use Rattle.film_inputs.specs.Inputs.{missing_before, size_at}
use Rattle.film_inputs.proofs.inputs.find_sizes.Given as goal

-- all files of the assets so far are there, and their sizes were kept
abbrev pub invariant-loop-place : goal.invariant-loop-place
invariant-loop-place g l =
    let source = g.S.Source in
    record {
      there : source.tells → missing_before (source.file l.fn.source) l.project l.place ≡ None;
      sizes : source.tells → l.sizes.items ≡ map (size_at (source.file l.fn.source) l.project) (range_with_len 0 l.place);
      count : length l.sizes.items ≡ l.place;
      untroubled : source.faults l.source ≡ source.faults l.fn.source;
      taken : source.taken l.source ≡ source.taken l.fn.source;
      kept : IsSameSource source.file source.absent source.taken source.faults l.fn.source l.source;
    }
