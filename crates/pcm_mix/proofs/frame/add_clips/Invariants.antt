use Rattle.std.proofs.Common.{◌≡◌, ◌+◌, ◌*◌, ◌^◌, filter, sum_by, take}
use Rattle.mast_world.specs.Changes.{IsSameSource}
use Rattle.mast_world.specs.Count.{counted}
use Rattle.pcm_mix.specs.Mix.{clip_size, plays, samples_of}
use Rattle.pcm_mix.specs.Sums.{AreRaised, AreWithin}
use Rattle.pcm_mix.proofs.Mixed.{mixed_of}
use Rattle.pcm_mix.proofs.frame.add_clips.Given as goal

-- the clips so far are mixed
abbrev pub invariant-loop-clip : goal.invariant-loop-clip
invariant-loop-clip g l =
    let source = g.S.Source in
    let seen = take l.clip-index l.project.sound in
    record {
      raised : source.tells → AreRaised (mixed_of (source.file l.fn.source) l.project l.f seen) (samples_of l.project) l.project.channels l.initial.sums l.sums;
      within : AreWithin (2 ^ 60 + l.clip-index * 2 ^ 49) (samples_of l.project) l.project.channels l.sums;
      taken : source.taken l.source ≡ counted (source.taken l.fn.source) (sum_by (clip_size l.project) (filter (λ clip. plays clip l.f) seen));
      untroubled : source.faults l.source ≡ source.faults l.fn.source;
      same_absent : source.absent l.source ≡ source.absent l.fn.source;
      kept : IsSameSource source.file source.absent source.taken source.faults l.fn.source l.source;
    }
