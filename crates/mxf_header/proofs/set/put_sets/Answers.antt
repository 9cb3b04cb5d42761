use Rattle.std.proofs.Common.{◌≡◌, ◌∙◌, ◌+◌, ◌++◌, ap, filter, sym, take}
use Rattle.std.specs.List.{enumerate_from, flat_map}
use Rattle.std.proofs.Math.Seq.{take_all}
use Rattle.track_terms.specs.Kinds.{has_set}
use Rattle.track_terms.specs.Sets.{bytes, set_of}
use Rattle.mxf_header.proofs.SetsSteps.{sets_in-kept, sets_in-passed}
use Rattle.mxf_header.proofs.set.put_sets.Goals as goal
use Rattle.mxf_header.proofs.set.put_sets.Goals.{then-has_set+in_ok-put_set, else-has_set}

pub loop-index-preserved : goal.loop-index-preserved
loop-index-preserved c =
    let facts = c.args.facts.now in
    let read = c.set_bytes-byte-items.result.now in
    let i = c.loop-index.index in
    let same : c.has_set.result ≡ has_set facts.kind (i + 1) =
    c.has_set.ensures ∙ ap (λ f. has_set f.kind (i + 1)) c.facts.view_is in
    elim c.if-has_set.branch [
      | then-has_set+in_ok-put_set w ↦
          ap (λ v. v.items) w.out-is
          ∙ sets_in-kept facts read i c.loop-index-test.true c.args.out.now.items c.loop-index.out.items w.put_set.new.out.items
          (sym same ∙ w.if-has_set.true) c.loop-index.invariant w.in_ok-put_set.ensures
      | else-has_set w ↦
          ap (λ v. v.items) w.out-is
          ∙ c.loop-index.invariant
          ∙ ap (λ s. c.args.out.now.items ++ s) (sym (sets_in-passed facts read i c.loop-index-test.true (sym same ∙ w.if-has_set.false)))
    ]

pub returns : goal.returns
returns c =
    let read = c.set_bytes-byte-items.result.now in
    let all : take c.loop-index.index read ≡ bytes = take_all c.loop-index.index read c.loop-index-test.false ∙ c.set_bytes-byte-items.ensures.bytes in
    c.loop-index.invariant
    ∙ ap
    (λ bs. c.args.out.now.items ++ flat_map (set_of c.args.facts.now) (filter (λ (k, byte). has_set c.args.facts.now.kind k) (enumerate_from 1 bs)))
    all
