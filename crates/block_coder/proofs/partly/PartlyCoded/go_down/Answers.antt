use Rattle.std.proofs.Common.{◌≡◌, ◌*◌, ◌-◌, ◌^◌, ◌<◌, suc, List, length, take, All, ap, sym, ◌∙◌, arith, subst}
use Rattle.std.proofs.lemmas.List.FromFn.{length-map-range_with_len}
use Rattle.std.proofs.lemmas.Result.{on_ok_weaker, on_err_weaker}
use Rattle.mq_coder.specs.declared.ending.Ending.{Ending}
use Rattle.block_sets.specs.Rebuilt.{block_of}
use Rattle.block_coder.specs.Codes.{Progress, ending_at, endings_of, HasCoded}
use Rattle.block_coder.proofs.Codes.{block-small}
use Rattle.block_coder.proofs.Kept.{endings-earlier}
use Rattle.block_coder.proofs.Parts.{part-coded}
use Rattle.block_coder.proofs.partly.PartlyCoded.go_down.Goals as goal

pub returns-clause-of : goal.returns-clause-of
returns-clause-of c =
    let b = (block_of c.args.block.now) in
    let h = c.requires.block in
    let planes = length c.args.block.now.planes.now in
    on_ok_weaker c.keep.result (λ kept.
    let same = ap (λ (s : Progress). s.planes) kept ∙ ap (λ (s : Progress). s.planes) c.self.view_is ∙ c.requires.of.planes ∙ sym h.count in
    part-coded c.ending_laws.ensures.later b c.keep.new.self planes c.args.wanted c.code_planes.new.coder
    (λ p lower. c.lower_plane_laws.ensures.begin b p lower h.of.whole (block-small c.args.block.now h))
    (subst (λ (es : List Ending). HasCoded b planes c.args.wanted es c.code_planes.new.coder) (sym (ap (λ (s : Progress). s.endings) kept)) c.in_ok-code_planes.ensures.coded)
    h.count same (omega arith) (ap (λ (s : Progress). s.bytes) kept) (ap (λ (s : Progress). s.states) kept)) c.keep.ensures.ok

pub returns-clause-wanted : goal.returns-clause-wanted
returns-clause-wanted c =
    let planes = length c.args.block.now.planes.now in
    on_ok_weaker c.keep.result (λ kept.
    ap (λ (s : Progress). length s.endings) kept ∙ ap length c.in_ok-code_planes.ensures.coded.endings_are
    ∙ length-map-range_with_len (λ k. ending_at (block_of c.args.block.now) (planes - suc k)) 0 c.args.wanted) c.keep.ensures.ok

pub returns-clause-err : goal.returns-clause-err
returns-clause-err c =
    let s = c.args.self.now in
    let planes = length c.args.block.now.planes.now in
    let count = c.requires.of.planes ∙ sym c.requires.block.count in
    let before : s.endings ≡ endings_of (block_of c.args.block.now) planes (length s.endings) = rw count at c.requires.of.endings in
    let earlier =
    endings-earlier (block_of c.args.block.now) planes (length s.endings) c.args.wanted s.endings c.code_planes.new.endings.items before c.in_ok-code_planes.ensures.coded.endings_are (omega arith) in
    let same = ap (λ (v : Progress). record v { endings = s.endings }) c.self.view_is in
    on_err_weaker c.keep.result (λ kept.
    ap (λ (v : Progress). record v { endings = take (length s.endings) v.endings }) kept
    ∙ ap (λ (es : List Ending). let v : Progress = record { planes = c.self.inside.planes; endings = es; bytes = c.self.inside.bytes.items; states = c.self.inside.states } in v) earlier ∙ same) c.keep.ensures.err
