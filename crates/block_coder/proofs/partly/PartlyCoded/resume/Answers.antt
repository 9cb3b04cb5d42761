use Rattle.std.proofs.Common.{◌≡◌, ◌-◌, ◌<◌, ◌≤◌, ◌*◌, suc, length, sym, ap, arith, subst, ◌∙◌, get_or, refl}
use Rattle.codec_terms.specs.BlockDecisions.{plane_count, decisions}
use Rattle.codec_terms.specs.Mq.{coded}
use Rattle.std.proofs.lemmas.Result.{on_ok_weaker}
use Rattle.block_passes.specs.Told.{IsBefore}
use Rattle.block_sets.specs.Rebuilt.{block_of}
use Rattle.block_coder.specs.Codes.{Progress, lowest_of}
use Rattle.block_coder.proofs.Codes.{block-small, coded-start}
use Rattle.block_coder.proofs.Parts.{part-paused, part-coder}
use Rattle.block_coder.proofs.partly.PartlyCoded.resume.Goals as goal

pub go_on-requires : goal.go_on-requires
go_on-requires c =
    let item = c.in-Some.ensures.item in
    let at : c.in-Some.ending.now ≡ get_or c.self.inside.endings.items (length c.self.inside.endings.items - 1) c.in-Some.ending.now = item.1 ∙ rw c.deref.ensures.value refl in
    let some : 0 < length c.self.inside.endings.items = omega (arith, item.3, ap length c.deref.ensures.value) in
    (decisions (block_of c.args.block.now) (lowest_of c.args.self.now), part-paused (block_of c.args.block.now) c.args.self.now c.requires.of _ c.self.view_is some c.deref-in-Some.result.now c.in-Some.ending.now c.deref-in-Some.ensures.value at)

pub returns-in-None-clause-coded : goal.returns-in-None-clause-coded
returns-in-None-clause-coded c =
    let s = c.args.self.now in
    let b = (block_of c.args.block.now) in
    let endings : c.deref.result.now ≡ s.endings = c.deref.ensures.value ∙ ap (λ (s : Progress). s.endings) c.self.view_is in
    let h = c.requires.block in
    let item = c.in-None.ensures.item in
    let all : plane_count b ≤ c.args.planes - length s.endings = omega (arith, ap length endings, item.3) in
    part-coder b s c.args.planes c.start_again.new.self c.requires.of (c.requires.of.planes ∙ sym c.requires.planes)
    (coded-start c.start_again.new.self (decisions b (c.args.planes - length s.endings)) c.start_again.ensures
    (c.lower_plane_laws.ensures.none b (c.args.planes - length s.endings) h.of.whole (block-small c.args.block.now h) all))

pub returns-in-Some-clause-state : goal.returns-in-Some-clause-state
returns-in-Some-clause-state c =
    let s = c.args.self.now in
    let endings : c.deref.result.now ≡ s.endings = c.deref.ensures.value ∙ ap (λ (s : Progress). s.endings) c.self.view_is in
    let same : c.args.planes - 1 - c.len.result ≡ c.args.planes - suc (length s.endings) = omega (arith, ap length endings, c.deref.ensures.len, c.len.ensures) in
    subst (λ p. IsBefore (block_of c.args.block.now) p c.begin.new.state) same (c.begin.ensures (block_of c.args.block.now) c.requires.block.of)

pub returns-in-Some-clause-coded : goal.returns-in-Some-clause-coded
returns-in-Some-clause-coded c =
    let b = (block_of c.args.block.now) in
    let item = c.in-Some.ensures.item in
    let at : c.in-Some.ending.now ≡ get_or c.self.inside.endings.items (length c.self.inside.endings.items - 1) c.in-Some.ending.now = item.1 ∙ rw c.deref.ensures.value refl in
    let some : 0 < length c.self.inside.endings.items = omega (arith, item.3, ap length c.deref.ensures.value) in
    let same : lowest_of c.args.self.now ≡ c.args.planes - length c.args.self.now.endings = omega (arith, c.requires.of.planes, c.requires.planes) in
    on_ok_weaker c.go_on.result (λ coder.
    part-coder b c.args.self.now c.args.planes c.go_on.new.self c.requires.of (c.requires.of.planes ∙ sym c.requires.planes)
    (coder ∙ ap (λ p. coded (decisions b p)) same))
    (c.go_on.ensures.ok (decisions b (lowest_of c.args.self.now)) (part-paused b c.args.self.now c.requires.of _ c.self.view_is some c.deref-in-Some.result.now c.in-Some.ending.now c.deref-in-Some.ensures.value at))
