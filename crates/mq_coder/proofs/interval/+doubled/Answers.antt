use Rattle.std.proofs.Common.{◌%◌, ◌≡◌, ◌-◌, ◌*◌, ◌^◌, ◌<◌, length, reverse, sym, ap, subst, ◌∙◌, arith}
use Rattle.codec_terms.specs.Mq.{last_byte}
use Rattle.mq_coder.specs.Bytes.{IsGrown, doublings}
use Rattle.mq_laws.specs.Ready.{Valid}
use Rattle.mq_coder.proofs.Doublings.{Over, regs-eq, quiet, over, rest-is}
use Rattle.mq_coder.proofs.Resume.{put-grown}
use Rattle.mq_coder.proofs.interval.+doubled.Goals as goal

pub returns-then-shift-at-clause-ok : goal.returns-then-shift-at-clause-ok
returns-then-shift-at-clause-ok t c =
    let e = c.shifted.ensures in
    quiet c.args.at.a c.args.at.c c.args.at.ct c.args.shift (reverse c.args.bytes.now) c.requires.valid c.requires.narrow c.if-shift-at.true
    ∙ sym (regs-eq _ _ _ _ _ _ (reverse c.args.bytes.now) e.a e.c e.ct)

pub returns-then-left-rest-clause-ok : goal.returns-then-left-rest-clause-ok
returns-then-left-rest-clause-ok t c =
    let a = c.args.at.a in
    let code = c.args.at.c in
    let ct = c.args.at.ct in
    let left = c.args.shift - ct in
    let last : c.last_of-last.result ≡ last_byte (reverse c.args.bytes.now) =
    c.last_of-last.ensures ∙ ap (λ l. last_byte (reverse l)) c.as_slice.ensures in
    let o : Over a code ct c.args.shift (reverse c.args.bytes.now) =
    over a code ct c.args.shift (reverse c.args.bytes.now) c.requires.valid c.requires.narrow c.if-shift-at.false in
    let rest = rest-is c.last_of-last.result a code ct c.args.shift c.next_byte-next.result c.args.bytes.now c.put.new.bytes o last
    c.next_byte-next.ensures.out c.in_ok-put.ensures.ok in
    let e = c.shifted-then-left-rest.ensures in
    o.rest ∙ ap (doublings left) rest
    ∙ quiet (a * 2 ^ ct % 2 ^ 32) c.next_byte-next.result.c c.next_byte-next.result.ct left (reverse c.put.new.bytes)
    (subst Valid rest o.valid) (subst (λ x. x * 2 ^ left < 2 ^ 16) (sym o.width) o.narrow) c.if-left-rest.true
    ∙ sym (regs-eq _ _ _ _ _ _ (reverse c.put.new.bytes) e.a e.c e.ct)

pub doubled-requires : goal.doubled-requires
doubled-requires t c =
    let a = c.args.at.a in
    let code = c.args.at.c in
    let ct = c.args.at.ct in
    let last : c.last_of-last.result ≡ last_byte (reverse c.args.bytes.now) =
    c.last_of-last.ensures ∙ ap (λ l. last_byte (reverse l)) c.as_slice.ensures in
    let o : Over a code ct c.args.shift (reverse c.args.bytes.now) =
    over a code ct c.args.shift (reverse c.args.bytes.now) c.requires.valid c.requires.narrow c.if-shift-at.false in
    let rest = rest-is c.last_of-last.result a code ct c.args.shift c.next_byte-next.result c.args.bytes.now c.put.new.bytes o last
    c.next_byte-next.ensures.out c.in_ok-put.ensures.ok in (
      omega (arith, c.decreases, c.requires.valid.before_byte),
      (subst Valid rest o.valid, subst (λ x. x * 2 ^ (c.args.shift - ct) < 2 ^ 16) (sym o.width) o.narrow),
    )

pub returns-in-Ok-clause-ok : goal.returns-in-Ok-clause-ok
returns-in-Ok-clause-ok t c =
    let a = c.args.at.a in
    let code = c.args.at.c in
    let ct = c.args.at.ct in
    let last : c.last_of-last.result ≡ last_byte (reverse c.args.bytes.now) =
    c.last_of-last.ensures ∙ ap (λ l. last_byte (reverse l)) c.as_slice.ensures in
    let o : Over a code ct c.args.shift (reverse c.args.bytes.now) =
    over a code ct c.args.shift (reverse c.args.bytes.now) c.requires.valid c.requires.narrow c.if-shift-at.false in
    let rest = rest-is c.last_of-last.result a code ct c.args.shift c.next_byte-next.result c.args.bytes.now c.put.new.bytes o last
    c.next_byte-next.ensures.out c.in_ok-put.ensures.ok in
    o.rest ∙ ap (doublings (c.args.shift - ct)) rest ∙ c.in-Ok.ensures.ok

pub restore-requires : goal.restore-requires
restore-requires t c =
    let grown : IsGrown c.args.bytes.now c.put.new.bytes =
    put-grown c.args.bytes.now c.put.new.bytes c.next_byte-next.result.byte c.next_byte-next.result.last c.in_ok-put.ensures.ok in
    omega (arith, c.len-len.ensures, grown.more, ap length c.in-Err.ensures.err)

pub returns-in-Err-clause-err : goal.returns-in-Err-clause-err
returns-in-Err-clause-err t c =
    let last : c.last_of-last.result ≡ last_byte (reverse c.args.bytes.now) =
    c.last_of-last.ensures ∙ ap (λ l. last_byte (reverse l)) c.as_slice.ensures in
    c.restore.ensures c.args.bytes.now (sym c.len-len.ensures) (sym last)
    (subst (IsGrown c.args.bytes.now) (sym c.in-Err.ensures.err)
    (put-grown c.args.bytes.now c.put.new.bytes c.next_byte-next.result.byte c.next_byte-next.result.last c.in_ok-put.ensures.ok))
