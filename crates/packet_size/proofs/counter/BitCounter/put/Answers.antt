use Rattle.std.proofs.Common.{◌+◌, ◌*◌, ◌^◌, ◌%◌, ◌≤◌, sym, subst, arith, refl}
use Rattle.packet_size.specs.Counting.{Counted}
use Rattle.packet_size.proofs.CountedInto.{bytes-within, put-counted, shifted-in, more-within}
use Rattle.packet_size.proofs.counter.BitCounter.put.Goals as goal
use Rattle.packet_size.proofs.counter.BitCounter.put.Goals.{then-pending-lt32, else-pending-lt32}

pub whole_bytes-rest-requires-clause-room : goal.whole_bytes-rest-requires-clause-room
whole_bytes-rest-requires-clause-room c =
    let s = c.self.inside in
    omega (arith, bytes-within s.bytes s.behind s.pending s.bits c.args.self.now c.self.view_is, c.requires.room, c.requires.word, c.self.invariant.word)

pub returns-clause-counted : goal.returns-clause-counted
returns-clause-counted c =
    let s = c.self.inside in
    let a = c.args in
    let bits = c.from.result * 2 ^ a.n % 18446744073709551616 + c.from-2.result in
    let is = shifted-in s.bits a.n a.value c.from.result c.from-2.result (omega (arith, c.self.ranges)) c.requires.word c.from.ensures c.from-2.ensures in
    elim c.if-pending-lt32.branch [
      | then-pending-lt32 w ↦ rw w.rest-is
          (put-counted s.bytes s.behind s.pending s.bits a.n a.value s.bytes s.behind (s.pending + a.n) bits a.self.now c.self.view_is c.requires.small is (omega (arith, w.if-pending-lt32.true)) refl)
      | else-pending-lt32 w ↦ rw w.rest-is
          (let r = w.whole_bytes-rest.result in
          put-counted s.bytes s.behind s.pending s.bits a.n a.value r.bytes r.behind r.pending bits a.self.now c.self.view_is c.requires.small is
          (omega (arith, w.whole_bytes-rest.ensures.begun, w.whole_bytes-rest.ensures.byte)) w.whole_bytes-rest.ensures.same)
    ]

pub returns-clause-few : goal.returns-clause-few
returns-clause-few c =
    let a = c.args in
    subst (λ (d : Counted). d.bytes ≤ a.self.now.bytes + a.n) (sym (returns-clause-counted c)) (more-within a.self.now a.n a.value)
