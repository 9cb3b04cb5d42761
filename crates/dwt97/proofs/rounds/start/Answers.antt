use Rattle.std.proofs.Common.{arith, ◌+◌, ◌<◌, ◌≡◌, ◌⊎◌, inl, inr}
use Rattle.dwt97.proofs.Sweep.{none_twice, raw}
use Rattle.dwt97.proofs.rounds.start.Goals as goal

pub returns : goal.returns
returns c = λ area made each size most enough made_so.
    let e1 : (1 + 1 < made) ⊎ (made ≡ c.args.height) = elim enough [ inl h ↦ inl (omega arith) | inr h ↦ inr h ] in
    let e2 : (0 + 1 < made) ⊎ (made ≡ c.args.height) = elim enough [ inl h ↦ inl (omega arith) | inr h ↦ inr h ] in
    let one = c.first_of.ensures area made 0 0 0 each size (omega arith) (omega arith) most e1 (raw area c.args.columns made c.args.plane.now made_so) in
    let two = c.second_of.ensures area made 3 0 0 each size (omega arith) (omega arith) (omega arith) most e2 one in
    none_twice area c.args.columns made 3 2 0 _ two
