use Rattle.std.proofs.Common.{arith, ◌+◌, ◌*◌, ◌<◌, ◌≡◌, ◌⊎◌, inl, inr, ℕ}
use Rattle.dwt97.proofs.Sweep.{AreLifted-at}
use Rattle.dwt97.proofs.rounds.round.Goals as goal

pub returns : goal.returns
returns c = λ area made each size most enough so.
    let j : ℕ = c.args.j in
    let e1 : (2 * j + 3 + 1 < made) ⊎ (made ≡ c.args.height) = elim enough [ inl h ↦ inl (omega arith) | inr h ↦ inr h ] in
    let e2 : (2 * j + 2 + 1 < made) ⊎ (made ≡ c.args.height) = elim enough [ inl h ↦ inl (omega arith) | inr h ↦ inr h ] in
    let e3 : (2 * j + 1 + 1 < made) ⊎ (made ≡ c.args.height) = elim enough [ inl h ↦ inl (omega arith) | inr h ↦ inr h ] in
    let e4 : (2 * j + 1 < made) ⊎ (made ≡ c.args.height) = elim enough [ inl h ↦ inl (omega arith) | inr h ↦ inr h ] in
    let one = c.first_of.ensures area made (2 * j + 2) (2 * j + 1) (2 * j) each size (omega arith) (omega arith) most e1 so in
    let two = c.second_of.ensures area made (2 * j + 3 + 2) (2 * j + 1) (2 * j) each size (omega arith) (omega arith) (omega arith) most e2 one in
    let three = c.third_of.ensures area made (2 * j + 3 + 2) (2 * j + 2 + 2) (2 * j) each size (omega arith) (omega arith) (omega arith) most e3 two in
    let four = c.fourth_of.ensures area made (2 * j + 3 + 2) (2 * j + 2 + 2) (2 * j + 1 + 2) each size (omega arith) (omega arith) most e4 three in
    AreLifted-at area c.args.columns made (2 * j + 3 + 2) (2 * j + 2 + 2) (2 * j + 1 + 2) (2 * j + 2) _ _ _ _ _ (omega arith) (omega arith) (omega arith) (omega arith) four
