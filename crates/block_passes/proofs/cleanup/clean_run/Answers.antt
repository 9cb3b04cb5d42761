use Rattle.std.proofs.Common.{◌≡◌, ◌+◌, ◌/◌, ◌%◌, ◌<◌, refl, ap, arith, true, false, ℕ}
use Rattle.std.specs.Prelude.{◌==◌}
use Rattle.block_sets.specs.Places.{column_at, row_at}
use Rattle.block_passes.proofs.Candidates.{lowest-behind}
use Rattle.block_passes.proofs.Propagated.{lowest-small}
use Rattle.block_passes.proofs.Masks.{bit-of}
use Rattle.block_passes.proofs.Forward.{four-there, cleaned-none, cleaned-some}
use Rattle.block_passes.proofs.cleanup.clean_run.Goals as goal

pub returns-in-None-clause-told : goal.returns-in-None-clause-told
returns-in-None-clause-told c = λ b p v is h.
    let w = c.args.w in
    let n = c.args.i in
    let rest = c.args.rest in
    let others = c.with_left.result in
    let fits : c.args.rest.left < 18446744073709551616 = omega arith in
    let small : c.with_left.result.left < 18446744073709551616 = omega (arith, c.with_left.ensures.left) in
    let four = four-there b p w v c.args.state.now c.code.new.state rest others c.requires.some fits small h n c.requires.i c.requires.column c.requires.run in
    cleaned-none b p w v c.args.state.now c.code.new.state rest others c.requires.some fits small h n c.requires.i c.requires.column c.requires.run
    (c.in-None.ensures.first b p is four)
    (c.code.ensures.told b h.now 17 false h.told (omega arith) refl)
    (λ j q. rw c.with_left.ensures.left (c.behind.ensures.none j q))
    (λ j q r. rw c.with_left.ensures.left (c.behind.ensures.same j q r))
    c.with_left.ensures.runs

pub returns-in-None-clause-behind : goal.returns-in-None-clause-behind
returns-in-None-clause-behind c =
    let small : c.with_left.result.left < 18446744073709551616 = omega (arith, c.with_left.ensures.left) in
    let fits : c.args.rest.left < 18446744073709551616 = omega arith in
    omega (
      arith,
      c.requires.i,
      lowest-behind c.with_left.result.left (c.args.i + 3) small (omega (arith, c.requires.i, c.requires.column, lowest-small c.args.rest.left c.requires.some fits))
          (λ j q. rw c.with_left.ensures.left (c.behind.ensures.none j q)),
    )

pub returns-in-Some-clause-told : goal.returns-in-Some-clause-told
returns-in-Some-clause-told c = λ b p v is h.
    let w = c.args.w in
    let n = c.args.i in
    let rest = c.args.rest in
    let others = c.beside_one.result in
    let first = c.in-Some.first in
    let within : first < 4 = c.in-Some.ensures.within in
    let fits : c.args.rest.left < 18446744073709551616 = omega arith in
    let small : c.beside_one.result.left < 18446744073709551616 = omega (arith, c.beside_one.ensures.left) in
    let four = four-there b p w v c.args.state.now c.code_sign.new.state rest others c.requires.some fits small h n c.requires.i c.requires.column c.requires.run in
    let x : column_at w (n + first) ≡ column_at w n = omega arith in
    let y : row_at w (n + first) ≡ row_at w n + first = omega arith in
    let one = c.code-in-Some.ensures.told b h.now 17 true h.told (omega arith) refl in
    let upper = c.code-in-Some-2.ensures.told b _ 18 (first / 2 == 1) one (omega arith) (ap (λ (k : ℕ). 36 + k) (bit-of (first / 2) (omega (arith, within)))) in
    let lower = c.code-in-Some-3.ensures.told b _ 18 (first % 2 == 1) upper (omega arith) (ap (λ (k : ℕ). 36 + k) (bit-of (first % 2) (omega (arith, within)))) in
    let signed = rw (x, y) at (c.code_sign.ensures.told b p _ is lower (four first within)) in
    cleaned-some b p w v c.args.state.now c.code_sign.new.state rest others c.requires.some fits small h n c.requires.i c.requires.column c.requires.run first within
    (c.in-Some.ensures.first b p is four) h.told.sets.significant_size signed
    (λ j q. rw c.beside_one.ensures.left (c.behind-in-Some.ensures.none j q))
    (λ j q r. rw c.beside_one.ensures.left (c.behind-in-Some.ensures.same j q r))
    c.beside_one.ensures.next c.beside_one.ensures.same

pub returns-in-Some-clause-behind : goal.returns-in-Some-clause-behind
returns-in-Some-clause-behind c =
    let within : c.in-Some.first < 4 = c.in-Some.ensures.within in
    let small : c.beside_one.result.left < 18446744073709551616 = omega (arith, c.beside_one.ensures.left) in
    let fits : c.args.rest.left < 18446744073709551616 = omega arith in
    omega (
      arith,
      c.requires.i,
      lowest-behind c.beside_one.result.left (c.args.i + c.in-Some.first) small (omega (arith, within, c.requires.i, c.requires.column, lowest-small c.args.rest.left c.requires.some fits))
          (λ j q. rw c.beside_one.ensures.left (c.behind-in-Some.ensures.none j q)),
    )
