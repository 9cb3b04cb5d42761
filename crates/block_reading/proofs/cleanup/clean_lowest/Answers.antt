use Rattle.std.proofs.Common.{◌<◌, ◌/◌, ◌∙◌, refl, arith}
use Rattle.std.specs.Int.{w64, trailing_zeros}
use Rattle.block_passes.proofs.Propagated.{lowest-small}
use Rattle.block_passes.proofs.Cleaned.{ahead-column, ahead-behind}
use Rattle.block_reading.specs.Known.{area_of}
use Rattle.block_reading.proofs.Cleaned.{cleaned-next}
use Rattle.block_reading.proofs.cleanup.clean_lowest.Goals as goal

pub returns-clause-told : goal.returns-clause-told
returns-clause-told c = λ k h.
    let a = area_of c.args.field.now in
    let fits : c.args.left < 18446744073709551616 = omega arith in
    let inside : trailing_zeros w64 c.args.left / 4 < 16 = omega (arith, lowest-small c.args.left c.requires.some fits) in
    let column = trailing_zeros w64 c.args.left / 4 in
    let done = c.clean_column.ensures _ h.told h.left in
    let exact = c.left_in.ensures _ done.room in
    let same = cleaned-next c.left_in.result column inside (omega arith) a c.args.field.now.plane c.args.w k _ refl exact in
    let behind = ahead-column c.left_in.result column inside (omega arith) in
    record {
      told = rw same done;
      left = rw same (λ j q r. ahead-behind c.left_in.result column inside (omega arith) j (omega (arith, q, behind)) r ∙ exact j r);
    }

pub returns-clause-behind : goal.returns-clause-behind
returns-clause-behind c =
    let fits : c.args.left < 18446744073709551616 = omega arith in
    let inside : trailing_zeros w64 c.args.left / 4 < 16 = omega (arith, lowest-small c.args.left c.requires.some fits) in
    omega (arith, ahead-column c.left_in.result (trailing_zeros w64 c.args.left / 4) inside (omega arith))
