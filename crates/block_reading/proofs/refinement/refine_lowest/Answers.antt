use Rattle.std.proofs.Common.{◌<◌, arith}
use Rattle.std.specs.Int.{w64, trailing_zeros}
use Rattle.block_passes.proofs.Candidates.{lowest-behind}
use Rattle.block_passes.proofs.Propagated.{others, lowest-small, others-small, others-none}
use Rattle.block_passes.proofs.Refined.{without-lowest}
use Rattle.block_reading.specs.Known.{area_of}
use Rattle.block_reading.proofs.Bounds.{fresh-bits, fresh-room}
use Rattle.block_reading.proofs.Refined.{sample-there, unseen-there, refined-next}
use Rattle.block_reading.proofs.refinement.refine_lowest.Goals as goal

pub returns-clause-told : goal.returns-clause-told
returns-clause-told c = λ k planes fresh h.
    let fits : c.args.left < 18446744073709551616 = omega arith in
    let field = c.args.field.now in
    let i = trailing_zeros w64 c.args.left in
    let small = lowest-small c.args.left c.requires.some fits in
    let has = sample-there field c.args.w k c.args.reader.now c.refine.new.reader c.args.room.now c.refine.new.room c.args.left c.requires.some fits h in
    let unseen = unseen-there field c.args.w k c.args.reader.now c.refine.new.reader c.args.room.now c.refine.new.room c.args.left c.requires.some fits h in
    let here = fresh-bits (area_of field) planes field.plane c.args.w c.requires.w i k (omega (arith, small)) fresh in
    rw (without-lowest c.args.left c.requires.some fits) (refined-next field c.args.w k c.args.reader.now c.refine.new.reader c.args.room.now c.refine.new.room c.args.left c.requires.some fits h
    (c.refine.ensures _ h.told has (fresh-room (area_of field) planes field.plane c.args.w i _ c.requires.w small has unseen here)))

pub returns-clause-behind : goal.returns-clause-behind
returns-clause-behind c =
    let fits : c.args.left < 18446744073709551616 = omega arith in
    rw (without-lowest c.args.left c.requires.some fits) (omega (
      arith,
      lowest-behind (others c.args.left) (trailing_zeros w64 c.args.left) (others-small c.args.left c.requires.some fits)
          (lowest-small c.args.left c.requires.some fits) (others-none c.args.left c.requires.some fits),
    ))
