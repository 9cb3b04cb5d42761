use Rattle.std.proofs.Common.{◌≡◌, ◌+◌, ap₂, Bool, arith}
use Rattle.std.specs.Prelude.{◌&&◌}
use Rattle.block_passes.proofs.Cleaned.{four-first}
use Rattle.block_reading.specs.Scan.{block_at}
use Rattle.block_reading.specs.Known.{area_of}
use Rattle.block_reading.proofs.cleanup.are_quiet.Goals as goal

pub returns : goal.returns
returns c = λ k h four.
    let b = block_at (area_of c.args.field.now) in
    let fourth : c.args.i + 3 ≡ c.args.i + 2 + 1 = omega arith in
    ap₂ (λ (s t : Bool). s && t)
    (ap₂ (λ (s t : Bool). s && t) (c.is_quiet.ensures k h (four-first b c.args.w c.args.i four)) (c.is_quiet-2.ensures k h (four 1 (omega arith))))
    (ap₂ (λ (s t : Bool). s && t) (c.is_quiet-3.ensures k h (four 2 (omega arith))) (rw fourth at (c.is_quiet-4.ensures k h (four 3 (omega arith)))))
