use Rattle.std.proofs.Common.{ℕ, ◌+◌, ◌*◌, ◌<◌, ap, ◌∙◌, get_or, rules}
use Rattle.std.specs.Int.{bit_at}
use Rattle.block_sets.proofs.Bytes.{from_le_bytes-bit, eight_of, eight-at, eight-bytes}
use Rattle.block_sets.proofs.transposed.square_at.Goals as goal

pub returns : goal.returns
returns c = λ k j p q.
    let bs = c.args.bytes.now in
    let n = 8 * c.args.group in
    let fits : (m : ℕ) → get_or bs m 0 < 256 = search rules in
    ap (λ (m : ℕ). bit_at m (k * 8 + j)) c.from_le_bytes.ensures
    ∙ (from_le_bytes-bit (eight_of bs n) (eight-bytes bs n fits) k j p q ∙ ap (λ (b : ℕ). bit_at b j) (eight-at bs n k p))
