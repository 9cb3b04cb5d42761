-- Contexts by what is kept of a sample's neighbours.
use Rattle.std.proofs.Common.{◌≡◌, ℕ, zero, suc, ◌+◌, ◌-◌, ◌*◌, ◌/◌, ◌%◌, ◌<◌, refl, arith, Bool, true, false, List, get_or}
use Rattle.std.specs.Prelude.{◌==◌, ◌&&◌, not}
use Rattle.std.specs.Int.{from_bool}
use Rattle.std.specs.Int.RustNames.{bit_and}
use Rattle.std.proofs.lemmas.Bool.{ne_eqb}
use Rattle.std.proofs.lemmas.Nat.{and_mask}
use Rattle.codec_terms.specs.declared.picture.BandKind.{BandKind}
use Rattle.codec_terms.specs.Contexts.{refine_context, zero_context}
use Rattle.codec_laws.proofs.Contexts.{zero_context-below}
use Rattle.block_contexts.specs.Words.{horizontal_of, vertical_of, diagonal_of}
use Rattle.block_contexts.proofs.Words.{horizontal_of-byte, vertical_of-byte, diagonal_of-byte}

-- ---- the context of a significant sample's bit by whether there is a neighbour

pub first-context : (n : ℕ) (t : Bool) → t ≡ not (n == 0) → 14 + from_bool t ≡ refine_context true n
unfolding refine_context
first-context zero t e = rw e refl
first-context (suc n) t e = rw (e, ne_eqb (suc n) 0 (λ none. omega (arith, none))) refl

pub other-context : (n : ℕ) → 16 ≡ refine_context false n
unfolding refine_context
other-context n = refl

pub context-sum : (first beside : Bool) (n : ℕ) → beside ≡ not (n == 0)
    → 16 - 2 * from_bool first + from_bool (first && beside) ≡ refine_context first n
context-sum true beside n e = first-context n beside e
context-sum false beside n e = other-context n

-- ---- the zero context by a table of bytes

pub zero-entry : (table : List ℕ) (kind : BandKind) (word : ℕ)
    → ((n : ℕ) → n < 256 → get_or table n 0 ≡ 2 * zero_context kind (horizontal_of n) (vertical_of n) (diagonal_of n))
    → get_or table (bit_and word 255) 0 ≡ 2 * zero_context kind (horizontal_of word) (vertical_of word) (diagonal_of word)
zero-entry table kind word h =
    let entry = h (word % 256) (omega arith) in
    let plain = rw (horizontal_of-byte word, vertical_of-byte word, diagonal_of-byte word) at entry in
    rw (and_mask word 8) plain

pub zero-entry-half : (table : List ℕ) (kind : BandKind) (word : ℕ)
    → ((n : ℕ) → n < 256 → get_or table n 0 ≡ 2 * zero_context kind (horizontal_of n) (vertical_of n) (diagonal_of n))
    → get_or table (bit_and word 255) 0 / 2 ≡ zero_context kind (horizontal_of word) (vertical_of word) (diagonal_of word)
zero-entry-half table kind word h = rw (zero-entry table kind word h) (omega arith)

pub zero-entry-small : (table : List ℕ) (kind : BandKind) (word : ℕ)
    → ((n : ℕ) → n < 256 → get_or table n 0 ≡ 2 * zero_context kind (horizontal_of n) (vertical_of n) (diagonal_of n))
    → get_or table (bit_and word 255) 0 < 18
zero-entry-small table kind word h =
    rw (zero-entry table kind word h) (omega (arith, zero_context-below kind (horizontal_of word) (vertical_of word) (diagonal_of word)))
