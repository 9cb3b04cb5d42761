-- The adaptive binary arithmetic coder of JPEG 2000: ITU-T T.800, Annex C.
-- The encoder is that of C.2 and the decoder that of C.3, each with its own charts, one doubling at a time.
use Rattle.std.specs.Prelude.{ℕ, zero, suc, ◌+◌, ◌-◌, ◌*◌, ◌/◌, ◌%◌, ◌^◌, Bool, true, false, not, ◌&&◌, nat_lt, nat_le, ◌==◌, if◌then◌else◌, List, [], ◌∷◌, ◌++◌, replicate, reverse, slice_index_or, slice_set, bit_or}

-- one decision: the label of its context, and the bit (C.1)
pub record Decision : Type 0 where
  pub context : ℕ
  pub bit : Bool

abbrev pub contexts_of : List Decision → List ℕ
contexts_of [] = []
contexts_of (d ∷ ds) = d.context ∷ contexts_of ds

abbrev pub bits_of : List Decision → List Bool
bits_of [] = []
bits_of (d ∷ ds) = d.bit ∷ bits_of ds

-- ---- how probabilities are estimated (C.2.5)

-- a row of Table C.2: the probability of the less probable symbol, the next row after each symbol,
-- and whether the less probable symbol makes the two change places
pub record Row : Type 0 where
  pub qe : ℕ
  pub nmps : ℕ
  pub nlps : ℕ
  pub switch : Bool

abbrev pub row : ℕ → ℕ → ℕ → Bool → Row
row qe nmps nlps switch = record { qe = qe; nmps = nmps; nlps = nlps; switch = switch }

-- Table C.2, from index 0
unfoldable pub probabilities : List Row
probabilities =
    row 0x5601 1 1 true ∷
    row 0x3401 2 6 false ∷
    row 0x1801 3 9 false ∷
    row 0x0AC1 4 12 false ∷
    row 0x0521 5 29 false ∷
    row 0x0221 38 33 false ∷
    row 0x5601 7 6 true ∷
    row 0x5401 8 14 false ∷
    row 0x4801 9 14 false ∷
    row 0x3801 10 14 false ∷
    row 0x3001 11 17 false ∷
    row 0x2401 12 18 false ∷
    row 0x1C01 13 20 false ∷
    row 0x1601 29 21 false ∷
    row 0x5601 15 14 true ∷
    row 0x5401 16 14 false ∷
    row 0x5101 17 15 false ∷
    row 0x4801 18 16 false ∷
    row 0x3801 19 17 false ∷
    row 0x3401 20 18 false ∷
    row 0x3001 21 19 false ∷
    row 0x2801 22 19 false ∷
    row 0x2401 23 20 false ∷
    row 0x2201 24 21 false ∷
    row 0x1C01 25 22 false ∷
    row 0x1801 26 23 false ∷
    row 0x1601 27 24 false ∷
    row 0x1401 28 25 false ∷
    row 0x1201 29 26 false ∷
    row 0x1101 30 27 false ∷
    row 0x0AC1 31 28 false ∷
    row 0x09C1 32 29 false ∷
    row 0x08A1 33 30 false ∷
    row 0x0521 34 31 false ∷
    row 0x0441 35 32 false ∷
    row 0x02A1 36 33 false ∷
    row 0x0221 37 34 false ∷
    row 0x0141 38 35 false ∷
    row 0x0111 39 36 false ∷
    row 0x0085 40 37 false ∷
    row 0x0049 41 38 false ∷
    row 0x0025 42 39 false ∷
    row 0x0015 43 40 false ∷
    row 0x0009 44 41 false ∷
    row 0x0005 45 42 false ∷
    row 0x0001 45 43 false ∷
    row 0x5601 46 46 false ∷
    []

unfoldable pub row_at : ℕ → Row
row_at index = slice_index_or probabilities index (row 0x5601 46 46 false)

-- what is kept for a context: its row of Table C.2, and the more probable symbol
pub record State : Type 0 where
  pub index : ℕ
  pub mps : Bool

abbrev pub fresh : ℕ → State
fresh index = record { index = index; mps = false }

-- Table D.7: the first states of the contexts 0 to 18
unfoldable pub start_states : List State
start_states = fresh 4 ∷ (replicate 16 (fresh 0) ++ (fresh 3 ∷ fresh 46 ∷ []))

unfoldable pub state_at : List State → ℕ → State
state_at states context = slice_index_or states context (fresh 0)

unfoldable pub qe_of : State → ℕ
qe_of s = (row_at s.index).qe

unfoldable pub after_mps : State → State
after_mps s = record s { index = (row_at s.index).nmps }

unfoldable pub after_lps : State → State
after_lps s =
    record {
      index = (row_at s.index).nlps;
      mps = if (row_at s.index).switch then not s.mps else s.mps;
    }

-- ---- the encoder (C.2)

-- the interval A, the code register C, the doublings CT before the next byte, and the bytes that came out, the last one first
pub record Registers : Type 0 where
  pub a : ℕ
  pub c : ℕ
  pub ct : ℕ
  pub bytes : List ℕ

pub record Encoder : Type 0 where
  pub registers : Registers
  pub states : List State

-- INITENC (C.2.8)
unfoldable pub start : Encoder
start = record { registers = record { a = 0x8000; c = 0; ct = 12; bytes = [] }; states = start_states }

-- the byte before the first one counts as a byte that isn't FF
unfoldable pub last_byte : List ℕ → ℕ
last_byte [] = 0
last_byte (b ∷ _) = b

unfoldable pub with_carry : List ℕ → List ℕ
with_carry [] = []
with_carry (b ∷ bs) = (b + 1) ∷ bs

-- a byte of eight bits, and one of seven bits with room for a carry above them
unfoldable pub whole_byte_out : Registers → Registers
whole_byte_out r = record r { c = r.c % 0x80000; ct = 8; bytes = (r.c / 0x80000 % 0x100) ∷ r.bytes }

unfoldable pub stuffed_byte_out : Registers → Registers
stuffed_byte_out r = record r { c = r.c % 0x100000; ct = 7; bytes = (r.c / 0x100000) ∷ r.bytes }

-- BYTEOUT (C.2.7)
unfoldable pub carried_byte_out : Registers → Registers
carried_byte_out r =
    if last_byte r.bytes == 0xFF then stuffed_byte_out (record r { c = r.c % 0x8000000 }) else whole_byte_out r

unfoldable pub byte_out : Registers → Registers
byte_out r =
    if last_byte r.bytes == 0xFF
    then stuffed_byte_out r
    else (if nat_lt r.c 0x8000000 then whole_byte_out r else carried_byte_out (record r { bytes = with_carry r.bytes }))

-- RENORME (C.2.6): one doubling, and doublings while A is below 8000, of which fifteen always suffice
unfoldable pub out_at_zero : Registers → Registers
out_at_zero r = if r.ct == 0 then byte_out r else r

unfoldable pub doubled : Registers → Registers
doubled r = out_at_zero (record r { a = 2 * r.a; c = 2 * r.c; ct = r.ct - 1 })

unfoldable pub renormalised : ℕ → Registers → Registers
renormalised zero r = r
renormalised (suc n) r = elim (nat_lt r.a 0x8000) [ true ↦ renormalised n (doubled r) | false ↦ r ]

-- CODEMPS and CODELPS (C.2.4): which part of the interval is kept
unfoldable pub lower_part : ℕ → Registers → Registers
lower_part qe r = record r { a = qe }

unfoldable pub upper_part : ℕ → Registers → Registers
upper_part qe r = record r { a = r.a - qe; c = r.c + qe }

unfoldable pub mps_part : ℕ → Registers → Registers
mps_part qe r = if nat_lt (r.a - qe) qe then lower_part qe r else upper_part qe r

unfoldable pub lps_part : ℕ → Registers → Registers
lps_part qe r = if nat_lt (r.a - qe) qe then upper_part qe r else lower_part qe r

unfoldable pub mps_coded : Encoder → ℕ → State → Encoder
mps_coded e context s =
    if nat_le 0x8000 (e.registers.a - qe_of s)
    then record e { registers = upper_part (qe_of s) e.registers }
    else record {
      registers = renormalised 15 (mps_part (qe_of s) e.registers);
      states = slice_set e.states context (after_mps s);
    }

unfoldable pub lps_coded : Encoder → ℕ → State → Encoder
lps_coded e context s =
    record {
      registers = renormalised 15 (lps_part (qe_of s) e.registers);
      states = slice_set e.states context (after_lps s);
    }

-- ENCODE (C.2.2), CODE1 and CODE0 (C.2.3)
unfoldable pub is_mps : Bool → State → Bool
is_mps true s = s.mps
is_mps false s = not s.mps

unfoldable pub coded_one : Encoder → Decision → Encoder
coded_one e d =
    if is_mps d.bit (state_at e.states d.context)
    then mps_coded e d.context (state_at e.states d.context)
    else lps_coded e d.context (state_at e.states d.context)

unfoldable pub coded_from : Encoder → List Decision → Encoder
coded_from e [] = e
coded_from e (d ∷ ds) = coded_from (coded_one e d) ds

-- the encoder after these decisions
unfoldable pub coded : List Decision → Encoder
coded ds = coded_from start ds

-- SETBITS and FLUSH (C.2.9): a value of the interval with as many low ones as can be, and its two last bytes
unfoldable pub low_ones : Registers → ℕ
low_ones r = bit_or r.c 0xFFFF

unfoldable pub bits_set : Registers → Registers
bits_set r = record r { c = if nat_lt (low_ones r) (r.c + r.a) then low_ones r else low_ones r - 0x8000 }

unfoldable pub shifted_out : Registers → Registers
shifted_out r = byte_out (record r { c = r.c * 2 ^ r.ct })

unfoldable pub without_last_ff : List ℕ → List ℕ
without_last_ff [] = []
without_last_ff (b ∷ bs) = if b == 0xFF then bs else b ∷ bs

-- the bytes that an encoder gives when it is flushed
unfoldable pub flushed_bytes : Encoder → List ℕ
flushed_bytes e = reverse (without_last_ff (shifted_out (shifted_out (bits_set e.registers))).bytes)

-- the codeword of these decisions
unfoldable pub codeword : List Decision → List ℕ
codeword ds = flushed_bytes (coded ds)

-- ---- the decoder (C.3)

-- the interval A, the code register C of 32 bits, the doublings CT before the next byte, the current byte B and those behind it
pub record Reading : Type 0 where
  pub a : ℕ
  pub c : ℕ
  pub ct : ℕ
  pub current : ℕ
  pub rest : List ℕ

pub record Decoder : Type 0 where
  pub reading : Reading
  pub states : List State

-- behind the end of the segment there are only bytes FF
unfoldable pub next_byte : List ℕ → ℕ
next_byte [] = 0xFF
next_byte (b ∷ _) = b

unfoldable pub behind : List ℕ → List ℕ
behind [] = []
behind (_ ∷ bs) = bs

unfoldable pub add_bits : ℕ → Reading → ℕ
add_bits n r = (r.c + n) % 2 ^ 32

-- BYTEIN (C.3.4)
unfoldable pub marker_in : Reading → Reading
marker_in r = record r { c = add_bits 0xFF00 r; ct = 8 }

unfoldable pub stuffed_byte_in : Reading → Reading
stuffed_byte_in r =
    record r { c = add_bits (next_byte r.rest * 2 ^ 9) r; ct = 7; current = next_byte r.rest; rest = behind r.rest }

unfoldable pub whole_byte_in : Reading → Reading
whole_byte_in r =
    record r { c = add_bits (next_byte r.rest * 2 ^ 8) r; ct = 8; current = next_byte r.rest; rest = behind r.rest }

unfoldable pub byte_in : Reading → Reading
byte_in r =
    if r.current == 0xFF
    then (if nat_lt 0x8F (next_byte r.rest) then marker_in r else stuffed_byte_in r)
    else whole_byte_in r

-- INITDEC (C.3.5)
unfoldable pub first_byte : List ℕ → Reading
first_byte bytes =
    record { a = 0x8000; c = next_byte bytes * 2 ^ 16; ct = 0; current = next_byte bytes; rest = behind bytes }

unfoldable pub shifted_in : Reading → Reading
shifted_in r = record r { c = r.c * 2 ^ 7 % 2 ^ 32; ct = r.ct - 7 }

unfoldable pub decoder_of : List ℕ → Decoder
decoder_of bytes = record { reading = shifted_in (byte_in (first_byte bytes)); states = start_states }

-- RENORMD (C.3.3): one doubling, and doublings while A is below 8000, of which fifteen always suffice
unfoldable pub in_at_zero : Reading → Reading
in_at_zero r = if r.ct == 0 then byte_in r else r

unfoldable pub read_on : Reading → Reading
read_on r = record r { a = 2 * r.a; c = 2 * r.c % 2 ^ 32; ct = r.ct - 1 }

unfoldable pub renormalised_reading : ℕ → Reading → Reading
renormalised_reading zero r = r
renormalised_reading (suc n) r =
    elim (nat_lt r.a 0x8000) [ true ↦ renormalised_reading n (read_on (in_at_zero r)) | false ↦ r ]

-- DECODE (C.3.2) compares the high half of C with Qe, and keeps the lower or the upper part of the interval
unfoldable pub is_lower : ℕ → Reading → Bool
is_lower qe r = nat_lt (r.c / 2 ^ 16) qe

unfoldable pub lower_reading : ℕ → Reading → Reading
lower_reading qe r = record r { a = qe }

unfoldable pub upper_reading : ℕ → Reading → Reading
upper_reading qe r = record r { a = r.a - qe; c = r.c - qe * 2 ^ 16 }

unfoldable pub part_read : ℕ → Reading → Reading
part_read qe r = if is_lower qe r then lower_reading qe r else upper_reading qe r

-- LPS_EXCHANGE and MPS_EXCHANGE (C.3.2): the part that is less wide stands for the less probable symbol
unfoldable pub read_is_mps : ℕ → Reading → Bool
read_is_mps qe r = if nat_lt (r.a - qe) qe then is_lower qe r else not (is_lower qe r)

-- where the upper part is at least 8000 wide, the context stays as it was
unfoldable pub is_quiet : ℕ → Reading → Bool
is_quiet qe r = not (is_lower qe r) && nat_le 0x8000 (r.a - qe)

unfoldable pub state_after : ℕ → Reading → State → State
state_after qe r s = if read_is_mps qe r then after_mps s else after_lps s

-- the bit that a decoder gives in a context
unfoldable pub decoded_bit : Decoder → ℕ → Bool
decoded_bit d context =
    if read_is_mps (qe_of (state_at d.states context)) d.reading
    then (state_at d.states context).mps
    else not (state_at d.states context).mps

unfoldable pub states_read : ℕ → Reading → List State → ℕ → List State
states_read qe r states context =
    if is_quiet qe r then states else slice_set states context (state_after qe r (state_at states context))

unfoldable pub decoder_after : Decoder → ℕ → Decoder
decoder_after d context =
    record {
      reading = renormalised_reading 15 (part_read (qe_of (state_at d.states context)) d.reading);
      states = states_read (qe_of (state_at d.states context)) d.reading d.states context;
    }

unfoldable pub decoded_from : Decoder → List ℕ → List Bool
decoded_from d [] = []
decoded_from d (k ∷ ks) = decoded_bit d k ∷ decoded_from (decoder_after d k) ks

-- the bits that these bytes give in these contexts
unfoldable pub decoded : List ℕ → List ℕ → List Bool
decoded bytes contexts = decoded_from (decoder_of bytes) contexts
