-- Packets in the reader's direction: ITU-T T.800 Annex B.9 and B.10, with one layer.
--     packet_read bytes at shapes     the packet that begins at this place, or the first refusal by place
-- A refusal of what a bit said stands at the byte that had the bit.
use Rattle.std.specs.Prelude.{ℕ, zero, suc, ◌+◌, ◌-◌, ◌*◌, ◌/◌, ◌^◌, ◌%◌, ◌==◌, Bool, true, false, ◌&&◌, if◌then◌else◌, nat_lt, nat_le, List, [], ◌∷◌, map, length, slice_index, slice_range, replicate, Option, Some, None, Result, Ok, Err}
use Rattle.std.specs.Int.{from_bool}
use Rattle.std.specs.List.{range_with_len}
use Rattle.codec_terms.specs.declared.packet.PacketBlock.{PacketBlock}
use Rattle.codec_terms.specs.declared.packet.PacketBand.{PacketBand}
use Rattle.codec_terms.specs.declared.packet.BandShape.{BandShape}
use Rattle.codec_terms.specs.declared.packet.PacketRead.{PacketRead}
use Rattle.codec_terms.specs.declared.packet.HeadRefusal.{HeadRefusal}
use Rattle.codec_terms.specs.declared.packet.HeadRefusal.TheVariants.{Truncated, BadStuffing, TooManyPasses, LengthPast, WideLength}
use Rattle.codec_terms.specs.Bits.{log2}
use Rattle.codec_terms.specs.Passes.{pass_count}
use Rattle.codec_terms.specs.TagTree.{FoundTree, blank_tree, wants, pushed, leaf_value}
use Rattle.codec_terms.specs.Reading.{Steps, done, on_ok, ◌>>=◌}

-- the place behind the byte in hand, that byte, and how many of its bits are still to come
pub record BitPlace : Type 0 where
  pub next : ℕ
  pub byte : ℕ
  pub left : ℕ

abbrev pub Bits : Type 0 → Type 0
Bits A = Steps BitPlace HeadRefusal A

abbrev pub no_block : PacketBlock
no_block = record { included = false; zero_planes = 0; passes = 0; codeword = [] }

-- what a header says of a block
pub record BlockHead : Type 0 where
  pub included : Bool
  pub zero_planes : ℕ
  pub passes : ℕ
  pub size : ℕ

abbrev pub no_head : BlockHead
no_head = record { included = false; zero_planes = 0; passes = 0; size = 0 }

module _ (bytes : List ℕ) where
  -- ---- bits (Annex B.10.1)

  -- the next byte; behind FF its top bit is 0 and isn't counted
  unfoldable pub byte_read : BitPlace → Result BitPlace HeadRefusal
  byte_read p =
      let byte = slice_index bytes p.next in
      if nat_le (length bytes) p.next then Err (Truncated (length bytes))
      else if p.byte == 255 && nat_le 128 byte then Err (BadStuffing p.next)
      else Ok (record { next = suc p.next; byte = byte; left = if p.byte == 255 then 7 else 8 })

  abbrev pub top_bit : BitPlace → ℕ → Bool × BitPlace
  top_bit p left = (p.byte / 2 ^ left % 2 == 1, record p { left = left })

  abbrev pub bit_of : ℕ → BitPlace → Result (Bool × BitPlace) HeadRefusal
  bit_of zero p = on_ok (byte_read p) (λ q. Ok (top_bit q (q.left - 1)))
  bit_of (suc left) p = Ok (top_bit p left)

  unfoldable pub bit_read : Bits Bool
  bit_read p = bit_of p.left p

  -- a number of k bits, the highest first, behind what those before it are worth
  unfoldable pub number_read : ℕ → ℕ → Bits ℕ
  number_read zero n = done n
  number_read (suc k) n = do
    bit ← bit_read
    number_read k (2 * n + from_bool bit)

  -- the place of the byte in hand
  abbrev pub refused_here : {A : Type 0} → (ℕ → HeadRefusal) → Bits A
  refused_here refusal p = Err (refusal (p.next - 1))

  -- ---- tag trees: bits are read as long as the leaf wants them for the threshold t; it wants at most t
  -- of each level

  unfoldable pub leaf_read_within : ℕ → ℕ → ℕ → FoundTree → Bits FoundTree
  leaf_read_within zero t at tree = done tree
  leaf_read_within (suc n) t at tree = elim (wants t tree at) [
    | true ↦ do
      bit ← bit_read
      leaf_read_within n t at (pushed bit t tree at)
    | false ↦ done tree
  ]

  abbrev pub leaf_read : ℕ → ℕ → FoundTree → Bits FoundTree
  leaf_read t at tree = leaf_read_within (t * length tree.levels) t at tree

  -- ---- passes (table B.4) and lengths (Annex B.10.7)

  abbrev pub passes_above : ℕ → ℕ → Bits ℕ
  passes_above least n = done (least + n)

  abbrev pub many_passes : ℕ → Bits ℕ
  many_passes n = if nat_lt n 31 then done (6 + n) else number_read 7 0 >>= passes_above 37

  abbrev pub some_passes : ℕ → Bits ℕ
  some_passes n = if nat_lt n 3 then done (3 + n) else number_read 5 0 >>= many_passes

  abbrev pub more_passes : Bool → Bits ℕ
  more_passes false = done 2
  more_passes true = number_read 2 0 >>= some_passes

  abbrev pub passes_from : Bool → Bits ℕ
  passes_from false = done 1
  passes_from true = bit_read >>= more_passes

  unfoldable pub pass_count_read : Bits ℕ
  pass_count_read = bit_read >>= passes_from

  -- how many ones there are in front of a zero, behind n that were read
  unfoldable pub ones_read_within : ℕ → ℕ → Bits ℕ
  ones_read_within zero n = done n
  ones_read_within (suc k) n = bit_read >>= (λ bit. if bit then ones_read_within k (suc n) else done n)

  -- no more ones than there are bits
  abbrev pub ones_read : Bits ℕ
  ones_read = ones_read_within (8 * length bytes) 0

  abbrev pub size_of_bits : ℕ → Bits ℕ
  size_of_bits n = if nat_lt 32 n then refused_here (λ at. WideLength at n) else number_read n 0

  abbrev pub size_read : ℕ → Bits ℕ
  size_read passes = ones_read >>= (λ n. size_of_bits (3 + n + log2 passes))

  -- ---- a block that is included: zero planes (Annex B.10.5), passes, length

  -- a leaf whose value isn't known then has no value below the number of planes
  abbrev pub planes_known : Option ℕ → Bits ℕ
  planes_known None = refused_here (λ at. TooManyPasses at 0)
  planes_known (Some n) = done n

  abbrev pub passes_checked : ℕ → ℕ → Bits ℕ
  passes_checked planes passes =
      if nat_lt (pass_count planes) passes then refused_here (λ at. TooManyPasses at passes) else done passes

  abbrev pub included_read : ℕ → ℕ → FoundTree → Bits BlockHead
  included_read mb at planes = do
    zero_planes ← planes_known (leaf_value planes at)
    passes ← pass_count_read
    checked ← passes_checked (mb - zero_planes) passes
    size ← size_read checked
    done (record { included = true; zero_planes = zero_planes; passes = checked; size = size })

  -- ---- a sub-band's blocks, these in raster order

  abbrev pub is_in_layer : Option ℕ → Bool
  is_in_layer None = false
  is_in_layer (Some n) = n == 0

  unfoldable pub blocks_read : ℕ → FoundTree → FoundTree → List ℕ → Bits (List BlockHead)
  blocks_read mb layers planes [] = done []
  blocks_read mb layers planes (at ∷ blocks) = do
    layers_then ← leaf_read 1 at layers
    elim (is_in_layer (leaf_value layers_then at)) [
      | true ↦ do
        planes_then ← leaf_read mb at planes
        head ← included_read mb at planes_then
        heads ← blocks_read mb layers_then planes_then blocks
        done (head ∷ heads)
      | false ↦ do
        heads ← blocks_read mb layers_then planes blocks
        done (no_head ∷ heads)
    ]

  abbrev pub band_read : BandShape → Bits (List BlockHead)
  band_read s =
      blocks_read s.mb (blank_tree s.columns s.rows) (blank_tree s.columns s.rows)
      (range_with_len 0 (s.columns * s.rows))

  unfoldable pub bands_read : List BandShape → Bits (List (List BlockHead))
  bands_read [] = done []
  bands_read (s ∷ shapes) = do
    heads ← band_read s
    more ← bands_read shapes
    done (heads ∷ more)

  -- a header doesn't end with FF: one byte more follows, of which only the top bit is looked at
  abbrev pub header_end : BitPlace → Result ℕ HeadRefusal
  header_end p = if p.byte == 255 then on_ok (byte_read p) (λ q. Ok q.next) else Ok p.next

  -- ---- codewords, which stand behind the header in the same order

  abbrev pub block_with : BlockHead → ℕ → PacketBlock
  block_with head at =
      record {
        included = true;
        zero_planes = head.zero_planes;
        passes = head.passes;
        codeword = slice_range bytes at (at + head.size);
      }

  unfoldable pub codewords_read : List BlockHead → Steps ℕ HeadRefusal (List PacketBlock)
  codewords_read [] at = Ok ([], at)
  codewords_read (head ∷ heads) at =
      if head.included
      then (if nat_lt (length bytes) (at + head.size) then Err (LengthPast at head.size)
      else on_ok (codewords_read heads (at + head.size)) (λ r. Ok (block_with head at ∷ r.0, r.1)))
      else on_ok (codewords_read heads at) (λ r. Ok (no_block ∷ r.0, r.1))

  unfoldable pub band_codewords_read : List BandShape → List (List BlockHead)
      → Steps ℕ HeadRefusal (List PacketBand)
  band_codewords_read (s ∷ shapes) (heads ∷ more) at =
      on_ok (codewords_read heads at) (λ (r : List PacketBlock × ℕ).
      on_ok (band_codewords_read shapes more r.1) (λ rest.
      Ok (record { columns = s.columns; rows = s.rows; blocks = r.0 } ∷ rest.0, rest.1)))
  band_codewords_read _ _ at = Ok ([], at)

  -- ---- the packet

  abbrev pub empty_band : BandShape → PacketBand
  empty_band s = record { columns = s.columns; rows = s.rows; blocks = replicate (s.columns * s.rows) no_block }

  abbrev pub full_packet_read : List BandShape → BitPlace → Result PacketRead HeadRefusal
  full_packet_read shapes p =
      on_ok (bands_read shapes p) (λ heads.
      on_ok (header_end heads.1) (λ at.
      on_ok (band_codewords_read shapes heads.0 at) (λ bands.
      Ok (record { bands = bands.0; next = bands.1 }))))

  abbrev pub packet_from : List BandShape → Bool × BitPlace → Result PacketRead HeadRefusal
  packet_from shapes first =
      if first.0 then full_packet_read shapes first.1
      else Ok (record { bands = map empty_band shapes; next = (first.1).next })

  -- where the first bit is 0, the packet is empty and the bits behind it aren't looked at
  unfoldable pub packet_read : ℕ → List BandShape → Result PacketRead HeadRefusal
  packet_read at shapes = on_ok (bit_read (record { next = at; byte = 0; left = 0 })) (packet_from shapes)
