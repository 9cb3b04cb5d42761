-- A packet ends within the bytes, not in front of its begin, and has the blocks that its sub-bands' shapes say.
use Rattle.std.proofs.Common.{◌≡◌, ◌∙◌, ℕ, zero, suc, ◌+◌, ◌-◌, ◌*◌, ◌<◌, ◌≤◌, refl, ap, arith, Bool, true, false, List, [], ◌∷◌, length, map, Option, Some, None, Result, Ok, Err}
use Rattle.std.specs.Prelude.{◌==◌, ◌&&◌, if◌then◌else◌, nat_le, nat_lt, slice_index, IfOk}
use Rattle.std.specs.Int.{from_bool}
use Rattle.std.specs.List.{range_with_len}
use Rattle.std.proofs.lemmas.Bool.{leb-false, ltb-false}
use Rattle.std.proofs.lemmas.Result.{IfOk-weaker, IfOk-at_ok}
use Rattle.std.proofs.lemmas.List.{length-replicate}
use Rattle.std.proofs.lemmas.List.FromFn.{length-range_with_len}
use Rattle.part_packets.specs.Counts.{area}
use Rattle.part_packets.specs.Shapes.{AreOfShapes}
use Rattle.codec_terms.specs.declared.packet.PacketBlock.{PacketBlock}
use Rattle.codec_terms.specs.declared.packet.PacketBand.{PacketBand}
use Rattle.codec_terms.specs.declared.packet.BandShape.{BandShape}
use Rattle.codec_terms.specs.declared.packet.PacketRead.{PacketRead}
use Rattle.codec_terms.specs.declared.packet.HeadRefusal.{HeadRefusal}
use Rattle.codec_terms.specs.declared.packet.HeadRefusal.TheVariants.{Truncated, BadStuffing, TooManyPasses, LengthPast, WideLength}
use Rattle.codec_terms.specs.Bits.{log2}
use Rattle.codec_terms.specs.Passes.{pass_count}
use Rattle.codec_terms.specs.Reading.{done, on_ok, ◌>>=◌}
use Rattle.codec_terms.specs.TagTree.{FoundTree, blank_tree, wants, pushed, leaf_value}
use Rattle.codec_terms.specs.PacketReading.{BitPlace, Bits, BlockHead, no_block, no_head, byte_read, top_bit, bit_of, bit_read, number_read, refused_here, leaf_read_within, leaf_read, passes_above, many_passes, some_passes, more_passes, passes_from, pass_count_read, ones_read_within, ones_read, size_of_bits, size_read, planes_known, passes_checked, included_read, is_in_layer, blocks_read, band_read, bands_read, header_end, block_with, codewords_read, band_codewords_read, empty_band, packet_from, packet_read}

-- what is read from a place on
pub record Ends {A : Type 0} (size : ℕ) (P : A → Type 0) (from : ℕ) (a : A) (to : ℕ) : Type 0 where
  pub value : P a
  pub forward : from ≤ to
  pub within : to ≤ size

abbrev Whatever : {A : Type 0} → A → Type 0
Whatever a = a ≡ a

module _ (bytes : List ℕ) where
  abbrev Yields : {A : Type 0} → (A → Type 0) → Bits A → Type 0
  Yields P m = (p : BitPlace) → p.next ≤ length bytes → IfOk (m p) (λ s. Ends (length bytes) P p.next s.0 (s.1).next)

  done-yields : {A : Type 0} (P : A → Type 0) (a : A) → P a → Yields P (done a)
  done-yields P a h p inside = record { value = h; forward = omega arith; within = inside }

  then-yields : {A B : Type 0} (P : A → Type 0) (Q : B → Type 0) (m : Bits A) (f : A → Bits B) → Yields P m → ((a : A) → P a → Yields Q (f a)) → Yields Q (m >>= f)
  then-yields {A = A} {B = B} P Q m f hm hf p inside = first (m p) (hm p inside)
    where
      second : (q : BitPlace) → p.next ≤ q.next → (r : Result (B × BitPlace) HeadRefusal) → IfOk r (λ s. Ends (length bytes) Q q.next s.0 (s.1).next) → IfOk r (λ s. Ends (length bytes) Q p.next s.0 (s.1).next)
      second q above (Ok s) h = record { value = h.value; forward = let here = h.forward in omega arith; within = h.within }
      second q above (Err e) h = tt

      first : (r : Result (A × BitPlace) HeadRefusal) → IfOk r (λ s. Ends (length bytes) P p.next s.0 (s.1).next) → IfOk (on_ok r (λ s. f s.0 s.1)) (λ s. Ends (length bytes) Q p.next s.0 (s.1).next)
      first (Ok s) h = second s.1 h.forward (f s.0 s.1) (hf s.0 h.value s.1 h.within)
      first (Err e) h = tt

  -- ---- bits

  byte-inside : (p : BitPlace) → IfOk (byte_read bytes p) (λ q. (p.next ≤ q.next) × (q.next ≤ length bytes))
  unfolding byte_read
  byte-inside p = by (nat_le (length bytes) p.next) (p.byte == 255 && nat_le 128 (slice_index bytes p.next)) (leb-false (length bytes) p.next)
    where
      by : (past stuffed : Bool) → (past ≡ false → p.next < length bytes) → IfOk (if past then Err (Truncated (length bytes)) else if stuffed then Err (BadStuffing p.next)
          else Ok (record { next = suc p.next; byte = slice_index bytes p.next; left = if p.byte == 255 then 7 else 8 })) (λ (q : BitPlace). (p.next ≤ q.next) × (q.next ≤ length bytes))
      by true stuffed h = tt
      by false true h = tt
      by false false h = let there = h refl in (omega arith, omega arith)

  bit-yields : Yields Whatever (bit_read bytes)
  unfolding bit_read
  bit-yields p inside = by p.left
    where
      next : (r : Result BitPlace HeadRefusal) → IfOk r (λ q. (p.next ≤ q.next) × (q.next ≤ length bytes))
          → IfOk (on_ok r (λ q. Ok (top_bit bytes q (q.left - 1)))) (λ s. Ends (length bytes) Whatever p.next s.0 (s.1).next)
      next (Ok q) h = record { value = refl; forward = h.0; within = h.1 }
      next (Err e) h = tt

      by : (left : ℕ) → IfOk (bit_of bytes left p) (λ s. Ends (length bytes) Whatever p.next s.0 (s.1).next)
      by zero = next (byte_read bytes p) (byte-inside p)
      by (suc left) = record { value = refl; forward = omega arith; within = inside }

  number-yields : (k n : ℕ) → Yields Whatever (number_read bytes k n)
  unfolding number_read
  number-yields zero n = done-yields Whatever n refl
  number-yields (suc k) n = then-yields Whatever Whatever (bit_read bytes) (λ bit. number_read bytes k (2 * n + from_bool bit)) bit-yields (λ bit _. number-yields k (2 * n + from_bool bit))

  leaf-yields : (n t at : ℕ) (tree : FoundTree) → Yields Whatever (leaf_read_within bytes n t at tree)
  unfolding leaf_read_within
  leaf-yields zero t at tree = done-yields Whatever tree refl
  leaf-yields (suc n) t at tree = by (wants t tree at) refl (λ bit. leaf-yields n t at (pushed bit t tree at))
    where
      by : (b : Bool) → wants t tree at ≡ b → ((bit : Bool) → Yields Whatever (leaf_read_within bytes n t at (pushed bit t tree at))) → Yields Whatever (leaf_read_within bytes (suc n) t at tree)
      by true h later = λ p inside. rw (h, leaf_read_within) (then-yields Whatever Whatever (bit_read bytes) (λ bit. leaf_read_within bytes n t at (pushed bit t tree at)) bit-yields (λ bit _. later bit) p inside)
      by false h later = λ p inside. rw (h, leaf_read_within) (done-yields Whatever tree refl p inside)

  -- ---- passes and lengths

  passes-yields : Yields Whatever (pass_count_read bytes)
  unfolding pass_count_read
  passes-yields = then-yields Whatever Whatever (bit_read bytes) (passes_from bytes) bit-yields (λ bit _. from bit)
    where
      above : (least n : ℕ) → Yields Whatever (passes_above bytes least n)
      above least n = done-yields Whatever (least + n) refl

      many : (n : ℕ) (b : Bool) → Yields Whatever (if b then done (6 + n) else (number_read bytes 7 0 >>= passes_above bytes 37))
      many n true = done-yields Whatever (6 + n) refl
      many n false = then-yields Whatever Whatever (number_read bytes 7 0) (passes_above bytes 37) (number-yields 7 0) (λ m _. above 37 m)

      some : (n : ℕ) (b : Bool) → Yields Whatever (if b then done (3 + n) else (number_read bytes 5 0 >>= many_passes bytes))
      some n true = done-yields Whatever (3 + n) refl
      some n false = then-yields Whatever Whatever (number_read bytes 5 0) (many_passes bytes) (number-yields 5 0) (λ m _. many m (nat_lt m 31))

      more : (bit : Bool) → Yields Whatever (more_passes bytes bit)
      more false = done-yields Whatever 2 refl
      more true = then-yields Whatever Whatever (number_read bytes 2 0) (some_passes bytes) (number-yields 2 0) (λ m _. some m (nat_lt m 3))

      from : (bit : Bool) → Yields Whatever (passes_from bytes bit)
      from false = done-yields Whatever 1 refl
      from true = then-yields Whatever Whatever (bit_read bytes) (more_passes bytes) bit-yields (λ bit _. more bit)

  ones-yields : (k n : ℕ) → Yields Whatever (ones_read_within bytes k n)
  unfolding ones_read_within
  ones-yields zero n = done-yields Whatever n refl
  ones-yields (suc k) n = then-yields Whatever Whatever (bit_read bytes) (λ bit. if bit then ones_read_within bytes k (suc n) else done n) bit-yields (λ bit _. by bit (ones-yields k (suc n)))
    where
      by : (bit : Bool) → Yields Whatever (ones_read_within bytes k (suc n)) → Yields Whatever (if bit then ones_read_within bytes k (suc n) else done n)
      by true later = later
      by false later = done-yields Whatever n refl

  size-yields : (passes : ℕ) → Yields Whatever (size_read bytes passes)
  size-yields passes = then-yields Whatever Whatever (ones_read bytes) (λ n. size_of_bits bytes (3 + n + log2 passes)) (ones-yields (8 * length bytes) 0) (λ n _. by (3 + n + log2 passes) (nat_lt 32 (3 + n + log2 passes)))
    where
      by : (n : ℕ) (b : Bool) → Yields Whatever (if b then refused_here bytes (λ at. WideLength at n) else number_read bytes n 0)
      by n true = λ p inside. tt
      by n false = number-yields n 0

  included-yields : (mb at : ℕ) (planes : FoundTree) → Yields Whatever (included_read bytes mb at planes)
  included-yields mb at planes =
      then-yields Whatever Whatever (planes_known bytes (leaf_value planes at)) _ (known (leaf_value planes at)) (λ zero_planes _.
      then-yields Whatever Whatever (pass_count_read bytes) _ passes-yields (λ passes _.
      then-yields Whatever Whatever (passes_checked bytes (mb - zero_planes) passes) _ (checked passes (nat_lt (pass_count (mb - zero_planes)) passes)) (λ checked _.
      then-yields Whatever Whatever (size_read bytes checked) _ (size-yields checked) (λ size _.
      done-yields Whatever (record { included = true; zero_planes = zero_planes; passes = checked; size = size }) refl))))
    where
      known : (n : Option ℕ) → Yields Whatever (planes_known bytes n)
      known None = λ p inside. tt
      known (Some n) = done-yields Whatever n refl

      checked : (passes : ℕ) (b : Bool) → Yields Whatever (if b then refused_here bytes (λ at. TooManyPasses at passes) else done passes)
      checked passes true = λ p inside. tt
      checked passes false = done-yields Whatever passes refl

  -- ---- blocks

  abbrev AsMany : {A B : Type 0} → List A → List B → Type 0
  AsMany xs ys = length ys ≡ length xs

  abbrev behind_layers : ℕ → ℕ → FoundTree → List ℕ → FoundTree → Bool → Bits (List BlockHead)
  behind_layers mb at planes more layers_then true = do
    planes_then ← leaf_read bytes mb at planes
    head ← included_read bytes mb at planes_then
    heads ← blocks_read bytes mb layers_then planes_then more
    done (head ∷ heads)
  behind_layers mb at planes more layers_then false = do
    heads ← blocks_read bytes mb layers_then planes more
    done (no_head ∷ heads)

  layers-yield : (mb at : ℕ) (planes : FoundTree) (more : List ℕ) (layers_then : FoundTree) → ((planes_then : FoundTree) → Yields (AsMany more) (blocks_read bytes mb layers_then planes_then more))
      → (within : Bool) → Yields (AsMany (at ∷ more)) (behind_layers mb at planes more layers_then within)
  layers-yield mb at planes more layers_then later true =
      then-yields Whatever (AsMany (at ∷ more)) (leaf_read bytes mb at planes) _ (leaf-yields (mb * length planes.levels) mb at planes) (λ planes_then _.
      then-yields Whatever (AsMany (at ∷ more)) (included_read bytes mb at planes_then) _ (included-yields mb at planes_then) (λ head _.
      then-yields (AsMany more) (AsMany (at ∷ more)) (blocks_read bytes mb layers_then planes_then more) _ (later planes_then) (λ heads many.
      done-yields (AsMany (at ∷ more)) (head ∷ heads) (ap suc many))))
  layers-yield mb at planes more layers_then later false =
      then-yields (AsMany more) (AsMany (at ∷ more)) (blocks_read bytes mb layers_then planes more) _ (later planes) (λ heads many.
      done-yields (AsMany (at ∷ more)) (no_head ∷ heads) (ap suc many))

  blocks-yield : (mb : ℕ) (layers planes : FoundTree) (blocks : List ℕ) → Yields (AsMany blocks) (blocks_read bytes mb layers planes blocks)
  unfolding blocks_read
  blocks-yield mb layers planes [] = done-yields (AsMany {A = ℕ} {B = BlockHead} []) [] refl
  blocks-yield mb layers planes (at ∷ blocks) =
      then-yields Whatever (AsMany (at ∷ blocks)) (leaf_read bytes 1 at layers) (λ layers_then. behind_layers mb at planes blocks layers_then (is_in_layer bytes (leaf_value layers_then at)))
      (leaf-yields (1 * length layers.levels) 1 at layers)
      (λ layers_then _. layers-yield mb at planes blocks layers_then (λ planes_then. blocks-yield mb layers_then planes_then blocks) (is_in_layer bytes (leaf_value layers_then at)))

  -- a sub-band has as many heads as blocks
  abbrev HeadsFit : List BandShape → List (List BlockHead) → Type 0
  HeadsFit [] [] = Unit {0}
  HeadsFit [] (heads ∷ more) = ⊥
  HeadsFit (s ∷ shapes) [] = ⊥
  HeadsFit (s ∷ shapes) (heads ∷ more) = (length heads ≡ area s) × HeadsFit shapes more

  bands-yield : (shapes : List BandShape) → Yields (HeadsFit shapes) (bands_read bytes shapes)
  unfolding bands_read
  bands-yield [] = done-yields (HeadsFit []) [] tt
  bands-yield (s ∷ shapes) =
      then-yields (AsMany (range_with_len 0 (s.columns * s.rows))) (HeadsFit (s ∷ shapes)) (band_read bytes s) _
      (blocks-yield s.mb (blank_tree s.columns s.rows) (blank_tree s.columns s.rows) (range_with_len 0 (s.columns * s.rows))) (λ heads many.
      then-yields (HeadsFit shapes) (HeadsFit (s ∷ shapes)) (bands_read bytes shapes) _ (bands-yield shapes) (λ more fit.
      done-yields (HeadsFit (s ∷ shapes)) (heads ∷ more) (many ∙ length-range_with_len 0 (s.columns * s.rows), fit)))

  -- ---- codewords

  abbrev Codewords : {A : Type 0} → (A → Type 0) → ℕ → Result (A × ℕ) HeadRefusal → Type 0
  Codewords P at r = IfOk r (λ s. Ends (length bytes) P at s.0 s.1)

  codewords-end : (heads : List BlockHead) (at : ℕ) → at ≤ length bytes → Codewords (AsMany heads) at (codewords_read bytes heads at)
  unfolding codewords_read
  codewords-end [] at inside = record { value = refl; forward = omega arith; within = inside }
  codewords-end (head ∷ heads) at inside = by head.included (nat_lt (length bytes) (at + head.size)) (ltb-false (length bytes) (at + head.size)) (codewords-end heads)
    where
      front : (block : PacketBlock) (next : ℕ) → at ≤ next → (r : Result (List PacketBlock × ℕ) HeadRefusal) → Codewords (AsMany heads) next r → Codewords (AsMany (head ∷ heads)) at (on_ok r (λ r. Ok (block ∷ r.0, r.1)))
      front block next above (Ok r) h = record { value = ap suc h.value; forward = let here = h.forward in omega arith; within = h.within }
      front block next above (Err e) h = tt

      by : (included past : Bool) → (past ≡ false → at + head.size ≤ length bytes) → ((at : ℕ) → at ≤ length bytes → Codewords (AsMany heads) at (codewords_read bytes heads at))
          → Codewords (AsMany (head ∷ heads)) at (if included then (if past then Err (LengthPast at head.size) else on_ok (codewords_read bytes heads (at + head.size)) (λ r. Ok (block_with bytes head at ∷ r.0, r.1))) else on_ok (codewords_read bytes heads at) (λ r. Ok (no_block ∷ r.0, r.1)))
      by true true h later = tt
      by true false h later = front (block_with bytes head at) (at + head.size) (omega arith) (codewords_read bytes heads (at + head.size)) (later (at + head.size) (h refl))
      by false past h later = front no_block at (omega arith) (codewords_read bytes heads at) (later at inside)

  band_codewords-end : (shapes : List BandShape) (heads : List (List BlockHead)) (at : ℕ) → at ≤ length bytes → HeadsFit shapes heads → Codewords (AreOfShapes shapes) at (band_codewords_read bytes shapes heads at)
  unfolding band_codewords_read
  band_codewords-end [] [] at inside fit = record { value = tt; forward = omega arith; within = inside }
  band_codewords-end [] (heads ∷ more) at inside fit = absurd fit
  band_codewords-end (s ∷ shapes) [] at inside fit = absurd fit
  band_codewords-end (s ∷ shapes) (heads ∷ more) at inside fit = first (codewords_read bytes heads at) (codewords-end heads at inside) (λ at inside. band_codewords-end shapes more at inside fit.1)
    where
      second : (blocks : List PacketBlock) (next : ℕ) → AsMany heads blocks → at ≤ next → (r : Result (List PacketBand × ℕ) HeadRefusal) → Codewords (AreOfShapes shapes) next r
          → Codewords (AreOfShapes (s ∷ shapes)) at (on_ok r (λ rest. Ok (record { columns = s.columns; rows = s.rows; blocks = blocks } ∷ rest.0, rest.1)))
      second blocks next many above (Ok r) h =
          record {
            value = (record { columns = refl; rows = refl; blocks = many ∙ fit.0 }, h.value);
            forward = let here = h.forward in omega arith;
            within = h.within;
          }
      second blocks next many above (Err e) h = tt

      first : (r : Result (List PacketBlock × ℕ) HeadRefusal) → Codewords (AsMany heads) at r → ((at : ℕ) → at ≤ length bytes → Codewords (AreOfShapes shapes) at (band_codewords_read bytes shapes more at))
          → Codewords (AreOfShapes (s ∷ shapes)) at (on_ok r (λ (r : List PacketBlock × ℕ). on_ok (band_codewords_read bytes shapes more r.1) (λ rest. Ok (record { columns = s.columns; rows = s.rows; blocks = r.0 } ∷ rest.0, rest.1))))
      first (Ok r) h later = second r.0 r.1 h.value h.forward (band_codewords_read bytes shapes more r.1) (later r.1 h.within)
      first (Err e) h later = tt

  -- ---- the packet

  abbrev pub PacketEnds : List BandShape → ℕ → Result PacketRead HeadRefusal → Type 0
  PacketEnds shapes at r = IfOk r (λ packet. Ends (length bytes) (AreOfShapes shapes) at packet.bands packet.next)

  empty-fit : (shapes : List BandShape) → AreOfShapes shapes (map (empty_band bytes) shapes)
  empty-fit [] = tt
  empty-fit (s ∷ shapes) = (record { columns = refl; rows = refl; blocks = length-replicate (s.columns * s.rows) no_block }, empty-fit shapes)

  header-end : (p : BitPlace) → p.next ≤ length bytes → IfOk (header_end bytes p) (λ next. (p.next ≤ next) × (next ≤ length bytes))
  header-end p inside = by (p.byte == 255)
    where
      next : (r : Result BitPlace HeadRefusal) → IfOk r (λ q. (p.next ≤ q.next) × (q.next ≤ length bytes)) → IfOk (on_ok r (λ (q : BitPlace). Ok q.next)) (λ next. (p.next ≤ next) × (next ≤ length bytes))
      next (Ok q) h = h
      next (Err e) h = tt

      by : (b : Bool) → IfOk (if b then on_ok (byte_read bytes p) (λ (q : BitPlace). Ok q.next) else Ok p.next) (λ next. (p.next ≤ next) × (next ≤ length bytes))
      by true = next (byte_read bytes p) (byte-inside p)
      by false = (omega arith, inside)

  module _ (shapes : List BandShape) (at : ℕ) where
    behind_header : (next : ℕ) → at ≤ next → (r : Result (List PacketBand × ℕ) HeadRefusal) → Codewords (AreOfShapes shapes) next r
        → PacketEnds shapes at (on_ok r (λ bands. Ok (record { bands = bands.0; next = bands.1 })))
    behind_header next above (Ok r) h = record { value = h.value; forward = let here = h.forward in omega arith; within = h.within }
    behind_header next above (Err e) h = tt

    behind_heads : (heads : List (List BlockHead)) → HeadsFit shapes heads → (r : Result ℕ HeadRefusal) → IfOk r (λ next. (at ≤ next) × (next ≤ length bytes))
        → PacketEnds shapes at (on_ok r (λ next. on_ok (band_codewords_read bytes shapes heads next) (λ bands. Ok (record { bands = bands.0; next = bands.1 }))))
    behind_heads heads fit (Ok next) h = behind_header next h.0 (band_codewords_read bytes shapes heads next) (band_codewords-end shapes heads next h.1 fit)
    behind_heads heads fit (Err e) h = tt

    full : (p : BitPlace) → at ≤ p.next → (r : Result (List (List BlockHead) × BitPlace) HeadRefusal) → IfOk r (λ s. Ends (length bytes) (HeadsFit shapes) p.next s.0 (s.1).next)
        → PacketEnds shapes at (on_ok r (λ heads. on_ok (header_end bytes heads.1) (λ next. on_ok (band_codewords_read bytes shapes heads.0 next) (λ bands. Ok (record { bands = bands.0; next = bands.1 })))))
    full p above (Ok s) h =
        behind_heads s.0 h.value (header_end bytes s.1)
        (IfOk-weaker (header_end bytes s.1) (λ next. ((s.1).next ≤ next) × (next ≤ length bytes)) (λ next. (at ≤ next) × (next ≤ length bytes))
        (λ next ends. (let here = h.forward in let there = ends.0 in omega arith, ends.1)) (header-end s.1 h.within))
    full p above (Err e) h = tt

    from_bit : (first : Bool) (p : BitPlace) → at ≤ p.next → p.next ≤ length bytes → PacketEnds shapes at (packet_from bytes shapes (first, p))
    from_bit true p above inside = full p above (bands_read bytes shapes p) (bands-yield shapes p inside)
    from_bit false p above inside = record { value = empty-fit shapes; forward = above; within = inside }

    any_bit : (r : Result (Bool × BitPlace) HeadRefusal) → IfOk r (λ s. Ends (length bytes) Whatever at s.0 (s.1).next) → PacketEnds shapes at (on_ok r (packet_from bytes shapes))
    any_bit (Ok s) h = from_bit s.0 s.1 h.forward h.within
    any_bit (Err e) h = tt

    pub packet-ends : at ≤ length bytes → PacketEnds shapes at (packet_read bytes at shapes)
    unfolding packet_read
    packet-ends inside = any_bit (bit_read bytes (record { next = at; byte = 0; left = 0 })) (bit-yields (record { next = at; byte = 0; left = 0 }) inside)

    pub packet-ended : (packet : PacketRead) → at ≤ length bytes → packet_read bytes at shapes ≡ Ok packet → Ends (length bytes) (AreOfShapes shapes) at packet.bands packet.next
    packet-ended packet inside h = IfOk-at_ok (λ (packet : PacketRead). Ends (length bytes) (AreOfShapes shapes) at packet.bands packet.next) h (packet-ends inside)
