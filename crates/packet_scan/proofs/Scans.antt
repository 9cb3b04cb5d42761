-- Codewords, and the whole packet, of which only the lengths of the codewords count.
use Rattle.std.proofs.Common.{◌≡◌, ◌∙◌, ℕ, zero, suc, ◌+◌, ◌*◌, ◌<◌, ◌≤◌, refl, sym, ap, ap₂, arith, Bool, true, false, List, [], ◌∷◌, ◌++◌, length, map, replicate, sum_by, drop, get_or, Result, Ok, Err}
use Rattle.std.specs.Prelude.{nat_lt, if◌then◌else◌, count_by, cond}
use Rattle.std.specs.List.{flat_map}
use Rattle.std.proofs.lemmas.Bool.{lt-ltb, le-ltb}
use Rattle.std.proofs.lemmas.List.{drop_all, length-append}
use Rattle.std.proofs.lemmas.List.Concat.{flat_map-cons}
use Rattle.std.proofs.lemmas.List.Sums.{sum_by-cons}
use Rattle.codec_terms.specs.declared.packet.PacketBlock.{PacketBlock}
use Rattle.codec_terms.specs.declared.packet.PacketBand.{PacketBand}
use Rattle.codec_terms.specs.declared.packet.PacketRead.{PacketRead}
use Rattle.codec_terms.specs.declared.packet.BandShape.{BandShape}
use Rattle.codec_terms.specs.declared.packet.HeadRefusal.{HeadRefusal}
use Rattle.codec_terms.specs.declared.packet.HeadRefusal.TheVariants.{LengthPast}
use Rattle.codec_terms.specs.Reading.{on_ok}
use Rattle.codec_terms.specs.PacketReading.{BitPlace, BlockHead, no_block, block_with, band_read, bands_read, header_end, codewords_read, band_codewords_read, empty_band, full_packet_read}
use Rattle.codec_terms.specs.StreamReading.{included_in}
use Rattle.packet_scan.specs.declared.scan.Scanned.{Scanned}
use Rattle.packet_scan.specs.Scanning.{sizes_in, with_band_sizes, ends_read, scanned}
use Rattle.packet_scan.proofs.NodeReading.{on_ok-same, on_ok-twice, first-is, second-is}
use Rattle.packet_scan.proofs.BlockSteps.{split_at}

-- ---- ends

pub ends-more : (size : ℕ) (sizes : List ℕ) (i at end : ℕ) (d : ℕ) → i < length sizes → at + get_or sizes i d ≤ size → end ≡ at + get_or sizes i d
    → ends_read size (drop i sizes) at ≡ ends_read size (drop (i + 1) sizes) end
unfolding ends_read
ends-more size sizes i at end d inside within e =
    ap (λ sizes. ends_read size sizes at) (split_at [] sizes i d inside) ∙ rw (e, le-ltb size (at + get_or sizes i d) within) refl

pub ends-past : (size : ℕ) (sizes : List ℕ) (i at : ℕ) (d : ℕ) → i < length sizes → size < at + get_or sizes i d → ends_read size (drop i sizes) at ≡ Err (LengthPast at (get_or sizes i d))
unfolding ends_read
ends-past size sizes i at d inside past =
    ap (λ sizes. ends_read size sizes at) (split_at [] sizes i d inside) ∙ rw (lt-ltb size (at + get_or sizes i d) past) refl

pub ends-none : (size : ℕ) (sizes : List ℕ) (i at : ℕ) → length sizes ≤ i → ends_read size (drop i sizes) at ≡ Ok at
unfolding ends_read
ends-none size sizes i at past = rw (drop_all i sizes past) refl

ends-append : (size : ℕ) (xs ys : List ℕ) (at : ℕ) → ends_read size (xs ++ ys) at ≡ on_ok (ends_read size xs at) (ends_read size ys)
unfolding ends_read
ends-append size [] ys at = refl
ends-append size (n ∷ xs) ys at = by_test (nat_lt size (at + n)) (ends-append size xs ys (at + n))
  where
    by_test : (b : Bool) → ends_read size (xs ++ ys) (at + n) ≡ on_ok (ends_read size xs (at + n)) (ends_read size ys)
        → (if b then Err (LengthPast at n) else ends_read size (xs ++ ys) (at + n)) ≡ on_ok (if b then Err (LengthPast at n) else ends_read size xs (at + n)) (ends_read size ys)
    by_test true later = refl
    by_test false later = later

-- ---- codewords

abbrev Blocks : Type 0
Blocks = Result (List PacketBlock × ℕ) HeadRefusal

abbrev count_of : List PacketBlock → ℕ
count_of blocks = count_by (λ (block : PacketBlock). block.included) blocks

abbrev counted : Blocks → Result (ℕ × ℕ) HeadRefusal
counted r = on_ok r (λ (r : List PacketBlock × ℕ). Ok (count_of r.0, r.1))

abbrev ended : ℕ → Result ℕ HeadRefusal → Result (ℕ × ℕ) HeadRefusal
ended n r = on_ok r (λ next. Ok (n, next))

counted-front : (block : PacketBlock) (r : Blocks) (n m : ℕ) (e : Result ℕ HeadRefusal) → m ≡ cond block.included 1 0 + n → counted r ≡ ended n e
    → counted (on_ok r (λ r. Ok (block ∷ r.0, r.1))) ≡ ended m e
counted-front block (Ok r) n m (Ok next) same h =
    let count : count_of r.0 ≡ n = first-is (counted (Ok r)) (count_of r.0) n r.1 next refl h in
    let place : r.1 ≡ next = second-is (counted (Ok r)) (count_of r.0) n r.1 next refl h in
    ap₂ (λ (a b : ℕ). Ok (a, b)) (sum_by-cons (λ (block : PacketBlock). cond block.included 1 0) block r.0 ∙ ap (λ k. cond block.included 1 0 + k) count ∙ sym same) place
counted-front block (Ok r) n m (Err f) same h = cc
counted-front block (Err e) n m (Ok next) same h = cc
counted-front block (Err e) n m (Err f) same h = cc

-- what is told of a packet that ends there
abbrev pub told : List ℕ → ℕ → Result Scanned HeadRefusal
told sizes next = Ok (record { blocks = length sizes; next = next })

module _ (bytes : List ℕ) where
  codewords-counted : (heads : List BlockHead) (at : ℕ) → counted (codewords_read bytes heads at) ≡ ended (length (sizes_in heads)) (ends_read (length bytes) (sizes_in heads) at)
  unfolding codewords_read ends_read
  codewords-counted [] at = refl
  codewords-counted (head ∷ heads) at = by_included head.included (codewords-counted heads (at + head.size)) (codewords-counted heads at)
    where
      by_past : (past : Bool) → counted (codewords_read bytes heads (at + head.size)) ≡ ended (length (sizes_in heads)) (ends_read (length bytes) (sizes_in heads) (at + head.size))
          → counted (if past then Err (LengthPast at head.size) else on_ok (codewords_read bytes heads (at + head.size)) (λ r. Ok (block_with bytes head at ∷ r.0, r.1)))
          ≡ ended (suc (length (sizes_in heads))) (if past then Err (LengthPast at head.size) else ends_read (length bytes) (sizes_in heads) (at + head.size))
      by_past true there = refl
      by_past false there =
          let same : suc (length (sizes_in heads)) ≡ 1 + length (sizes_in heads) = omega arith in
          counted-front (block_with bytes head at) (codewords_read bytes heads (at + head.size)) _ _ _ same there

      by_included : (b : Bool) → counted (codewords_read bytes heads (at + head.size)) ≡ ended (length (sizes_in heads)) (ends_read (length bytes) (sizes_in heads) (at + head.size))
          → counted (codewords_read bytes heads at) ≡ ended (length (sizes_in heads)) (ends_read (length bytes) (sizes_in heads) at)
          → counted (if b then (if nat_lt (length bytes) (at + head.size) then Err (LengthPast at head.size) else on_ok (codewords_read bytes heads (at + head.size)) (λ r. Ok (block_with bytes head at ∷ r.0, r.1)))
          else on_ok (codewords_read bytes heads at) (λ r. Ok (no_block ∷ r.0, r.1)))
          ≡ ended (length (if b then head.size ∷ sizes_in heads else sizes_in heads)) (ends_read (length bytes) (if b then head.size ∷ sizes_in heads else sizes_in heads) at)
      by_included true there here = by_past (nat_lt (length bytes) (at + head.size)) there
      by_included false there here = let same : length (sizes_in heads) ≡ 0 + length (sizes_in heads) = omega arith in counted-front no_block (codewords_read bytes heads at) _ _ _ same here

  -- ---- those of several sub-bands

  abbrev Bands : Type 0
  Bands = Result (List PacketBand × ℕ) HeadRefusal

  abbrev counted_bands : Bands → Result (ℕ × ℕ) HeadRefusal
  counted_bands r = on_ok r (λ (r : List PacketBand × ℕ). Ok (sum_by included_in r.0, r.1))

  abbrev with_band : BandShape → List PacketBlock → Bands → Bands
  with_band s blocks rest = on_ok rest (λ (rest : List PacketBand × ℕ). Ok (record { columns = s.columns; rows = s.rows; blocks = blocks } ∷ rest.0, rest.1))

  band-front : (s : BandShape) (blocks : List PacketBlock) (rest : Bands) (n : ℕ) (e : Result ℕ HeadRefusal) → counted_bands rest ≡ ended n e
      → counted_bands (with_band s blocks rest) ≡ ended (count_of blocks + n) e
  band-front s blocks (Ok r) n (Ok next) h =
      let count : sum_by included_in r.0 ≡ n = first-is (counted_bands (Ok r)) (sum_by included_in r.0) n r.1 next refl h in
      let place : r.1 ≡ next = second-is (counted_bands (Ok r)) (sum_by included_in r.0) n r.1 next refl h in
      ap₂ (λ (a b : ℕ). Ok (a, b)) (sum_by-cons included_in (record { columns = s.columns; rows = s.rows; blocks = blocks }) r.0 ∙ ap (λ k. count_of blocks + k) count) place
  band-front s blocks (Ok r) n (Err f) h = cc
  band-front s blocks (Err e) n (Ok next) h = cc
  band-front s blocks (Err e) n (Err f) h = cc

  one-band : (s : BandShape) (later : ℕ → Bands) (blocks : Blocks) (m n : ℕ) (e : Result ℕ HeadRefusal) (ends : ℕ → Result ℕ HeadRefusal)
      → counted blocks ≡ ended m e → ((at : ℕ) → counted_bands (later at) ≡ ended n (ends at))
      → counted_bands (on_ok blocks (λ (r : List PacketBlock × ℕ). with_band s r.0 (later r.1))) ≡ ended (m + n) (on_ok e ends)
  one-band s later (Ok r) m n (Ok next) ends h g =
      let count : count_of r.0 ≡ m = first-is (counted (Ok r)) (count_of r.0) m r.1 next refl h in
      let place : r.1 ≡ next = second-is (counted (Ok r)) (count_of r.0) m r.1 next refl h in
      band-front s r.0 (later r.1) n (ends r.1) (g r.1) ∙ ap₂ (λ (a b : ℕ). ended (a + n) (ends b)) count place
  one-band s later (Ok r) m n (Err f) ends h g = cc
  one-band s later (Err e) m n (Ok next) ends h g = cc
  one-band s later (Err e) m n (Err f) ends h g = cc

  all-bands : (shapes : List BandShape) (heads : List (List BlockHead)) (at : ℕ) → length heads ≡ length shapes
      → counted_bands (band_codewords_read bytes shapes heads at) ≡ ended (length (flat_map sizes_in heads)) (ends_read (length bytes) (flat_map sizes_in heads) at)
  unfolding band_codewords_read ends_read
  all-bands [] [] at h = refl
  all-bands [] (heads ∷ more) at h = absurd (omega (arith, h))
  all-bands (s ∷ shapes) [] at h = absurd (omega (arith, h))
  all-bands (s ∷ shapes) (heads ∷ more) at h =
      one-band s (band_codewords_read bytes shapes more) (codewords_read bytes heads at) (length (sizes_in heads)) (length (flat_map sizes_in more))
      (ends_read (length bytes) (sizes_in heads) at) (ends_read (length bytes) (flat_map sizes_in more))
      (codewords-counted heads at) (λ next. all-bands shapes more next (omega (arith, h)))
      ∙ ap₂ (λ (n : ℕ) (e : Result ℕ HeadRefusal). ended n e)
      (sym (ap length (flat_map-cons sizes_in heads more) ∙ length-append (sizes_in heads) (flat_map sizes_in more)))
      (sym (ap (λ (sizes : List ℕ). ends_read (length bytes) sizes at) (flat_map-cons sizes_in heads more) ∙ ends-append (length bytes) (sizes_in heads) (flat_map sizes_in more) at))

  -- ---- as many sub-bands as shapes

  abbrev HeadBands : Type 0
  HeadBands = Result (List (List BlockHead) × BitPlace) HeadRefusal

  abbrev heads_front : List BlockHead → List (List BlockHead) × BitPlace → HeadBands
  heads_front heads m = Ok (heads ∷ m.0, m.1)

  bands-size : (shapes : List BandShape) (p q : BitPlace) (heads : List (List BlockHead)) → bands_read bytes shapes p ≡ Ok (heads, q) → length heads ≡ length shapes
  unfolding bands_read
  bands-size [] p q heads h = sym (ap length (first-is (bands_read bytes [] p) [] heads p q refl h))
  bands-size (s ∷ shapes) p q heads h = first (band_read bytes s p) h (λ p q more e. bands-size shapes p q more e)
    where
      later : (heads-first : List BlockHead) (r : HeadBands) → ((q : BitPlace) (more : List (List BlockHead)) → r ≡ Ok (more, q) → length more ≡ length shapes)
          → on_ok r (heads_front heads-first) ≡ Ok (heads, q) → length heads ≡ suc (length shapes)
      later heads-first (Ok m) g e =
          let is : heads-first ∷ m.0 ≡ heads = first-is (heads_front heads-first m) (heads-first ∷ m.0) heads m.1 q refl e in
          sym (ap length is) ∙ ap suc (g m.1 m.0 refl)
      later heads-first (Err f) g e = cc

      first : (r : Result (List BlockHead × BitPlace) HeadRefusal)
          → on_ok r (λ (h : List BlockHead × BitPlace). on_ok (bands_read bytes shapes h.1) (heads_front h.0)) ≡ Ok (heads, q)
          → ((p q : BitPlace) (more : List (List BlockHead)) → bands_read bytes shapes p ≡ Ok (more, q) → length more ≡ length shapes) → length heads ≡ suc (length shapes)
      first (Ok b) e all = later b.0 (bands_read bytes shapes b.1) (λ q more. all b.1 q more) e
      first (Err f) e all = cc

  -- ---- the packet

  abbrev ends_told : List ℕ → ℕ → Result Scanned HeadRefusal
  ends_told sizes at = on_ok (ends_read (length bytes) sizes at) (told sizes)

  abbrev made : Bands → Result PacketRead HeadRefusal
  made r = on_ok r (λ (bands : List PacketBand × ℕ). Ok (record { bands = bands.0; next = bands.1 }))

  made-scanned : (r : Bands) (n : ℕ) (e : Result ℕ HeadRefusal) → counted_bands r ≡ ended n e → scanned (made r) ≡ on_ok e (λ next. Ok (record { blocks = n; next = next }))
  made-scanned (Ok r) n (Ok next) h =
      let count : sum_by included_in r.0 ≡ n = first-is (counted_bands (Ok r)) (sum_by included_in r.0) n r.1 next refl h in
      let place : r.1 ≡ next = second-is (counted_bands (Ok r)) (sum_by included_in r.0) n r.1 next refl h in
      ap₂ (λ (a b : ℕ). let s : Scanned = record { blocks = a; next = b } in Ok s) count place
  made-scanned (Ok r) n (Err f) h = cc
  made-scanned (Err e) n (Ok next) h = cc
  made-scanned (Err e) n (Err f) h = cc

  module _ (shapes : List BandShape) (p q : BitPlace) (sizes : List ℕ) (read : with_band_sizes [] (bands_read bytes shapes p) ≡ Ok (sizes, q)) where
    whole : (r : HeadBands) → bands_read bytes shapes p ≡ r
        → scanned (on_ok r (λ heads. on_ok (header_end bytes heads.1) (λ at. made (band_codewords_read bytes shapes heads.0 at)))) ≡ on_ok (header_end bytes q) (ends_told sizes)
    whole (Ok heads) h =
        let known : with_band_sizes [] (Ok heads) ≡ Ok (sizes, q) = sym (ap (with_band_sizes []) h) ∙ read in
        let is : flat_map sizes_in heads.0 ≡ sizes = first-is (with_band_sizes [] (Ok heads)) (flat_map sizes_in heads.0) sizes heads.1 q refl known in
        let place : heads.1 ≡ q = second-is (with_band_sizes [] (Ok heads)) (flat_map sizes_in heads.0) sizes heads.1 q refl known in
        let size : length heads.0 ≡ length shapes = bands-size shapes p heads.1 heads.0 h in
        on_ok-twice (header_end bytes heads.1) (λ at. made (band_codewords_read bytes shapes heads.0 at)) (λ (packet : PacketRead). Ok (record { blocks = sum_by included_in packet.bands; next = packet.next }))
        ∙ on_ok-same (header_end bytes heads.1) _ (ends_told (flat_map sizes_in heads.0))
        (λ at. made-scanned (band_codewords_read bytes shapes heads.0 at) (length (flat_map sizes_in heads.0)) (ends_read (length bytes) (flat_map sizes_in heads.0) at) (all-bands shapes heads.0 at size))
        ∙ ap₂ (λ (s : List ℕ) (q : BitPlace). on_ok (header_end bytes q) (ends_told s)) is place
    whole (Err e) h =
        let known : with_band_sizes [] (Err e) ≡ Ok (sizes, q) = sym (ap (with_band_sizes []) h) ∙ read in
        cc

    pub full-scanned : scanned (full_packet_read bytes shapes p) ≡ on_ok (header_end bytes q) (ends_told sizes)
    full-scanned = whole (bands_read bytes shapes p) refl

    pub no_end : (refusal : HeadRefusal) → header_end bytes q ≡ Err refusal → scanned (full_packet_read bytes shapes p) ≡ Err refusal
    no_end refusal h = full-scanned ∙ ap (λ r. on_ok r (ends_told sizes)) h

    pub end-scanned : (at : ℕ) → header_end bytes q ≡ Ok at → scanned (full_packet_read bytes shapes p) ≡ on_ok (ends_read (length bytes) sizes at) (told sizes)
    end-scanned at h = full-scanned ∙ ap (λ r. on_ok r (ends_told sizes)) h

  pub no_heads : (shapes : List BandShape) (p : BitPlace) (refusal : HeadRefusal) → bands_read bytes shapes p ≡ Err refusal → full_packet_read bytes shapes p ≡ Err refusal
  no_heads shapes p refusal h = rw h refl

pub scanned-refused : (r : Result PacketRead HeadRefusal) (refusal : HeadRefusal) → scanned r ≡ Err refusal → r ≡ Err refusal
scanned-refused (Ok packet) refusal h = cc
scanned-refused (Err e) refusal h = cc

-- ---- a packet that is empty

none-included : (n : ℕ) → count_of (replicate n no_block) ≡ 0
none-included zero = refl
none-included (suc n) = omega (arith, sum_by-cons (λ (block : PacketBlock). cond block.included 1 0) no_block (replicate n no_block), none-included n)

pub empty-included : (shapes : List BandShape) → sum_by included_in (map (empty_band []) shapes) ≡ 0
empty-included [] = refl
empty-included (s ∷ shapes) =
    omega (arith, sum_by-cons included_in (empty_band [] s) (map (empty_band []) shapes), none-included (s.columns * s.rows), empty-included shapes)
