-- The floor of a packet, code-block by code-block and sub-band by sub-band.
use Rattle.std.proofs.Common.{◌≡◌, ℕ, ◌+◌, ◌<◌, refl, sym, ap, ap₂, ◌∙◌, arith, List, [], ◌∷◌, length, take, map, get_or, sum_by, ℤ}
use Rattle.std.specs.Prelude.{Some}
use Rattle.std.specs.List.{slice_get}
use Rattle.std.proofs.lemmas.List.Sums.{sum_by-cons, sum_by_more}
use Rattle.std.proofs.lemmas.Option.{get_or_from_slice_get}
use Rattle.codec_terms.specs.declared.picture.Shape.{Shape}
use Rattle.codec_terms.specs.declared.picture.Band.{Band}
use Rattle.codec_terms.specs.declared.packet.PacketBlock.{PacketBlock}
use Rattle.codec_terms.specs.Codestream.{not_included, packet_band}
use Rattle.floor_laws.specs.Floors.{codeword_floor, band_floor, packet_floor}

-- ---- one code-block more

pub block-floor-more : (blocks : List PacketBlock) (at n floor : ℕ) → at < length blocks → n ≡ sum_by codeword_floor (take at blocks)
    → floor ≡ codeword_floor (get_or blocks at not_included) → n + floor ≡ sum_by codeword_floor (take (at + 1) blocks)
block-floor-more blocks at n floor inside before here =
    ap₂ (λ (a b : ℕ). a + b) before here ∙ sym (sum_by_more codeword_floor blocks at not_included inside)

-- ---- one sub-band more

abbrev pub floor_in : Shape → List ℤ → ℕ → ℕ → Band → ℕ
floor_in shape q cut number band = band_floor (packet_band shape q cut number band)

pub band-floor-more : (shape : Shape) (q : List ℤ) (cut number i n floor : ℕ) (bands : List Band) (band : Band) → i < length bands → slice_get bands i ≡ Some band
    → n ≡ 1 + sum_by (floor_in shape q cut number) (take i bands) → floor ≡ floor_in shape q cut number band
    → n + floor ≡ 1 + sum_by (floor_in shape q cut number) (take (i + 1) bands)
band-floor-more shape q cut number i n floor bands band inside there before here =
    let more = sum_by_more (floor_in shape q cut number) bands i band inside in
    let same = ap (floor_in shape q cut number) (get_or_from_slice_get bands i band band there) in
    omega (arith, before, here, more, same)

sum_by-map : {A B : Type 0} (g : B → ℕ) (f : A → B) (xs : List A) → sum_by (λ x. g (f x)) xs ≡ sum_by g (map f xs)
sum_by-map g f [] = refl
sum_by-map g f (x ∷ xs) = sum_by-cons (λ x. g (f x)) x xs ∙ ap (λ (n : ℕ). g (f x) + n) (sum_by-map g f xs) ∙ sym (sum_by-cons g (f x) (map f xs))

pub all-floors : (shape : Shape) (q : List ℤ) (cut number : ℕ) (bands : List Band)
    → 1 + sum_by (floor_in shape q cut number) bands ≡ packet_floor (map (packet_band shape q cut number) bands)
all-floors shape q cut number bands = ap (λ (n : ℕ). 1 + n) (sum_by-map band_floor (packet_band shape q cut number) bands)
