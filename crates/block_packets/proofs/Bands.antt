-- A packet's part of a sub-band, block by block.
use Rattle.std.proofs.Common.{◌≡◌, ℕ, zero, suc, ◌+◌, ◌*◌, ◌/◌, ◌%◌, ◌<◌, ◌≤◌, refl, sym, ap, ◌∙◌, subst, arith, List, [], ◌∷◌, length, take, get_or, set, ℤ, below_more, get_or-set_same, get_or-set_other, ◌≢◌}
use Rattle.std.specs.Prelude.{Some}
use Rattle.std.specs.List.{slice_get}
use Rattle.std.proofs.Math.Nat.{mul_comm}
use Rattle.std.proofs.lemmas.Nat.{div-add-mod'}
use Rattle.std.proofs.lemmas.List.{get_or-take, length-take-le}
use Rattle.codec_terms.specs.declared.picture.Shape.{Shape}
use Rattle.codec_terms.specs.declared.picture.Band.{Band}
use Rattle.codec_terms.specs.declared.packet.PacketBlock.{PacketBlock}
use Rattle.codec_terms.specs.Bands.{lowest_plane, resolution_bands}
use Rattle.codec_terms.specs.Precincts.{BlockArea, blocks_in}
use Rattle.codec_terms.specs.Codestream.{not_included, packet_block, packet_band}
use Rattle.codec_laws.proofs.BlockPlaces.{length-packet_band, get_or-packet_band}
use Rattle.packet_size.specs.declared.sizes.BlockSize.{BlockSize}
use Rattle.packet_size.specs.Sizes.{IsSizeOf, AreBlockSizes}
use Rattle.picture_sets.specs.Sets.{picture_block}
use Rattle.block_packets.specs.Sized.{absent, AreSizesUpTo}
use Rattle.block_packets.proofs.Areas.{row-below, column-below}

pub count-blocks : (shape : Shape) (q : List ℤ) (cut number : ℕ) (band : Band) (area : BlockArea) → area ≡ blocks_in shape band number
    → length (packet_band shape q cut number band).blocks ≡ area.rows * area.columns
unfolding packet_band
count-blocks shape q cut number band area e =
    rw e (length-packet_band shape q cut number band ∙ mul_comm (blocks_in shape band number).columns (blocks_in shape band number).rows)

pub nth-block : (shape : Shape) (q : List ℤ) (cut number : ℕ) (band : Band) (area : BlockArea) (at : ℕ) → area ≡ blocks_in shape band number → at < area.rows * area.columns
    → get_or (packet_band shape q cut number band).blocks at not_included
    ≡ packet_block band (lowest_plane cut band) (picture_block shape q band (area.x + at % area.columns) (area.y + at / area.columns))
nth-block shape q cut number band area at e inside =
    let own : at < (blocks_in shape band number).rows * (blocks_in shape band number).columns = subst (λ (area : BlockArea). at < area.rows * area.columns) e inside in
    let columns : ℕ = (blocks_in shape band number).columns in
    rw e
    (ap (λ n. get_or (packet_band shape q cut number band).blocks n not_included) (sym (div-add-mod' at columns))
    ∙ get_or-packet_band shape q cut number band (at % columns) (at / columns) not_included
    (column-below at (blocks_in shape band number).rows columns own) (row-below at (blocks_in shape band number).rows columns own))

pub columns-of : (shape : Shape) (q : List ℤ) (cut number : ℕ) (band : Band) (area : BlockArea) → area ≡ blocks_in shape band number → area.columns ≡ (packet_band shape q cut number band).columns
unfolding packet_band
columns-of shape q cut number band area e = ap (λ (area : BlockArea). area.columns) e

pub rows-of : (shape : Shape) (q : List ℤ) (cut number : ℕ) (band : Band) (area : BlockArea) → area ≡ blocks_in shape band number → area.rows ≡ (packet_band shape q cut number band).rows
unfolding packet_band
rows-of shape q cut number band area e = ap (λ (area : BlockArea). area.rows) e

pub band-of : (shape : Shape) (q : List ℤ) (cut number : ℕ) (band : Band) (area : BlockArea) (found : List PacketBlock) → area ≡ blocks_in shape band number → found ≡ (packet_band shape q cut number band).blocks
    → record { columns = area.columns; rows = area.rows; blocks = found } ≡ packet_band shape q cut number band
unfolding packet_band
band-of shape q cut number band area found e p =
    ap (λ (area : BlockArea). record { columns = area.columns; rows = area.rows; blocks = found }) e
    ∙ ap (λ (blocks : List PacketBlock). record { columns = (blocks_in shape band number).columns; rows = (blocks_in shape band number).rows; blocks = blocks }) p

-- ---- sizes one by one

pub one-size-more : (sizes : List BlockSize) (blocks : List PacketBlock) (at : ℕ) (size : BlockSize) → at < length sizes → AreSizesUpTo at sizes blocks
    → IsSizeOf size (get_or blocks at not_included) → AreSizesUpTo (at + 1) (set sizes at size) blocks
one-size-more sizes blocks at size inside before here =
    below_more _ _
    (λ k below. let other : k ≢ at = omega arith in rw get_or-set_other (before k below))
    (rw get_or-set_same here)

pub all-sizes : (sizes : List BlockSize) (blocks : List PacketBlock) → length sizes ≡ length blocks → AreSizesUpTo (length sizes) sizes blocks → AreBlockSizes sizes blocks
all-sizes [] [] same each = tt
all-sizes [] (block ∷ blocks) same each = absurd (omega arith)
all-sizes (size ∷ sizes) [] same each = absurd (omega arith)
all-sizes (size ∷ sizes) (block ∷ blocks) same each =
    (each 0 (omega arith), all-sizes sizes blocks (omega arith) (λ k below. each (suc k) (omega arith)))

pub taken-sizes : (count : ℕ) (sizes : List BlockSize) (blocks : List PacketBlock) → count ≤ length sizes → length blocks ≡ count → AreSizesUpTo count sizes blocks
    → AreBlockSizes (take count sizes) blocks
taken-sizes count sizes blocks enough same each =
    let size : length (take count sizes) ≡ count = length-take-le count sizes enough in
    all-sizes (take count sizes) blocks (size ∙ sym same)
    (λ k below. let within : k < count = omega arith in rw (get_or-take count sizes k absent within) (each k within))

-- ---- sub-bands one by one

pub one-band : (bands : List Band) (a : Band) → length bands ≡ 1 → slice_get bands 0 ≡ Some a → bands ≡ a ∷ []
one-band [] a size first = absurd (omega arith)
one-band (b ∷ []) a size first = cc
one-band (b ∷ d ∷ bands) a size first = absurd (omega arith)

pub three-bands : (bands : List Band) (a b d : Band) → length bands ≡ 3 → slice_get bands 0 ≡ Some a → slice_get bands 1 ≡ Some b → slice_get bands 2 ≡ Some d → bands ≡ a ∷ b ∷ d ∷ []
three-bands [] a b d size first second third = absurd (omega arith)
three-bands (x ∷ []) a b d size first second third = absurd (omega arith)
three-bands (x ∷ y ∷ []) a b d size first second third = absurd (omega arith)
three-bands (x ∷ y ∷ z ∷ []) a b d size first second third = cc
three-bands (x ∷ y ∷ z ∷ w ∷ bands) a b d size first second third = absurd (omega arith)

pub one-count : (component r : ℕ) → r ≡ 0 → length (resolution_bands component r) ≡ 1
unfolding resolution_bands
one-count component zero e = refl
one-count component (suc r) e = absurd (omega arith)

pub three-count : (component r : ℕ) → 0 < r → length (resolution_bands component r) ≡ 3
unfolding resolution_bands
three-count component zero some = absurd (omega arith)
three-count component (suc r) some = refl
