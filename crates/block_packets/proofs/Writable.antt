-- What a packet has of code-blocks whose values fit their sub-bands can be written.
use Rattle.std.proofs.Common.{ℕ, ◌<◌, ◌≤◌, ◌∙◌, arith, List, All, ℤ, map}
use Rattle.std.specs.Prelude.{nat_le}
use Rattle.std.proofs.Math.Nat.{mul_comm}
use Rattle.std.proofs.lemmas.Bool.{cond_both, false≢true, leb-false}
use Rattle.std.proofs.lemmas.List.Elements.{All-map, All-weaker}
use Rattle.codec_terms.specs.declared.picture.Shape.{Shape}
use Rattle.codec_terms.specs.declared.picture.Band.{Band}
use Rattle.codec_terms.specs.declared.packet.PacketBlock.{PacketBlock}
use Rattle.codec_terms.specs.Bands.{resolution_bands, band_values, lowest_plane}
use Rattle.codec_terms.specs.BlockDecisions.{Block, plane_count}
use Rattle.codec_terms.specs.Precincts.{blocks_in}
use Rattle.codec_terms.specs.Codestream.{block_of, not_included, included_down_to, packet_block, placed_block, block_places, packet_band}
use Rattle.codec_laws.specs.Bounds.{FitsBand, FitBands}
use Rattle.codec_laws.proofs.BlockPlaces.{length-packet_band}
use Rattle.codec_laws.proofs.Lists.{All-each}
use Rattle.codec_laws.proofs.Planes.{plane_limit-small, plane_count-block_of}
use Rattle.packet_head.specs.Writing.{HasPassCode, IsBand}
use Rattle.block_packets.proofs.Areas.{resolution_in}

block-passes : (band : Band) (p : ℕ) (b : Block) → plane_count b ≤ 15 → HasPassCode (packet_block band p b)
unfolding packet_block
block-passes band p b few =
    cond_both (nat_le (plane_count b) p) not_included (included_down_to band b p) HasPassCode
    (λ e. record { some = λ inc. absurd (false≢true inc); few = λ inc. absurd (false≢true inc) })
    (λ e. let some = leb-false (plane_count b) p e in record { some = λ inc. omega (arith, some); few = λ inc. omega (arith, few) })

all-passes : (shape : Shape) (q : List ℤ) (cut number : ℕ) (band : Band) → All (FitsBand band) (band_values shape q band) → All HasPassCode (packet_band shape q cut number band).blocks
unfolding packet_band
all-passes shape q cut number band fits =
    let values : List ℤ = band_values shape q band in
    let put : ℕ × ℕ → PacketBlock = placed_block shape band values (lowest_plane cut band) in
    All-map HasPassCode put (block_places (blocks_in shape band number))
    (All-each (λ place. HasPassCode (put place))
    (λ place. block-passes band (lowest_plane cut band) (block_of shape band values place.0 place.1)
    (omega (arith, plane_count-block_of shape band values place.0 place.1 fits, plane_limit-small band)))
    (block_places (blocks_in shape band number)))

is-band : (shape : Shape) (q : List ℤ) (cut number : ℕ) (band : Band) → All (FitsBand band) (band_values shape q band) → IsBand (packet_band shape q cut number band)
is-band shape q cut number band fits = record {
  count = length-packet_band shape q cut number band ∙ mul_comm (packet_band shape q cut number band).columns (packet_band shape q cut number band).rows;
  passes = all-passes shape q cut number band fits;
}

pub are-bands : (shape : Shape) (q : List ℤ) (cut number component r : ℕ) → FitBands shape q → component < 3 → r < 6 → All IsBand (map (packet_band shape q cut number) (resolution_bands component r))
are-bands shape q cut number component r fits inside there =
    let P : Band → Type 0 = λ band. All (FitsBand band) (band_values shape q band) in
    All-map IsBand (packet_band shape q cut number) (resolution_bands component r)
    (All-weaker P (λ band. IsBand (packet_band shape q cut number band)) (is-band shape q cut number) (resolution_bands component r) (resolution_in P fits component r inside there))
