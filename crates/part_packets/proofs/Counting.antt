-- How many blocks are counted.
use Rattle.std.proofs.Common.{◌≡◌, ℕ, ◌+◌, ◌≤◌, arith, List, [], ◌∷◌, ◌++◌, length, sum_by}
use Rattle.std.proofs.lemmas.List.Sums.{sum_by-cons, sum_by-append, count_by-le-length}
use Rattle.codec_terms.specs.declared.packet.PacketBlock.{PacketBlock}
use Rattle.codec_terms.specs.declared.packet.PacketBand.{PacketBand}
use Rattle.codec_terms.specs.declared.packet.BandShape.{BandShape}
use Rattle.codec_terms.specs.StreamReading.{included_in, included_count}
use Rattle.part_packets.specs.Counts.{area, included_blocks}
use Rattle.part_packets.specs.Shapes.{AreOfShapes}

-- a packet includes no more blocks than its sub-bands have
pub few-included : (shapes : List BandShape) (bands : List PacketBand) → AreOfShapes shapes bands → sum_by included_in bands ≤ sum_by area shapes
few-included [] [] fit = omega arith
few-included [] (band ∷ bands) fit = absurd fit
few-included (s ∷ shapes) [] fit = absurd fit
few-included (s ∷ shapes) (band ∷ bands) fit =
    let later = few-included shapes bands fit.1 in
    let many : length band.blocks ≡ area s = (fit.0).blocks in
    omega (arith, sum_by-cons included_in band bands, sum_by-cons area s shapes, count_by-le-length (λ (block : PacketBlock). block.included) band.blocks, many, later)

count-one_more : {A : Type 0} (f : A → ℕ) (items : List A) (item : A) (after : List A) (n m : ℕ) → n ≡ sum_by f items → m ≡ f item → after ≡ items ++ item ∷ [] → n + m ≡ sum_by f after
count-one_more f items item after n m before here same =
    rw (same, sum_by-append f items (item ∷ [])) (omega (arith, before, here, sum_by-cons f item []))

pub packet-counted : (packets : List (List PacketBand)) (bands : List PacketBand) (after : List (List PacketBand)) (n m : ℕ) → n ≡ included_blocks packets → m ≡ sum_by included_in bands
    → after ≡ packets ++ bands ∷ [] → n + m ≡ included_blocks after
packet-counted = count-one_more (λ bands. sum_by included_in bands)

pub part-counted : (parts : List (List (List PacketBand))) (part : List (List PacketBand)) (after : List (List (List PacketBand))) (n m : ℕ) → n ≡ included_count parts → m ≡ included_blocks part
    → after ≡ parts ++ part ∷ [] → n + m ≡ included_count after
part-counted = count-one_more included_blocks
