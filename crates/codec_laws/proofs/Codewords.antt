-- The bytes of codewords and of packets have no marker within them, and a codeword doesn't end with FF.
use Rattle.std.proofs.Common.{◌≡◌, ◌≢◌, ℕ, zero, suc, ◌+◌, ◌*◌, ◌^◌, ◌<◌, ◌≤◌, refl, sym, ap, subst, ◌∙◌, arith, Bool, true, false, List, [], ◌∷◌, ◌++◌, reverse, map, ℤ}
use Rattle.std.specs.Prelude.{◌==◌, if◌then◌else◌, nat_le}
use Rattle.std.specs.Int.{from_bool}
use Rattle.std.specs.List.{flat_map, list_any}
use Rattle.std.proofs.lemmas.List.Folds.{flat_map-map}
use mathlib.Core.List.{reverse_aux}
use Rattle.std.proofs.lemmas.Bool.{eqb-true, ne_eqb, cond_both}
use Rattle.std.proofs.lemmas.Nat.{pow_pos}
use Rattle.std.proofs.Math.Nat.{pow-succ'}
use Rattle.std.proofs.lemmas.Grind.{reverse_onto}
use Rattle.codec_terms.specs.declared.picture.Shape.{Shape}
use Rattle.codec_terms.specs.declared.picture.Band.{Band}
use Rattle.codec_terms.specs.declared.packet.PacketBand.{PacketBand}
use Rattle.codec_terms.specs.Mq.{Decision, last_byte, without_last_ff, flushed_bytes, codeword, coded, start}
use Rattle.codec_terms.specs.BlockDecisions.{Block, plane_count, decisions}
use Rattle.codec_terms.specs.Bands.{band_values, lowest_plane, resolution_bands}
use Rattle.codec_terms.specs.Precincts.{Precinct, blocks_in}
use Rattle.codec_terms.specs.PacketHeader.{packed_into, packed, ends_with_ff, band_bits, block_codeword, band_codewords, has_included, full_packet, packet}
use Rattle.codec_terms.specs.Codestream.{included_down_to, not_included, packet_block, packet_band, precinct_packet, placed_block, block_places, block_of}
use Rattle.codec_terms.proofs.HeaderLaws.{packed-ends}
use Rattle.mq_laws.specs.Ready.{Clean}
use Rattle.mq_laws.proofs.Decisions.{ready-coded_from}
use Rattle.mq_laws.proofs.Flush.{closed}
use Rattle.mq_laws.proofs.ReadBack.{clean-dropped, ready-start}
use Rattle.codec_laws.specs.Codewords.{HasNoMarker}

-- ---- lists of bytes

-- of no bytes this says what it says of a byte 0
HasNoMarker-cons : (b : ℕ) (bytes : List ℕ) → (b ≡ 0xFF → last_byte bytes ≤ 0x8F) → HasNoMarker bytes → HasNoMarker (b ∷ bytes)
unfolding last_byte
HasNoMarker-cons b [] behind rest = tt
HasNoMarker-cons b (a ∷ bytes) behind rest = (behind, rest)

-- bytes that may stand in front of others
pub record IsClosed (bytes : List ℕ) : Type 0 where
  pub no_marker : HasNoMarker bytes
  pub no_last_ff : ends_with_ff bytes ≡ false

IsClosed-nil : IsClosed []
unfolding ends_with_ff
IsClosed-nil = record { no_marker = tt; no_last_ff = refl }

not_ff : (a : ℕ) → ends_with_ff (a ∷ []) ≡ false → a ≢ 0xFF
unfolding ends_with_ff
not_ff a e = λ q. none (a == 0xFF) e (ap (λ n. n == 0xFF) q)
  where
    none : (t : Bool) → t ≡ false → t ≡ true → ⊥
    none t p q = let h : false ≡ true = sym p ∙ q in cc

ends_behind : (a b : ℕ) (bytes : List ℕ) → ends_with_ff (a ∷ b ∷ bytes) ≡ false → ends_with_ff (b ∷ bytes) ≡ false
unfolding ends_with_ff
ends_behind a b bytes e = e

pub HasNoMarker-append : (xs ys : List ℕ) → HasNoMarker xs → ends_with_ff xs ≡ false → HasNoMarker ys → HasNoMarker (xs ++ ys)
HasNoMarker-append [] ys h e g = g
HasNoMarker-append (a ∷ []) ys h e g = HasNoMarker-cons a ys (λ q. absurd (not_ff a e q)) g
HasNoMarker-append (a ∷ b ∷ xs) ys h e g = (h.0, HasNoMarker-append (b ∷ xs) ys h.1 (ends_behind a b xs e) g)

ends_with_ff-append : (xs ys : List ℕ) → ends_with_ff xs ≡ false → ends_with_ff ys ≡ false → ends_with_ff (xs ++ ys) ≡ false
unfolding ends_with_ff
ends_with_ff-append [] ys e g = g
ends_with_ff-append (a ∷ []) [] e g = e
ends_with_ff-append (a ∷ []) (y ∷ ys) e g = g
ends_with_ff-append (a ∷ b ∷ xs) ys e g = ends_with_ff-append (b ∷ xs) ys e g

IsClosed-append : (xs ys : List ℕ) → IsClosed xs → IsClosed ys → IsClosed (xs ++ ys)
IsClosed-append xs ys c d = record {
  no_marker = HasNoMarker-append xs ys c.no_marker c.no_last_ff d.no_marker;
  no_last_ff = ends_with_ff-append xs ys c.no_last_ff d.no_last_ff;
}

pub IsClosed-flat_map : {A : Type 0} (f : A → List ℕ) → ((x : A) → IsClosed (f x)) → (xs : List A) → IsClosed (flat_map f xs)
IsClosed-flat_map f each [] = IsClosed-nil
IsClosed-flat_map f each (x ∷ xs) = IsClosed-append (f x) (flat_map f xs) (each x) (IsClosed-flat_map f each xs)

-- ---- a flush, of whose bytes the last comes first

no_marker_turned : (bs acc : List ℕ) → Clean bs → (last_byte bs ≡ 0xFF → last_byte acc ≤ 0x8F) → HasNoMarker acc → HasNoMarker (reverse_aux bs acc)
unfolding Clean last_byte
no_marker_turned [] acc clean join rest = rest
no_marker_turned (b ∷ bs) acc clean join rest = no_marker_turned bs (b ∷ acc) clean.2 clean.1 (HasNoMarker-cons b acc join rest)

ends_with_ff-push : (xs : List ℕ) (b : ℕ) → b ≢ 0xFF → ends_with_ff (xs ++ b ∷ []) ≡ false
unfolding ends_with_ff
ends_with_ff-push [] b other = ne_eqb b 0xFF other
ends_with_ff-push (a ∷ []) b other = ne_eqb b 0xFF other
ends_with_ff-push (a ∷ c ∷ xs) b other = ends_with_ff-push (c ∷ xs) b other

ends_with_ff-reverse : (bs : List ℕ) → last_byte bs ≢ 0xFF → ends_with_ff (reverse bs) ≡ false
unfolding last_byte ends_with_ff
ends_with_ff-reverse [] other = refl
ends_with_ff-reverse (b ∷ bs) other = rw (reverse_onto bs b []) (ends_with_ff-push (reverse bs) b other)

last_byte-without : (bs : List ℕ) → Clean bs → last_byte (without_last_ff bs) ≢ 0xFF
unfolding without_last_ff Clean last_byte
last_byte-without [] clean = λ e. omega arith
last_byte-without (b ∷ bs) clean =
    cond_both (b == 0xFF) bs (b ∷ bs) (λ xs. last_byte xs ≢ 0xFF)
    (λ e q. let full : b ≡ 0xFF = eqb-true b 0xFF e in let low : b ≤ 0x8F = clean.1 q in omega arith)
    (λ e q. not_it e q)
  where
    not_it : (b == 0xFF) ≡ false → b ≡ 0xFF → ⊥
    not_it e q = let h : false ≡ true = sym e ∙ ap (λ n. n == 0xFF) q in cc

IsClosed-reverse : (bs : List ℕ) → Clean bs → IsClosed (reverse (without_last_ff bs))
IsClosed-reverse bs clean = record {
  no_marker = no_marker_turned (without_last_ff bs) [] (clean-dropped bs clean) (λ e. absurd (last_byte-without bs clean e)) tt;
  no_last_ff = ends_with_ff-reverse (without_last_ff bs) (last_byte-without bs clean);
}

pub IsClosed-codeword : (ds : List Decision) → IsClosed (codeword ds)
unfolding codeword flushed_bytes coded
IsClosed-codeword ds = IsClosed-reverse _ (closed (coded ds).registers (ready-coded_from start ds ready-start)).clean

-- ---- a packet

small_first : (k byte : ℕ) (bits : List Bool) → last_byte (packed_into k byte bits) < byte + 2 ^ suc k
unfolding packed_into last_byte
small_first k byte [] = cond_both (k == 7) [] (byte ∷ []) (λ xs. last_byte xs < byte + 2 ^ suc k) (λ e. omega (arith, pow_pos (suc k))) (λ e. omega (arith, pow_pos (suc k)))
small_first zero byte (true ∷ bits) = omega arith
small_first zero byte (false ∷ bits) = omega arith
small_first (suc k) byte (true ∷ bits) = omega (arith, small_first k (byte + from_bool true * 2 ^ suc k) bits, pow-succ' 2 (suc k))
small_first (suc k) byte (false ∷ bits) = omega (arith, small_first k (byte + from_bool false * 2 ^ suc k) bits, pow-succ' 2 (suc k), pow_pos (suc k))

behind_ff : (full : ℕ) (bits : List Bool) → full ≡ 0xFF → last_byte (packed_into (if full == 255 then 6 else 7) 0 bits) ≤ 0x8F
behind_ff full bits e = subst (λ n. last_byte (packed_into (if n == 255 then 6 else 7) 0 bits) ≤ 0x8F) (sym e) (omega (arith, small_first 6 0 bits))

HasNoMarker-packed_into : (k byte : ℕ) (bits : List Bool) → HasNoMarker (packed_into k byte bits)
unfolding packed_into
HasNoMarker-packed_into k byte [] = cond_both (k == 7) [] (byte ∷ []) HasNoMarker (λ e. tt) (λ e. tt)
HasNoMarker-packed_into zero byte (bit ∷ bits) =
    let full = byte + from_bool bit in
    HasNoMarker-cons full (packed_into (if full == 255 then 6 else 7) 0 bits) (behind_ff full bits) (HasNoMarker-packed_into (if full == 255 then 6 else 7) 0 bits)
HasNoMarker-packed_into (suc k) byte (bit ∷ bits) = HasNoMarker-packed_into k (byte + from_bool bit * 2 ^ suc k) bits

pub IsClosed-packed : (bits : List Bool) → IsClosed (packed bits)
IsClosed-packed bits = record { no_marker = HasNoMarker-packed_into 7 0 bits; no_last_ff = packed-ends bits }

IsClosed-block : (band : Band) (p : ℕ) (block : Block) → IsClosed (block_codeword (packet_block band p block))
unfolding packet_block
IsClosed-block band p block =
    cond_both (nat_le (plane_count block) p) not_included (included_down_to band block p) (λ x. IsClosed (block_codeword x))
    (λ e. IsClosed-nil) (λ e. IsClosed-codeword (decisions block p))

IsClosed-band : (shape : Shape) (q : List ℤ) (cut number : ℕ) (band : Band) → IsClosed (band_codewords (packet_band shape q cut number band))
unfolding packet_band
IsClosed-band shape q cut number band =
    rw (flat_map-map block_codeword (placed_block shape band (band_values shape q band) (lowest_plane cut band)) (block_places (blocks_in shape band number)))
    (IsClosed-flat_map _ (λ place. IsClosed-block band (lowest_plane cut band) (block_of shape band (band_values shape q band) place.0 place.1)) (block_places (blocks_in shape band number)))

HasNoMarker-packet : (bands : List PacketBand) → IsClosed (flat_map band_codewords bands) → HasNoMarker (packet bands)
unfolding packet
HasNoMarker-packet bands closed_words =
    let header = IsClosed-packed (true ∷ flat_map band_bits bands) in
    cond_both (list_any has_included bands) (full_packet bands) (0 ∷ []) HasNoMarker
    (λ e. HasNoMarker-append (packed (true ∷ flat_map band_bits bands)) (flat_map band_codewords bands) header.no_marker header.no_last_ff closed_words.no_marker)
    (λ e. tt)

pub HasNoMarker-precinct_packet : (shape : Shape) (q : List ℤ) (cut component : ℕ) (precinct : Precinct) → HasNoMarker (precinct_packet shape q cut component precinct)
HasNoMarker-precinct_packet shape q cut component precinct =
    HasNoMarker-packet (map (packet_band shape q cut precinct.number) (resolution_bands component precinct.resolution))
    (rw (flat_map-map band_codewords (packet_band shape q cut precinct.number) (resolution_bands component precinct.resolution))
    (IsClosed-flat_map _ (IsClosed-band shape q cut precinct.number) (resolution_bands component precinct.resolution)))
