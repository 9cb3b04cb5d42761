-- The bits that a header packs are read back one by one, and its end is found.
use Rattle.std.proofs.Common.{◌≡◌, ◌≢◌, ℕ, zero, suc, ◌+◌, ◌*◌, ◌-◌, ◌/◌, ◌%◌, ◌^◌, ◌<◌, ◌≤◌, refl, sym, ap, subst, ◌∙◌, arith, Bool, true, false, List, [], ◌∷◌, ◌++◌, length, drop, get_or, Ok, Err, Result, pow_pos, append_assoc}
use Rattle.std.specs.Prelude.{◌==◌, ◌&&◌, if◌then◌else◌, nat_le, slice_index}
use Rattle.std.specs.Int.{from_bool}
use Rattle.std.proofs.Math.Nat.{pow-succ'}
use Rattle.std.proofs.lemmas.Nat.{shr_high}
use Rattle.std.proofs.lemmas.Bool.{cond_both, eqb-true, eq-eqb, ne_eqb, lt-leb}
use Rattle.std.proofs.lemmas.List.{length-drop, length-append, get_or-drop, drop_at, drop-drop}
use Rattle.codec_terms.specs.declared.packet.HeadRefusal.{HeadRefusal}
use Rattle.codec_terms.specs.declared.packet.HeadRefusal.TheVariants.{BadStuffing}
use Rattle.codec_terms.specs.Reading.{on_ok}
use Rattle.codec_terms.specs.PacketHeader.{packed_into, packed}
use Rattle.codec_terms.specs.PacketReading.{BitPlace, byte_read, top_bit, bit_of, bit_read, header_end}
use Rattle.codec_laws.specs.BitsAhead.{StandsAt, bits_behind, AtByte, InByte, IsAheadBy, IsAhead, start_at, Gives}

-- ---- the first byte of packed bits

first_of : {a b : ℕ} {xs ys : List ℕ} → a ∷ xs ≡ b ∷ ys → a ≡ b
first_of e = cc

rest_of : {a b : ℕ} {xs ys : List ℕ} → a ∷ xs ≡ b ∷ ys → xs ≡ ys
rest_of e = cc

no_byte : {a : ℕ} {xs : List ℕ} {A : Type 0} → [] ≡ a ∷ xs → A
no_byte e = absurd (let no : ⊥ = cc in no)

-- what is begun is at least what its first bits are worth, and less than one more would be
record Within (byte k first : ℕ) : Type 0 where
  low : byte ≤ first
  high : first < byte + 2 ^ suc k

worth : (bit : Bool) (k byte first : ℕ) → Within (byte + from_bool bit * 2 ^ suc k) k first → Within byte (suc k) first
worth true k byte first w = record { low = omega (arith, w.low); high = omega (arith, w.high, pow-succ' 2 (suc k)) }
worth false k byte first w = record { low = omega (arith, w.low); high = omega (arith, w.high, pow-succ' 2 (suc k)) }

first_within : (k byte first : ℕ) (bits : List Bool) (more : List ℕ) → packed_into k byte bits ≡ first ∷ more → Within byte k first
unfolding packed_into
first_within k byte first [] more e =
    cond_both (k == 7) [] (byte ∷ []) (λ (xs : List ℕ). xs ≡ first ∷ more → Within byte k first) (λ t q. no_byte q)
    (λ t q. let same = first_of q in record { low = omega arith; high = omega (arith, pow_pos (suc k)) }) e
first_within zero byte first (true ∷ bits) more e = let same = first_of e in record { low = omega arith; high = omega arith }
first_within zero byte first (false ∷ bits) more e = let same = first_of e in record { low = omega arith; high = omega arith }
first_within (suc k) byte first (bit ∷ bits) more e = worth bit k byte first (first_within k (byte + from_bool bit * 2 ^ suc k) first bits more e)

record Begun (bytes : List ℕ) : Type 0 where
  first : ℕ
  more : List ℕ
  is : bytes ≡ first ∷ more

begun_within : (k byte : ℕ) (bits : List Bool) → k < 7 → Begun (packed_into k byte bits)
unfolding packed_into
begun_within k byte [] small = record { first = byte; more = []; is = rw (ne_eqb k 7 (λ e. omega arith)) refl }
begun_within zero byte (bit ∷ bits) small = record { first = _; more = _; is = refl }
begun_within (suc k) byte (bit ∷ bits) small = begun_within k (byte + from_bool bit * 2 ^ suc k) bits (omega arith)

begun : (k byte : ℕ) (bit : Bool) (bits : List Bool) → k < 8 → Begun (packed_into k byte (bit ∷ bits))
unfolding packed_into
begun zero byte bit bits small = record { first = _; more = _; is = refl }
begun (suc k) byte bit bits small = begun_within k (byte + from_bool bit * 2 ^ suc k) bits (omega arith)

-- ---- one bit

bit_is : (bit : Bool) (n m : ℕ) → m ≡ 2 * n + from_bool bit → (m % 2 == 1) ≡ bit
bit_is true n m e = eq-eqb (m % 2) 1 (omega arith)
bit_is false n m e = ne_eqb (m % 2) 1 (λ q. omega arith)

top_bit-is : (bytes : List ℕ) (p : BitPlace) (left n : ℕ) (bit : Bool) → p.byte / 2 ^ left ≡ 2 * n + from_bool bit → top_bit bytes p left ≡ (bit, record p { left = left })
top_bit-is bytes p left n bit e = ap (λ (t : Bool). (t, let q : BitPlace = record p { left = left } in q)) (bit_is bit n (p.byte / 2 ^ left) e)

-- what stands above the lowest bits
above : (first n k : ℕ) → Within (n * 2 ^ suc k) k first → first / 2 ^ suc k ≡ n
above first n k w =
    let split : first ≡ n * 2 ^ suc k + (first - n * 2 ^ suc k) = omega (arith, w.low) in
    ap (λ m. m / 2 ^ suc k) split ∙ shr_high n (suc k) (first - n * 2 ^ suc k) (omega (arith, w.low, w.high))

one_more : (high k : ℕ) (bit : Bool) → high * 2 ^ suc (suc k) + from_bool bit * 2 ^ suc k ≡ (2 * high + from_bool bit) * 2 ^ suc k
one_more high k bit = rw (pow-succ' 2 (suc k)) (omega arith)

InByte-bit : (bytes : List ℕ) (k end : ℕ) (p : BitPlace) (bit : Bool) (bits : List Bool) → p.left ≡ suc k → InByte bytes k p (bit ∷ bits) end → Gives bytes (bit_read bytes) p bit bits end
unfolding packed_into bit_read
InByte-bit bytes zero end p bit bits left here =
    let full : here.high * 2 ^ 1 + from_bool bit ≡ p.byte = first_of here.whole in
    let behind : packed_into (bits_behind p.byte) 0 bits ≡ here.more =
    subst (λ n. packed_into (bits_behind n) 0 bits ≡ here.more) full (rest_of here.whole) in
    record {
      behind = record p { left = 0 };
      read = rw left (ap Ok (top_bit-is bytes p 0 here.high bit (omega arith)));
      ahead = record {
        stands = record { rest = here.stands.rest; is = here.stands.is ∙ ap (λ xs. xs ++ here.stands.rest) (sym behind) };
        stop = ap (λ xs. p.next + length xs) behind ∙ here.stop;
      };
    }
InByte-bit bytes (suc k) end p bit bits left here =
    let whole : packed_into k ((2 * here.high + from_bool bit) * 2 ^ suc k) bits ≡ p.byte ∷ here.more =
    subst (λ n. packed_into k n bits ≡ p.byte ∷ here.more) (one_more here.high k bit) here.whole in
    record {
      behind = record p { left = suc k };
      read = rw left (ap Ok (top_bit-is bytes p (suc k) here.high bit
          (above p.byte (2 * here.high + from_bool bit) k (first_within k ((2 * here.high + from_bool bit) * 2 ^ suc k) p.byte bits here.more whole))));
      ahead = record {
        high = 2 * here.high + from_bool bit;
        more = here.more;
        whole = whole;
        stands = here.stands;
        stop = here.stop;
        few = omega (arith, here.few);
        behind = here.behind;
        inside = here.inside;
      };
    }

-- ---- the byte behind

-- its top bit is 0 where the byte before it is FF
byte_read-is : (bytes : List ℕ) (p : BitPlace) (first : ℕ) (rest : List ℕ) → drop p.next bytes ≡ first ∷ rest → (p.byte ≡ 255 → first < 128)
    → byte_read bytes p ≡ Ok (record { next = suc p.next; byte = first; left = suc (bits_behind p.byte) })
unfolding byte_read
byte_read-is bytes p first rest here low =
    let inside : nat_le (length bytes) p.next ≡ false =
    lt-leb (length bytes) p.next (let left : length bytes - p.next ≡ suc (length rest) = sym (length-drop p.next bytes) ∙ ap length here in omega (arith, left)) in
    let place : p.next + 0 ≡ p.next = omega arith in
    let value : slice_index bytes p.next ≡ first =
    ap (λ n. get_or bytes n 0) (sym place) ∙ (sym (get_or-drop p.next bytes 0 0) ∙ ap (λ xs. get_or xs 0 0) here) in
    rw (value, inside) (by_test (p.byte == 255) (λ e. lt-leb 128 first (low (eqb-true p.byte 255 e))))
  where
    by_test : (t : Bool) → (t ≡ true → nat_le 128 first ≡ false)
        → (if t && nat_le 128 first then Err (BadStuffing p.next) else Ok (let q : BitPlace = record { next = suc p.next; byte = first; left = if t then 7 else 8 } in q))
        ≡ Ok (record { next = suc p.next; byte = first; left = suc (if t then 6 else 7) })
    by_test true h = rw (h refl) refl
    by_test false h = refl

bits_behind-ff : (byte : ℕ) → byte ≡ 255 → bits_behind byte ≡ 6
bits_behind-ff byte e = rw e refl

bits_behind-below : (byte : ℕ) → bits_behind byte < 8
bits_behind-below byte = cond_both (byte == 255) 6 7 (λ n. n < 8) (λ e. omega arith) (λ e. omega arith)

bit_read-behind : (bytes : List ℕ) (p : BitPlace) (k next byte : ℕ) (r : Result (Bool × BitPlace) HeadRefusal) → p.left ≡ 0 → byte_read bytes p ≡ Ok (record { next = next; byte = byte; left = suc k })
    → bit_read bytes (record { next = next; byte = byte; left = suc k }) ≡ r → bit_read bytes p ≡ r
unfolding bit_read
bit_read-behind bytes p k next byte r left read inner =
    let less : suc k - 1 ≡ k = omega arith in
    ap (λ n. bit_of bytes n p) left
    ∙ ap (λ (q : Result BitPlace HeadRefusal). on_ok q (λ q. Ok (top_bit bytes q (q.left - 1)))) read
    ∙ ap (λ n. Ok (top_bit bytes (record { next = next; byte = byte; left = suc k }) n)) less
    ∙ inner

-- reading goes on in the byte behind as it would from that byte's first bit
AtByte-bit : (bytes : List ℕ) (end : ℕ) (p : BitPlace) (bit : Bool) (bits : List Bool) → p.left ≡ 0 → AtByte bytes p (bit ∷ bits) end → Gives bytes (bit_read bytes) p bit bits end
AtByte-bit bytes end p bit bits left here =
    let k : ℕ = bits_behind p.byte in
    let b = begun k 0 bit bits (bits_behind-below p.byte) in
    let stands : drop p.next bytes ≡ b.first ∷ (b.more ++ here.stands.rest) = here.stands.is ∙ ap (λ xs. xs ++ here.stands.rest) b.is in
    let low : p.byte ≡ 255 → b.first < 128 = λ e.
    (let w = first_within k 0 b.first (bit ∷ bits) b.more b.is in let high : b.first < 0 + 2 ^ suc 6 = subst (λ n. b.first < 0 + 2 ^ suc n) (bits_behind-ff p.byte e) w.high in omega (arith, high)) in
    let next : BitPlace = record { next = suc p.next; byte = b.first; left = suc k } in
    let read : byte_read bytes p ≡ Ok next = byte_read-is bytes p b.first (b.more ++ here.stands.rest) stands low in
    let after : drop (suc p.next) bytes ≡ b.more ++ here.stands.rest =
    (let one : p.next + 1 ≡ suc p.next = omega arith in ap (λ n. drop n bytes) (sym one) ∙ (sym (drop-drop 1 p.next bytes) ∙ ap (drop 1) stands)) in
    let none : 0 * 2 ^ suc k ≡ 0 = omega arith in
    let inner = InByte-bit bytes k end next bit bits refl
    (record {
      high = 0;
      more = b.more;
      whole = subst (λ n. packed_into k n (bit ∷ bits) ≡ b.first ∷ b.more) (sym none) b.is;
      stands = record { rest = here.stands.rest; is = after };
      stop = (let size : length (packed_into k 0 (bit ∷ bits)) ≡ suc (length b.more) = ap length b.is in omega (arith, here.stop, size));
      few = bits_behind-below p.byte;
      behind = omega arith;
      inside = (let left : length bytes - p.next ≡ suc (length (b.more ++ here.stands.rest)) = sym (length-drop p.next bytes) ∙ ap length stands in omega (arith, left));
    }) in
    record { behind = inner.behind; read = bit_read-behind bytes p k (suc p.next) b.first (Ok (bit, inner.behind)) left read inner.read; ahead = inner.ahead }

pub IsAhead-bit : (bytes : List ℕ) (end : ℕ) (p : BitPlace) (bit : Bool) (bits : List Bool) → IsAhead bytes p (bit ∷ bits) end → Gives bytes (bit_read bytes) p bit bits end
IsAhead-bit bytes end p bit bits here = by_left p.left refl here
  where
    by_left : (left : ℕ) → p.left ≡ left → IsAheadBy left bytes p (bit ∷ bits) end → Gives bytes (bit_read bytes) p bit bits end
    by_left zero e h = AtByte-bit bytes end p bit bits e h
    by_left (suc k) e h = InByte-bit bytes k end p bit bits e h

-- ---- the beginning and the end

pub IsAhead-packed : (front : List ℕ) (bits : List Bool) (rest : List ℕ) → IsAhead (front ++ packed bits ++ rest) (start_at (length front)) bits (length front + length (packed bits))
IsAhead-packed front bits rest = record {
  stands = record { rest = rest; is = ap (drop (length front)) (append_assoc front (packed bits) rest) ∙ drop_at front (packed bits ++ rest) (length front) refl };
  stop = refl;
}

-- a byte that isn't full is even where it is filled up
filled_byte : (k high byte : ℕ) (more : List ℕ) → packed_into k (high * 2 ^ suc k) [] ≡ byte ∷ more → (byte ≢ 255) × (more ≡ [])
unfolding packed_into
filled_byte k high byte more e =
    cond_both (k == 7) [] ((high * 2 ^ suc k) ∷ []) (λ (xs : List ℕ). xs ≡ byte ∷ more → (byte ≢ 255) × (more ≡ [])) (λ t q. no_byte q)
    (λ t q. let same = first_of q in (λ ff. odd (high * 2 ^ k) (let twice : high * 2 ^ suc k ≡ 2 * (high * 2 ^ k) = rw (pow-succ' 2 k) (omega arith) in omega (arith, twice)), sym (rest_of q))) e
  where
    odd : (n : ℕ) → 2 * n ≡ 255 → ⊥
    odd n q = omega arith

-- behind FF stands a byte of which no bit is meant
at_ff : (bytes : List ℕ) (end : ℕ) (p : BitPlace) → p.byte ≡ 255 → AtByte bytes p [] end → header_end bytes p ≡ Ok end
unfolding packed_into
at_ff bytes end p e h =
    let nothing : packed_into (bits_behind p.byte) 0 [] ≡ 0 ∷ [] = ap (λ k. packed_into k 0 []) (bits_behind-ff p.byte e) in
    let read = byte_read-is bytes p 0 h.stands.rest (h.stands.is ∙ ap (λ xs. xs ++ h.stands.rest) nothing) (λ q. omega arith) in
    let size : length (packed_into (bits_behind p.byte) 0 []) ≡ 1 = ap length nothing in
    rw (eq-eqb p.byte 255 e, read) (ap Ok (omega (arith, h.stop, size)))

at_other : (bytes : List ℕ) (end : ℕ) (p : BitPlace) → (p.byte == 255) ≡ false → AtByte bytes p [] end → header_end bytes p ≡ Ok end
unfolding packed_into
at_other bytes end p e h =
    let nothing : packed_into (bits_behind p.byte) 0 [] ≡ [] = ap (λ t. packed_into (if t then 6 else 7) 0 []) e in
    let size : length (packed_into (bits_behind p.byte) 0 []) ≡ 0 = ap length nothing in
    rw e (ap Ok (omega (arith, h.stop, size)))

pub header_end-is : (bytes : List ℕ) (end : ℕ) (p : BitPlace) → IsAhead bytes p [] end → header_end bytes p ≡ Ok end
header_end-is bytes end p here = by_left p.left here
  where
    in_byte : (k : ℕ) → InByte bytes k p [] end → header_end bytes p ≡ Ok end
    in_byte k h =
        let f = filled_byte k h.high p.byte h.more h.whole in
        let none : length h.more ≡ 0 = ap length f.1 in
        rw (ne_eqb p.byte 255 f.0) (ap Ok (omega (arith, none, h.stop)))

    at_byte : (t : Bool) → (p.byte == 255) ≡ t → AtByte bytes p [] end → header_end bytes p ≡ Ok end
    at_byte true e h = at_ff bytes end p (eqb-true p.byte 255 e) h
    at_byte false e h = at_other bytes end p e h

    by_left : (left : ℕ) → IsAheadBy left bytes p [] end → header_end bytes p ≡ Ok end
    by_left zero h = at_byte (p.byte == 255) refl h
    by_left (suc k) h = in_byte k h

-- ---- how many bits there can be

length-packed_into : (k byte : ℕ) (bits : List Bool) → length bits + 7 ≤ k + 8 * length (packed_into k byte bits)
unfolding packed_into
length-packed_into k byte [] =
    cond_both (k == 7) [] (byte ∷ []) (λ (xs : List ℕ). 0 + 7 ≤ k + 8 * length xs) (λ e. omega (arith, eqb-true k 7 e)) (λ e. omega arith)
length-packed_into zero byte (bit ∷ bits) =
    let full : ℕ = byte + from_bool bit in
    omega (arith, length-packed_into (bits_behind full) 0 bits, bits_behind-below full)
length-packed_into (suc k) byte (bit ∷ bits) = omega (arith, length-packed_into k (byte + from_bool bit * 2 ^ suc k) bits)

stands_within : (bytes : List ℕ) (at : ℕ) (piece : List ℕ) → StandsAt bytes at piece → length piece ≤ length bytes - at
stands_within bytes at piece here =
    let left : length bytes - at ≡ length piece + length here.rest = sym (length-drop at bytes) ∙ ap length here.is ∙ length-append piece here.rest in
    omega (arith, left)

pub length-ahead : (bytes : List ℕ) (end : ℕ) (p : BitPlace) (bits : List Bool) → IsAhead bytes p bits end → length bits ≤ 8 * length bytes
length-ahead bytes end p bits here = by_left p.left here
  where
    by_left : (left : ℕ) → IsAheadBy left bytes p bits end → length bits ≤ 8 * length bytes
    by_left zero h =
        omega (arith, length-packed_into (bits_behind p.byte) 0 bits, bits_behind-below p.byte, stands_within bytes p.next (packed_into (bits_behind p.byte) 0 bits) h.stands)
    by_left (suc k) h =
        let size : length (packed_into k (h.high * 2 ^ suc k) bits) ≡ suc (length h.more) = ap length h.whole in
        omega (arith, length-packed_into k (h.high * 2 ^ suc k) bits, size, h.few, h.behind, h.inside, stands_within bytes p.next h.more h.stands)
