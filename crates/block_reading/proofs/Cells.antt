-- What the steps of a sample keep true of the room.
use Rattle.std.proofs.Common.{◌≡◌, ℕ, zero, suc, ◌+◌, ◌*◌, ◌/◌, ◌%◌, ◌^◌, ◌<◌, ◌≤◌, refl, sym, ap, ◌∙◌, arith, inl, inr, Bool, true, false, List, length, fold, get_or, set, replicate}
use Rattle.std.specs.Prelude.{◌&&◌, if◌then◌else◌}
use Rattle.std.specs.Int.{from_bool}
use Rattle.std.specs.Int.RustNames.{bit_or}
use Rattle.std.proofs.lemmas.Bool.{cases_eq, cases_lt, lt-ltb, le-ltb}
use Rattle.std.proofs.lemmas.Nat.Bits.{bit_at-zero}
use Rattle.std.proofs.lemmas.List.{length-replicate, length-set, get_or-set_same, get_or-set_other}
use Rattle.std.proofs.lemmas.Nat.{div-mul-add, mod-mul-add, mul-add-lt}
use Rattle.codec_terms.specs.Contexts.{is_in, with_sample, scan, sign_context_at, flipped_if}
use Rattle.codec_terms.specs.Mq.{Decoder, decoded_bit, decoder_after}
use Rattle.codec_terms.specs.BlockReading.{Area, Known, nothing_known, known_significant, known_zero_context, next_bit, behind_bit, with_magnitude, sign_read, zero_bit_read, marked_visited, cleanup_column, cleanup_read}
use Rattle.block_words.specs.Words.{place_of, IsWord, marked, marks}
use Rattle.block_words.proofs.Blank.{none-in, blank-word}
use Rattle.block_words.proofs.Marks.{marked-negative, marked-positive}
use Rattle.block_sets.specs.Places.{column_at, row_at}
use Rattle.block_passes.specs.Scan.{has_sample}
use Rattle.block_passes.specs.Told.{HasBits}
use Rattle.block_passes.proofs.Bits.{sample-column, sample-row, bits-more}
use Rattle.block_reading.specs.declared.room.ReadRoom.{ReadRoom}
use Rattle.block_reading.specs.Scan.{block_at}
use Rattle.block_reading.specs.Known.{HasCells, HasRoom, HasKnown, with_sign}

-- ---- one value of a list in raster order

pub raster-other : (width x y x' y' : ℕ) → x < width → x' < width → (x' ≡ x → y' ≡ y → ⊥) → y' * width + x' ≡ y * width + x → ⊥
raster-other width x y x' y' wide wide' other e =
    let column : x' ≡ x = sym (mod-mul-add y' width x' wide') ∙ (ap (λ (n : ℕ). n % width) e ∙ mod-mul-add y width x wide) in
    let row : y' ≡ y = sym (div-mul-add y' width x' wide') ∙ (ap (λ (n : ℕ). n / width) e ∙ div-mul-add y width x wide) in
    other column row

module _ (width x y : ℕ) (wide : x < width) (list : List Bool) (v : Bool) where
  is_in-here : y * width + x < length list → is_in width (set list (y * width + x) v) (suc x) (suc y) ≡ v
  unfolding is_in
  is_in-here inside = rw (lt-ltb x width wide) (get_or-set_same list (y * width + x) v false inside)

  is_in-there : (X Y : ℕ) → (X ≡ suc x → Y ≡ suc y → ⊥) → is_in width (set list (y * width + x) v) X Y ≡ is_in width list X Y
  unfolding is_in
  is_in-there zero Y other = refl
  is_in-there (suc X) zero other = refl
  is_in-there (suc X) (suc Y) other = elim (cases_lt X width) [
    | inl in_row ↦ rw (lt-ltb X width in_row) (get_or-set_other list (y * width + x) (Y * width + X) v false (raster-other width x y X Y wide in_row (λ e f. other (ap suc e) (ap suc f))))
    | inr past ↦ rw (le-ltb X width past) refl
  ]

  -- the sign of what isn't significant tells nothing
  sign-same : (significant : List Bool) → is_in width significant (suc x) (suc y) ≡ false → (X Y : ℕ)
      → (is_in width significant X Y && is_in width list X Y) ≡ (is_in width significant X Y && is_in width (set list (y * width + x) v) X Y)
  sign-same significant none X Y = elim (cases_eq X (suc x)) [
    | inl e ↦ elim (cases_eq Y (suc y)) [
      | inl f ↦ rw (e, f, none) refl
      | inr ne ↦ rw (is_in-there X Y (λ e f. ne f)) refl
    ]
    | inr ne ↦ rw (is_in-there X Y (λ e f. ne e)) refl
  ]

  word-signed : (significant : List Bool) → is_in width significant (suc x) (suc y) ≡ false → (x' y' word : ℕ)
      → IsWord width significant list x' y' word → IsWord width significant (set list (y * width + x) v) x' y' word
  word-signed significant none x' y' word h = record {
    left = h.left;
    right = h.right;
    above = h.above;
    below = h.below;
    above_left = h.above_left;
    above_right = h.above_right;
    below_left = h.below_left;
    below_right = h.below_right;
    left_sign = h.left_sign ∙ ap from_bool (sign-same significant none x' (suc y'));
    right_sign = h.right_sign ∙ ap from_bool (sign-same significant none (suc (suc x')) (suc y'));
    above_sign = h.above_sign ∙ ap from_bool (sign-same significant none (suc x') y');
    below_sign = h.below_sign ∙ ap from_bool (sign-same significant none (suc x') (suc (suc y')));
    itself = h.itself;
  }

  words-signed : (significant : List Bool) (height : ℕ) (words : List ℕ) → width ≤ 32 → height ≤ 32 → y < height
      → length words ≡ 1156 → length significant ≡ width * height → length list ≡ width * height
      → is_in width significant (suc x) (suc y) ≡ false
      → ((x' y' : ℕ) → x' < width → y' < height → IsWord width significant list x' y' (get_or words (place_of x' y') 0))
      → (x' y' : ℕ) → x' < width → y' < height
      → IsWord width (with_sample width significant x y) (set list (y * width + x) v) x' y'
      (get_or (fold marked words (marks (place_of x y) (3840 * from_bool v))) (place_of x' y') 0)
  words-signed significant height words narrow low high size all_significant all none h x' y' wide' high' =
      by_sign v (is_in-here (rw all (mul-add-lt y width x height high wide)))
    where
      inside : y * width + x < length significant
      inside = rw all_significant (mul-add-lt y width x height high wide)

      before : IsWord width significant (set list (y * width + x) v) x' y' (get_or words (place_of x' y') 0)
      before = word-signed significant none x' y' (get_or words (place_of x' y') 0) (h x' y' wide' high')

      by_sign : (t : Bool) → is_in width (set list (y * width + x) v) (suc x) (suc y) ≡ t
          → IsWord width (with_sample width significant x y) (set list (y * width + x) v) x' y' (get_or (fold marked words (marks (place_of x y) (3840 * from_bool t))) (place_of x' y') 0)
      by_sign true e =
          marked-negative width x y wide narrow (omega arith) significant (set list (y * width + x) v) inside words size x' y' wide' (omega arith) before e
      by_sign false e =
          marked-positive width x y wide narrow (omega arith) significant (set list (y * width + x) v) inside words size x' y' wide' (omega arith) before e

-- ---- one sample

module _ (a : Area) (w i : ℕ) (inside : w < 16) (small : i < 64) (some : has_sample (block_at a) w i ≡ true) where
  pub cells-set : {A : Type 0} (d : A) (known cells : List A) (v : A) → length cells ≡ 1024 → length known ≡ a.width * a.height
      → HasCells a d known cells
      → HasCells a d (set known (row_at w i * a.width + column_at w i) v) (set cells (w * 64 + i) v)
  cells-set d known cells v size all h w' i' p q some' = elim (cases_eq (w' * 64 + i') (w * 64 + i)) [
    | inl e ↦ (
        let word : w' ≡ w = omega arith in
        let bit : i' ≡ i = omega arith in
        rw (word, bit, get_or-set_same cells (w * 64 + i) v d (omega arith), get_or-set_same known (row_at w i * a.width + column_at w i) v d (rw all (mul-add-lt (row_at w i) a.width (column_at w i) a.height (sample-row (block_at a) w i some) (sample-column (block_at a) w i some)))) refl)
    | inr ne ↦
        rw (
          get_or-set_other cells (w * 64 + i) (w' * 64 + i') v d ne,
          get_or-set_other known (row_at w i * a.width + column_at w i) (row_at w' i' * a.width + column_at w' i') v d
              (raster-other a.width (column_at w i) (row_at w i) (column_at w' i') (row_at w' i') (sample-column (block_at a) w i some) (sample-column (block_at a) w' i' some') (λ e f. ne (omega arith))),
        )
        (h w' i' p q some')
  ]

  pub room-with_sign : (p : ℕ) (s t : ReadRoom) (k : Known) (negative : Bool) (magnitude : ℕ) → a.width ≤ 32 → a.height ≤ 32
      → length s.words ≡ 1156 → length s.significant ≡ 16 → length s.magnitudes ≡ 1024 → length s.negative ≡ 1024
      → magnitude ≡ 2 ^ p
      → t.words ≡ fold marked s.words (marks (place_of (column_at w i) (row_at w i)) (3840 * from_bool negative))
      → t.significant ≡ set s.significant w (bit_or (get_or s.significant w 0) (1 * 2 ^ i % 18446744073709551616))
      → t.visited ≡ s.visited
      → t.magnitudes ≡ set s.magnitudes (w * 64 + i) magnitude
      → t.negative ≡ set s.negative (w * 64 + i) negative
      → known_significant a k (column_at w i) (row_at w i) ≡ false
      → HasRoom a s k → HasRoom a t (with_sign a p (column_at w i) (row_at w i) negative k)
  unfolding with_sign with_magnitude
  room-with_sign p s t k negative magnitude narrow low size all cells signs power e f g m n none h = record {
    magnitudes_size = length-set k.magnitudes (row_at w i * a.width + column_at w i) (2 ^ p) ∙ h.magnitudes_size;
    negative_size = length-set k.negative (row_at w i * a.width + column_at w i) negative ∙ h.negative_size;
    significant_size = length-set k.significant (row_at w i * a.width + column_at w i) true ∙ h.significant_size;
    visited_size = h.visited_size;
    words = λ x y wide high.
        rw e (words-signed a.width (column_at w i) (row_at w i) (sample-column (block_at a) w i some) k.negative negative k.significant a.height s.words narrow low (sample-row (block_at a) w i some) size h.significant_size h.negative_size none h.words x y wide high);
    significant = λ w' i' p q. rw f (bits-more (block_at a) w i some k.significant s.significant inside small all h.significant_size h.significant w' i' p q);
    visited = λ w' i' p q. rw g (h.visited w' i' p q);
    magnitudes = λ w' i' q r some'. rw (m, power) (cells-set 0 k.magnitudes s.magnitudes (2 ^ p) cells h.magnitudes_size h.magnitudes w' i' q r some');
    negative = λ w' i' q r some'. rw n (cells-set false k.negative s.negative negative signs h.negative_size h.negative w' i' q r some');
  }

  pub room-visited : (s t : ReadRoom) (k : Known) → length s.visited ≡ 16
      → t.words ≡ s.words → t.significant ≡ s.significant
      → t.visited ≡ set s.visited w (bit_or (get_or s.visited w 0) (1 * 2 ^ i % 18446744073709551616))
      → t.magnitudes ≡ s.magnitudes → t.negative ≡ s.negative
      → HasRoom a s k → HasRoom a t (marked_visited a (column_at w i) (row_at w i) k)
  unfolding marked_visited
  room-visited s t k size e f g m n h = record {
    magnitudes_size = h.magnitudes_size;
    negative_size = h.negative_size;
    significant_size = h.significant_size;
    visited_size = length-set k.visited (row_at w i * a.width + column_at w i) true ∙ h.visited_size;
    words = λ x y wide high. rw e (h.words x y wide high);
    significant = λ w' i' p q. rw f (h.significant w' i' p q);
    visited = λ w' i' p q. rw g (bits-more (block_at a) w i some k.visited s.visited inside small size h.visited_size h.visited w' i' p q);
    magnitudes = λ w' i' q r some'. rw m (h.magnitudes w' i' q r some');
    negative = λ w' i' q r some'. rw n (h.negative w' i' q r some');
  }

  pub room-with_magnitude : (s t : ReadRoom) (k : Known) (magnitude : ℕ) → length s.magnitudes ≡ 1024
      → t.words ≡ s.words → t.significant ≡ s.significant → t.visited ≡ s.visited
      → t.magnitudes ≡ set s.magnitudes (w * 64 + i) magnitude → t.negative ≡ s.negative
      → HasRoom a s k → HasRoom a t (with_magnitude a (column_at w i) (row_at w i) magnitude k)
  unfolding with_magnitude
  room-with_magnitude s t k magnitude size e f g m n h = record {
    magnitudes_size = length-set k.magnitudes (row_at w i * a.width + column_at w i) magnitude ∙ h.magnitudes_size;
    negative_size = h.negative_size;
    significant_size = h.significant_size;
    visited_size = h.visited_size;
    words = λ x y wide high. rw e (h.words x y wide high);
    significant = λ w' i' p q. rw f (h.significant w' i' p q);
    visited = λ w' i' p q. rw g (h.visited w' i' p q);
    magnitudes = λ w' i' q r some'. rw m (cells-set 0 k.magnitudes s.magnitudes magnitude size h.magnitudes_size h.magnitudes w' i' q r some');
    negative = λ w' i' q r some'. rw n (h.negative w' i' q r some');
  }

-- ---- a bit is read

pub room-behind : (a : Area) (s : ReadRoom) (k : Known) (context : ℕ) → HasRoom a s k → HasRoom a s (behind_bit context k)
unfolding behind_bit
room-behind a s k context h = record {
  magnitudes_size = h.magnitudes_size;
  negative_size = h.negative_size;
  significant_size = h.significant_size;
  visited_size = h.visited_size;
  words = h.words;
  significant = h.significant;
  visited = h.visited;
  magnitudes = h.magnitudes;
  negative = h.negative;
}

pub known-behind : (a : Area) (d e : Decoder) (s : ReadRoom) (k : Known) (context : ℕ) → e ≡ decoder_after d context
    → HasKnown a d s k → HasKnown a e s (behind_bit context k)
unfolding behind_bit
known-behind a d e s k context after h = record { decoder = rw h.decoder (sym after); room = room-behind a s k context h.room }

pub bit-known : (a : Area) (d : Decoder) (s : ReadRoom) (k : Known) (context : ℕ) (bit : Bool) → bit ≡ decoded_bit d context
    → HasKnown a d s k → bit ≡ next_bit context k
unfolding next_bit
bit-known a d s k context bit e h = rw h.decoder e

-- ---- the sign

pub sign_read-is : (a : Area) (p x y : ℕ) (k : Known) (context : ℕ) (flips bit negative : Bool)
    → context ≡ (sign_context_at a.width k.significant k.negative x y).context
    → flips ≡ (sign_context_at a.width k.significant k.negative x y).flips
    → bit ≡ next_bit context k → negative ≡ flipped_if flips bit
    → sign_read a p x y k ≡ with_sign a p x y negative (behind_bit context k)
unfolding sign_read with_sign with_magnitude behind_bit
sign_read-is a p x y k context flips bit negative e f g n = rw (n, g, e, f) refl

pub zero_bit-is : (a : Area) (p x y : ℕ) (k : Known) (context : ℕ) (bit : Bool) → context ≡ known_zero_context a k x y → bit ≡ next_bit context k
    → zero_bit_read a p x y k ≡ (if bit then sign_read a p x y (behind_bit context k) else behind_bit context k)
unfolding zero_bit_read
zero_bit-is a p x y k context bit e g = rw (g, e) refl

pub behind-significant : (a : Area) (k : Known) (context x y : ℕ) → known_significant a (behind_bit context k) x y ≡ known_significant a k x y
unfolding behind_bit
behind-significant a k context x y = refl

pub decoder-with_sign : (a : Area) (p x y : ℕ) (negative : Bool) (k : Known) → (with_sign a p x y negative k).decoder ≡ k.decoder
unfolding with_sign with_magnitude
decoder-with_sign a p x y negative k = refl

pub decoder-visited : (a : Area) (x y : ℕ) (k : Known) → (marked_visited a x y k).decoder ≡ k.decoder
unfolding marked_visited
decoder-visited a x y k = refl

pub decoder-with_magnitude : (a : Area) (x y m : ℕ) (k : Known) → (with_magnitude a x y m k).decoder ≡ k.decoder
unfolding with_magnitude
decoder-with_magnitude a x y m k = refl

-- ---- nothing is known

pub replicate-at : {A : Type 0} (d : A) (m n : ℕ) → get_or (replicate m d) n d ≡ d
replicate-at d zero n = refl
replicate-at d (suc m) zero = refl
replicate-at d (suc m) (suc n) = replicate-at d m n

no-bits : (a : Area) (n : ℕ) → HasBits (block_at a) (replicate n false) (replicate 16 0)
no-bits a n w i p q = rw (replicate-at {A = ℕ} 0 16 w, none-in a.width n (suc (column_at w i)) (suc (row_at w i))) (bit_at-zero i)

pub room-blank : (a : Area) (codeword : List ℕ) (t : ReadRoom) → t.words ≡ replicate 1156 0 → t.significant ≡ replicate 16 0 → t.visited ≡ replicate 16 0
    → t.magnitudes ≡ replicate 1024 0 → t.negative ≡ replicate 1024 false → HasRoom a t (nothing_known a codeword)
room-blank a codeword t e f g m n = record {
  magnitudes_size = length-replicate (a.width * a.height) 0;
  negative_size = length-replicate (a.width * a.height) false;
  significant_size = length-replicate (a.width * a.height) false;
  visited_size = length-replicate (a.width * a.height) false;
  words = λ x y wide high. rw (e, replicate-at {A = ℕ} 0 1156 (place_of x y)) (blank-word a.width (a.width * a.height) x y (replicate (a.width * a.height) false));
  significant = λ w i p q. rw f (no-bits a (a.width * a.height) w i p q);
  visited = λ w i p q. rw g (no-bits a (a.width * a.height) w i p q);
  magnitudes = λ w i p q some. rw (m, replicate-at {A = ℕ} 0 1024 (w * 64 + i), replicate-at {A = ℕ} 0 (a.width * a.height) (row_at w i * a.width + column_at w i)) refl;
  negative = λ w i p q some. rw (n, replicate-at {A = Bool} false 1024 (w * 64 + i), replicate-at {A = Bool} false (a.width * a.height) (row_at w i * a.width + column_at w i)) refl;
}

-- a plane is done
pub known-cleaned : (a : Area) (p : ℕ) (d : Decoder) (s t : ReadRoom) (k : Known)
    → t.words ≡ s.words → t.significant ≡ s.significant → t.visited ≡ replicate 16 0 → t.magnitudes ≡ s.magnitudes → t.negative ≡ s.negative
    → HasKnown a d s (fold (cleanup_column a p) k (scan a.width a.height)) → HasKnown a d t (cleanup_read a p k)
unfolding cleanup_read
known-cleaned a p d s t k e f g m n h = record {
  decoder = h.decoder;
  room = record {
    magnitudes_size = h.room.magnitudes_size;
    negative_size = h.room.negative_size;
    significant_size = h.room.significant_size;
    visited_size = length-replicate (a.width * a.height) false;
    words = λ x y wide high. rw e (h.room.words x y wide high);
    significant = λ w i p q. rw f (h.room.significant w i p q);
    visited = λ w i p q. rw g (no-bits a (a.width * a.height) w i p q);
    magnitudes = λ w i p q some. rw m (h.room.magnitudes w i p q some);
    negative = λ w i p q some. rw n (h.room.negative w i p q some);
  };
}
