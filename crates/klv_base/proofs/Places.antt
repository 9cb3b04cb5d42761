-- What is read at a place, by what stands there.
use Rattle.std.proofs.Common.{◌≡◌, ◌≢◌, ℕ, ◌+◌, ◌-◌, ◌*◌, ◌<◌, ◌≤◌, refl, sym, ap, ◌∙◌, arith, List, length, take, drop, get_or, Ok, Err}
use Rattle.std.proofs.lemmas.Bool.{lt-ltb, le-ltb, eq-eqb, ne_eqb}
use Rattle.std.proofs.lemmas.List.{get_or-take, get_or-drop, take_rest, drop-drop}
use Rattle.klv_base.specs.declared.reader.KlvRefusal.TheVariants.{Truncated, LengthForm}
use Rattle.klv_base.specs.Reading.{read_at, three_byte_number}

pub three_byte_number-taken : (bytes : List ℕ) → three_byte_number (take 3 bytes) ≡ get_or bytes 0 0 * 65536 + get_or bytes 1 0 * 256 + get_or bytes 2 0
three_byte_number-taken bytes =
    let high = get_or-take 3 bytes 0 0 (omega arith) in
    let middle = get_or-take 3 bytes 1 0 (omega arith) in
    let low = get_or-take 3 bytes 2 0 (omega arith) in
    omega (arith, high, middle, low)

module _ (bytes : List ℕ) (at : ℕ) where
  pub read_at-short : length bytes < at + 17 → read_at bytes at ≡ Err (Truncated (length bytes))
  unfolding read_at
  read_at-short short = rw (lt-ltb (length bytes) (at + 17) short) refl

  pub read_at-other_form : at + 17 ≤ length bytes → get_or bytes (at + 16) 0 ≢ 0x83 → read_at bytes at ≡ Err (LengthForm (at + 16))
  unfolding read_at
  read_at-other_form there other = rw (le-ltb (length bytes) (at + 17) there, ne_eqb (get_or bytes (at + 16) 0) 0x83 other) refl

  pub read_at-cut : at + 17 ≤ length bytes → get_or bytes (at + 16) 0 ≡ 0x83 → length bytes < at + 20 → read_at bytes at ≡ Err (Truncated (length bytes))
  unfolding read_at
  read_at-cut there form short =
      rw (le-ltb (length bytes) (at + 17) there, eq-eqb (get_or bytes (at + 16) 0) 0x83 form, lt-ltb (length bytes) (at + 20) short) refl

  pub read_at-whole : at + 20 ≤ length bytes → get_or bytes (at + 16) 0 ≡ 0x83
      → read_at bytes at ≡ Ok (take 16 (drop at bytes), three_byte_number (take 3 (drop (at + 17) bytes)), at + 20)
  unfolding read_at
  read_at-whole there form =
      let first : at + 17 ≤ length bytes = omega arith in
      let key : at + 16 - at ≡ 16 = omega arith in
      let three : at + 20 - (at + 17) ≡ 3 = omega arith in
      rw (le-ltb (length bytes) (at + 17) first, eq-eqb (get_or bytes (at + 16) 0) 0x83 form, le-ltb (length bytes) (at + 20) there, key, three) refl

-- the bytes behind the 16 of a key that stands at a place
pub record IsSplit (bytes : List ℕ) (at : ℕ) (key behind : List ℕ) : Type 0 where
  pub key_is : key ≡ take 16 (drop at bytes)
  pub behind_is : behind ≡ drop (at + 16) bytes
  pub ends : length behind + (at + 16) ≡ length bytes

pub is_split : (bytes rest key behind : List ℕ) (at : ℕ) → rest ≡ take (length bytes - at) (drop at bytes) → length rest + at ≡ length bytes
    → key ≡ take 16 rest → behind ≡ drop 16 rest → length behind + 16 ≡ length rest → IsSplit bytes at key behind
is_split bytes rest key behind at rest_is ends key_is behind_is behind_ends =
    let same : rest ≡ drop at bytes = rest_is ∙ take_rest bytes at in
    record {
      key_is = key_is ∙ ap (take 16) same;
      behind_is = behind_is ∙ ap (drop 16) same ∙ drop-drop 16 at bytes;
      ends = omega arith;
    }

module _ (bytes : List ℕ) (at : ℕ) (key behind : List ℕ) (split : IsSplit bytes at key behind) where
  byte_behind : (i j : ℕ) → at + 16 + i ≡ j → get_or behind i 0 ≡ get_or bytes j 0
  byte_behind i j e = ap (λ b. get_or b i 0) split.behind_is ∙ get_or-drop (at + 16) bytes i 0 ∙ ap (λ k. get_or bytes k 0) e

  pub read_at-no_form : length behind < 1 → read_at bytes at ≡ Err (Truncated (length bytes))
  read_at-no_form none = read_at-short bytes at (omega (arith, split.ends))

  pub read_at-form_refused : 1 ≤ length behind → get_or behind 0 0 ≢ 0x83 → read_at bytes at ≡ Err (LengthForm (at + 16))
  read_at-form_refused some other =
      read_at-other_form bytes at (omega (arith, split.ends)) (λ e. other (byte_behind 0 (at + 16) (omega arith) ∙ e))

  pub read_at-length_cut : 1 ≤ length behind → get_or behind 0 0 ≡ 0x83 → length behind < 4 → read_at bytes at ≡ Err (Truncated (length bytes))
  read_at-length_cut some form short =
      read_at-cut bytes at (omega (arith, split.ends)) (sym (byte_behind 0 (at + 16) (omega arith)) ∙ form) (omega (arith, split.ends))

  pub read_at-there : (n : ℕ) → 4 ≤ length behind → get_or behind 0 0 ≡ 0x83
      → n ≡ get_or behind 1 0 * 65536 + get_or behind 2 0 * 256 + get_or behind 3 0 → read_at bytes at ≡ Ok (key, n, at + 20)
  read_at-there n four form is =
      let high = byte_behind 1 (at + 17 + 0) (omega arith) ∙ sym (get_or-drop (at + 17) bytes 0 0) in
      let middle = byte_behind 2 (at + 17 + 1) (omega arith) ∙ sym (get_or-drop (at + 17) bytes 1 0) in
      let low = byte_behind 3 (at + 17 + 2) (omega arith) ∙ sym (get_or-drop (at + 17) bytes 2 0) in
      let number : three_byte_number (take 3 (drop (at + 17) bytes)) ≡ n =
      three_byte_number-taken (drop (at + 17) bytes) ∙ omega (arith, is, high, middle, low) in
      read_at-whole bytes at (omega (arith, split.ends)) (sym (byte_behind 0 (at + 16) (omega arith)) ∙ form)
      ∙ rw (number, sym split.key_is) refl
