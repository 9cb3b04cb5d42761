-- What is written is read back, wherever it stands.
use Rattle.std.proofs.Common.{◌≡◌, ℕ, ◌+◌, ◌^◌, ◌<◌, refl, sym, ap, ◌∙◌, arith, List, [], ◌∷◌, ◌++◌, append_assoc, length, take, drop, Ok}
use Rattle.std.specs.Int.{bytes_high_first}
use Rattle.std.proofs.lemmas.List.{length-append, take_at, drop_at, drop-drop}
use borrow.Rule.Slice.PartMut.{put_mid}
use Rattle.klv_base.specs.declared.local_set.SetItem.{SetItem}
use Rattle.klv_base.specs.Items.{key_length, item, local_set, set_value}
use Rattle.klv_base.specs.Reading.{read_at}
use Rattle.klv_base.proofs.Places.{IsSplit, read_at-there}

-- a key that stands behind other bytes
is_split-append : (before key behind : List ℕ) → length key ≡ 16 → IsSplit (before ++ (key ++ behind)) (length before) key behind
is_split-append before key behind sixteen =
    let here : drop (length before) (before ++ (key ++ behind)) ≡ key ++ behind = drop_at before (key ++ behind) (length before) refl in
    record {
      key_is = sym (ap (take 16) here ∙ take_at key behind 16 sixteen);
      behind_is = sym (sym (drop-drop 16 (length before) (before ++ (key ++ behind))) ∙ ap (drop 16) here ∙ drop_at key behind 16 sixteen);
      ends = omega (arith, length-append before (key ++ behind), length-append key behind);
    }

-- a key, and behind it the length over what stood there
pub head_written :
    (key front behind : List ℕ) (n : ℕ) → length key ≡ 16 → front ≡ key → behind ≡ 0x83 ∷ bytes_high_first 3 n →
    put_mid 16 4 (front ++ 0 ∷ 0 ∷ 0 ∷ 0 ∷ []) behind ≡ key_length key n
unfolding key_length
head_written key front behind n sixteen front_is behind_is =
    let zeros : List ℕ = 0 ∷ 0 ∷ 0 ∷ 0 ∷ [] in
    rw (front_is, behind_is, take_at key zeros 16 sixteen, drop_at key zeros 16 sixteen) refl

pub read_at-key_length :
    (key before rest : List ℕ) (n : ℕ) → length key ≡ 16 → n < 2 ^ 24 →
    read_at (before ++ key_length key n ++ rest) (length before) ≡ Ok (key, n, length before + 20)
unfolding key_length
read_at-key_length key before rest n sixteen small =
    let behind : List ℕ = 0x83 ∷ bytes_high_first 3 n ++ rest in
    rw (append_assoc before (key_length key n) rest, append_assoc key (0x83 ∷ bytes_high_first 3 n) rest)
    (read_at-there (before ++ (key ++ behind)) (length before) key behind (is_split-append before key behind sixteen) n (omega arith) refl (omega arith))

pub read_at-item :
    (key value before rest : List ℕ) → length key ≡ 16 → length value < 2 ^ 24 →
    read_at (before ++ item key value ++ rest) (length before) ≡ Ok (key, length value, length before + 20)
read_at-item key value before rest sixteen small =
    let moved : before ++ item key value ++ rest ≡ before ++ key_length key (length value) ++ (value ++ rest) =
    simp append_assoc in
    rw moved (read_at-key_length key before (value ++ rest) (length value) sixteen small)

pub read_at-local_set :
    (key before rest : List ℕ) (items : List SetItem) → length key ≡ 16 → length (set_value items) < 2 ^ 24 →
    read_at (before ++ local_set key items ++ rest) (length before) ≡ Ok (key, length (set_value items), length before + 20)
read_at-local_set key before rest items sixteen small = read_at-item key (set_value items) before rest sixteen small
