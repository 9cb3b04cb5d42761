-- The planes of a picture's components, row by row.
use Rattle.std.proofs.Common.{◌≡◌, ℕ, ◌+◌, ◌*◌, ◌<◌, ◌≤◌, refl, sym, ap, ap₂, subst, ◌∙◌, arith, List, [], ◌∷◌, ◌++◌, length, take, drop, ℤ}
use Rattle.std.proofs.Math.Seq.{take-add}
use Rattle.std.proofs.lemmas.List.{length-take-le, take_all}
use Rattle.std.proofs.lemmas.Slice.{take-put_mid}
use borrow.Rule.Slice.PartMut.{put_mid, mid_of}
use Rattle.codec_terms.specs.Colour.{x_weights, y_weights, z_weights, xyz_plane}
use Rattle.codec_terms.specs.Wavelet.{shifted, luma, chroma_blue, chroma_red, component}
use Rattle.codec_terms.specs.Encode.{component_planes, picture_planes}
use Rattle.picture_planes.proofs.Codes.{length-xyz_plane, xyz_plane-append}

pub planes_of-codes :
    (power : ℕ) (raw x y z : List ℕ) (planes : List (List ℤ)) → planes ≡ component_planes x y z →
    x ≡ xyz_plane power x_weights raw → y ≡ xyz_plane power y_weights raw → z ≡ xyz_plane power z_weights raw → planes ≡ picture_planes power raw
planes_of-codes power raw x y z planes e f g h = rw (← f, ← g, ← h) e

component-append :
    (f : ℤ → ℤ → ℤ → ℤ) (x y z xs ys zs : List ℕ) → length y ≡ length x → length z ≡ length x →
    component f (x ++ xs) (y ++ ys) (z ++ zs) ≡ component f x y z ++ component f xs ys zs
unfolding component
component-append f [] [] [] xs ys zs e g = refl
component-append f [] [] (c ∷ z) xs ys zs e g = absurd (omega arith)
component-append f [] (b ∷ y) z xs ys zs e g = absurd (omega arith)
component-append f (a ∷ x) [] z xs ys zs e g = absurd (omega arith)
component-append f (a ∷ x) (b ∷ y) [] xs ys zs e g = absurd (omega arith)
component-append f (a ∷ x) (b ∷ y) (c ∷ z) xs ys zs e g =
    ap (λ plane. f (shifted a) (shifted b) (shifted c) ∷ plane) (component-append f x y z xs ys zs (omega arith) (omega arith))

-- a component of a picture of raw bytes; a row of them is a picture too
unfoldable pub plane_of : (ℤ → ℤ → ℤ → ℤ) → ℕ → List ℕ → List ℤ
plane_of f power raw = component f (xyz_plane power x_weights raw) (xyz_plane power y_weights raw) (xyz_plane power z_weights raw)

plane_of-append :
    (f : ℤ → ℤ → ℤ → ℤ) (power n : ℕ) (raw more : List ℕ) → length raw ≡ 6 * n →
    plane_of f power (raw ++ more) ≡ plane_of f power raw ++ plane_of f power more
unfolding plane_of
plane_of-append f power n raw more whole =
    rw (xyz_plane-append power x_weights n raw more whole, xyz_plane-append power y_weights n raw more whole, xyz_plane-append power z_weights n raw more whole)
    (component-append f _ _ _ _ _ _
    (length-xyz_plane power y_weights n raw whole ∙ sym (length-xyz_plane power x_weights n raw whole))
    (length-xyz_plane power z_weights n raw whole ∙ sym (length-xyz_plane power x_weights n raw whole)))

plane_of-none : (f : ℤ → ℤ → ℤ → ℤ) (power : ℕ) → plane_of f power [] ≡ []
unfolding plane_of xyz_plane component
plane_of-none f power = refl

-- the first n samples of a plane are made
pub record IsMade (f : ℤ → ℤ → ℤ → ℤ) (power : ℕ) (raw : List ℕ) (n : ℕ) (plane : List ℤ) : Type 0 where
  pub front : take n plane ≡ plane_of f power (take (6 * n) raw)

pub IsMade-none : (f : ℤ → ℤ → ℤ → ℤ) (power : ℕ) (raw : List ℕ) (n : ℕ) (plane : List ℤ) → n ≡ 0 → IsMade f power raw n plane
IsMade-none f power raw n plane e =
    subst (λ (m : ℕ). IsMade f power raw m plane) (sym e) (record { front = sym (plane_of-none f power) })

take_both : {A : Type 0} (n m both : ℕ) (xs : List A) → both ≡ n + m → take both xs ≡ take n xs ++ take m (drop n xs)
take_both n m both xs e = ap (λ (i : ℕ). take i xs) e ∙ take-add n m xs

-- a row of samples behind n that are made
pub IsMade-row :
    (f : ℤ → ℤ → ℤ → ℤ) (power : ℕ) (raw : List ℕ) (n k many next : ℕ) (plane row : List ℤ) →
    next ≡ n + length row → 6 * next ≡ 6 * n + many → n ≤ length plane → 6 * n ≤ length raw →
    row ≡ plane_of f power (mid_of (6 * n) many raw) → IsMade f power raw n plane → IsMade f power raw next (put_mid n k plane row)
IsMade-row f power raw n k many next plane row e g inside enough is so =
    record {
      front =
          take-put_mid n k plane row next e inside ∙ ap₂ (λ (a b : List ℤ). a ++ b) so.front is
          ∙ sym (plane_of-append f power n (take (6 * n) raw) (take many (drop (6 * n) raw)) (length-take-le (6 * n) raw enough))
          ∙ ap (plane_of f power) (sym (take_both (6 * n) many (6 * next) raw g));
    }

-- all samples of a plane are made
pub IsMade-all :
    (f : ℤ → ℤ → ℤ → ℤ) (power : ℕ) (raw : List ℕ) (n : ℕ) (plane : List ℤ) → length plane ≤ n → length raw ≤ 6 * n → IsMade f power raw n plane → plane ≡ plane_of f power raw
IsMade-all f power raw n plane size whole so = sym (take_all n plane size) ∙ so.front ∙ ap (plane_of f power) (take_all (6 * n) raw whole)

pub planes-all :
    (power : ℕ) (raw : List ℕ) (n : ℕ) (y u v : List ℤ) → length y ≤ n → length u ≤ n → length v ≤ n → length raw ≤ 6 * n →
    IsMade luma power raw n y → IsMade chroma_blue power raw n u → IsMade chroma_red power raw n v → y ∷ u ∷ v ∷ [] ≡ picture_planes power raw
unfolding plane_of
planes-all power raw n y u v p q r whole of_luma of_blue of_red =
    rw (IsMade-all luma power raw n y p whole of_luma, IsMade-all chroma_blue power raw n u q whole of_blue, IsMade-all chroma_red power raw n v r whole of_red) refl

-- the rows of the components, one by one
pub record AreRows (power : ℕ) (raw : List ℕ) (y u v : List ℤ) : Type 0 where
  pub first : y ≡ plane_of luma power raw
  pub second : u ≡ plane_of chroma_blue power raw
  pub third : v ≡ plane_of chroma_red power raw

pub rows_of : (power : ℕ) (raw : List ℕ) (y u v : List ℤ) → y ∷ u ∷ v ∷ [] ≡ picture_planes power raw → AreRows power raw y u v
unfolding plane_of
rows_of power raw y u v e = record { first = cc; second = cc; third = cc }

-- ---- where rows are

pub row_inside : (y w h : ℕ) → y < h → y * w + w ≤ w * h
row_inside y w h inside = grind arith

pub row_next : (y w : ℕ) → (y + 1) * w ≡ y * w + w
row_next y w = grind arith

pub rows_whole : (y w h : ℕ) → h ≤ y → w * h ≤ y * w
rows_whole y w h past = grind arith
