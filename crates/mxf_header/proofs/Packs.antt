-- A pack by its pieces.
use Rattle.std.proofs.Common.{◌≡◌, ◌∙◌, ℕ, List, [], ◌∷◌, ◌++◌, append_assoc, append-nil, sym, ap}
use Rattle.klv_base.specs.Items.{key_length}
use Rattle.track_terms.specs.Keys.{key_of}
use Rattle.track_terms.specs.Kinds.{terms_of}
use Rattle.track_terms.specs.Partitions.{pack, pack_value, places, streams}
use Rattle.track_terms.specs.declared.key.TheConstants.{PATTERN}
use Rattle.track_terms.specs.declared.kind.TrackKind.{TrackKind}
use Rattle.track_terms.specs.declared.partition.Partition.{Partition}
use Rattle.track_terms.proofs.HeadSizes.{length-pack_value}

regroup : (h v p s t o c : List ℕ) → h ++ v ++ p ++ s ++ t ++ o ++ c ≡ h ++ (v ++ p ++ s ++ t ++ (o ++ (c ++ [])))
regroup h v p s t o c = simp (append_assoc, append-nil)

pub pack-pieces : (kind : TrackKind) (p : Partition) (head pattern container : List ℕ)
    → head ≡ key_length (key_of p.key) 104 → pattern ≡ key_of PATTERN → container ≡ key_of (terms_of kind).container
    → head ++ (0 ∷ 1 ∷ 0 ∷ 2 ∷ 0 ∷ 0 ∷ 0 ∷ 1 ∷ []) ++ places p ++ streams p ++ pattern ++ (0 ∷ 0 ∷ 0 ∷ 1 ∷ 0 ∷ 0 ∷ 0 ∷ 16 ∷ []) ++ container
    ≡ pack kind p
unfolding pack
pack-pieces kind p head pattern container h t c =
    rw (h, t, c)
    (regroup (key_length (key_of p.key) 104) (0 ∷ 1 ∷ 0 ∷ 2 ∷ 0 ∷ 0 ∷ 0 ∷ 1 ∷ []) (places p) (streams p) (key_of PATTERN)
    (0 ∷ 0 ∷ 0 ∷ 1 ∷ 0 ∷ 0 ∷ 0 ∷ 16 ∷ []) (key_of (terms_of kind).container)
    ∙ ap (λ n. key_length (key_of p.key) n ++ pack_value kind p) (sym (length-pack_value kind p)))
