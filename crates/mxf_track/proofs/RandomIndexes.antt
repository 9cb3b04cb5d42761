-- The random index pack by its pieces.
use Rattle.std.proofs.Common.{◌≡◌, ◌∙◌, ℕ, List, ◌++◌, append_assoc, ap, ap₂}
use Rattle.std.specs.Int.{to_be_bytes, w32}
use Rattle.klv_base.specs.Items.{key_length}
use Rattle.track_terms.specs.Keys.{key_of}
use Rattle.track_terms.specs.Tail.{partition_entry, random_index}
use Rattle.track_terms.specs.declared.key.TheConstants.{RANDOM_INDEX}
use Rattle.mxf_header.proofs.Pieces.{pieces_5}

regroup : (h a b c d : List ℕ) → h ++ a ++ b ++ c ++ d ≡ h ++ (a ++ b ++ c ++ d)
regroup h a b c d = simp append_assoc

pub random_index-pieces : (footer : ℕ) (head last o o1 o2 o3 o4 o5 : List ℕ) → head ≡ key_length (key_of RANDOM_INDEX) 40
    → last ≡ to_be_bytes w32 60 → o1 ≡ o ++ head → o2 ≡ o1 ++ partition_entry 0 0 → o3 ≡ o2 ++ partition_entry 1 16384
    → o4 ≡ o3 ++ partition_entry 0 footer → o5 ≡ o4 ++ last → o5 ≡ o ++ random_index footer
random_index-pieces footer head last o o1 o2 o3 o4 o5 h l p q r s t =
    pieces_5 o o1 o2 o3 o4 o5 head (partition_entry 0 0) (partition_entry 1 16384) (partition_entry 0 footer) last p q r s t
    ∙ ap (λ b. o ++ b) (regroup head (partition_entry 0 0) (partition_entry 1 16384) (partition_entry 0 footer) last)
    ∙ ap₂ (λ h l. o ++ (h ++ (partition_entry 0 0 ++ partition_entry 1 16384 ++ partition_entry 0 footer ++ l))) h l
