-- The bits of one node.
use Rattle.std.proofs.Common.{◌≡◌, ℕ, ◌-◌, sym, ap, ap₂, ◌∙◌, Bool, true, false, min, max, [], ◌∷◌, ◌++◌, replicate}
use Rattle.std.specs.Prelude.{if◌then◌else◌, nat_lt}
use Rattle.codec_terms.specs.TagTree.{Node, node_bits}
use Rattle.packet_size.specs.Counting.{Counted, counted}
use Rattle.packet_size.proofs.CountedInto.{counted-none}

pub bits-untold : (t low zeros : ℕ) (one : Bool) (node : Node) (c d : Counted) → node.known ≡ false → zeros ≡ min node.value t - max low node.reached → one ≡ nat_lt node.value t
    → d ≡ counted c (replicate zeros false ++ (if one then true ∷ [] else [])) → d ≡ counted c (node_bits t low node)
bits-untold t low zeros one node c d untold run end e =
    e ∙ ap₂ (λ n (b : Bool). counted c (replicate n false ++ (if b then true ∷ [] else []))) run end
    ∙ ap (λ (b : Bool). counted c (if b then [] else replicate (min node.value t - max low node.reached) false ++ (if nat_lt node.value t then true ∷ [] else []))) (sym untold)

pub bits-known : (t low : ℕ) (node : Node) (c : Counted) → node.known ≡ true → c ≡ counted c (node_bits t low node)
bits-known t low node c known =
    sym (counted-none c)
    ∙ ap (λ (b : Bool). counted c (if b then [] else replicate (min node.value t - max low node.reached) false ++ (if nat_lt node.value t then true ∷ [] else []))) (sym known)
