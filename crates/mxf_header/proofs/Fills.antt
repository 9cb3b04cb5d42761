-- The fill by its pieces.
use Rattle.std.proofs.Common.{◌≡◌, ◌∙◌, ℕ, ◌+◌, ◌-◌, ◌≤◌, List, ◌++◌, append_assoc, length, take, sym, ap, arith}
use Rattle.std.specs.Prelude.{replicate}
use Rattle.std.proofs.Math.Seq.{take_all}
use Rattle.std.proofs.lemmas.List.{length-append, length-replicate}
use Rattle.klv_base.specs.Items.{item, key_length}
use Rattle.track_terms.specs.Head.{fill}
use Rattle.track_terms.specs.Keys.{key_of}
use Rattle.track_terms.specs.declared.key.TheConstants.{FILL}
use Rattle.track_terms.proofs.HeadSizes.{length-key_length}
use Rattle.track_terms.proofs.KeyLaws.{length-key_of}

pub fill-pieces : (out o1 o2 head : List ℕ) (n m : ℕ) → length out ≤ 16364 → n ≡ 16384 - 20 - length out
    → head ≡ key_length (key_of FILL) n → o1 ≡ out ++ head → m ≡ length o1 → o2 ≡ take 16384 o1 ++ replicate (16384 - m) 0
    → o2 ≡ out ++ fill (length out)
fill-pieces out o1 o2 head n m room is h p same q =
    let key : length (key_of FILL) ≡ 16 = length-key_of FILL in
    let twenty : length head ≡ 20 = ap length h ∙ length-key_length (key_of FILL) n key in
    let long : length o1 ≡ length out + 20 = ap length p ∙ omega (arith, length-append out head, twenty) in
    let all : take 16384 o1 ≡ o1 = take_all 16384 o1 (omega (arith, long, room)) in
    let rest : 16384 - m ≡ n = omega (arith, same, long, is) in
    let zeros : List ℕ = replicate n 0 in
    let count : length zeros ≡ n = length-replicate n 0 in
    q ∙ rw (all, rest, p, h) (append_assoc out (key_length (key_of FILL) n) zeros)
    ∙ ap (λ k. out ++ (key_length (key_of FILL) k ++ zeros)) (sym count)
    ∙ ap (λ k. out ++ item (key_of FILL) (replicate k 0)) is
