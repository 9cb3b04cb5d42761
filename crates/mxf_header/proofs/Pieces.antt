-- Pieces that are put behind bytes one after another.
use Rattle.std.proofs.Common.{◌≡◌, ℕ, List, ◌++◌, append_assoc}

pub pieces_3 : (o o1 o2 o3 a b c : List ℕ) → o1 ≡ o ++ a → o2 ≡ o1 ++ b → o3 ≡ o2 ++ c → o3 ≡ o ++ (a ++ b ++ c)
pieces_3 o o1 o2 o3 a b c p q r = rw (r, q, p) (simp append_assoc)

pub pieces_5 : (o o1 o2 o3 o4 o5 a b c d e : List ℕ) → o1 ≡ o ++ a → o2 ≡ o1 ++ b → o3 ≡ o2 ++ c → o4 ≡ o3 ++ d → o5 ≡ o4 ++ e
    → o5 ≡ o ++ (a ++ b ++ c ++ d ++ e)
pieces_5 o o1 o2 o3 o4 o5 a b c d e p q r s t = rw (t, s, r, q, p) (simp append_assoc)

pub pieces_7 : (o o1 o2 o3 o4 o5 o6 o7 a b c d e f g : List ℕ) → o1 ≡ o ++ a → o2 ≡ o1 ++ b → o3 ≡ o2 ++ c → o4 ≡ o3 ++ d
    → o5 ≡ o4 ++ e → o6 ≡ o5 ++ f → o7 ≡ o6 ++ g → o7 ≡ o ++ (a ++ b ++ c ++ d ++ e ++ f ++ g)
pieces_7 o o1 o2 o3 o4 o5 o6 o7 a b c d e f g p q r s t u v = rw (v, u, t, s, r, q, p) (simp append_assoc)
