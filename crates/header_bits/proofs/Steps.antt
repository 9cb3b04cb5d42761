-- Steps one behind another.
use Rattle.std.proofs.Common.{◌≡◌, ap, Result, Ok, Err}
use Rattle.codec_terms.specs.declared.packet.HeadRefusal.{HeadRefusal}
use Rattle.codec_terms.specs.Reading.{on_ok}

module _ {A B : Type 0} (r : Result A HeadRefusal) (f : A → Result B HeadRefusal) where
  pub then-ok : (a : A) → r ≡ Ok a → on_ok r f ≡ f a
  then-ok a h = ap (λ r. on_ok r f) h

  pub then-err : (refusal : HeadRefusal) → r ≡ Err refusal → on_ok r f ≡ Err refusal
  then-err refusal h = ap (λ r. on_ok r f) h
