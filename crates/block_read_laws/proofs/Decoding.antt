-- A decoder of the codeword of decisions gives each of them in turn.
use Rattle.std.proofs.Common.{◌≡◌, List, [], ◌∷◌, ◌++◌, refl, subst, ◌∙◌, append_assoc}
use Rattle.codec_terms.specs.Mq.{Decision, contexts_of, bits_of, Decoder, decoded_bit, decoder_after, decoded_from, decoded, decoder_of, codeword}

-- what was told so far stands in front of all decisions
pub record IsFront (told ds : List Decision) : Type 0 where
  pub rest : List Decision
  pub same : ds ≡ told ++ rest

-- a decoder that has read in the contexts of these decisions
abbrev pub decoder_behind : Decoder → List Decision → Decoder
decoder_behind d [] = d
decoder_behind d (e ∷ es) = decoder_behind (decoder_after d e.context) es

pub behind-push : (d : Decoder) (told : List Decision) (e : Decision)
    → decoder_behind d (told ++ e ∷ []) ≡ decoder_after (decoder_behind d told) e.context
behind-push d [] e = refl
behind-push d (t ∷ told) e = behind-push (decoder_after d t.context) told e

pub front-push : (told ds : List Decision) (e : Decision) → IsFront (told ++ e ∷ []) ds → IsFront told ds
front-push told ds e f = record { rest = e ∷ f.rest; same = f.same ∙ append_assoc told (e ∷ []) f.rest }

reads_at : (d : Decoder) (told : List Decision) (e : Decision) (rest : List Decision)
    → decoded_from d (contexts_of (told ++ e ∷ rest)) ≡ bits_of (told ++ e ∷ rest)
    → decoded_bit (decoder_behind d told) e.context ≡ e.bit
unfolding decoded_from
reads_at d [] e rest h = cc
reads_at d (t ∷ told) e rest h = reads_at (decoder_after d t.context) told e rest (cc)

pub next-read : (ds told : List Decision) (e : Decision) → decoded (codeword ds) (contexts_of ds) ≡ bits_of ds
    → IsFront (told ++ e ∷ []) ds → decoded_bit (decoder_behind (decoder_of (codeword ds)) told) e.context ≡ e.bit
unfolding decoded
next-read ds told e reads f =
    let split : ds ≡ told ++ e ∷ f.rest = f.same ∙ append_assoc told (e ∷ []) f.rest in
    reads_at (decoder_of (codeword ds)) told e f.rest
    (subst (λ es. decoded_from (decoder_of (codeword ds)) (contexts_of es) ≡ bits_of es) split reads)
