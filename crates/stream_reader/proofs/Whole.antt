-- The steps of a whole codestream.
use Rattle.std.proofs.Common.{◌≡◌, ℕ, refl, sym, ap₂, List, ℤ, Ok, Err}
use Rattle.codec_terms.specs.declared.packet.PacketBand.{PacketBand}
use Rattle.codec_terms.specs.declared.reading.MainHead.{MainHead}
use Rattle.codec_terms.specs.declared.reading.MarkerRefusal.{MarkerRefusal}
use Rattle.codec_terms.specs.declared.reading.ReadRefusal.{ReadRefusal}
use Rattle.codec_terms.specs.declared.reading.ReadRefusal.TheVariants.{Marker}
use Rattle.codec_terms.specs.MainReading.{main_read}
use Rattle.codec_terms.specs.Codestream.{components}
use Rattle.codec_terms.specs.StreamReading.{included_count, parts_read, end_read, stream_read}
use Rattle.stream_reader.specs.Values.{stream_values}

module _ (bytes : List ℕ) where
  pub no_main : (e : MarkerRefusal) → main_read bytes ≡ Err e → stream_read bytes ≡ Err (Marker e)
  unfolding stream_read
  no_main e h = rw h refl

  module _ (head : MainHead) (main : main_read bytes ≡ Ok head) where
    pub no_parts : (e : ReadRefusal) → parts_read bytes head components head.next ≡ Err e → stream_read bytes ≡ Err e
    unfolding stream_read
    no_parts e h = rw (main, h) refl

    module _ (parts : List (List (List PacketBand))) (at : ℕ) (read : parts_read bytes head components head.next ≡ Ok (parts, at)) where
      pub no_end : (e : ReadRefusal) → end_read bytes at ≡ Err e → stream_read bytes ≡ Err e
      unfolding stream_read
      no_end e h = rw (main, read, h) refl

      pub whole : (next : ℕ) (values : List ℤ) (blocks : ℕ) → end_read bytes at ≡ Ok next → values ≡ stream_values head parts → blocks ≡ included_count parts
          → stream_read bytes ≡ Ok (record { shape = head.shape; values = values; cut = head.cut; parts = head.parts; blocks = blocks })
      unfolding stream_read stream_values
      whole next values blocks h values_are blocks_are =
          rw (main, read, h) (ap₂ (λ (vs : List ℤ) (n : ℕ). Ok (record { shape = head.shape; values = vs; cut = head.cut; parts = head.parts; blocks = n })) (sym values_are) (sym blocks_are))
