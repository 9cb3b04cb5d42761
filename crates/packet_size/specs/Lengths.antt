-- How long codewords are.
use Rattle.std.specs.Prelude.{ℕ, ◌≤◌, All, length}
use Rattle.packet_size.specs.declared.sizes.BandSizes.{BandSizes}

-- a sub-band has few blocks, of which no codeword has more bytes than so many
pub record HasLengths (most : ℕ) (band : BandSizes) : Type 0 where
  pub few : length band.blocks.now ≤ 16
  pub each : All (λ size. size.len ≤ most) band.blocks.now
