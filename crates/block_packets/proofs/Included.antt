-- What a packet has of a block.
use Rattle.std.proofs.Common.{◌≡◌, ℕ, suc, [], ◌-◌, ◌<◌, ◌≤◌, refl, ap, arith, true, false, List, length}
use Rattle.std.proofs.lemmas.Bool.{le-leb, lt-leb}
use Rattle.codec_terms.specs.declared.picture.Band.{Band}
use Rattle.codec_terms.specs.Bands.{plane_limit}
use Rattle.codec_terms.specs.BlockDecisions.{Block, plane_count, decisions}
use Rattle.codec_terms.specs.Codestream.{not_included, included_down_to, packet_block}
use Rattle.codec_terms.specs.Mq.{codeword}
use Rattle.codec_terms.specs.Passes.{pass_count}
use Rattle.packet_size.specs.declared.sizes.BlockSize.{BlockSize}
use Rattle.packet_size.specs.Sizes.{IsSizeOf}
use Rattle.block_packets.specs.Sized.{absent}

pub not-included : (band : Band) (p : ℕ) (b : Block) → plane_count b ≤ p → not_included ≡ packet_block band p b
unfolding packet_block
not-included band p b few = rw (le-leb (plane_count b) p few) refl

pub included : (band : Band) (p : ℕ) (b : Block) → p < plane_count b → included_down_to band b p ≡ packet_block band p b
unfolding packet_block
included band p b some = rw (lt-leb (plane_count b) p some) refl

absent-size : IsSizeOf absent not_included
absent-size = record { included = refl; zero_planes = λ e. refl; passes = λ e. refl; len = λ e. refl }

pub absent-is : (band : Band) (p : ℕ) (b : Block) → plane_count b ≤ p → IsSizeOf absent (packet_block band p b)
absent-is band p b few = rw (← not-included band p b few) absent-size

pub included-is : (band : Band) (p : ℕ) (b : Block) (size : BlockSize) → p < plane_count b → size.included ≡ true
    → size.zero_planes ≡ plane_limit band - plane_count b → size.passes ≡ pass_count (plane_count b - p) → size.len ≡ length (codeword (decisions b p))
    → IsSizeOf size (packet_block band p b)
included-is band p b size some inc zero_planes passes len =
    rw (← included band p b some) (record { included = inc; zero_planes = λ e. zero_planes; passes = λ e. passes; len = λ e. len })

-- ---- the block itself

pub absent-block : (band : Band) (p : ℕ) (b : Block) (w : List ℕ) → plane_count b ≤ p → w ≡ []
    → record { included = false; zero_planes = 0; passes = 0; codeword = w } ≡ packet_block band p b
absent-block band p b w few e = rw e (not-included band p b few)

pub included-block : (band : Band) (p : ℕ) (b : Block) (z n : ℕ) (w : List ℕ) → p < plane_count b
    → z ≡ plane_limit band - plane_count b → n ≡ pass_count (plane_count b - p) → w ≡ codeword (decisions b p)
    → record { included = true; zero_planes = z; passes = n; codeword = w } ≡ packet_block band p b
included-block band p b z n w some zero_planes passes word = rw (zero_planes, passes, word) (included band p b some)

-- ---- a code's place in decisions

pub word-of : (b : Block) (planes lowest kept p : ℕ) → planes ≡ plane_count b → lowest ≡ p → lowest < planes → kept ≡ planes - lowest
    → codeword (decisions b (planes - suc (kept - 1))) ≡ codeword (decisions b p)
word-of b planes lowest kept p a e some k = let place : planes - suc (kept - 1) ≡ p = omega arith in ap (λ n. codeword (decisions b n)) place
