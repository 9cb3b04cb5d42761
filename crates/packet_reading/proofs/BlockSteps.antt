-- The steps of one block, in front of those of the later blocks.
use Rattle.std.proofs.Common.{◌≡◌, ◌∙◌, ◌<◌, ◌≤◌, ◌+◌, ◌-◌, ℕ, suc, refl, ap, arith, Bool, true, false, List, [], ◌∷◌, Result, Ok, Err}
use Rattle.std.specs.List.{range_with_len}
use Rattle.std.specs.Prelude.{IfOk, IfErr}
use Rattle.codec_terms.specs.declared.packet.HeadRefusal.{HeadRefusal}
use Rattle.codec_terms.specs.Reading.{on_ok, done, ◌>>=◌}
use Rattle.codec_terms.specs.TagTree.{FoundTree, leaf_value}
use Rattle.codec_terms.specs.PacketReading.{BitPlace, Bits, BlockHead, no_head, leaf_read, included_read, is_in_layer, blocks_read}
use Rattle.packet_reading.specs.Refused.{IsRefused}
use Rattle.header_bits.proofs.Steps.{then-ok, then-err}

abbrev pub with_head : BlockHead → Result (List BlockHead × BitPlace) HeadRefusal → Result (List BlockHead × BitPlace) HeadRefusal
with_head head rest = on_ok rest (λ r. Ok (head ∷ r.0, r.1))

module _ (bytes : List ℕ) (mb at : ℕ) (layers planes : FoundTree) (p : BitPlace) where
  -- what comes behind the bits of the inclusion tree
  abbrev behind_layers : List ℕ → FoundTree → Bool → Bits (List BlockHead)
  behind_layers more layers_then true = do
    planes_then ← leaf_read bytes mb at planes
    head ← included_read bytes mb at planes_then
    heads ← blocks_read bytes mb layers_then planes_then more
    done (head ∷ heads)
  behind_layers more layers_then false = do
    heads ← blocks_read bytes mb layers_then planes more
    done (no_head ∷ heads)

  one_block : (more : List ℕ) → blocks_read bytes mb layers planes (at ∷ more) p
      ≡ on_ok (leaf_read bytes 1 at layers p) (λ r. behind_layers more r.0 (is_in_layer bytes (leaf_value r.0 at)) r.1)
  unfolding blocks_read
  one_block more = refl

  pub unread : (more : List ℕ) (refusal : HeadRefusal) → leaf_read bytes 1 at layers p ≡ Err refusal → blocks_read bytes mb layers planes (at ∷ more) p ≡ Err refusal
  unread more refusal h =
      one_block more ∙ then-err (leaf_read bytes 1 at layers p) (λ r. behind_layers more r.0 (is_in_layer bytes (leaf_value r.0 at)) r.1) refusal h

  module _ (layers_then : FoundTree) (q : BitPlace) (layer : leaf_read bytes 1 at layers p ≡ Ok (layers_then, q)) where
    behind : (more : List ℕ) (within : Bool) → is_in_layer bytes (leaf_value layers_then at) ≡ within
        → blocks_read bytes mb layers planes (at ∷ more) p ≡ behind_layers more layers_then within q
    behind more within h =
        one_block more
        ∙ then-ok (leaf_read bytes 1 at layers p) (λ r. behind_layers more r.0 (is_in_layer bytes (leaf_value r.0 at)) r.1) (layers_then, q) layer
        ∙ ap (λ within. behind_layers more layers_then within q) h

    pub absent : (head : BlockHead) (more : List ℕ) → is_in_layer bytes (leaf_value layers_then at) ≡ false → head ≡ no_head
        → blocks_read bytes mb layers planes (at ∷ more) p ≡ with_head head (blocks_read bytes mb layers_then planes more q)
    absent head more out same = rw same (behind more false out)

    module _ (within : is_in_layer bytes (leaf_value layers_then at) ≡ true) where
      pub planes_unread : (more : List ℕ) (refusal : HeadRefusal) → leaf_read bytes mb at planes q ≡ Err refusal → blocks_read bytes mb layers planes (at ∷ more) p ≡ Err refusal
      planes_unread more refusal h = behind more true within ∙ rw h refl

      module _ (planes_then : FoundTree) (r s : BitPlace) (plane : leaf_read bytes mb at planes q ≡ Ok (planes_then, r)) where
        -- what comes behind the bits of the tree of zero planes
        abbrev behind_planes : List ℕ → BlockHead × BitPlace → Result (List BlockHead × BitPlace) HeadRefusal
        behind_planes more h = with_head h.0 (blocks_read bytes mb layers_then planes_then more h.1)

        both : (more : List ℕ) → blocks_read bytes mb layers planes (at ∷ more) p ≡ on_ok (included_read bytes mb at planes_then r) (behind_planes more)
        both more = behind more true within ∙ rw plane refl

        pub included-read : (result : Result BlockHead HeadRefusal) → IfOk result (λ head. included_read bytes mb at planes_then r ≡ Ok (head, s))
            → IfOk result (λ head. (more : List ℕ) → blocks_read bytes mb layers planes (at ∷ more) p ≡ with_head head (blocks_read bytes mb layers_then planes_then more s))
        included-read (Ok head) h = λ more. both more ∙ then-ok (included_read bytes mb at planes_then r) (behind_planes more) (head, s) h
        included-read (Err refusal) h = tt

        pub included-refused : (result : Result BlockHead HeadRefusal) → IfErr result (λ refusal. included_read bytes mb at planes_then r ≡ Err refusal)
            → IfErr result (λ refusal. (more : List ℕ) → IsRefused (blocks_read bytes mb layers planes (at ∷ more) p) refusal)
        included-refused (Ok head) h = tt
        included-refused (Err refusal) h = λ more other. both more ∙ then-err (included_read bytes mb at planes_then r) (behind_planes more) refusal h

-- ---- blocks in raster order

pub next_block : (at count : ℕ) → at < count → range_with_len at (count - at) ≡ at ∷ range_with_len (at + 1) (count - (at + 1))
next_block at count below =
    let one : count - at ≡ suc (count - (at + 1)) = omega arith in
    let next : suc at ≡ at + 1 = omega arith in
    rw (one, ← next) refl

pub no_blocks : (bytes : List ℕ) (mb : ℕ) (layers planes : FoundTree) (at count : ℕ) (p : BitPlace) → count ≤ at
    → blocks_read bytes mb layers planes (range_with_len at (count - at)) p ≡ Ok ([], p)
unfolding blocks_read
no_blocks bytes mb layers planes at count p past =
    let none : count - at ≡ 0 = omega arith in
    rw none refl
