-- One node of a tag tree, in the reader's direction.
use Rattle.std.specs.Prelude.{ℕ, zero, suc, ◌-◌, max, true, false, List, Option, Some, None, if◌then◌else◌}
use Rattle.codec_terms.specs.Reading.{done, ◌>>=◌}
use Rattle.codec_terms.specs.TagTree.{Found, is_open, with_bit}
use Rattle.codec_terms.specs.PacketReading.{Bits, bit_read}

-- bits are read as long as the node is open, at most k
unfoldable pub node_read_within : List ℕ → ℕ → ℕ → ℕ → Found → Bits Found
node_read_within bytes t low zero node = done node
node_read_within bytes t low (suc k) node = elim (is_open t low node) [
  | true ↦ do
    bit ← bit_read bytes
    node_read_within bytes t low k (with_bit bit low node)
  | false ↦ done node
]

abbrev pub node_read : List ℕ → ℕ → ℕ → Found → Bits Found
node_read bytes t low node = node_read_within bytes t low (t - max low node.reached) node

abbrev pub known_value : Found → Option ℕ
known_value node = if node.known then Some node.reached else None
