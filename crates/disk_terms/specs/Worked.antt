-- A worked history.
use Rattle.std.specs.Prelude.{◌≡◌, [], ◌∷◌}
use Rattle.disk_terms.specs.Disk.{History, at_rest, IsWritten, IsCutTo}

-- A file of the bytes 1 2 3 4 stands on the disk. Two bytes are written from place 3 on, so past its end, and then it is
-- cut to two.
pub record IsWorked {File : Type 0} (file : File) (begun written cut : History File) : Type 0 where
  pub at_first : begun.newest file ≡ at_rest (1 ∷ 2 ∷ 3 ∷ 4 ∷ [])
  pub past_the_end : IsWritten file 3 2 begun written
  pub shorter : IsCutTo file 2 written cut
