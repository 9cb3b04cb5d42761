-- A worked history: the record of the one frame of a job is put.
use Rattle.std.specs.Prelude.{ℕ, List, [], ◌∷◌, ◌++◌, replicate}
use Rattle.std.specs.Int.{to_be_bytes, w32, w64}
use Rattle.disk_terms.specs.Disk.{Disk, History, Trail, at_rest, disks, written_to}

-- the files of the job
pub data Name : Type 0 where
  job : Name
  info : Name
  picture : Name

-- the job's text
abbrev pub worked_text : List ℕ
worked_text = 68 ∷ 67 ∷ 80 ∷ []

-- the frame's bytes
abbrev pub worked_frame : List ℕ
worked_frame = 7 ∷ 8 ∷ 9 ∷ []

-- what MD5 gives of them
abbrev pub worked_digest : List ℕ
worked_digest = 89 ∷ 30 ∷ 64 ∷ 186 ∷ 24 ∷ 143 ∷ 181 ∷ 149 ∷ 57 ∷ 183 ∷ 203 ∷ 255 ∷ 153 ∷ 245 ∷ 130 ∷ 21 ∷ []

-- the record behind its gate: frame 0, of three bytes, stands first in the picture file
abbrev pub worked_body : List ℕ
worked_body =
    1 ∷ 0 ∷ 0 ∷ to_be_bytes w32 0 ++ to_be_bytes w64 16508 ++ to_be_bytes w32 3 ++ worked_digest ++ replicate 28 0

-- the record, its gate open
abbrev pub worked_record : List ℕ
worked_record = 1 ∷ worked_body

-- the head of the picture file
unfoldable pub worked_head : List ℕ
worked_head = replicate 16508 0

-- The job file stands open with the text, the picture file with the frame behind its head, and this is known of `info`.
abbrev pub worked_disk : Trail → Disk Name
worked_disk trail job = at_rest (1 ∷ worked_text)
worked_disk trail info = trail
worked_disk trail picture = at_rest (worked_head ++ worked_frame)

-- one disk more, on which this is known of `info`
abbrev pub put_behind : History Name → Trail → History Name
put_behind before trail = record { newest = worked_disk trail; earlier = disks before }

-- `info` stands as zeros.
abbrev pub at_first : History Name
at_first = record { newest = worked_disk (at_rest (replicate 64 0)); earlier = [] }

-- The 63 bytes behind the gate are written.
abbrev pub body_written : History Name
body_written = put_behind at_first (written_to 1 63 (at_first.newest info))

-- They are synced, the gate closed yet.
abbrev pub body_synced : History Name
body_synced = put_behind body_written (at_rest (0 ∷ worked_body))

-- The gate is written.
abbrev pub gate_written : History Name
gate_written = put_behind body_synced (written_to 0 1 (body_synced.newest info))

-- It is synced.
abbrev pub gate_synced : History Name
gate_synced = put_behind gate_written (at_rest worked_record)
