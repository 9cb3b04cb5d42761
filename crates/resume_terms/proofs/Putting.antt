-- The worked history: the record of a job's one frame is put.
use Rattle.std.proofs.Common.{◌≡◌, ◌≢◌, ℕ, zero, suc, ◌<◌, true, List, [], ◌∷◌, length, get_or, inr, refl}
use Rattle.std.proofs.Common.{sym, ◌∙◌, ap, subst, arith, ltb-true}
use Rattle.std.specs.Prelude.{◌++◌, replicate, Some, nat_lt}
use Rattle.std.specs.List.{list_all}
use Rattle.std.proofs.lemmas.List.{ext_get_or, get_or-take, take_all}
use Rattle.std.proofs.lemmas.List.Elements.{All-append, All-replicate, All-weaker}
use Rattle.std.proofs.lemmas.List.Sums.{AllPass-from_list_all}
use Rattle.disk_terms.specs.Disk.{AreBytes, Disk, History, Image, IsChanged, IsImage, MayLeave, Survives, Trail}
use Rattle.disk_terms.specs.Disk.{at_rest, written_to}
use Rattle.disk_terms.proofs.Crashes.{Survives-changed, Survives-further}
use Rattle.disk_terms.proofs.Rest.{at_rest-only}
use Rattle.disk_terms.proofs.Writes.{overwritten-left}
use Rattle.resume_terms.specs.Resumable.{GoesOn, HasRecords, IsOpen, IsResumable, Leaves, open_text, record_at}
use Rattle.resume_terms.specs.Worked.{Name, job, info, picture, worked_text, worked_body, worked_record, worked_disk}
use Rattle.resume_terms.specs.Worked.{put_behind, worked_head, worked_frame}
use Rattle.resume_terms.specs.Worked.{at_first, body_written, body_synced, gate_written, gate_synced}

-- the only record of 64 bytes
only_record : (bytes : List ℕ) → length bytes ≡ 64 → record_at 0 bytes ≡ bytes
only_record bytes size = take_all 64 bytes (omega arith)

-- `info` of the one frame holds the record of this body, or none.
abbrev Holds : List ℕ → List ℕ → Type 0
Holds body bytes = HasRecords 1 (λ _. 1 ∷ body) bytes

-- It need only be right where it is open.
one_record : (body bytes : List ℕ) → length bytes ≡ 64 → (get_or bytes 0 0 ≡ 1 → bytes ≡ 1 ∷ body) → Holds body bytes
one_record body bytes size where_open = record { whole = size; each = each }
  where
    each : (i : ℕ) → i < 1 → IsOpen (record_at i bytes) → record_at i bytes ≡ 1 ∷ body
    each zero _ opened = only_record bytes size ∙ where_open (sym (get_or-take 64 bytes 0 0 (omega arith)) ∙ opened)
    each (suc i) below opened = absurd (omega arith)

-- `info` stands on the disk.
at_rest-left : (body bytes left : List ℕ) → Holds body bytes → MayLeave (at_rest bytes) left → Holds body left
at_rest-left body bytes left holds may = subst (Holds body) (sym (at_rest-only bytes left may)) holds

zeros-hold : (body : List ℕ) → Holds body (replicate 64 0)
zeros-hold body = one_record body (replicate 64 0) refl (λ opened. cc)

closed-holds : (body : List ℕ) → length body ≡ 63 → Holds body (0 ∷ body)
closed-holds body long = one_record body (0 ∷ body) (omega arith) (λ opened. cc)

open-holds : (body : List ℕ) → length body ≡ 63 → Holds body (1 ∷ body)
open-holds body long = one_record body (1 ∷ body) (omega arith) (λ _. refl)

-- The gate is closed while the bytes behind it are written.
body_written-left : (body left : List ℕ) → MayLeave (written_to 1 63 (at_rest (replicate 64 0))) left → Holds body left
body_written-left body left may =
    let size : length left ≡ 64 = omega (arith, may.least, may.greatest) in
    let closed : get_or left 0 0 ≡ 0 = may.kept 0 (omega arith) (omega arith) refl in
    one_record body left size (λ opened. absurd (omega arith))

-- What stood behind the gate stands behind it while the gate is written.
behind_gate : (body left : List ℕ) → length body ≡ 63 → MayLeave (written_to 0 1 (at_rest (0 ∷ body))) left
    → get_or left 0 0 ≡ 1 → (place : ℕ) → place < length left → get_or left place 0 ≡ get_or (1 ∷ body) place 0
behind_gate body left long may opened zero inside = opened
behind_gate body left long may opened (suc place) inside =
    let within : suc place < length (0 ∷ body) = omega (arith, may.greatest) in
    may.kept (suc place) inside within (grind arith)

gate_written-left : (body left : List ℕ) → length body ≡ 63 → MayLeave (written_to 0 1 (at_rest (0 ∷ body))) left
    → Holds body left
gate_written-left body left long may =
    let size : length left ≡ length (1 ∷ body) = omega (arith, may.least, may.greatest) in
    one_record body left (omega arith)
    (λ opened. ext_get_or 0 left (1 ∷ body) size (behind_gate body left long may opened))

-- The worked disk's job file is open.
job-left : (trail : Trail) (image : Image Name) → IsImage (worked_disk trail) image → image job ≡ 1 ∷ worked_text
job-left trail image left = at_rest-only (1 ∷ worked_text) (image job) (left job)

pub job-opened : (trail : Trail) (image : Image Name) → IsImage (worked_disk trail) image
    → open_text (image job) ≡ Some worked_text
job-opened trail image left = ap open_text (job-left trail image left)

-- another trail of `info`, and no other file's
put-others : (old trail : Trail) (other : Name) → other ≢ info → worked_disk trail other ≡ worked_disk old other
put-others old trail job not = refl
put-others old trail info not = absurd (not refl)
put-others old trail picture not = refl

-- what P says of each image of a disk
abbrev Always : (Image Name → Type 0) → Disk Name → Type 0
Always P disk = (image : Image Name) → IsImage disk image → P image

-- one call on `info`
step : (P : Image Name → Type 0) (old trail : Trail) (before : History Name) → before.newest ≡ worked_disk old
    → Always P before.newest → Always P (worked_disk trail) → Survives P before (put_behind before trail)
step P old trail before known first second =
    let others : (other : Name) → other ≢ info → worked_disk trail other ≡ before.newest other =
    λ other not. put-others old trail other not ∙ ap (λ disk. disk other) (sym known) in
    let change : IsChanged info trail before (put_behind before trail) =
    record { changed = refl; others = others; earlier = refl } in
    Survives-changed P info trail before (put_behind before trail) change first second

-- What holds of each image of the disk at each of the five moments holds over them all.
over_all : (P : Image Name → Type 0) → Always P at_first.newest → Always P body_written.newest
    → Always P body_synced.newest → Always P gate_written.newest → Always P gate_synced.newest
    → Survives P at_first gate_synced
over_all P zeros written closed gate opened =
    let first = step P (at_first.newest info) (body_written.newest info) at_first refl zeros written in
    let second = step P (body_written.newest info) (body_synced.newest info) body_written refl written closed in
    let third = step P (body_synced.newest info) (gate_written.newest info) body_synced refl closed gate in
    let fourth = step P (gate_written.newest info) (gate_synced.newest info) gate_written refl gate opened in
    Survives-further P at_first body_written gate_synced first
    (Survives-further P body_written body_synced gate_synced second
    (Survives-further P body_synced gate_written gate_synced third fourth))

pub worked-opened : Survives (λ image. open_text (image job) ≡ Some worked_text) at_first gate_synced
worked-opened =
    over_all (λ image. open_text (image job) ≡ Some worked_text)
    (job-opened (at_first.newest info)) (job-opened (body_written.newest info)) (job-opened (body_synced.newest info))
    (job-opened (gate_written.newest info)) (job-opened (gate_synced.newest info))

pub worked-goes_on : GoesOn job info worked_text 1 (λ _. worked_record) at_first gate_synced
worked-goes_on =
    let body = worked_body in
    over_all (IsResumable job info worked_text 1 (λ _. worked_record))
    (λ image left. inr (inr (at_rest-left body (replicate 64 0) (image info) (zeros-hold body) (left info))))
    (λ image left. inr (inr (body_written-left body (image info) (left info))))
    (λ image left. inr (inr (at_rest-left body (0 ∷ body) (image info) (closed-holds body refl) (left info))))
    (λ image left. inr (inr (gate_written-left body (image info) refl (left info))))
    (λ image left. inr (inr (at_rest-left body (1 ∷ body) (image info) (open-holds body refl) (left info))))

pub worked-left : Leaves worked_record info gate_synced
worked-left image left = at_rest-only worked_record (image info) (left info)

-- What stands may be left, and so may bytes over it.
rests : (bytes : List ℕ) → AreBytes bytes → MayLeave (at_rest bytes) bytes
rests bytes small = record { least = omega arith; greatest = omega arith; kept = λ place _ _ _. refl; small = small }

bytes_of : (bytes : List ℕ) → list_all (λ byte. nat_lt byte 256) bytes ≡ true → AreBytes bytes
bytes_of bytes pass =
    All-weaker (λ byte. nat_lt byte 256 ≡ true) (λ byte. byte < 256) (λ byte below. ltb-true byte 256 below) bytes
    (AllPass-from_list_all (λ byte. nat_lt byte 256) bytes pass)

pub body-read : MayLeave (body_written.newest info) (0 ∷ worked_body)
body-read =
    overwritten-left (at_first.newest info) (replicate 64 0) worked_body 1
    (rests (replicate 64 0) (bytes_of (replicate 64 0) refl)) (bytes_of worked_body refl) (omega arith)

pub gate-read : MayLeave (gate_written.newest info) worked_record
gate-read =
    overwritten-left (body_synced.newest info) (0 ∷ worked_body) (1 ∷ []) 0
    (rests (0 ∷ worked_body) (bytes_of (0 ∷ worked_body) refl)) (bytes_of (1 ∷ []) refl) (omega arith)

head_bytes : AreBytes worked_head
unfolding worked_head
head_bytes = All-replicate (λ byte. byte < 256) 16508 0 (omega arith)

-- an image behind the last sync
last_image : Image Name
last_image job = 1 ∷ worked_text
last_image info = worked_record
last_image picture = worked_head ++ worked_frame

last_image-left : IsImage gate_synced.newest last_image
unfolding last_image
last_image-left job = rests (1 ∷ worked_text) (bytes_of (1 ∷ worked_text) refl)
last_image-left info = rests worked_record (bytes_of worked_record refl)
last_image-left picture =
    rests (worked_head ++ worked_frame)
    (All-append (λ byte. byte < 256) worked_head worked_frame head_bytes (bytes_of worked_frame refl))

pub worked-image : (image : Image Name) × IsImage gate_synced.newest image
worked-image = (last_image, last_image-left)
