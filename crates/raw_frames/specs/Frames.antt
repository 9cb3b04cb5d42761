-- What a file shows as a frame.
use Rattle.std.specs.Prelude.{◌≡◌, ℕ, ◌+◌, ◌*◌, ◌<◌, ◌≤◌, nat_le, if◌then◌else◌, min, List, [], length, take, Option, Some, None, unwrap_or, Result, Ok, Err, ⊤}
use Rattle.mast_world.specs.Content.{part}
use Rattle.mast_world.specs.Count.{HasRisen, counted}
use Rattle.ppm_head.specs.Header.{header_end}
use Rattle.ppm_head.specs.declared.header.BadHeader as head
use Rattle.raw_frames.specs.declared.refusal.FrameRefusal.{FrameRefusal}
use Rattle.raw_frames.specs.declared.refusal.FrameRefusal.TheVariants.{Missing, BadHeader, Short, SourceFault, NoMemory}

-- six bytes a pixel
abbrev pub frame_size : ℕ → ℕ → ℕ
frame_size width height = width * height * 6

-- so many bytes of pixels, from a place on
unfoldable pub pixels_at : ℕ → ℕ → List ℕ → Result (List ℕ) FrameRefusal
pixels_at at size bytes =
    if nat_le (at + size) (length bytes) then Ok (part bytes at size)
    else Err (Short (length bytes) (at + size))

-- of frames one after another
abbrev pub rgb48_frame : ℕ → ℕ → List ℕ → Result (List ℕ) FrameRefusal
rgb48_frame index size bytes = pixels_at (index * size) size bytes

-- of a picture behind its header
abbrev pub behind_header : ℕ → List ℕ → Result ℕ head.BadHeader → Result (List ℕ) FrameRefusal
behind_header size bytes (Ok at) = pixels_at at size bytes
behind_header size bytes (Err bad) = Err (BadHeader bad.at)

-- of a picture whose width and height have these digits, and whose header is looked for in the first 1024 bytes
abbrev pub ppm_frame : List ℕ → List ℕ → ℕ → List ℕ → Result (List ℕ) FrameRefusal
ppm_frame width height size bytes = behind_header size bytes (header_end width height (take 1024 bytes))

-- of a file that may not be there
abbrev pub of_file : (List ℕ → Result (List ℕ) FrameRefusal) → Option (List ℕ) → Result (List ℕ) FrameRefusal
of_file frame None = Err Missing
of_file frame (Some bytes) = frame bytes

-- what is behind a refusal: what the file shows, where that is told, or what the source counted
abbrev pub IsCause : {A : Type 0} → Type 0 → Result (List ℕ) FrameRefusal → (A → ℕ) → (A → ℕ) → A → A → FrameRefusal → Type 0
IsCause tells shown absent faults before now Missing = (tells → shown ≡ Err Missing) × HasRisen (absent before) (absent now)
IsCause tells shown absent faults before now (BadHeader at) = tells → shown ≡ Err (BadHeader at)
IsCause tells shown absent faults before now (Short size need) = (size < need) × (tells → shown ≡ Err (Short size need))
IsCause tells shown absent faults before now SourceFault = HasRisen (faults before) (faults now)
IsCause tells shown absent faults before now NoMemory = ⊤

-- the first bytes were read, up to 1024 of them, and then the pixels
pub record TakesPicture (tells : Type 0) (file : Option (List ℕ)) (size before now : ℕ) : Type 0 where
  pub first : ℕ
  pub few : first ≤ 1024
  pub told : tells → first ≡ min 1024 (length (unwrap_or file []))
  pub taken : now ≡ counted (counted before first) size
