-- What was read, by the file that was found.
use Rattle.std.proofs.Common.{◌≡◌, ℕ, ◌+◌, ◌<◌, ◌≤◌, List, length, take, Some, None, Ok, Err, sym, ap, ◌∙◌, arith, min}
use Rattle.std.specs.Prelude.{Option, Result, option_map, IfErr}
use Rattle.std.proofs.lemmas.List.{take_min}
use Rattle.std.proofs.lemmas.Bool.{cond-true, cond-false, le-leb, lt-leb}
use Rattle.mast_world.specs.Content.{part, part_of}
use Rattle.ppm_head.specs.Header.{header_end}
use Rattle.ppm_head.specs.declared.header.BadHeader as head
use Rattle.raw_frames.specs.Frames.{behind_header, of_file, pixels_at, ppm_frame, IsCause}
use Rattle.raw_frames.specs.declared.refusal.FrameRefusal.{FrameRefusal}
use Rattle.raw_frames.specs.declared.refusal.FrameRefusal.TheVariants.{Missing, BadHeader, Short, SourceFault, NoMemory}

pub short-is :
    (file : Option (List ℕ)) (at size have : ℕ) → option_map length file ≡ Some have → have < at + size →
    of_file (pixels_at at size) file ≡ Err (Short have (at + size))
unfolding pixels_at
short-is None at size have there less = absurd cc
short-is (Some bytes) at size have there less =
    let same : length bytes ≡ have = cc in
    cond-false _ _ _ (lt-leb (at + size) (length bytes) (omega arith)) ∙ ap (λ n. Err (Short n (at + size))) same

pub whole-is :
    (file : Option (List ℕ)) (at size have : ℕ) (pixels : List ℕ) → option_map length file ≡ Some have → at + size ≤ have →
    pixels ≡ part_of file at size → of_file (pixels_at at size) file ≡ Ok pixels
unfolding pixels_at
whole-is None at size have pixels there less is = absurd cc
whole-is (Some bytes) at size have pixels there less is =
    let same : length bytes ≡ have = cc in
    cond-true _ _ _ (le-leb (at + size) (length bytes) (omega arith)) ∙ ap Ok (sym is)

-- the first bytes of a file, as they were read
first-is : (bytes : List ℕ) (have : ℕ) → length bytes ≡ have → take 1024 bytes ≡ part bytes 0 (min have 1024)
first-is bytes have same =
    sym (take_min 1024 bytes) ∙ ap (λ n. take n bytes) (let shorter : min 1024 (length bytes) ≡ min have 1024 = omega arith in shorter)

-- a picture is what stands behind its header
pub ppm-good :
    (file : Option (List ℕ)) (width height first : List ℕ) (size have at : ℕ) → option_map length file ≡ Some have →
    first ≡ part_of file 0 (min have 1024) → Ok at ≡ header_end width height first →
    of_file (pixels_at at size) file ≡ of_file (ppm_frame width height size) file
ppm-good None width height first size have at there is good = absurd cc
ppm-good (Some bytes) width height first size have at there is good =
    let same : length bytes ≡ have = cc in
    ap (behind_header size bytes) (good ∙ ap (header_end width height) (is ∙ sym (first-is bytes have same)))

pub ppm-bad :
    (file : Option (List ℕ)) (width height first : List ℕ) (size have : ℕ) (bad : head.BadHeader) → option_map length file ≡ Some have →
    first ≡ part_of file 0 (min have 1024) → Err bad ≡ header_end width height first →
    of_file (ppm_frame width height size) file ≡ Err (BadHeader bad.at)
ppm-bad None width height first size have bad there is wrong = absurd cc
ppm-bad (Some bytes) width height first size have bad there is wrong =
    let same : length bytes ≡ have = cc in
    sym (ap (behind_header size bytes) (wrong ∙ ap (header_end width height) (is ∙ sym (first-is bytes have same))))

-- the cause of a refusal, as it is seen from an earlier state
pub cause-earlier :
    {A : Type 0} (tells : Type 0) (later shown : Result (List ℕ) FrameRefusal) (absent faults : A → ℕ) (before between now : A) (why : FrameRefusal) →
    (tells → later ≡ shown) → absent before ≤ absent between → faults before ≤ faults between →
    IsCause tells later absent faults between now why → IsCause tells shown absent faults before now why
cause-earlier tells later shown absent faults before between now Missing same less fewer is = (λ told. sym (same told) ∙ is.0 told, omega (arith, is.1))
cause-earlier tells later shown absent faults before between now (BadHeader at) same less fewer is = λ told. sym (same told) ∙ is told
cause-earlier tells later shown absent faults before between now (Short size need) same less fewer is = (is.0, λ told. sym (same told) ∙ is.1 told)
cause-earlier tells later shown absent faults before between now SourceFault same less fewer is = omega (arith, is)
cause-earlier tells later shown absent faults before between now NoMemory same less fewer is = tt

pub IfErr-from : {T : Type 0} (r : Result T FrameRefusal) (P Q : FrameRefusal → Type 0) → ((why : FrameRefusal) → P why → Q why) → IfErr r P → IfErr r Q
IfErr-from (Ok x) P Q f h = tt
IfErr-from (Err why) P Q f h = f why h
