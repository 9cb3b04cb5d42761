-- What a reader's refusals say.
use Rattle.std.specs.Prelude.{◌≡◌, ◌≢◌, Result, Err}
use Rattle.codec_terms.specs.declared.reading.ReadRefusal.{ReadRefusal}
use Rattle.codec_terms.specs.declared.reading.ReadRefusal.TheVariants.{NoMemory}

-- the definition refuses so; of want of memory it says nothing
abbrev pub IsRefused : {A : Type 0} → Result A ReadRefusal → ReadRefusal → Type 0
IsRefused r refusal = refusal ≢ NoMemory → r ≡ Err refusal
