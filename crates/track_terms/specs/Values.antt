-- The values of sets' items.
use Rattle.std.specs.Prelude.{ℕ, ◌*◌, codes, List, [], ◌∷◌, ◌++◌, length, take, replicate, slice_index, Result, Ok, Err}
use Rattle.std.specs.Fmt.{decimal}
use Rattle.std.specs.Int.{cast_unsigned, to_be_bytes, w16, w32, w64}
use Rattle.std.specs.List.{flat_map}
use Rattle.jiff.specs.Words.{Error, parse_datetime}
use Rattle.jiff_fmt.specs.Temporal.{DateParts, TimeParts}
use Rattle.sha1.specs.Sha1.{sha1}
use Rattle.uuid.specs.Parts.{with_variant, with_version}
use Rattle.uuid.specs.declared.Variant.TheVariants.{RFC4122}
use Rattle.uuid.specs.declared.Version.TheVariants.{Sha1}
use Rattle.track_terms.specs.Facts.{PlainFacts}
use Rattle.track_terms.specs.Keys.{key_of}
use Rattle.track_terms.specs.Kinds.{terms_of}
use Rattle.track_terms.specs.declared.key.TheConstants.{UMID}
use Rattle.track_terms.specs.declared.value.Fact.{Fact}
use Rattle.track_terms.specs.declared.value.Fact.TheVariants as fact
use Rattle.track_terms.specs.declared.value.Value.{Value}
use Rattle.track_terms.specs.declared.value.Value.TheVariants as value
use Rattle.track_terms.specs.declared.value.Word.{Word}
use Rattle.track_terms.specs.declared.value.Word.TheVariants.{Material, Generation, Product, Maker, MakerVersion}

abbrev pub text_of : Word → List ℕ
text_of Material = codes "material"
text_of Generation = codes "generation"
text_of Product = codes "product"
text_of Maker = codes "dcp"
text_of MakerVersion = codes "1"

-- UTF-16 with the high byte first, of a text of ASCII characters
abbrev pub utf16 : List ℕ → List ℕ
utf16 text = flat_map (λ b. 0 ∷ b ∷ []) text

-- the version 5 UUID (RFC 9562, section 5.5) of the file's name, `#` and x, under the track's namespace
unfoldable pub id_of : PlainFacts → List ℕ → List ℕ
id_of facts x = with_version (with_variant (take 16 (sha1 (facts.namespace ++ (facts.name ++ 35 ∷ x)))) RFC4122) Sha1

-- the identifier of a set, by which others refer to it
abbrev pub reference : PlainFacts → ℕ → List ℕ
reference facts k = id_of facts (decimal k)

-- how many items, the size of each, and the items
abbrev pub batch : ℕ → List (List ℕ) → List ℕ
batch size items = to_be_bytes w32 (length items) ++ to_be_bytes w32 size ++ flat_map (λ i. i) items

abbrev pub rational : ℕ → ℕ → List ℕ
rational numerator denominator = to_be_bytes w32 numerator ++ to_be_bytes w32 denominator

-- the identifier of a package (UMID) from a UUID
abbrev pub package_id : List ℕ → List ℕ
package_id uuid = key_of UMID ++ uuid

-- A date and time. The rule of the date of issue has it that it is read.
abbrev pub time_bytes : Result (DateParts × TimeParts) Error → List ℕ
time_bytes (Ok (date, time)) =
    to_be_bytes w16 (cast_unsigned w16 date.year)
    ++ date.month ∷ date.day ∷ time.hour ∷ time.minute ∷ time.second ∷ 0 ∷ []
time_bytes (Err e) = replicate 8 0

abbrev pub fact_value : PlainFacts → Fact → List ℕ
fact_value facts fact.Rate = rational facts.fps 1
fact_value facts fact.Issued = time_bytes (parse_datetime facts.issued)
fact_value facts fact.Frames = to_be_bytes w64 facts.frames
fact_value facts fact.Width = to_be_bytes w32 facts.width
fact_value facts fact.Height = to_be_bytes w32 facts.height
fact_value facts fact.AspectRatio = rational facts.width facts.height
fact_value facts fact.Channels = to_be_bytes w32 facts.channels
fact_value facts fact.SampleBytes = to_be_bytes w16 (facts.channels * 3)
fact_value facts fact.SecondBytes = to_be_bytes w32 (facts.channels * 144000)

abbrev pub value_of : PlainFacts → Value → List ℕ
value_of facts (value.U8 n) = n ∷ []
value_of facts (value.U16 n) = to_be_bytes w16 n
value_of facts (value.U32 n) = to_be_bytes w32 n
value_of facts (value.U64 n) = to_be_bytes w64 n
value_of facts (value.Rational m n) = rational m n
value_of facts (value.Fact fact) = fact_value facts fact
value_of facts (value.Text word) = utf16 (text_of word)
value_of facts (value.Id word) = id_of facts (text_of word)
value_of facts (value.Reference k) = reference facts k
value_of facts (value.OneReference k) = batch 16 (reference facts k ∷ [])
value_of facts (value.TwoReferences j k) = batch 16 (reference facts j ∷ reference facts k ∷ [])
value_of facts (value.Label groups) = key_of groups
value_of facts value.Container = key_of (terms_of facts.kind).container
value_of facts value.OneContainer = batch 16 (key_of (terms_of facts.kind).container ∷ [])
value_of facts value.NoLabels = batch 16 []
value_of facts value.DataDefinition = key_of (terms_of facts.kind).definition
value_of facts value.TrackNumber = to_be_bytes w32 (slice_index (terms_of facts.kind).item_key 3)
value_of facts value.MaterialPackage = package_id (id_of facts (text_of Material))
value_of facts value.SourcePackage = package_id facts.asset
value_of facts value.NoPackage = replicate 32 0
