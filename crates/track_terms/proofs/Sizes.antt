-- How many bytes values have, by what they are.
use Rattle.std.proofs.Common.{◌≡◌, ℕ, zero, suc, ◌+◌, ◌*◌, List, [], ◌∷◌, ◌++◌, length, map, refl, arith, Result, Ok, Err}
use Rattle.std.proofs.Math.ListN.{length-set}
use Rattle.std.proofs.lemmas.List.{length-append, length-take}
use Rattle.sha1.specs.Sha1.{sha1, digest_bytes}
use Rattle.jiff.specs.Words.{Error, parse_datetime}
use Rattle.jiff_fmt.specs.Temporal.{DateParts, TimeParts}
use Rattle.klv_base.specs.Items.{set_value}
use Rattle.track_terms.specs.Facts.{PlainFacts}
use Rattle.track_terms.specs.Keys.{key_of}
use Rattle.track_terms.specs.Sets.{item_of}
use Rattle.track_terms.specs.Kinds.{terms_of}
use Rattle.track_terms.specs.Values.{batch, fact_value, id_of, package_id, text_of, time_bytes, utf16, value_of}
use Rattle.track_terms.specs.declared.key.TheConstants.{UMID}
use Rattle.track_terms.specs.declared.kind.TrackKind.{TrackKind}
use Rattle.track_terms.specs.declared.kind.TrackKind.TheVariants.{Picture, Sound}
use Rattle.track_terms.specs.declared.set.SetRow.{SetRow}
use Rattle.track_terms.specs.declared.value.Fact.{Fact}
use Rattle.track_terms.specs.declared.value.Fact.TheVariants as fact
use Rattle.track_terms.specs.declared.value.Value.{Value}
use Rattle.track_terms.specs.declared.value.Value.TheVariants as value
use Rattle.track_terms.proofs.KeyLaws.{length-key_of}

length-digest_bytes : (h : List ℕ) (n : ℕ) → length (digest_bytes h n) ≡ 4 * n
unfolding digest_bytes
length-digest_bytes h zero = refl
length-digest_bytes h (suc n) = omega (arith, length-append {A = ℕ}, length-digest_bytes h n)

length-sha1 : (m : List ℕ) → length (sha1 m) ≡ 20
unfolding sha1
length-sha1 m = length-digest_bytes _ 5

pub length-id_of : (facts : PlainFacts) (x : List ℕ) → length (id_of facts x) ≡ 16
unfolding id_of
length-id_of facts x =
    let m = facts.namespace ++ (facts.name ++ 35 ∷ x) in
    omega (arith, length-set {A = ℕ}, length-take 16 (sha1 m), length-sha1 m)

pub length-time_bytes : (r : Result (DateParts × TimeParts) Error) → length (time_bytes r) ≡ 8
length-time_bytes (Ok (date, time)) = refl
length-time_bytes (Err e) = refl

pub length-utf16 : (text : List ℕ) → length (utf16 text) ≡ 2 * length text
length-utf16 [] = refl
length-utf16 (b ∷ text) = omega (arith, length-utf16 text)

length-one_in_batch : (xs : List ℕ) → length xs ≡ 16 → length (batch 16 (xs ∷ [])) ≡ 24
length-one_in_batch xs sixteen = omega (arith, length-append {A = ℕ})

length-two_in_batch : (xs ys : List ℕ) → length xs ≡ 16 → length ys ≡ 16 → length (batch 16 (xs ∷ ys ∷ [])) ≡ 40
length-two_in_batch xs ys s s' = omega (arith, length-append {A = ℕ})

length-package_id : (uuid : List ℕ) → length uuid ≡ 16 → length (package_id uuid) ≡ 32
length-package_id uuid sixteen = omega (arith, length-append (key_of UMID) uuid, length-key_of UMID)

pub length-container : (kind : TrackKind) → length (key_of (terms_of kind).container) ≡ 16
length-container Picture = length-key_of _
length-container Sound = length-key_of _

length-definition : (kind : TrackKind) → length (key_of (terms_of kind).definition) ≡ 16
length-definition Picture = length-key_of _
length-definition Sound = length-key_of _

abbrev pub fact_size : Fact → ℕ
fact_size fact.Rate = 8
fact_size fact.Issued = 8
fact_size fact.Frames = 8
fact_size fact.Width = 4
fact_size fact.Height = 4
fact_size fact.AspectRatio = 8
fact_size fact.Channels = 4
fact_size fact.SampleBytes = 2
fact_size fact.SecondBytes = 4

length-fact_value : (facts : PlainFacts) (f : Fact) → length (fact_value facts f) ≡ fact_size f
length-fact_value facts fact.Rate = refl
length-fact_value facts fact.Issued = length-time_bytes (parse_datetime facts.issued)
length-fact_value facts fact.Frames = refl
length-fact_value facts fact.Width = refl
length-fact_value facts fact.Height = refl
length-fact_value facts fact.AspectRatio = refl
length-fact_value facts fact.Channels = refl
length-fact_value facts fact.SampleBytes = refl
length-fact_value facts fact.SecondBytes = refl

abbrev pub value_size : Value → ℕ
value_size (value.U8 n) = 1
value_size (value.U16 n) = 2
value_size (value.U32 n) = 4
value_size (value.U64 n) = 8
value_size (value.Rational m n) = 8
value_size (value.Fact fact) = fact_size fact
value_size (value.Text word) = 2 * length (text_of word)
value_size (value.Id word) = 16
value_size (value.Reference k) = 16
value_size (value.OneReference k) = 24
value_size (value.TwoReferences j k) = 40
value_size (value.Label groups) = 4 * length groups
value_size value.Container = 16
value_size value.OneContainer = 24
value_size value.NoLabels = 8
value_size value.DataDefinition = 16
value_size value.TrackNumber = 4
value_size value.MaterialPackage = 32
value_size value.SourcePackage = 32
value_size value.NoPackage = 32

pub length-value_of : (facts : PlainFacts) (v : Value) → length facts.asset ≡ 16 → length (value_of facts v) ≡ value_size v
length-value_of facts (value.U8 n) sixteen = refl
length-value_of facts (value.U16 n) sixteen = refl
length-value_of facts (value.U32 n) sixteen = refl
length-value_of facts (value.U64 n) sixteen = refl
length-value_of facts (value.Rational m n) sixteen = refl
length-value_of facts (value.Fact fact) sixteen = length-fact_value facts fact
length-value_of facts (value.Text word) sixteen = length-utf16 (text_of word)
length-value_of facts (value.Id word) sixteen = length-id_of facts (text_of word)
length-value_of facts (value.Reference k) sixteen = length-id_of facts _
length-value_of facts (value.OneReference k) sixteen = length-one_in_batch _ (length-id_of facts _)
length-value_of facts (value.TwoReferences j k) sixteen = length-two_in_batch _ _ (length-id_of facts _) (length-id_of facts _)
length-value_of facts (value.Label groups) sixteen = length-key_of groups
length-value_of facts value.Container sixteen = length-container facts.kind
length-value_of facts value.OneContainer sixteen = length-one_in_batch _ (length-container facts.kind)
length-value_of facts value.NoLabels sixteen = refl
length-value_of facts value.DataDefinition sixteen = length-definition facts.kind
length-value_of facts value.TrackNumber sixteen = refl
length-value_of facts value.MaterialPackage sixteen = length-package_id _ (length-id_of facts _)
length-value_of facts value.SourcePackage sixteen = length-package_id facts.asset sixteen
length-value_of facts value.NoPackage sixteen = refl

-- ---- sets

-- what an item of a set adds to its value
unfoldable pub rows_size : List SetRow → ℕ
rows_size [] = 0
rows_size (row ∷ rows) = 4 + value_size row.value + rows_size rows

pub length-set_value : (facts : PlainFacts) (rows : List SetRow) → length facts.asset ≡ 16
    → length (set_value (map (item_of facts) rows)) ≡ rows_size rows
unfolding rows_size
length-set_value facts [] sixteen = refl
length-set_value facts (row ∷ rows) sixteen =
    omega (
      arith,
      length-append (value_of facts row.value) (set_value (map (item_of facts) rows)),
      length-value_of facts row.value sixteen,
      length-set_value facts rows sixteen,
    )
