-- How many bytes a head has, by computing over the tables.
use Rattle.std.proofs.Common.{◌≡◌, ℕ, ◌+◌, ◌-◌, ◌^◌, ◌<◌, ◌≤◌, lit<, lit≤, Bool, true, false, List, [], ◌∷◌, ◌++◌, length, map, filter, refl, ap, ◌∙◌, arith}
use Rattle.std.specs.Prelude.{◌==◌, if◌then◌else◌, nat_lt, replicate, All}
use Rattle.std.specs.List.{enumerate_from, flat_map, list_all}
use Rattle.std.proofs.lemmas.Bool.{ltb-true}
use Rattle.std.proofs.lemmas.List.Elements.{All-filter, All-map, All-weaker}
use Rattle.std.proofs.lemmas.List.Sums.{AllPass-from_list_all}
use Rattle.std.proofs.Math.ListN.{length-set}
use Rattle.std.proofs.lemmas.List.{length-append, length-replicate}
use Rattle.klv_base.specs.Items.{item, key_length, set_value}
use Rattle.track_terms.specs.Facts.{PlainFacts}
use Rattle.track_terms.specs.Head.{fill, head, metadata, metadata_end}
use Rattle.track_terms.specs.Keys.{key_of, set_key}
use Rattle.track_terms.specs.Kinds.{has_set, terms_of}
use Rattle.track_terms.specs.Partitions.{pack, pack_value, header_partition, body_partition}
use Rattle.track_terms.specs.Primer.{all_entries, entry_bytes, has_tag, primer}
use Rattle.track_terms.specs.Sets.{bytes, item_of, rows, set_items, set_of, sets}
use Rattle.track_terms.specs.Values.{batch, value_of}
use Rattle.track_terms.specs.declared.set.SetRow.{SetRow}
use Rattle.track_terms.specs.declared.key.TheConstants.{FILL, PATTERN, PRIMER, SET}
use Rattle.track_terms.specs.declared.kind.TrackKind.{TrackKind}
use Rattle.track_terms.specs.declared.kind.TrackKind.TheVariants.{Picture, Sound}
use Rattle.track_terms.specs.declared.partition.Partition.{Partition}
use Rattle.track_terms.proofs.KeyLaws.{length-key_of}
use Rattle.track_terms.proofs.Sizes.{rows_size, value_size, length-container, length-set_value, length-value_of}

pub length-key_length : (key : List ℕ) (n : ℕ) → length key ≡ 16 → length (key_length key n) ≡ 20
unfolding key_length
length-key_length key n sixteen = omega (arith, length-append {A = ℕ})

pub length-item : (key value : List ℕ) → length key ≡ 16 → length (item key value) ≡ 20 + length value
length-item key value sixteen =
    omega (arith, length-append (key_length key (length value)) value, length-key_length key (length value) sixteen)

-- ---- sets

-- of the rows of the set of this number
pub set_size : ℕ → ℕ
set_size k = rows_size (filter (λ row. row.set == k) rows)

-- no value and no set is too long for its length
rows_small : list_all (λ row. nat_lt (value_size row.value) 65536) rows ≡ true
unfolding rows
rows_small = refl

pub values_small : (facts : PlainFacts) (k : ℕ) → length facts.asset ≡ 16 → All (λ item. length item.value < 2 ^ 16) (set_items facts k)
values_small facts k sixteen =
    let Small : SetRow → Type 0 = λ row. length (value_of facts row.value) < 2 ^ 16 in
    let test : SetRow → Bool = λ row. nat_lt (value_size row.value) 65536 in
    let each : All Small rows =
    All-weaker (λ row. test row ≡ true) Small
    (λ row p. omega (arith, ltb-true (value_size row.value) 65536 p, length-value_of facts row.value sixteen))
    rows (AllPass-from_list_all test rows rows_small) in
    All-map (λ item. length item.value < 2 ^ 16) (item_of facts) (filter (λ row. row.set == k) rows)
    (All-filter (λ row. row.set == k) Small rows each)

rows_size-step : (kept : Bool) (row : SetRow) (rs rs' : List SetRow) → rows_size rs' ≤ rows_size rs
    → rows_size (if kept then row ∷ rs' else rs') ≤ rows_size (row ∷ rs)
unfolding rows_size
rows_size-step true row rs rs' fewer = omega (arith, fewer)
rows_size-step false row rs rs' fewer = omega (arith, fewer)

rows_size-filter : (p : SetRow → Bool) (rs : List SetRow) → rows_size (filter p rs) ≤ rows_size rs
rows_size-filter p [] = omega arith
rows_size-filter p (row ∷ rs) = rows_size-step (p row) row rs (filter p rs) (rows_size-filter p rs)

rows_size-rows : rows_size rows < 2 ^ 24
unfolding rows_size rows
rows_size-rows = lit< tt

pub set_small : (facts : PlainFacts) (k : ℕ) → length facts.asset ≡ 16 → length (set_value (set_items facts k)) < 2 ^ 24
set_small facts k sixteen =
    omega (
      arith,
      length-set_value facts (filter (λ row. row.set == k) rows) sixteen,
      rows_size-filter (λ row. row.set == k) rows,
      rows_size-rows,
    )

length-set_of : (facts : PlainFacts) (p : ℕ × ℕ) → length facts.asset ≡ 16 → length (set_of facts p) ≡ 20 + set_size p.0
unfolding set_size
length-set_of facts (k, byte) sixteen =
    let key : length (set_key byte) ≡ 16 = omega (arith, length-set {A = ℕ}, length-key_of SET) in
    length-item (set_key byte) (set_value (set_items facts k)) key
    ∙ ap (λ n. 20 + n) (length-set_value facts (filter (λ row. row.set == k) rows) sixteen)

sets_size : List (ℕ × ℕ) → ℕ
sets_size [] = 0
sets_size (p ∷ ps) = 20 + set_size p.0 + sets_size ps

length-sets_of : (facts : PlainFacts) (ps : List (ℕ × ℕ)) → length facts.asset ≡ 16 → length (flat_map (set_of facts) ps) ≡ sets_size ps
unfolding sets_size
length-sets_of facts [] sixteen = refl
length-sets_of facts (p ∷ ps) sixteen =
    omega (arith, length-append (set_of facts p) (flat_map (set_of facts) ps), length-set_of facts p sixteen, length-sets_of facts ps sixteen)

-- of the sets of a file of this kind
abbrev sets_of_kind : TrackKind → ℕ
sets_of_kind Picture = 1565
sets_of_kind Sound = 1554

sets_size-kind : (kind : TrackKind) → sets_size (filter (λ (k, byte). has_set kind k) (enumerate_from 1 bytes)) ≡ sets_of_kind kind
unfolding sets_size set_size rows_size rows bytes
sets_size-kind Picture = refl
sets_size-kind Sound = refl

-- ---- the primer

length-entries : (kind : TrackKind) → length (flat_map (λ i. i) (map entry_bytes (filter (λ entry. has_tag kind entry.tag) all_entries))) ≡ 792
unfolding key_of rows all_entries
length-entries Picture = refl
length-entries Sound = refl

pub count_entries : (kind : TrackKind) → length (filter (λ entry. has_tag kind entry.tag) all_entries) ≡ 44
unfolding rows all_entries
count_entries Picture = refl
count_entries Sound = refl

-- the entries of a file of this kind
abbrev pub primer_batch : TrackKind → List ℕ
primer_batch kind = batch 18 (map entry_bytes (filter (λ entry. has_tag kind entry.tag) all_entries))

pub length-primer_batch : (kind : TrackKind) → length (primer_batch kind) ≡ 800
length-primer_batch kind = omega (arith, length-entries kind)

pub length-primer : (kind : TrackKind) → length (primer kind) ≡ 820
length-primer kind =
    let key : length (key_of PRIMER) ≡ 16 = length-key_of PRIMER in
    length-item (key_of PRIMER) (primer_batch kind) key ∙ ap (λ n. 20 + n) (length-primer_batch kind)

-- ---- packs

pub length-pack_value : (kind : TrackKind) (p : Partition) → length (pack_value kind p) ≡ 104
length-pack_value kind p =
    let container = key_of (terms_of kind).container in
    omega (
      arith,
      length-append (key_of PATTERN) (batch 16 (container ∷ [])),
      length-append container [],
      length-key_of PATTERN,
      length-container kind,
    )

pub length-pack : (kind : TrackKind) (p : Partition) → length p.key ≡ 4 → length (pack kind p) ≡ 124
unfolding pack
length-pack kind p four =
    let key : length (key_of p.key) ≡ 16 = omega (arith, length-key_of p.key) in
    length-item (key_of p.key) (pack_value kind p) key ∙ ap (λ n. 20 + n) (length-pack_value kind p)

-- ---- the head

metadata_end-parts : (kind : TrackKind) → 944 + sets_of_kind kind ≡ metadata_end kind
metadata_end-parts Picture = refl
metadata_end-parts Sound = refl

pub length-metadata : (facts : PlainFacts) (footer : ℕ) → length facts.asset ≡ 16
    → length (metadata facts footer) ≡ metadata_end facts.kind
length-metadata facts footer sixteen =
    let first = pack facts.kind (header_partition footer) in
    omega (
      arith,
      length-append (first ++ primer facts.kind) (sets facts),
      length-append first (primer facts.kind),
      length-pack facts.kind (header_partition footer) refl,
      length-primer facts.kind,
      length-sets_of facts (filter (λ (k, byte). has_set facts.kind k) (enumerate_from 1 bytes)) sixteen,
      sets_size-kind facts.kind,
      metadata_end-parts facts.kind,
    )

-- there is room for the fill
pub metadata_end-le : (kind : TrackKind) → metadata_end kind ≤ 16364
metadata_end-le Picture = lit≤ tt
metadata_end-le Sound = lit≤ tt

length-fill : (n : ℕ) → n ≤ 16364 → length (fill n) ≡ 16384 - n
length-fill n fits =
    let key : length (key_of FILL) ≡ 16 = length-key_of FILL in
    let zeros : List ℕ = replicate (16384 - 20 - n) 0 in
    let count : length zeros ≡ 16384 - 20 - n = length-replicate (16384 - 20 - n) 0 in
    omega (arith, length-item (key_of FILL) zeros key, count)

pub length-head : (facts : PlainFacts) (footer : ℕ) → length facts.asset ≡ 16 → length (head facts footer) ≡ 16508
length-head facts footer sixteen =
    let front = metadata facts footer in
    let behind = pack facts.kind (body_partition footer) in
    let fits : length front ≤ 16364 = omega (arith, length-metadata facts footer sixteen, metadata_end-le facts.kind) in
    omega (
      arith,
      length-append (front ++ fill (length front)) behind,
      length-append front (fill (length front)),
      fits,
      length-fill (length front) fits,
      length-pack facts.kind (body_partition footer) refl,
    )
