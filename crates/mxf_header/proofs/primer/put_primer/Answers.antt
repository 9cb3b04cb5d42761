use Rattle.std.proofs.Common.{◌≡◌, ◌∙◌, length, map, ap, arith}
use Rattle.track_terms.specs.Primer.{entry_bytes}
use Rattle.track_terms.specs.Values.{batch}
use Rattle.track_terms.proofs.HeadSizes.{count_entries, length-primer_batch}
use Rattle.mxf_header.proofs.primer.put_primer.Goals as goal

pub primer_value-requires : goal.primer_value-requires
primer_value-requires c =
    let count : length c.deref.result.now ≡ 44 =
    ap length (c.deref.ensures.value ∙ c.in_ok-entries.ensures) ∙ count_entries c.args.kind in
    omega (arith, count)

pub put_item-requires : goal.put_item-requires
put_item-requires c =
    let size : length c.deref-2.result.now ≡ 800 =
    ap length (c.deref-2.ensures.value ∙ c.in_ok-value.ensures)
    ∙ ap (λ entries. length (batch 18 (map entry_bytes entries))) (c.deref.ensures.value ∙ c.in_ok-entries.ensures)
    ∙ length-primer_batch c.args.kind in
    omega (arith, size)
