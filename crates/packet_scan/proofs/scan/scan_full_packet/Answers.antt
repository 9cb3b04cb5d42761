use Rattle.std.proofs.Common.{◌≡◌, ◌∙◌, sym, ap, ℕ, List, length, Ok, Err}
use Rattle.std.proofs.lemmas.Result.{err_from_is_err_and}
use Rattle.codec_terms.specs.Reading.{on_ok}
use Rattle.codec_terms.specs.PacketReading.{bands_read}
use Rattle.packet_scan.specs.declared.scan.Scanned.{Scanned}
use Rattle.packet_scan.specs.Scanning.{with_band_sizes, ends_read}
use Rattle.packet_scan.proofs.Scans.{end-scanned, scanned-refused, told}
use Rattle.packet_scan.proofs.scan.scan_full_packet.Goals as goal

pub returns-in_err-next-clause-refused : goal.returns-in_err-next-clause-refused
returns-in_err-next-clause-refused c =
    let e = err_from_is_err_and c.from_residual-in_err-next.result c.from_residual-in_err-next.ensures.1 in
    let a = c.args in
    let sizes = c.read_bands.new.sizes in
    let read = ap (λ sizes. with_band_sizes sizes (bands_read a.bytes.now a.shapes.now a.place.now)) (sym c.new-sizes.ensures) ∙ c.in_ok-read_bands.ensures.read in
    let past : ends_read (length a.bytes.now) sizes c.in_ok-start.start ≡ Err c.in_err-next.field-0.0 =
    ap (λ sizes. ends_read (length a.bytes.now) sizes c.in_ok-start.start) (sym c.as_slice.ensures) ∙ c.in_err-next.ensures.refused in
    rw (e.1, e.2) (scanned-refused _ c.in_err-next.field-0.0
    (end-scanned a.bytes.now a.shapes.now a.place.now c.read_bands.new.place sizes read c.in_ok-start.start (sym c.in_ok-start.ensures)
    ∙ ap (λ r. on_ok r (told sizes)) past))

pub returns-clause-read : goal.returns-clause-read
returns-clause-read c =
    let a = c.args in
    let sizes = c.read_bands.new.sizes in
    let read = ap (λ sizes. with_band_sizes sizes (bands_read a.bytes.now a.shapes.now a.place.now)) (sym c.new-sizes.ensures) ∙ c.in_ok-read_bands.ensures.read in
    let end : ends_read (length a.bytes.now) sizes c.in_ok-start.start ≡ Ok c.in_ok-next.next =
    ap (λ sizes. ends_read (length a.bytes.now) sizes c.in_ok-start.start) (sym c.as_slice.ensures) ∙ c.in_ok-next.ensures.end in
    end-scanned a.bytes.now a.shapes.now a.place.now c.read_bands.new.place sizes read c.in_ok-start.start (sym c.in_ok-start.ensures)
    ∙ ap (λ r. on_ok r (told sizes)) end
    ∙ ap (λ (s : List ℕ). let t : Scanned = record { blocks = length s; next = c.in_ok-next.next } in Ok t) (sym c.as_slice-2.ensures)
