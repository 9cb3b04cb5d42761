use Rattle.std.proofs.Common.{◌≡◌, ◌∙◌, sym, ap, ap₂, ℕ, Bool, false, Ok}
use Rattle.codec_terms.specs.Reading.{on_ok}
use Rattle.codec_terms.specs.PacketReading.{bit_read, packet_from, packet_read}
use Rattle.packet_scan.specs.declared.scan.Scanned.{Scanned}
use Rattle.packet_scan.specs.Scanning.{scanned}
use Rattle.packet_scan.proofs.Scans.{empty-included}
use Rattle.packet_scan.proofs.scan.scan_packet.Goals as goal

pub returns-clause-read : goal.returns-clause-read
unfolding packet_read
returns-clause-read c =
    let b = c.args.bytes.now in
    let shapes = c.args.shapes.now in
    let bit : bit_read b (record { next = c.args.at; byte = 0; left = 0 }) ≡ Ok (false, c.read_bit.new.self) =
    ap (bit_read b) (sym c.start-place.ensures) ∙ c.in_ok-read_bit.ensures.read ∙ ap (λ (bit : Bool). Ok (bit, c.read_bit.new.self)) c.if-branch.false in
    ap (λ r. scanned (on_ok r (packet_from b shapes))) bit
    ∙ ap₂ (λ (blocks next : ℕ). let s : Scanned = record { blocks = blocks; next = next } in Ok s) (empty-included shapes) (sym c.next.ensures)
