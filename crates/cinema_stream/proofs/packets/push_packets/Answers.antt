use Rattle.std.proofs.Common.{◌≡◌, ◌∙◌, ◌<◌, ◌≤◌, ℕ, ◌++◌, List, length, ap, arith, subst}
use Rattle.codec_terms.specs.declared.picture.Shape.{Shape}
use Rattle.codec_terms.specs.Precincts.{packet_order}
use Rattle.codec_terms.specs.Codestream.{component_packets}
use Rattle.packet_places.specs.Places.{IsAt}
use Rattle.cinema_stream.specs.Lengths.{packet_of}
use Rattle.cinema_stream.proofs.Written.{packets-first, packets-none, packets-next, one-more, no-more}
use Rattle.cinema_stream.proofs.packets.push_packets.Goals as goal

pub loop-n-init : goal.loop-n-init
loop-n-init c = λ q coded. ap (λ (bytes : List ℕ). c.args.out.now ++ bytes) (packets-first c.args.blocks.now.shape q c.args.cut c.args.component)

pub loop-n-preserved : goal.loop-n-preserved
loop-n-preserved c = λ q coded.
    let shape : Shape = c.args.blocks.now.shape in
    let p = c.precinct_at-precinct.result in
    let is : IsAt shape c.args.component c.loop-n.n p = subst (λ (s : Shape). IsAt s c.args.component c.loop-n.n p) c.shape-shape.ensures.shape c.precinct_at-precinct.ensures in
    let count : c.packets_of-n-end.result ≡ length (packet_order shape) = c.packets_of-n-end.ensures.number ∙ ap (λ (s : Shape). length (packet_order s)) c.shape-shape.ensures.shape in
    let inside : c.loop-n.n < length (packet_order shape) = omega arith in
    one-more (c.args.out.now ++ component_packets shape q c.args.cut c.args.component) c.loop-n.out c.push_packet.new.out (packet_of shape q c.args.cut p.component p.resolution p.number) _ _
    (c.loop-n.invariant q coded) (packets-next shape q c.args.cut c.args.component c.loop-n.n p is inside) (c.in_ok-push_packet.ensures q coded)

pub returns : goal.returns
returns c = λ q coded.
    let shape : Shape = c.args.blocks.now.shape in
    let count : c.packets_of-n-end.result ≡ length (packet_order shape) = c.packets_of-n-end.ensures.number ∙ ap (λ (s : Shape). length (packet_order s)) c.shape-shape.ensures.shape in
    let past : length (packet_order shape) ≤ c.loop-n.n = omega arith in
    no-more (c.args.out.now ++ component_packets shape q c.args.cut c.args.component) c.loop-n.out _ (c.loop-n.invariant q coded) (packets-none shape q c.args.cut c.args.component c.loop-n.n past)
