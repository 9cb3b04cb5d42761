use Rattle.std.proofs.Common.{◌≡◌, ◌∙◌, ◌++◌, [], ap, ap₂, length, sym}
use Rattle.track_terms.specs.Partitions.{footer_partition, pack}
use Rattle.track_terms.specs.Tail.{random_index, segments, tail}
use Rattle.mxf_header.proofs.Pieces.{pieces_3}
use Rattle.mxf_track.specs.Sizes.{segments_size, tail_size}
use Rattle.mxf_track.proofs.Segments.{length-segments, length-tail}
use Rattle.mxf_track.proofs.writer.tail.Goals as goal

written : (c : goal.After-from) → c.from.result ≡ tail c.args.facts.now c.args.places.now c.args.footer
written c =
    let facts = c.args.facts.now in
    let places = c.args.places.now in
    let frames = ap (λ f. f.frames) c.facts.view_is ∙ sym c.requires.count in
    let size : c.segments_length-index_length.result ≡ length (segments facts places) =
    c.segments_length-index_length.ensures.size ∙ ap segments_size frames ∙ sym (length-segments facts places) in
    let partition : c.footer-partition.result ≡ footer_partition c.args.footer (length (segments facts places)) =
    c.footer-partition.ensures ∙ ap (footer_partition c.args.footer) size in
    let kind = ap (λ f. f.kind) c.facts.view_is in
    c.from.ensures
    ∙ pieces_3 [] c.put_pack.new.out.items c.put_segments.new.out.items c.put_random_index.new.out.items _ _ _
    (c.in_ok-put_pack.ensures ∙ ap (λ o. o ++ pack c.facts.inside.kind c.footer-partition.result) c.in_ok-out.ensures.items)
    c.in_ok-put_segments.ensures c.in_ok-put_random_index.ensures
    ∙ ap₂ (λ kind p. pack kind p ++ segments facts places ++ random_index c.args.footer) kind partition

pub returns-clause-bytes : goal.returns-clause-bytes
returns-clause-bytes c = written c

pub returns-clause-size : goal.returns-clause-size
returns-clause-size c =
    ap length (written c)
    ∙ length-tail c.args.facts.now c.args.places.now c.args.footer
    ∙ ap tail_size c.requires.count
