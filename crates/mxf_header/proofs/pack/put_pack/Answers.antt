use Rattle.std.proofs.Common.{◌≡◌, ◌∙◌, ◌++◌, ap}
use Rattle.klv_base.specs.Items.{key_length}
use Rattle.track_terms.specs.Keys.{key_of}
use Rattle.track_terms.specs.Kinds.{terms_of}
use Rattle.mxf_header.proofs.Packs.{pack-pieces}
use Rattle.mxf_header.proofs.Pieces.{pieces_7}
use Rattle.mxf_header.proofs.pack.put_pack.Goals as goal

pub returns : goal.returns
returns c =
    let head : c.key_length.result ≡ key_length (key_of c.args.partition.now.key) 104 =
    c.key_length.ensures.bytes ∙ ap (λ key. key_length key 104) c.key_of.ensures in
    let container : c.key_of-3.result ≡ key_of (terms_of c.args.kind).container =
    c.key_of-3.ensures ∙ ap (λ terms. key_of terms.container) c.terms.ensures in
    pieces_7 c.args.out.now.items c.extend_from_slice.new.self.items c.extend_from_slice-2.new.self.items c.put_places.new.out.items
    c.put_streams.new.out.items c.extend_from_slice-3.new.self.items c.extend_from_slice-4.new.self.items
    c.extend_from_slice-5.new.self.items _ _ _ _ _ _ _
    c.in_ok-extend_from_slice.ensures.items c.in_ok-extend_from_slice-2.ensures.items c.in_ok-put_places.ensures
    c.in_ok-put_streams.ensures c.in_ok-extend_from_slice-3.ensures.items c.in_ok-extend_from_slice-4.ensures.items
    c.in_ok-extend_from_slice-5.ensures.items
    ∙ ap (λ p. c.args.out.now.items ++ p)
    (pack-pieces c.args.kind c.args.partition.now c.key_length.result c.key_of-2.result c.key_of-3.result head c.key_of-2.ensures container)
