use Rattle.std.proofs.Common.{◌≡◌, ◌∙◌, ◌++◌, ◌*◌, ap, rules}
use Rattle.std.specs.Prelude.{codes}
use Rattle.std.specs.Fmt.{decimal}
use Rattle.std.specs.Int.{to_be_bytes, w64}
use Rattle.track_terms.specs.Values.{id_of, rational}
use Rattle.mxf_track.proofs.Puts.{description-puts, AreValues}
use Rattle.mxf_track.proofs.segment.put_description.Goals as goal

values : (c : goal.After-drop-name-2) → AreValues c.args.facts.now c.args.number c.args.count c.in_ok-id.field-0 c.rational.result
    c.to_be_bytes.result c.to_be_bytes-2.result c.to_be_bytes-3.result c.to_be_bytes-4.result c.to_be_bytes-5.result
values c =
    let name : c.as_bytes.result.now ≡ codes "index-" ++ decimal c.args.number = search rules in
    record {
      id_is = c.in_ok-id.ensures ∙ ap (id_of c.args.facts.now) name;
      rate_is = c.rational.ensures ∙ ap (λ n. rational n 1) (c.from-2.ensures ∙ ap (λ f. f.fps) c.facts.view_is);
      first_is = c.to_be_bytes.ensures ∙ ap (λ n. to_be_bytes w64 (5000 * n)) c.from.ensures;
      long_is = c.to_be_bytes-2.ensures;
      unit_is = c.to_be_bytes-3.ensures;
      stream_is = c.to_be_bytes-4.ensures;
      body_is = c.to_be_bytes-5.ensures;
    }

pub returns : goal.returns
returns c =
    description-puts c.args.facts.now c.args.number c.args.count c.in_ok-id.field-0 c.rational.result c.to_be_bytes.result
    c.to_be_bytes-2.result c.to_be_bytes-3.result c.to_be_bytes-4.result c.to_be_bytes-5.result c.args.out.now.items
    c.put_set_item.new.out.items c.put_set_item-2.new.out.items c.put_set_item-3.new.out.items c.put_set_item-4.new.out.items
    c.put_set_item-5.new.out.items c.put_set_item-6.new.out.items c.put_set_item-7.new.out.items c.put_set_item-8.new.out.items
    (values c) c.in_ok-put_set_item.ensures c.in_ok-put_set_item-2.ensures c.in_ok-put_set_item-3.ensures
    c.in_ok-put_set_item-4.ensures c.in_ok-put_set_item-5.ensures c.in_ok-put_set_item-6.ensures
    c.in_ok-put_set_item-7.ensures c.in_ok-put_set_item-8.ensures
