use Rattle.std.proofs.Common.{◌≡◌, ◌∙◌, ◌++◌, ◌∷◌, [], ap, ap₂, append_assoc, take, rules}
use Rattle.sha1.specs.Sha1.{sha1}
use Rattle.uuid.specs.Parts.{with_variant, with_version}
use Rattle.uuid.specs.declared.Variant.TheVariants.{RFC4122}
use Rattle.uuid.specs.declared.Version.TheVariants.{Sha1}
use Rattle.track_terms.specs.Values.{id_of}
use Rattle.mxf_header.proofs.Pieces.{pieces_3}
use Rattle.mxf_header.proofs.ids.id.Goals as goal

pub returns : goal.returns
unfolding id_of
returns c =
    let namespace : c.from_bytes.result ≡ c.args.facts.now.namespace = search rules in
    let first : c.as_slice.result.now ≡ c.args.facts.now.name = search rules in
    let name : c.deref.result.now ≡ c.args.facts.now.name ++ 35 ∷ c.args.word.now =
    c.deref.ensures.value
    ∙ pieces_3 [] c.extend_from_slice.new.self.items c.extend_from_slice-2.new.self.items c.extend_from_slice-3.new.self.items _ _ _
    (c.in_ok-extend_from_slice.ensures.items ∙ ap (λ o. o ++ c.as_slice.result.now) c.new-name.ensures.items) c.in_ok-extend_from_slice-2.ensures.items c.in_ok-extend_from_slice-3.ensures.items
    ∙ ap (λ n. n ++ 35 ∷ [] ++ c.args.word.now) first
    ∙ append_assoc c.args.facts.now.name (35 ∷ []) c.args.word.now in
    c.into_bytes.ensures
    ∙ c.new_v5.ensures.value
    ∙ ap₂ (λ space name. with_version (with_variant (take 16 (sha1 (space ++ name))) RFC4122) Sha1) namespace name
