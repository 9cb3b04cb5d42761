use Rattle.std.proofs.Common.{◌≡◌, ◌∙◌, sym, ap, true, false}
use Rattle.std.proofs.lemmas.Result.{err_from_is_err_and}
use Rattle.codec_terms.specs.TagTree.{leaf_value}
use Rattle.codec_terms.specs.PacketReading.{is_in_layer}
use Rattle.packet_reading.proofs.BlockSteps.{unread, absent, planes_unread, included-read, included-refused}
use Rattle.packet_reading.proofs.block_head.read_block.Goals as goal

pub returns-in_err-read_leaf-clause-refused : goal.returns-in_err-read_leaf-clause-refused
returns-in_err-read_leaf-clause-refused c =
    let e = err_from_is_err_and c.from_residual.result c.from_residual.ensures.1 in
    let a = c.args in
    rw (e.1, e.2) (λ more other. unread a.bytes.now a.mb a.at a.layers.now a.planes.now a.place.now more c.in_err-read_leaf.field-0.0 c.in_err-read_leaf.ensures.refused)

pub returns-then-not-is_in_layer-clause-read : goal.returns-then-not-is_in_layer-clause-read
returns-then-not-is_in_layer-clause-read c = λ more.
    let a = c.args in
    let layers = c.read_leaf.new.tree in
    let out : is_in_layer a.bytes.now (leaf_value layers a.at) ≡ false = ap (is_in_layer a.bytes.now) (sym c.value.ensures) ∙ sym c.is_in_layer.ensures ∙ c.if-not-is_in_layer.true in
    absent a.bytes.now a.mb a.at a.layers.now a.planes.now a.place.now layers c.read_leaf.new.place c.in_ok-read_leaf.ensures.read c.absent.result more out c.absent.ensures

pub returns-in_err-read_leaf-2-clause-refused : goal.returns-in_err-read_leaf-2-clause-refused
returns-in_err-read_leaf-2-clause-refused c =
    let e = err_from_is_err_and c.from_residual-in_err-read_leaf-2.result c.from_residual-in_err-read_leaf-2.ensures.1 in
    let a = c.args in
    let layers = c.read_leaf.new.tree in
    let within : is_in_layer a.bytes.now (leaf_value layers a.at) ≡ true = ap (is_in_layer a.bytes.now) (sym c.value.ensures) ∙ sym c.is_in_layer.ensures ∙ c.if-not-is_in_layer.false in
    rw (e.1, e.2)
    (λ more other. planes_unread a.bytes.now a.mb a.at a.layers.now a.planes.now a.place.now layers c.read_leaf.new.place c.in_ok-read_leaf.ensures.read within more
    c.in_err-read_leaf-2.field-0.0 c.in_err-read_leaf-2.ensures.refused)

pub returns-clause-read : goal.returns-clause-read
returns-clause-read c =
    let a = c.args in
    let layers = c.read_leaf.new.tree in
    let within : is_in_layer a.bytes.now (leaf_value layers a.at) ≡ true = ap (is_in_layer a.bytes.now) (sym c.value.ensures) ∙ sym c.is_in_layer.ensures ∙ c.if-not-is_in_layer.false in
    included-read a.bytes.now a.mb a.at a.layers.now a.planes.now a.place.now layers c.read_leaf.new.place c.in_ok-read_leaf.ensures.read within
    c.read_leaf-2.new.tree c.read_leaf-2.new.place c.read_rest.new.place c.in_ok-read_leaf-2.ensures.read c.read_rest.result c.read_rest.ensures.read

pub returns-clause-refused : goal.returns-clause-refused
returns-clause-refused c =
    let a = c.args in
    let layers = c.read_leaf.new.tree in
    let within : is_in_layer a.bytes.now (leaf_value layers a.at) ≡ true = ap (is_in_layer a.bytes.now) (sym c.value.ensures) ∙ sym c.is_in_layer.ensures ∙ c.if-not-is_in_layer.false in
    included-refused a.bytes.now a.mb a.at a.layers.now a.planes.now a.place.now layers c.read_leaf.new.place c.in_ok-read_leaf.ensures.read within
    c.read_leaf-2.new.tree c.read_leaf-2.new.place c.read_rest.new.place c.in_ok-read_leaf-2.ensures.read c.read_rest.result c.read_rest.ensures.refused
