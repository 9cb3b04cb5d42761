use Rattle.std.proofs.Common.{◌≡◌, ◌∙◌, ◌+◌, ◌*◌, sym, ap, true, false}
use Rattle.std.proofs.lemmas.Result.{err_from_is_err_and}
use Rattle.codec_terms.specs.TagTree.{leaf_value}
use Rattle.codec_terms.specs.PacketReading.{is_in_layer, leaf_read}
use Rattle.header_bits.specs.Heads.{head_read}
use Rattle.packet_scan.specs.Trees.{tree_of}
use Rattle.packet_scan.proofs.BlockSteps.{unread, absent, planes_unread, included, head_unread}
use Rattle.packet_scan.proofs.block.read_block.Goals as goal

pub returns-in_err-layer-clause-refused : goal.returns-in_err-layer-clause-refused
returns-in_err-layer-clause-refused c =
    let e = err_from_is_err_and c.from_residual.result c.from_residual.ensures.1 in
    let a = c.args in
    rw (e.1, e.2) (λ more. unread a.bytes.now a.mb (a.at.y * a.layers.now.columns + a.at.x) (tree_of a.layers.now) (tree_of a.planes.now) a.place.now more c.in_err-layer.field-0.0 c.in_err-layer.ensures.refused)

pub returns-then-not-is_in_layer-clause-read : goal.returns-then-not-is_in_layer-clause-read
returns-then-not-is_in_layer-clause-read c = λ more.
    let a = c.args in
    let at = a.at.y * a.layers.now.columns + a.at.x in
    let layers = tree_of c.read.new.self in
    let out : is_in_layer a.bytes.now (leaf_value layers at) ≡ false =
    ap (is_in_layer a.bytes.now) (sym c.in_ok-layer.ensures.value) ∙ sym c.is_in_layer.ensures ∙ c.if-not-is_in_layer.true in
    absent a.bytes.now a.mb at (tree_of a.layers.now) (tree_of a.planes.now) a.place.now layers c.read.new.place c.in_ok-layer.ensures.read a.sizes.now more out

pub returns-in_err-zero_planes-clause-refused : goal.returns-in_err-zero_planes-clause-refused
returns-in_err-zero_planes-clause-refused c =
    let e = err_from_is_err_and c.from_residual-in_err-zero_planes.result c.from_residual-in_err-zero_planes.ensures.1 in
    let a = c.args in
    let at = a.at.y * a.layers.now.columns + a.at.x in
    let layers = tree_of c.read.new.self in
    let within : is_in_layer a.bytes.now (leaf_value layers at) ≡ true =
    ap (is_in_layer a.bytes.now) (sym c.in_ok-layer.ensures.value) ∙ sym c.is_in_layer.ensures ∙ c.if-not-is_in_layer.false in
    rw (e.1, e.2) (λ more. planes_unread a.bytes.now a.mb at (tree_of a.layers.now) (tree_of a.planes.now) a.place.now layers c.read.new.place c.in_ok-layer.ensures.read within more
    c.in_err-zero_planes.field-0.0 (ap (λ columns. leaf_read a.bytes.now a.mb (a.at.y * columns + a.at.x) (tree_of a.planes.now) c.read.new.place) (sym c.requires.columns) ∙ c.in_err-zero_planes.ensures.refused))

pub returns-in_err-head-clause-refused : goal.returns-in_err-head-clause-refused
returns-in_err-head-clause-refused c =
    let e = err_from_is_err_and c.from_residual-in_err-head.result c.from_residual-in_err-head.ensures.1 in
    let a = c.args in
    let at = a.at.y * a.layers.now.columns + a.at.x in
    let layers = tree_of c.read.new.self in
    let within : is_in_layer a.bytes.now (leaf_value layers at) ≡ true =
    ap (is_in_layer a.bytes.now) (sym c.in_ok-layer.ensures.value) ∙ sym c.is_in_layer.ensures ∙ c.if-not-is_in_layer.false in
    let planes = tree_of c.read-2.new.self in
    let value : leaf_value planes at ≡ c.in_ok-zero_planes.zero_planes =
    ap (λ columns. leaf_value planes (a.at.y * columns + a.at.x)) (sym c.requires.columns) ∙ sym c.in_ok-zero_planes.ensures.value in
    rw (e.1, e.2) (λ more. head_unread a.bytes.now a.mb at (tree_of a.layers.now) (tree_of a.planes.now) a.place.now layers c.read.new.place c.in_ok-layer.ensures.read within
    planes c.read-2.new.place (ap (λ columns. leaf_read a.bytes.now a.mb (a.at.y * columns + a.at.x) (tree_of a.planes.now) c.read.new.place) (sym c.requires.columns) ∙ c.in_ok-zero_planes.ensures.read)
    more c.in_err-head.field-0.0 (ap (λ known. head_read a.bytes.now a.mb known c.read-2.new.place) value ∙ c.in_err-head.ensures.refused))

pub returns-clause-read : goal.returns-clause-read
returns-clause-read c = λ more.
    let a = c.args in
    let at = a.at.y * a.layers.now.columns + a.at.x in
    let layers = tree_of c.read.new.self in
    let within : is_in_layer a.bytes.now (leaf_value layers at) ≡ true =
    ap (is_in_layer a.bytes.now) (sym c.in_ok-layer.ensures.value) ∙ sym c.is_in_layer.ensures ∙ c.if-not-is_in_layer.false in
    let planes = tree_of c.read-2.new.self in
    let value : leaf_value planes at ≡ c.in_ok-zero_planes.zero_planes =
    ap (λ columns. leaf_value planes (a.at.y * columns + a.at.x)) (sym c.requires.columns) ∙ sym c.in_ok-zero_planes.ensures.value in
    rw c.push.ensures
    (included a.bytes.now a.mb at (tree_of a.layers.now) (tree_of a.planes.now) a.place.now layers c.read.new.place c.in_ok-layer.ensures.read within
    planes c.read-2.new.place (ap (λ columns. leaf_read a.bytes.now a.mb (a.at.y * columns + a.at.x) (tree_of a.planes.now) c.read.new.place) (sym c.requires.columns) ∙ c.in_ok-zero_planes.ensures.read)
    a.sizes.now c.in_ok-head.head c.read_included.new.place more (ap (λ known. head_read a.bytes.now a.mb known c.read-2.new.place) value ∙ c.in_ok-head.ensures.read))
