use Rattle.std.proofs.Common.{◌∙◌, ap}
use Rattle.klv_base.specs.Items.{key_length}
use Rattle.mxf_track.proofs.RandomIndexes.{random_index-pieces}
use Rattle.mxf_track.proofs.random_index.put_random_index.Goals as goal

pub returns : goal.returns
returns c =
    random_index-pieces c.args.footer c.key_length.result c.to_be_bytes.result c.args.out.now.items
    c.extend_from_slice.new.self.items c.put_partition.new.out.items c.put_partition-2.new.out.items
    c.put_partition-3.new.out.items c.extend_from_slice-2.new.self.items
    (c.key_length.ensures.bytes ∙ ap (λ key. key_length key 40) c.key_of.ensures) c.to_be_bytes.ensures
    c.in_ok-extend_from_slice.ensures.items c.in_ok-put_partition.ensures c.in_ok-put_partition-2.ensures
    c.in_ok-put_partition-3.ensures c.in_ok-extend_from_slice-2.ensures.items
