use Rattle.film_reader.proofs.assets.read_asset.Goals as goal

pub returns-clause-new : goal.returns-clause-new
returns-clause-new c =
    rw c.in_ok-copy_of.ensures (rw c.as_bytes-2.ensures.value (rw c.as_bytes.ensures.value at (c.has_id.ensures.absent c.if-has_id.false)))
