use Rattle.mast_world.proofs.mem_source.MemSourceSource.read.Goals as goal

pub copy_to-requires : goal.copy_to-requires
copy_to-requires c =
    let found = rw (c.unwrap.ensures, c.as_slice.ensures) at c.find_file.ensures in
    rw (← found) at (c.requires tt)
