-- The law of included code-blocks.
use Rattle.stream_laws.proofs.BlockCounts.{included_count-is}
use Rattle.stream_laws.proofs.included_block_laws.Goals as goal

pub returns : goal.returns
returns c = record { count = included_count-is }
