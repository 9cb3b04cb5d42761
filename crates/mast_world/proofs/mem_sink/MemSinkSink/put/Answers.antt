use Rattle.std.proofs.Common.{rules}
use Rattle.mast_world.proofs.mem_sink.MemSinkSink.put.Goals as goal

pub returns-in-Err-clause-err : goal.returns-in-Err-clause-err
returns-in-Err-clause-err c = λ _. (0, search rules)
