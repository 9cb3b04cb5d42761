use Rattle.std.proofs.Common.{leb, rules}
use Rattle.std.proofs.lemmas.List.Sorted.{IsPartitionPoint-from_clause}
use Rattle.xyz_convert.proofs.Codes.{thresholds-partitioned, code_of-point}
use Rattle.xyz_convert.proofs.entries.code_of.Goals as goal

pub returns : goal.returns
returns c =
    let parted = thresholds-partitioned c.args.above.now c.args.sum c.requires.thresholds c.requires.sum in
    let point = IsPartitionPoint-from_clause (λ y. leb y c.args.sum) _ _ c.partition_point.ensures.partitioned parted (λ a r q k. search rules) in
    code_of-point c.args.above.now c.args.sum c.partition_point.result c.requires.thresholds c.requires.sum c.partition_point.ensures.bound point
