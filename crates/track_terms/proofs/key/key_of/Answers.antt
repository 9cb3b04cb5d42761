use Rattle.std.proofs.Common.{◌≡◌, length, rules}
use Rattle.track_terms.proofs.KeyLaws.{key_of-bytes}
use Rattle.track_terms.proofs.key.key_of.Goals as goal

pub returns : goal.returns
returns c =
    let four : length c.args.groups ≡ 4 = search rules in
    key_of-bytes c.args.groups _ _ _ _ four c.to_be_bytes.ensures c.to_be_bytes-2.ensures c.to_be_bytes-3.ensures c.to_be_bytes-4.ensures
