use Rattle.std.proofs.Common.{◌≡◌, ◌^◌, ◌<◌, ap, ◌∙◌, arith}
use Rattle.xyz_convert.proofs.Roots.{fifth-power, fifth-power-fits}
use Rattle.xyz_convert.proofs.power.fifth_power.Goals as goal

pub overflow_mul-result-2 : goal.overflow_mul-result-2
overflow_mul-result-2 c =
    let same : c.from-root.result ≡ c.args.root = c.from-root.ensures in
    let fits : c.from-root.result ^ 5 < 2 ^ 128 = fifth-power-fits c.from-root.result (omega arith) in
    omega (arith, fifth-power c.from-root.result)

pub returns : goal.returns
returns c = fifth-power c.from-root.result ∙ ap (λ r. r ^ 5) c.from-root.ensures
