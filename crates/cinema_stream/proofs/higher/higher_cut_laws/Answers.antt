-- A higher cut keeps no bit-plane that a lower one doesn't.
use Rattle.std.proofs.Common.{arith}
use Rattle.cut_laws.proofs.RankLaws.{rises}
use Rattle.cinema_stream.proofs.higher.higher_cut_laws.Goals as goal

pub returns : goal.returns
returns c = λ q cut higher blocks h above. record {
  whole = h.whole;
  fits = h.fits;
  parts = h.parts;
  coded = record { each = λ band x y picture column row. let down = h.coded.each band x y picture column row in omega (arith, down, rises cut higher band above) };
}
