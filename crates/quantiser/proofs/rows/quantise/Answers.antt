use Rattle.std.proofs.Common.{◌∙◌, ◌≡◌, map}
use Rattle.codec_terms.specs.Quantiser.{quantised}
use Rattle.quantiser.specs.Signed.{signed_values}
use Rattle.quantiser.proofs.Steps.{row-nines, row-fives, row-lowest}
use Rattle.quantiser.proofs.Planes.{planes-within}
use Rattle.quantiser.proofs.rows.quantise.Goals as goal

pub returns-in-LL : goal.returns-in-LL
returns-in-LL c =
    let done : signed_values c.lowest.new.out ≡ map (quantised c.args.band) c.args.values.now = c.lowest.ensures ∙ row-lowest c.args.band _ c.in-LL.is in
    record { values = done; planes = planes-within c.args.band _ _ done }

pub returns-then-more-lt2 : goal.returns-then-more-lt2
returns-then-more-lt2 c =
    let done : signed_values c.wide_ninths.new.out ≡ map (quantised c.args.band) c.args.values.now =
    c.wide_ninths.ensures ∙ row-nines c.args.band _ _ c.in-HL.is c.doublings-more.ensures c.requires.bounds in
    record { values = done; planes = planes-within c.args.band _ _ done }

pub returns-else-more-lt2 : goal.returns-else-more-lt2
returns-else-more-lt2 c =
    let done : signed_values c.ninths.new.out ≡ map (quantised c.args.band) c.args.values.now =
    c.ninths.ensures ∙ row-nines c.args.band _ _ c.in-HL.is c.doublings-more.ensures c.requires.bounds in
    record { values = done; planes = planes-within c.args.band _ _ done }

pub returns-in-HH : goal.returns-in-HH
returns-in-HH c =
    let done : signed_values c.fifths.new.out ≡ map (quantised c.args.band) c.args.values.now =
    c.fifths.ensures ∙ row-fives c.args.band _ _ c.in-HH.is c.doublings-more.ensures c.requires.bounds in
    record { values = done; planes = planes-within c.args.band _ _ done }
