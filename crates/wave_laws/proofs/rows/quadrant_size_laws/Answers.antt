-- The sizes of a level's four parts.
use Rattle.std.proofs.Common.{refl, length}
use Rattle.codec_terms.specs.declared.picture.BandKind.TheVariants.{HH}
use Rattle.wave_laws.proofs.SubBands.{IsGridOf-quadrant, low_columns, IsGridOf-HL, IsGridOf-LH}
use Rattle.wave_laws.proofs.rows.quadrant_size_laws.Goals as goal

pub returns-clause-LL : goal.returns-clause-LL
returns-clause-LL c = λ columns area. low_columns columns (length area) area refl

pub returns-clause-HL : goal.returns-clause-HL
returns-clause-HL c = IsGridOf-HL

pub returns-clause-LH : goal.returns-clause-LH
returns-clause-LH c = IsGridOf-LH

pub returns-clause-HH : goal.returns-clause-HH
returns-clause-HH c = λ columns area. IsGridOf-quadrant columns (length area) HH area refl
