-- The laws of a picture's sub-bands.
use Rattle.codec_terms.specs.Quantiser.{quantised}
use Rattle.wave_laws.proofs.SubBands.{band_part-wave, quantised_band-wave, map-items_of, all_sub_bands}
use Rattle.wave_laws.proofs.bands.sub_band_laws.Goals as goal

pub returns-clause-part : goal.returns-clause-part
returns-clause-part c = band_part-wave

pub returns-clause-quantised : goal.returns-clause-quantised
returns-clause-quantised c = quantised_band-wave

pub returns-clause-rows : goal.returns-clause-rows
returns-clause-rows c = λ band. map-items_of (quantised band)

pub returns-clause-all : goal.returns-clause-all
returns-clause-all c = all_sub_bands
