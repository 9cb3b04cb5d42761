-- The laws of what is greatest.
use Rattle.codec_terms.proofs.ColourLaws.{fifth_root-greatest, code_value-greatest}
use Rattle.codec_values.proofs.colour.colour_laws.Goals as goal

pub returns-clause-fifth_root : goal.returns-clause-fifth_root
returns-clause-fifth_root c = fifth_root-greatest

pub returns-clause-code_value : goal.returns-clause-code_value
returns-clause-code_value c = code_value-greatest
