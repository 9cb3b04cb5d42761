-- The laws of significant samples.
use Rattle.codec_laws.proofs.Significance.{significant-plane, significant-first_plane}
use Rattle.codec_laws.proofs.blocks.significance_laws.Goals as goal

pub returns-clause-first : goal.returns-clause-first
returns-clause-first c = significant-first_plane

pub returns-clause-further : goal.returns-clause-further
returns-clause-further c = significant-plane
