use Rattle.block_sets.proofs.Inverses.{column_at-place, row_at-place, word_of-sample, bit_of-sample, holds-sample}
use Rattle.block_sets.proofs.places.place_laws.Goals as goal

pub returns : goal.returns
returns c = record {
  column = column_at-place;
  row = row_at-place;
  word = word_of-sample;
  bit = bit_of-sample;
  holds = holds-sample;
}
