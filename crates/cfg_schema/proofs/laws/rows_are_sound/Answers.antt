use Rattle.cfg_schema.proofs.RowFacts.{profile_length, profile_ordered, profile_shared, number_below}
use Rattle.cfg_schema.proofs.LevelLemmas.{leads, shallow}
use Rattle.cfg_schema.proofs.laws.rows_are_sound.Goals as goal

pub returns : goal.returns
returns c = record {
  number = profile_length;
  numbered = number_below;
  follows = leads;
  ordered = profile_ordered;
  shared = profile_shared;
  shallow = shallow;
}
