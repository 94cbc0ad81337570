use Rattle.wm_place.proofs.KindLemmas.{kinds_by_path, kinds_determined, kinds_by_place}
use Rattle.wm_place.proofs.law.kinds_are_of_the_typing.Goals as goal

pub returns : goal.returns
returns c = record {
  by_path = kinds_by_path;
  determined = kinds_determined;
  by_place = kinds_by_place;
}
