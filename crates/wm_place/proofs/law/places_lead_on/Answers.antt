use Rattle.wm_place.proofs.LevelLemmas.{find_levels}
use Rattle.wm_place.proofs.SpotLemmas.{find_next, find_block, find_loop, find_first_arm, find_second_arm}
use Rattle.wm_place.proofs.law.places_lead_on.Goals as goal

pub returns : goal.returns
returns c = record {
  next = find_next;
  in_block = find_block;
  in_loop = find_loop;
  in_first_arm = find_first_arm;
  in_second_arm = find_second_arm;
  levels = find_levels;
}
