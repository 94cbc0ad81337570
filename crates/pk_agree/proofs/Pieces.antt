-- The pieces of a module are right.
use Rattle.cc_call.proofs.LawLemmas.{calls_work}
use Rattle.cc_move.proofs.LawLemmas.{moves_follow}
use Rattle.cc_body.proofs.Arguments.{fetches_few}
use Rattle.cc_simulate.proofs.CallsEnter.{calls_enter}
use Rattle.cc_simulate.proofs.Ends.{jobs_end}
use Rattle.cc_body.proofs.LightPieces.{pieces_light, takers_few, placers_few}
use Rattle.cc_pieces.proofs.LightPieces.{takers_light, placers_light, grower_light, dones_light}
use Rattle.cc_simulate.proofs.MemoryLaws.{memory_works}
use Rattle.cc_body.proofs.NumbersLaws.{numbers_are_lines}
use Rattle.cc_simulate.proofs.NumbersLaws.{numbers_work}
use Rattle.cc_table.proofs.Laws.{numbers_found, targets_found}
use Rattle.cc_tails.proofs.Laws.{ends_named, guarded_run_on, holds_behind_cuts}
use Rattle.cc_simulate.proofs.Simulate.{pieces_simulate}
use Rattle.cc_simulate.proofs.Ways.{cuts_have_pieces}
use Rattle.cc_simulate.specs.Law.{PiecesSimulate, JobsEnd, CutsHavePieces, CallsEnter}
use Rattle.cc_body.specs.Law.{PiecesAreLight, TakersAreFew, PlacersAreFew, FetchesAreFew}
use Rattle.cc_pieces.specs.Law.{TakersAreLight, PlacersAreLight, GrowerIsLight, DonesAreLight}

-- what the laws of pieces say of all modules
pub record PiecesAreRight : Type 0 where
  pub simulate : PiecesSimulate
  pub ends : JobsEnd
  pub cuts : CutsHavePieces
  pub enter : CallsEnter
  pub light : PiecesAreLight
  pub takers_light : TakersAreLight
  pub placers_light : PlacersAreLight
  pub grower_light : GrowerIsLight
  pub dones_light : DonesAreLight
  pub takers_few : TakersAreFew
  pub placers_few : PlacersAreFew
  pub fetches_few : FetchesAreFew

pub pieces_are_right : PiecesAreRight
pieces_are_right = record {
  simulate = pieces_simulate holds_behind_cuts ends_named guarded_run_on moves_follow calls_work numbers_found targets_found memory_works numbers_work;
  ends = jobs_end calls_work;
  cuts = cuts_have_pieces;
  enter = calls_enter moves_follow calls_work;
  light = pieces_light numbers_are_lines;
  takers_light = takers_light;
  placers_light = placers_light;
  grower_light = grower_light;
  dones_light = dones_light;
  takers_few = takers_few;
  placers_few = placers_few;
  fetches_few = fetches_few;
}
