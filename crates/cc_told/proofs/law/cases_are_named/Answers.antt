use Rattle.cc_told.proofs.Cases.{cuts_are_named, restores_are_named, fetches_are_named, openings_are_named, placers_are_named, growers_are_named, others_are_none}
use Rattle.cc_told.proofs.law.cases_are_named.Goals as goal

pub returns : goal.returns
returns c = record {
  cuts = cuts_are_named;
  restores = restores_are_named;
  fetches = fetches_are_named;
  openings = openings_are_named;
  placers = placers_are_named;
  growers = growers_are_named;
  others = others_are_none;
}
