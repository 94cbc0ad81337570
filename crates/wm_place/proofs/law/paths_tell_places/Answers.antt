use Rattle.wm_place.proofs.OrderLemmas.{path_leads_on}
use Rattle.wm_place.proofs.PathLemmas.{told, tells}
use Rattle.wm_place.proofs.law.paths_tell_places.Goals as goal

pub returns : goal.returns
returns c = record {
  there = λ body p there. told body p there.0 there.1;
  back = λ body path p e. let w = tells body path p e in (w.leads, w.there);
  lead_on = path_leads_on;
}
