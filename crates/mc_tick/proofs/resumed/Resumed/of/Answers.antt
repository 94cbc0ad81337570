use Rattle.std.proofs.Common.{◌∙◌, sym}
use Rattle.mc_tick.proofs.PlayLemmas.{clash}
use Rattle.mc_tick.proofs.resumed.Resumed.of.Goals as goal

pub invariant_of-result : goal.invariant_of-result
invariant_of-result c = record { works = sym c.answer.ensures ∙ c.is_running.ensures.0 c.if-is_running.true }

pub invariant_of-result-else-is_running : goal.invariant_of-result-else-is_running
invariant_of-result-else-is_running c = record {
  rests = λ r. clash c.is_running.result (c.is_running.ensures.1 (c.answer.ensures ∙ r)) c.if-is_running.false;
}
