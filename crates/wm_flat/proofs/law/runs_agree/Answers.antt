use Rattle.wm_flat.proofs.Consequences.{stands_at, open_at, ends_with, trap_after, trap_open}
use Rattle.wm_flat.proofs.law.runs_agree.Goals as goal

pub returns : goal.returns
returns c = record {
  stands_at = stands_at;
  open_at = open_at;
  ends = ends_with;
  trap_after = trap_after;
  trap_open = trap_open;
}
