use Rattle.std.proofs.Common.{◌≡◌, subst}
use Rattle.std.specs.Prelude.{OnOk}
use Rattle.cc_sched.proofs.EmissionLemmas.{two_added}
use Rattle.cc_sched.proofs.emission.push_end.Goals as goal

pub returns : goal.returns
returns c = subst (λ u. OnOk c.push_trap.result (c.push_trap.new.lines ≡ u)) (two_added c.args.lines.now _ _ _ c.in_ok-push_finish.ensures) c.push_trap.ensures
