use Rattle.cc_sched.proofs.ChargingLemmas.{PutFor}
use Rattle.cc_sched.proofs.charging.charged.Given as goal

abbrev pub invariant-loop-item : goal.invariant-loop-item
invariant-loop-item l = PutFor l.yielded l.owed l.charged.items
