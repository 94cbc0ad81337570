use Rattle.std.proofs.Common.{◌≡◌, ◌∷◌, ◌++◌, [], subst}
use Rattle.std.specs.Prelude.{OnOk}
use Rattle.cc_sched.proofs.EmissionLemmas.{read_is}
use Rattle.cc_sched.proofs.command.push_read_state.Goals as goal

pub returns : goal.returns
returns c = subst (λ u. OnOk c.push_behind.result (c.push_behind.new.lines ≡ c.args.lines.now ++ (u ∷ []))) (read_is _ _ c.args.ns.now c.in_ok-store.ensures c.in_ok-get_state.ensures) c.push_behind.ensures
