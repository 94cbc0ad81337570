use Rattle.std.proofs.Common.{ap, subst, ◌∙◌}
use Rattle.wm_ast.specs.Step.{step}
use Rattle.wm_flat.specs.Flat.{running, config_of}
use Rattle.wm_reduce.specs.Soundness.{IsKept}
use Rattle.wm_reduce.specs.declared.calls.Outcome.{Outcome}
use Rattle.wm_reduce.specs.declared.calls.Term.{Term}
use Rattle.wm_reduce.specs.TermView.{store_of}
use Rattle.wm_reduce.specs.TermView.{flat_of, seen, seen_calls}
use Rattle.wm_reduce.specs.steps.Seen.{Comes}
use Rattle.wm_reduce.proofs.KeptLaws.{not_stuck, ends}
use Rattle.wm_reduce.proofs.step.take_step.Goals as goal

pub unreachable-requires : goal.unreachable-requires
unreachable-requires c =
    not_stuck c.args.m.now _
    (subst (λ (t : Term). IsKept c.args.m.now (config_of (store_of c.args.storage.now) (flat_of t))) c.in-Running.is c.requires)
    (subst (λ (o : Outcome). Comes c.args.m.now (config_of (store_of c.args.storage.now) (running (seen_calls c.in-Running.calls.callers) (seen c.in-Running.calls.current))) o (store_of c.step.new.storage)) c.in-Stuck.is c.in_ok-term-in-Running.ensures)

pub returns-in-Finished : goal.returns-in-Finished
returns-in-Finished c =
    ap (λ (t : Term). step c.args.m.now (config_of (store_of c.args.storage.now) (flat_of t))) c.in-Finished.is
    ∙ ends c.args.m.now (store_of c.args.storage.now) c.in-Finished.values c.pop.new.self c.pop.result
    (subst (λ (t : Term). IsKept c.args.m.now (config_of (store_of c.args.storage.now) (flat_of t))) c.in-Finished.is c.requires) c.pop.ensures
