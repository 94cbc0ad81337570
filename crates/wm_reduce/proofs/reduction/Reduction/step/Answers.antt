use Rattle.std.proofs.Common.{sym}
use Rattle.wm_flat.specs.Flat.{starting, config_of}
use Rattle.wm_reduce.specs.declared.calls.Term.TheVariants.{Running}
use Rattle.wm_reduce.specs.TermView.{store_of}
use Rattle.wm_reduce.proofs.KeptLaws.{kept_on}
use Rattle.wm_reduce.proofs.TaskLaws.{keeps_reducing, calling_steps}
use Rattle.wm_reduce.proofs.reduction.Reduction.step.Goals as goal

pub begin-requires : goal.begin-requires
begin-requires c = (c.args.self.now.kept.calling c.in-Calling.func c.in-Calling.arguments (sym c.in-Calling.ensures.value)).begins

pub invariant_of-self-in-Ok : goal.invariant_of-self-in-Ok
invariant_of-self-in-Ok c =
    let h = c.args.self.now.kept.calling c.in-Calling.func c.in-Calling.arguments (sym c.in-Calling.ensures.value) in
    record {
      program = c.args.self.now.program;
      kept = keeps_reducing c.args.self.now.module.now (store_of c.args.self.now.storage) (Running c.in-Ok.begun)
          (kept_on c.args.self.now.module.now (config_of (store_of c.args.self.now.storage) (starting c.in-Calling.func c.in-Calling.arguments)) _
          (c.in-Ok.ensures (store_of c.args.self.now.storage)) h.kept);
    }

pub returns-in-Ok-clause-steps : goal.returns-in-Ok-clause-steps
returns-in-Ok-clause-steps c = λ e.
    calling_steps c.args.self.now.module.now (store_of c.args.self.now.storage) c.args.self.now.task c.args.self.now.phase
    c.in-Calling.func c.in-Calling.arguments (Running c.in-Ok.begun) (sym c.in-Calling.ensures.value)
    (c.in-Ok.ensures (store_of c.args.self.now.storage))
