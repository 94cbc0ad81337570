use Rattle.std.proofs.Common.{subst}
use Rattle.wm_flat.specs.Flat.{config_of}
use Rattle.wm_reduce.specs.declared.step.Advance.{Advance}
use Rattle.wm_reduce.specs.TermView.{store_of}
use Rattle.wm_reduce.specs.TermView.{flat_of}
use Rattle.wm_reduce.specs.steps.Seen.{Advances}
use Rattle.wm_reduce.proofs.KeptLaws.{kept_on, end_store, trap_store}
use Rattle.wm_reduce.proofs.TaskLaws.{keeps_failed, keeps_resting, keeps_reducing}
use Rattle.wm_reduce.proofs.reduction.Reduction.advance.Goals as goal

pub invariant_of-self : goal.invariant_of-self
invariant_of-self c = record { program = c.args.self.now.program; kept = keeps_failed _ _ _ c.requires.idle }

pub invariant_of-self-in-Ok-Next : goal.invariant_of-self-in-Ok-Next
invariant_of-self-in-Ok-Next c = record {
  program = c.args.self.now.program;
  kept = keeps_reducing c.args.self.now.module.now (store_of c.take_step.new.storage) c.in-Ok-Next.term (kept_on c.args.self.now.module.now (config_of (store_of c.args.self.now.storage) (flat_of c.args.term)) _ (subst (λ (a : Advance). Advances c.args.self.now.module.now (config_of (store_of c.args.self.now.storage) (flat_of c.args.term)) a (store_of c.take_step.new.storage)) c.in-Ok-Next.field-0-is c.in-Ok-Next.ensures) c.requires.kept);
}

pub invariant_of-self-in-Ok-Ended : goal.invariant_of-self-in-Ok-Ended
invariant_of-self-in-Ok-Ended c = record {
  program = c.args.self.now.program;
  kept = keeps_resting c.args.self.now.module.now (store_of c.take_step.new.storage) _ (end_store c.args.self.now.module.now (config_of (store_of c.args.self.now.storage) (flat_of c.args.term)) _ _ (subst (λ (a : Advance). Advances c.args.self.now.module.now (config_of (store_of c.args.self.now.storage) (flat_of c.args.term)) a (store_of c.take_step.new.storage)) c.in-Ok-Ended.field-0-is c.in-Ok-Ended.ensures) c.requires.kept);
}

pub invariant_of-self-in-Ok-Trapped : goal.invariant_of-self-in-Ok-Trapped
invariant_of-self-in-Ok-Trapped c = record {
  program = c.args.self.now.program;
  kept = keeps_resting c.args.self.now.module.now (store_of c.take_step.new.storage) _ (trap_store c.args.self.now.module.now (config_of (store_of c.args.self.now.storage) (flat_of c.args.term)) _ _ (subst (λ (a : Advance). Advances c.args.self.now.module.now (config_of (store_of c.args.self.now.storage) (flat_of c.args.term)) a (store_of c.take_step.new.storage)) c.in-Ok-Trapped.field-0-is c.in-Ok-Trapped.ensures) c.requires.kept);
}
