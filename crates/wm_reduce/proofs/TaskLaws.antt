-- What is kept of a task, and how its steps are seen.
use Rattle.std.proofs.Common.{◌≡◌, ℕ, List, refl, sym, subst, ◌∙◌}
use Rattle.mc_nbt.specs.declared.value.Value.{Value}
use Rattle.wm_ast.specs.declared.module.Module.{Module}
use Rattle.wm_ast.specs.Step.{Progress, Next, step}
use Rattle.wm_ast.specs.Store.{Store}
use Rattle.wm_flat.specs.Flat.{starting, config_of}
use Rattle.wm_flat.specs.FlatTyping.{TypedStore}
use Rattle.wm_reduce.specs.declared.calls.Term.{Term}
use Rattle.wm_reduce.specs.declared.task.Moved.{Moved}
use Rattle.wm_reduce.specs.declared.task.Moved.TheVariants as moves
use Rattle.wm_reduce.specs.declared.task.Phase.{Phase}
use Rattle.wm_reduce.specs.declared.task.Task.{Task}
use Rattle.wm_reduce.specs.declared.task.Task.TheVariants.{Resting, Calling, Reducing, Failed}
use Rattle.wm_reduce.specs.Soundness.{IsKept}
use Rattle.wm_reduce.specs.State.{State, Answers, Steps}
use Rattle.wm_reduce.specs.TermView.{flat_of}
use Rattle.wm_reduce.specs.TermView.{task_term, task_last, has_failed}
use Rattle.wm_reduce.specs.steps.Task.{Keeps, CanCall}

module _ (m : Module) (s : Store) where
  pub keeps_failed : (task : Task) → task ≡ Failed → Keeps m s task
  keeps_failed task e = record {
    resting = λ last k. absurd (let w : Failed ≡ Resting last = sym e ∙ k in cc);
    calling = λ f vs k. absurd (let w : Failed ≡ Calling f vs = sym e ∙ k in cc);
    reducing = λ t k. absurd (let w : Failed ≡ Reducing t = sym e ∙ k in cc);
  }

  pub keeps_resting : (last : Moved) → ∥ TypedStore m s ∥₁ → Keeps m s (Resting last)
  keeps_resting last h = record {
    resting = λ l k. h;
    calling = λ f vs k. absurd cc;
    reducing = λ t k. absurd cc;
  }

  pub keeps_reducing : (t : Term) → IsKept m (config_of s (flat_of t)) → Keeps m s (Reducing t)
  keeps_reducing t h = record {
    resting = λ l k. absurd cc;
    calling = λ f vs k. absurd cc;
    reducing = λ u k. let e : t ≡ u = cc in subst (λ (x : Term). IsKept m (config_of s (flat_of x))) e h;
  }

  pub keeps_calling : (f : ℕ) (vs : List Value) → CanCall m s f vs → Keeps m s (Calling f vs)
  keeps_calling f vs h = record {
    resting = λ l k. absurd cc;
    calling = λ g ws k. let e : f ≡ g = cc in let u : vs ≡ ws = cc in subst (λ (x : ℕ). CanCall m s x ws) e (subst (CanCall m s f) u h);
    reducing = λ t k. absurd cc;
  }

  -- the state with this task
  abbrev pub state : Task → Phase → State
  state task phase = record {
    program = m;
    store = s;
    term = task_term task;
    last = task_last task;
    phase = phase;
    failed = has_failed task;
  }

  pub calling_steps : (task : Task) (phase : Phase) (f : ℕ) (vs : List Value) (t : Term) → task ≡ Calling f vs
      → step m (config_of s (starting f vs)) ≡ Next (config_of s (flat_of t))
      → Steps (state task phase) (task_term task) moves.Next (state (Reducing t) phase)
  calling_steps task phase f vs t e k =
      subst (λ (x : Task). Steps (state x phase) (task_term x) moves.Next (state (Reducing t) phase)) (sym e)
      (subst (λ (p : Progress). Answers (state (Calling f vs) phase) p moves.Next (state (Reducing t) phase)) (sym k) (refl, refl))
