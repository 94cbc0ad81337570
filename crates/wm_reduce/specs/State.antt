-- A reduction, as its callers see it.
use Rattle.std.specs.Prelude.{◌≡◌, Bool, Option, Some, None, option_to_list}
use Rattle.wm_ast.specs.declared.module.Module.{Module}
use Rattle.wm_ast.specs.Configuration.{Items}
use Rattle.wm_ast.specs.Step.{Progress, Next, Ended, Trapped, Stuck, step}
use Rattle.wm_ast.specs.Store.{Store}
use Rattle.wm_reduce.specs.declared.task.Moved.{Moved}
use Rattle.wm_reduce.specs.declared.task.Moved.TheVariants as moves
use Rattle.wm_reduce.specs.declared.task.Phase.{Phase}
use Rattle.wm_reduce.specs.declared.task.Phase.TheVariants.{Starting, Ready, Dead}

-- Its module, the store, the term under reduction, how the last one ended, how far the program is, and whether memory
-- was wanting.
pub record State : Type 0 where
  pub program : Module
  pub store : Store
  pub term : Option Items
  pub last : Moved
  pub phase : Phase
  pub failed : Bool

-- how far a program is after a trap, and after an end
abbrev pub after_trap : Phase → Phase
after_trap Starting = Dead
after_trap p = p

abbrev pub after_end : Phase → Phase
after_end Starting = Ready
after_end p = p

-- what a step answers that comes to this, and the reduction after it
abbrev pub Answers : State → Progress → Moved → State → Type 0
Answers s (Next c) moved t = (moved ≡ moves.Next) × (t ≡ record s { store = c.store; term = Some c.term })
Answers s (Ended vs store) moved t =
    (v : Option _) × (vs ≡ option_to_list v) × (moved ≡ moves.Ended v)
    × (t ≡ record s { store = store; term = None; last = moves.Ended v; phase = after_end s.phase })
Answers s (Trapped k store) moved t =
    (moved ≡ moves.Trapped k)
    × (t ≡ record s { store = store; term = None; last = moves.Trapped k; phase = after_trap s.phase })
Answers s Stuck moved t = ⊥

-- one step where the term under reduction is this
abbrev pub Steps : State → Option Items → Moved → State → Type 0
Steps s None moved t = (moved ≡ s.last) × (t ≡ s)
Steps s (Some term) moved t = Answers s (step s.program (record { store = s.store; term = term })) moved t
