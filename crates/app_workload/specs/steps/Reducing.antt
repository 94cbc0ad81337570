-- A reduction that is waited for.
use Rattle.std.specs.Prelude.{◌≡◌, ℕ, false, Option, Some, option_map}
use Rattle.mc_cmd.specs.Layout.{Answer, running, done, trap}
use Rattle.wm_ast.specs.After.{after}
use Rattle.wm_ast.specs.Configuration.{Config, Items}
use Rattle.wm_ast.specs.Step.{Progress}
use Rattle.cc_line.specs.Routine.{trap_number}
use Rattle.wm_reduce.specs.State.{State}
use Rattle.wm_reduce.specs.declared.task.Moved.{Moved}
use Rattle.wm_reduce.specs.declared.task.Moved.TheVariants as moves

-- a term is under reduction, and memory wasn't wanting
pub record IsReducing (s : State) : Type 0 where
  pub sound : s.failed ≡ false
  pub term : Items
  pub is_term : s.term ≡ Some term

-- a term over the store
abbrev pub over_store : State → Items → Config
over_store s t = record { store = s.store; term = t }

-- what the term under reduction comes to within so many steps
unfoldable pub comes_to : State → ℕ → Option Progress
comes_to s n = option_map (λ t. after s.program (over_store s t) n) s.term

-- what is told of an end, and where there is none
abbrev pub moved_told : Moved → Option Answer
moved_told moves.Next = Some running
moved_told (moves.Ended v) = Some (done v)
moved_told (moves.Trapped k) = Some (trap (trap_number k))
