-- What comes of the reduction of a module's `main`, as far as is waited for.
use Rattle.std.specs.Prelude.{◌≡◌, ℕ, [], Option, Some, None, option_and_then, slice_get}
use Rattle.mc_cmd.specs.Layout.{Answer, running, done, trap}
use Rattle.wm_ast.specs.declared.module.Module.{Module}
use Rattle.wm_ast.specs.After.{after}
use Rattle.wm_ast.specs.Instance.{export_config, first_store}
use Rattle.wm_ast.specs.Step.{Progress, Next, Ended, Trapped, Stuck}
use Rattle.cc_line.specs.Routine.{trap_number}
use Rattle.wm_reduce.specs.Call.{Calls}

-- how many steps are waited for at most
unfoldable pub most_steps : ℕ
most_steps = 100000000

-- what is told of a reduction that came to this: that it runs, the value with which it ended, or how it trapped
abbrev pub told_of : Progress → Option Answer
told_of (Next c) = Some running
told_of (Ended vs s) = Some (done (slice_get vs 0))
told_of (Trapped k s) = Some (trap (trap_number k))
told_of Stuck = None

-- what is told of `main`, the first function export, over no arguments and the store after instantiation
abbrev pub reduced : Module → Option Answer
reduced m = option_and_then (λ c. told_of (after m c most_steps)) (export_config m (first_store m) 0 [])

-- the first function export takes nothing, and there is no start function, which would come before it
pub record HasMain (m : Module) : Type 0 where
  pub func : ℕ
  pub calls : Calls m 0 [] func
  pub no_start : m.start ≡ None
