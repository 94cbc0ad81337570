-- Several steps, and what becomes of a configuration (4.5.5, 4.2.2).
use Rattle.std.specs.Prelude.{◌≡◌, ℕ, zero, suc, List, reverse}
use Rattle.mc_nbt.specs.declared.value.Value.{Value}
use Rattle.wm_ast.specs.declared.answer.TrapKind.{TrapKind}
use Rattle.wm_ast.specs.declared.module.Module.{Module}
use Rattle.wm_ast.specs.Configuration.{Config}
use Rattle.wm_ast.specs.Step.{Reduct, values, reduct, Progress, Next, Ended, Trapped, step}
use Rattle.wm_ast.specs.Store.{Store}

-- a configuration whose term is values alone has ended
abbrev pub settled_by : Config → Reduct → Progress
settled_by c (values vs) = Ended (reverse vs) c.store
settled_by c _ = Next c

module _ (m : Module) where
  abbrev pub settled : Progress → Progress
  settled (Next c) = settled_by c (reduct m c)
  settled p = p

  -- one step more, where it goes on
  abbrev pub one_more : Progress → Progress
  one_more (Next c) = settled (step m c)
  one_more p = p

  -- what so many steps come to
  abbrev pub after : Config → ℕ → Progress
  after c zero = settled (Next c)
  after c (suc n) = one_more (after c n)

-- it goes on
abbrev pub IsNext : Progress → Type 0
IsNext (Next c) = Unit {0}
IsNext _ = ⊥

-- what becomes of a configuration: an end with values, a trap, or that it goes on for ever
pub data Outcome : Type 0 where
  Ends : List Value → Store → Outcome
  Traps : TrapKind → Store → Outcome
  Runs : Outcome

-- This becomes of the configuration: it ended or trapped after some number of steps, or goes on after every number. No
-- function could tell which.
abbrev pub HasOutcome : Module → Config → Outcome → Type 0
HasOutcome m c (Ends vs s) = (n : ℕ) × (after m c n ≡ Ended vs s)
HasOutcome m c (Traps k s) = (n : ℕ) × (after m c n ≡ Trapped k s)
HasOutcome m c Runs = (n : ℕ) → IsNext (after m c n)
