-- Several steps of linked modules, and what becomes of a configuration: as `After` of `wm_ast`.
use Rattle.std.specs.Prelude.{◌≡◌, ℕ, zero, suc, List, reverse}
use Rattle.mc_nbt.specs.declared.value.Value.{Value}
use Rattle.wm_ast.specs.declared.answer.TrapKind.{TrapKind}
use Rattle.wm_match.specs.Program.{Program}
use Rattle.wm_join.specs.LinkedConfiguration.{Config}
use Rattle.wm_join.specs.LinkedStep.{Reduct, values, reduct, Progress, Next, Ended, Trapped, step}
use Rattle.wm_join.specs.LinkedStore.{Store}

-- a configuration whose term is values alone has ended
abbrev pub settled_by : Config → Reduct → Progress
settled_by c (values vs) = Ended (reverse vs) c.store
settled_by c _ = Next c

module _ (p : Program) where
  -- the same, of what was come to
  abbrev pub settled : Progress → Progress
  settled (Next c) = settled_by c (reduct p c)
  settled x = x

  -- one step more, where it goes on
  abbrev pub one_more : Progress → Progress
  one_more (Next c) = settled (step p c)
  one_more x = x

  -- what so many steps come to
  abbrev pub after : Config → ℕ → Progress
  after c zero = settled (Next c)
  after c (suc n) = one_more (after c n)

-- it goes on
abbrev pub IsNext : Progress → Type 0
IsNext (Next c) = Unit {0}
IsNext _ = ⊥

-- what becomes of a configuration: an end with values, a trap, or that it goes on for ever
pub data Outcome : Type 0 where
  Ends : List Value → Store → Outcome
  Traps : TrapKind → Store → Outcome
  Runs : Outcome

-- this becomes of the configuration: it ended or trapped after some number of steps, or goes on after every number
abbrev pub HasOutcome : Program → Config → Outcome → Type 0
HasOutcome p c (Ends vs s) = (n : ℕ) × (after p c n ≡ Ended vs s)
HasOutcome p c (Traps k s) = (n : ℕ) × (after p c n ≡ Trapped k s)
HasOutcome p c Runs = (n : ℕ) → IsNext (after p c n)
