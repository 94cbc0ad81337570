-- Several moves, and where they lead.
use Rattle.std.specs.Prelude.{◌≡◌, ◌≤◌, ◌<◌, ◌+◌, ℕ, zero, suc}
use Rattle.wm_ast.specs.declared.module.Module.{Module}
use Rattle.wm_ast.specs.Configuration.{Config}
use Rattle.wm_ast.specs.Store.{Store}
use Rattle.wm_flat.specs.Flat.{Flat, Moved, goes, fails, over, none, config_of, move}

-- a configuration of the machine
pub record State : Type 0 where
  pub store : Store
  pub flat : Flat

-- the configuration of the reduction that it stands for
abbrev pub config : State → Config
config c = config_of c.store c.flat

-- its move
abbrev pub moved : Module → State → Moved
moved m c = move m c.store c.flat

-- by so many moves, which are n steps of the reduction in all, c leads to d
abbrev pub Makes : Module → ℕ → ℕ → State → State → Type 0
Makes m zero n c d = (n ≡ 0) × (c ≡ d)
Makes m (suc k) n c d =
    (i : ℕ) × (j : ℕ) × (e : State) × (moved m c ≡ goes i e.store e.flat) × (n ≡ i + j) × Makes m k j e d

-- by some moves, which are n steps of the reduction in all, c leads to d
pub record Leads (m : Module) (n : ℕ) (c d : State) : Type 0 where
  pub moves : ℕ
  pub made : Makes m moves n c d

-- after k steps the move reaches past n steps, or is the last
abbrev pub IsWithin : ℕ → ℕ → Moved → Type 0
IsWithin n k (goes j s f) = (n < k + j) × (j ≤ 2)
IsWithin n k (fails j t) = j ≤ 1
IsWithin n k (over vs) = Unit {0}
IsWithin n k none = Unit {0}

-- n steps, or those up to the last move, lie within the next move of a state that c leads to
pub record Stage (m : Module) (c : State) (n : ℕ) : Type 0 where
  pub steps : ℕ
  pub state : State
  pub leads : Leads m steps c state
  pub done : steps ≤ n
  pub within : IsWithin n steps (moved m state)
