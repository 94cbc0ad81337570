-- When the places of a frame hold the locals and the operands of an activation.
use Rattle.std.specs.Prelude.{◌≡◌, ℕ, List, [], ◌∷◌, ◌++◌, length, ℤ}
use Rattle.mc_nbt.specs.declared.value.Value.{Value}
use Rattle.cc_line.specs.Routine.{value_ints}

-- the ints of locals, in their order
abbrev pub local_ints : List Value → List ℤ
local_ints [] = []
local_ints (v ∷ vs) = value_ints v ++ local_ints vs

-- the ints of operands, of which the last one stands first
abbrev pub stack_ints : List Value → List ℤ
stack_ints [] = []
stack_ints (v ∷ vs) = stack_ints vs ++ value_ints v

-- The places of a frame hold the locals and then the operands; behind them anything may stand.
pub record Frame (size : ℕ) (locals operands : List Value) (places : List ℤ) : Type 0 where
  pub junk : List ℤ
  pub held : places ≡ (local_ints locals ++ stack_ints operands) ++ junk
  pub sized : length places ≡ size
