-- The operands of an activation, and those that a branch leaves.
use Rattle.std.specs.Prelude.{◌≡◌, List, [], ◌∷◌, ◌++◌, take}
use Rattle.mc_nbt.specs.declared.value.Value.{Value}
use Rattle.wm_flat.specs.Flat.{Level, Activation, running, Moved, goes, count_of}

-- the operands under these blocks
abbrev pub under : List Level → List Value
under [] = []
under (lv ∷ lvs) = lv.values ++ under lvs

-- all operands of an activation, the last one first
abbrev pub operands : Activation → List Value
operands a = a.values ++ under a.levels

-- The operands under a branch's target stay, under those that it takes along.
pub record Carried (vs : List Value) (lvs : List Level) (b : Activation) : Type 0 where
  pub target : Level
  pub outer : List Level
  pub front : List Value
  pub parts : under lvs ≡ front ++ under (target ∷ outer)
  pub after_it : operands b ≡ take (count_of target.block.op) vs ++ under (target ∷ outer)

-- of a branch over operands vs inside these blocks, where it goes
abbrev pub IsCarried : List Value → List Level → Moved → Type 0
IsCarried vs lvs (goes n s (running cs b)) = Carried vs lvs b
IsCarried vs lvs _ = Unit {0}
