-- That all numbers of a configuration lie in their ranges.
use Rattle.std.specs.Prelude.{List, [], ◌∷◌, All}
use Rattle.wm_flat.specs.Flat.{Level, Activation, Flat, starting, running, finished}
use Rattle.wm_valid.specs.InRange.{IsInRange, IsByte}
use Rattle.wm_flat.specs.Runs.{State}

-- the operands under these blocks
abbrev pub LevelsInRange : List Level → Type 0
LevelsInRange [] = Unit {0}
LevelsInRange (lv ∷ lvs) = All IsInRange lv.values × LevelsInRange lvs

-- the locals and all operands of an activation
pub record ActivationInRange (a : Activation) : Type 0 where
  pub locals : All IsInRange a.locals
  pub values : All IsInRange a.values
  pub levels : LevelsInRange a.levels

-- those of the callers
abbrev pub CallersInRange : List Activation → Type 0
CallersInRange [] = Unit {0}
CallersInRange (c ∷ cs) = ActivationInRange c × CallersInRange cs

-- those of a configuration, and its arguments or results
abbrev pub FlatInRange : Flat → Type 0
FlatInRange (starting f vs) = All IsInRange vs
FlatInRange (running cs a) = CallersInRange cs × ActivationInRange a
FlatInRange (finished vs) = All IsInRange vs

-- these, the globals and the bytes of the memory
pub record StateInRange (c : State) : Type 0 where
  pub globals : All IsInRange c.store.globals
  pub memory : All IsByte c.store.memory
  pub flat : FlatInRange c.flat
