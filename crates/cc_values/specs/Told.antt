-- Which values have the first of some ints.
use Rattle.std.specs.Prelude.{◌≡◌, List, ◌++◌, ℤ}
use Rattle.mc_nbt.specs.declared.value.Value.{Value}
use Rattle.wm_ast.specs.declared.module.ValType.{ValType}
use Rattle.wm_ast.specs.Types.{const_type}
use Rattle.wm_flat.specs.FlatTyping.{types_of}
use Rattle.cc_line.specs.Routine.{value_ints}
use Rattle.cc_simulate.specs.Frame.{local_ints}

-- a value of this type has the first of these ints, and those stand behind
abbrev pub IsFirst : ValType → List ℤ → Value → List ℤ → Type 0
IsFirst t zs v rest = (const_type v ≡ t) × (zs ≡ value_ints v ++ rest)

-- the same of values of these types, in their order
abbrev pub AreFirst : List ValType → List ℤ → List Value → List ℤ → Type 0
AreFirst ts zs vs rest = (types_of vs ≡ ts) × (zs ≡ local_ints vs ++ rest)
