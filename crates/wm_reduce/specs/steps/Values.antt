-- Operands that instructions of control take.
use Rattle.std.specs.Prelude.{◌≡◌, List, [], ◌∷◌, ◌++◌, Bool, true, false, Option, Some, None, ℤ}
use Rattle.mc_nbt.specs.declared.value.Value.{Value}
use Rattle.mc_nbt.specs.declared.value.Value.TheVariants.{I32, I64}
use Rattle.wm_ast.specs.Code.{Code, nil, cons, constant_of}

-- the number on top, where it is of the type i32
abbrev pub first_i32 : List Value → Option ℤ
first_i32 [] = None
first_i32 (I32 n ∷ vs) = Some n
first_i32 (I64 n ∷ vs) = None

-- the values that were there stand over the others
abbrev pub IsCarried : Bool → Option (List Value) → List Value → List Value → Type 0
IsCarried true taken under over = (us : List Value) × (taken ≡ Some us) × (over ≡ us ++ under)
IsCarried false taken under over = taken ≡ None

-- no constant is next
abbrev pub IsReady : Code → Type 0
IsReady nil = Unit {0}
IsReady (cons i is) = constant_of i ≡ None
