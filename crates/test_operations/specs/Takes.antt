-- How many operands an operation takes, and of which type.
use Rattle.std.specs.Prelude.{◌≡◌, [], ◌∷◌, IsSome}
use Rattle.mc_nbt.specs.declared.value.Value.{Value}
use Rattle.mc_nbt.specs.Value.{kind_of}
use Rattle.wm_ast.specs.declared.operation.NumOp.{NumOp}
use Rattle.wm_ast.specs.Apply.{apply}
use Rattle.test_operations.specs.declared.reading.Takes.{Takes}
use Rattle.test_operations.specs.declared.reading.Takes.TheVariants.{One, Two}

-- the operation answers such operands
abbrev pub Answers : NumOp → Takes → Type 0
Answers op (One k) = (a : Value) → kind_of a ≡ k → IsSome (apply op (a ∷ []))
Answers op (Two k) = (a b : Value) → kind_of a ≡ k → kind_of b ≡ k → IsSome (apply op (a ∷ b ∷ []))
