-- The test of two types that is derived.
use Rattle.std.proofs.Common.{◌≡◌, refl}
use denote.Enum.Bare.{sameb}
use Rattle.wm_ast.specs.contracts.module.ValType.{the_type}
use Rattle.wm_ast.specs.declared.module.ValType.{ValType}
use Rattle.wm_ast.specs.declared.module.ValType.TheVariants.{I32, I64, F32, F64}
use Rattle.wm_ast.specs.Types.{same_type}

pub same_if_equal : (a b : ValType) → same_type a b ≡ sameb the_type a b
same_if_equal I32 I32 = refl
same_if_equal I64 I64 = refl
same_if_equal F32 F32 = refl
same_if_equal F64 F64 = refl
same_if_equal _ _ = refl
