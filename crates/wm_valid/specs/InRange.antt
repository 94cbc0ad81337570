-- That the numbers in a module lie in the ranges of their types. The types of the code see to it.
use Rattle.std.specs.Prelude.{◌≡◌, ℕ, ◌<◌, All, IsTrue, Some, slice_get}
use Rattle.mc_nbt.specs.declared.value.Value.{Value}
use Rattle.mc_nbt.specs.Value.{is_value}
use Rattle.wm_ast.specs.declared.module.Data.{Data}
use Rattle.wm_ast.specs.declared.module.Func.{Func}
use Rattle.wm_ast.specs.declared.module.Global.{Global}
use Rattle.wm_ast.specs.declared.module.Module.{Module}
use Rattle.wm_ast.specs.Code.{Op, block, loop, if_else, const, Code, nil, cons}
use Rattle.wm_ast.specs.Profile.{function_code, global_code}

-- the number of the value lies in the signed range of its kind
abbrev pub IsInRange : Value → Type 0
IsInRange v = IsTrue (is_value v)

-- the number is that of a byte
abbrev pub IsByte : ℕ → Type 0
IsByte b = b < 256

abbrev mutual
  -- each constant in an instruction lies in its range
  pub OpInRange : Op → Type 0
  OpInRange (const v) = IsInRange v
  OpInRange (block ty body) = CodeInRange body
  OpInRange (loop ty body) = CodeInRange body
  OpInRange (if_else ty first second) = CodeInRange first × CodeInRange second
  OpInRange _ = Unit {0}

  -- each constant in a sequence lies in its range
  pub CodeInRange : Code → Type 0
  CodeInRange nil = Unit {0}
  CodeInRange (cons i is) = OpInRange i × CodeInRange is

-- each constant in the functions lies in its range
abbrev pub FunctionsInRange : Module → Type 0
FunctionsInRange m = (n : ℕ) (f : Func) → slice_get m.funcs n ≡ Some f → CodeInRange (function_code f)

-- each constant in the first values of globals lies in its range
abbrev pub GlobalsInRange : Module → Type 0
GlobalsInRange m = (n : ℕ) (g : Global) → slice_get m.globals n ≡ Some g → CodeInRange (global_code g)

-- the bytes of the data segments are bytes
abbrev pub DatasInRange : Module → Type 0
DatasInRange m = (n : ℕ) (d : Data) → slice_get m.datas n ≡ Some d → All IsByte d.bytes

-- The numbers that the module's text has lie in their ranges: constants, and the bytes of its data segments.
pub record HasNumbersInRange (m : Module) : Type 0 where
  pub functions : FunctionsInRange m
  pub globals : GlobalsInRange m
  pub datas : DatasInRange m
