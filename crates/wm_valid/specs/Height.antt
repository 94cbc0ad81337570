-- The number of operands over which instructions stand.
use Rattle.std.specs.Prelude.{◌≡◌, ℕ, ◌<◌, ◌≤◌, List, length, Some, slice_get}
use Rattle.wm_ast.specs.declared.module.ValType.{ValType}
use Rattle.wm_ast.specs.declared.module.Func.{Func}
use Rattle.wm_ast.specs.declared.module.Module.{Module}
use Rattle.wm_ast.specs.Code.{Op, Code, cons}
use Rattle.wm_valid.specs.Place.{IsReached}
use Rattle.wm_valid.specs.declared.height.TheConstants.{MAX_HEIGHT}

-- a reached instruction of the function stands over so many operands
pub record SomeOver (m : Module) (f : Func) (count : ℕ) : Type 0 where
  pub path : List ℕ
  pub instruction : Op
  pub others : Code
  pub operands : List ValType
  pub reached : IsReached m f path (cons instruction others) operands
  pub so_many : length operands ≡ count

-- each reached instruction of the function stands over at most 1,024 operands, those under enclosing blocks included
abbrev pub IsLow : Module → Func → Type 0
IsLow m f = (count : ℕ) → SomeOver m f count → count ≤ MAX_HEIGHT

-- each function is low
abbrev pub Low : Module → Type 0
Low m = (n : ℕ) (f : Func) → slice_get m.funcs n ≡ Some f → IsLow m f

-- The greatest number of operands over which a reached instruction of the function stands, those under enclosing blocks
-- included: the least bound on these numbers. It is 0 where there is no instruction.
pub record IsHeight (m : Module) (f : Func) (height : ℕ) : Type 0 where
  pub none_higher : (count : ℕ) → SomeOver m f count → count ≤ height
  pub least : (bound : ℕ) → ((count : ℕ) → SomeOver m f count → count ≤ bound) → height ≤ bound

-- the first function that isn't low, and its height
pub record IsFirstHigh (m : Module) (n height : ℕ) : Type 0 where
  pub function : Func
  pub there : slice_get m.funcs n ≡ Some function
  pub is_height : IsHeight m function height
  pub high : MAX_HEIGHT < height
  pub before : (k : ℕ) (f : Func) → k < n → slice_get m.funcs k ≡ Some f → IsLow m f
