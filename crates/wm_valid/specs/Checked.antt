-- What a module that was validated keeps.
use Rattle.std.specs.Prelude.{◌≡◌, ℕ, ◌<◌, ◌≤◌, List, length, Some, slice_get, slice_index}
use Rattle.wm_ast.specs.declared.module.Func.{Func}
use Rattle.wm_ast.specs.declared.module.Module.{Module}
use Rattle.wm_ast.specs.Profile.{InProfile}
use Rattle.wm_valid.specs.declared.height.TheConstants.{MAX_HEIGHT}
use Rattle.wm_valid.specs.Height.{IsHeight, Low}
use Rattle.wm_valid.specs.InRange.{HasNumbersInRange}
use Rattle.wm_valid.specs.Valid.{Valid}

-- these are the heights of the first functions of the module, each within the limit
pub record AreHeights (m : Module) (count : ℕ) (heights : List ℕ) : Type 0 where
  pub so_many : length heights ≡ count
  pub each : (n : ℕ) (f : Func) → n < count → slice_get m.funcs n ≡ Some f → IsHeight m f (slice_index heights n)
  pub low : (n : ℕ) → slice_index heights n ≤ MAX_HEIGHT

-- the module is in the profile, valid and low, and its numbers lie in their ranges
pub record IsTyped (m : Module) : Type 0 where
  pub profile : InProfile m
  pub valid : Valid m
  pub low : Low m
  pub numbers : HasNumbersInRange m
