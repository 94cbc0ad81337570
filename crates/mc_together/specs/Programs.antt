-- Packs, as the code keeps them, that may live together.
use Rattle.std.specs.Prelude.{◌≡◌, ◌≢◌, ℕ, List, Bool, true, Some, slice_get}
use Rattle.std.specs.List.{list_all}
use Rattle.mc_cmd.specs.Form.{Text}
use Rattle.mc_cmd.specs.Packing.{Written, is_written}
use Rattle.mc_cmd.specs.Chain.{Texts}
use Rattle.mc_cmd.specs.Tidy.{is_tidy}

-- each line of each function is tidy under a namespace
abbrev pub all_tidy : Text → List (Text × Texts) → Bool
all_tidy ns es = list_all (λ e. list_all (is_tidy ns) e.1) es

-- each is a pack, each is tidy under its namespace, and no two have the same
pub record MayLiveTogether (ws : List Written) : Type 0 where
  pub written : (i : ℕ) (w : Written) → slice_get ws i ≡ Some w → is_written w ≡ true
  pub tidy : (i : ℕ) (w : Written) → slice_get ws i ≡ Some w → all_tidy w.index.ns w.functions ≡ true
  pub differ :
      (i j : ℕ) (v w : Written) → slice_get ws i ≡ Some v → slice_get ws j ≡ Some w → i ≢ j → v.index.ns ≢ w.index.ns
