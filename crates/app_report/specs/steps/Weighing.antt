-- The weights that are known while others are sought.
use Rattle.std.specs.Prelude.{◌≡◌, ℕ, Some}
use Rattle.std.specs.BTreeMap.{BTreeMap}
use Rattle.mc_cmd.specs.Form.{Text}
use Rattle.mc_cmd.specs.Chain.{Functions, line_weight}
use Rattle.mc_cmd.specs.Command.{Line}
use Rattle.mc_world.specs.TextMap.{text_get}
use Rattle.app_report.specs.Costs.{line_runs, static_weight}
use Rattle.app_report.specs.declared.weighing.Step.{Step}

-- what stands under a full name is the function's static weight
abbrev pub AreKnown : Functions → BTreeMap Text ℕ → Type 0
AreKnown functions known =
    (f : Text) (weight : ℕ) → text_get known f ≡ Some weight → static_weight functions f ≡ Some weight

-- what a line weighs alone, and the function that it runs
pub record IsStep (l : Line) (s : Step) : Type 0 where
  pub weight : s.weight ≡ line_weight l
  pub called : s.called ≡ line_runs l
