-- Modules whose runs the typing of configurations speaks of.
use Rattle.wm_ast.specs.declared.module.Module.{Module}
use Rattle.wm_ast.specs.Profile.{InProfile}
use Rattle.wm_valid.specs.InRange.{HasNumbersInRange}
use Rattle.wm_valid.specs.Valid.{Valid}

-- a valid module of the profile
pub record IsProgram (m : Module) : Type 0 where
  pub valid : Valid m
  pub profile : InProfile m
  pub numbers : HasNumbersInRange m
