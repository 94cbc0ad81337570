use Rattle.std.proofs.Common.{◌≡◌, ◌++◌}
use Rattle.std.specs.Prelude.{option_map}
use Rattle.mc_nbt.specs.View.{parts}
use Rattle.mc_parse.specs.steps.Many.{many}
use Rattle.mc_parse.specs.steps.Paths.{step_read, path_read}
use Rattle.mc_parse.proofs.path.read_steps.Given as goal

abbrev pub invariant-loop-rest : goal.invariant-loop-rest
invariant-loop-rest l = option_map (λ ps. parts l.steps.items ++ ps) (many step_read l.left l.rest) ≡ path_read l.t

abbrev pub decreases-loop-rest : goal.decreases-loop-rest
decreases-loop-rest l = l.left
