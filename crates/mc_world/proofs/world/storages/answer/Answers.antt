use Rattle.std.proofs.Common.{◌∙◌, sym, ap}
use Rattle.std.specs.Prelude.{if◌then◌else◌}
use Rattle.mc_cmd.specs.World.{fails, leaves}
use Rattle.mc_world.specs.steps.Changing.{is_made}
use Rattle.mc_world.proofs.world.storages.answer.Goals as goal

pub returns-in-Yes : goal.returns-in-Yes
returns-in-Yes c = λ w. c.done.ensures w ∙ sym (ap (λ m. if is_made m then leaves w else fails w) c.in-Yes.is)

pub returns-in-No : goal.returns-in-No
returns-in-No c = λ w. c.failed.ensures w ∙ sym (ap (λ m. if is_made m then leaves w else fails w) c.in-No.is)
