use Rattle.std.proofs.Common.{◌∙◌}
use Rattle.std.specs.Prelude.{option_map}
use Rattle.mc_layout.specs.AnswerView.{answer_view}
use Rattle.mc_world.specs.WorldView.{seen}
use Rattle.pk_multi.specs.State.{state_of}
use Rattle.app_together.proofs.TogetherLemmas.{told_running}
use Rattle.app_together.proofs.playing.is_running.Goals as goal

pub returns : goal.returns
returns c =
    c.is_work.ensures
    ∙ told_running (state_of c.args.programs.now) c.args.who c.names.result.now.ns (seen c.world.result.now) (option_map answer_view c.answer.result) c.names.ensures c.world.ensures.world c.answer.ensures
