use Rattle.std.proofs.Common.{ap, ◌∙◌}
use Rattle.mc_engine.specs.EngineView.{shown}
use Rattle.mc_layout.specs.State.{state_in}
use Rattle.pk_multi.proofs.CallLemmas.{state_of_program}
use Rattle.pk_multi.proofs.programs.Programs.state.Goals as goal

pub returns : goal.returns
returns c =
    let e = shown c.args.self.now.engine in
    c.state.ensures ∙ ap (state_in c.program.result.now.names.ns) c.world.ensures
    ∙ state_of_program c.args.self.now.programs.items e.packs c.args.who c.program.result.now e.world c.args.self.now.named c.program.ensures
