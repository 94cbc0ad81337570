use Rattle.mc_engine.specs.EngineView.{shown}
use Rattle.pk_multi.proofs.CallLemmas.{space_of_program}
use Rattle.pk_multi.proofs.TurnLemmas.{place_named}
use Rattle.pk_multi.proofs.programs.Programs.names.Goals as goal

pub program-requires : goal.program-requires
program-requires c = place_named c.args.self.now.programs.items (shown c.args.self.now.engine).packs c.args.who c.args.self.now.named c.requires

pub returns : goal.returns
returns c = space_of_program c.args.self.now.programs.items (shown c.args.self.now.engine).packs c.args.who c.program.result.now c.args.self.now.named c.program.ensures
