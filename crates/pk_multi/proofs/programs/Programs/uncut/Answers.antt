use Rattle.std.proofs.Common.{ap, sym}
use Rattle.std.specs.Prelude.{not}
use Rattle.mc_engine.specs.EngineView.{shown}
use Rattle.mc_together.specs.Together.{Count}
use Rattle.pk_multi.proofs.TurnLemmas.{count_here, place_named}
use Rattle.pk_multi.proofs.programs.Programs.uncut.Goals as goal

pub program-requires : goal.program-requires
program-requires c = place_named c.args.self.now.programs.items (shown c.args.self.now.engine).packs c.args.who c.args.self.now.named c.requires

pub returns : goal.returns
returns c = ap (λ (n : Count). not n.cut) (sym (count_here c.args.self.now.programs.items c.args.who c.program.result.now c.program.ensures))
