use Rattle.std.proofs.Common.{ap, sym, ◌∙◌}
use Rattle.std.specs.Prelude.{option_map}
use Rattle.mc_engine.specs.EngineView.{shown}
use Rattle.pk_multi.proofs.CallLemmas.{index_of}
use Rattle.pk_multi.proofs.programs.Programs.index.Goals as goal

pub returns : goal.returns
returns c = index_of (shown c.args.self.now.engine).packs c.args.who c.in-Some.index.now (sym c.index.ensures.index ∙ ap (option_map (λ i. i.now)) c.in-Some.is)
