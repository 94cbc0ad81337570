use Rattle.mc_engine.specs.EngineView.{shown}
use Rattle.pk_multi.specs.State.{state_of}
use Rattle.pk_multi.proofs.programs.Programs.world.Goals as goal

pub returns-clause-alone : goal.returns-clause-alone
returns-clause-alone c = λ es h.
    let together = c.tidy_packs_may_live_together.ensures (shown c.args.self.now.engine).packs c.args.self.now.apart in
    c.programs_stand_as_alone.ensures (state_of c.args.self.now) together es h
