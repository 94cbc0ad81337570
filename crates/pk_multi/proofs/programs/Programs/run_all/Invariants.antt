use Rattle.std.proofs.Common.{◌≡◌, drop, length, true}
use Rattle.mc_cmd.specs.Pack.{functions_of}
use Rattle.mc_engine.specs.EngineView.{shown}
use Rattle.mc_together.specs.Together.{run_shares}
use Rattle.pk_multi.specs.Entry.{function_of, share_by}
use Rattle.pk_multi.specs.Standing.{packs_in}
use Rattle.pk_multi.specs.State.{state_of}
use Rattle.pk_multi.proofs.programs.Programs.run_all.Given as goal

abbrev pub invariant-loop-who : goal.invariant-loop-who
invariant-loop-who l =
    let ps = packs_in (shown l.initial.self.engine) in
    let f = share_by l.shares (length ps) l.initial.self.ticks in
    record {
      packs : packs_in (shown l.self.engine) ≡ ps;
      ticks : l.self.ticks ≡ l.initial.self.ticks;
      booted : l.self.booted ≡ l.initial.self.booted;
      failed : l.self.failed ≡ true;
      run : run_shares (functions_of ps) (function_of l.entry) f l.who (drop l.who ps) (state_of l.self).standing
          ≡ run_shares (functions_of ps) (function_of l.entry) f 0 ps (state_of l.initial.self).standing;
    }
