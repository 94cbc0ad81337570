use Rattle.mc_tick.specs.StateView.{state_of}
use Rattle.app_workload.proofs.PlayingLemmas.{waits_on, waits_out, waits_rest}
use Rattle.app_workload.proofs.playing.wait.Goals as goal

pub returns-then-rests : goal.returns-then-rests
returns-then-rests c =
    record {
      state = waits_rest (state_of c.args.first) (state_of c.loop-left.state) c.args.most c.loop-left.left c.if-rests.ensures c.loop-left.invariant.on;
      told = c.loop-left.invariant.told;
    }

pub loop-left-preserved : goal.loop-left-preserved
loop-left-preserved c =
    record {
      told = c.in_ok-state.ensures.told;
      on = waits_on (state_of c.args.first) (state_of c.loop-left.state) (state_of c.in_ok-state.state) c.args.most c.loop-left.left c.loop-left-test.true c.if-rests.ensures c.in_ok-state.ensures.state c.loop-left.invariant.on;
    }

pub returns : goal.returns
returns c =
    record {
      state = waits_out (state_of c.args.first) (state_of c.loop-left.state) c.args.most c.loop-left.left c.loop-left-test.false c.loop-left.invariant.on;
      told = c.loop-left.invariant.told;
    }
