use Rattle.std.proofs.Common.{arith}
use Rattle.app_words.proofs.CallingLemmas.{values_of_others, no_value_at, value_at}
use Rattle.app_words.proofs.calling.arguments.Goals as goal

pub returns-then-kinds-args : goal.returns-then-kinds-args
returns-then-kinds-args c = values_of_others c.args.kinds.now c.args.args.now c.if-kinds-args.true

pub returns-in-None : goal.returns-in-None
returns-in-None c =
    no_value_at c.args.kinds.now c.args.args.now c.loop-i.i c.loop-i.values.items c.loop-i-test.true c.loop-i.invariant.same_length record { sfits = omega arith } c.loop-i.invariant.so_far c.in-None.ensures

pub loop-i-preserved : goal.loop-i-preserved
loop-i-preserved c = record {
  same_length = c.loop-i.invariant.same_length;
  so_far = value_at c.args.kinds.now c.args.args.now c.loop-i.i c.loop-i.values.items c.push.new.self.items c.in-Some.value c.loop-i-test.true c.loop-i.invariant.same_length record { sfits = omega arith } c.loop-i.invariant.so_far c.in-Some.ensures c.in_ok-push-in-Some.ensures.items;
}
