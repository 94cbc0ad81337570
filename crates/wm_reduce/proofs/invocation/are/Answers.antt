use Rattle.std.proofs.Common.{rules}
use Rattle.wm_reduce.proofs.SegmentLaws.{types_more, ranges_more, all_types, all_ranges}
use Rattle.wm_reduce.proofs.invocation.are.Goals as goal

pub loop-i-preserved : goal.loop-i-preserved
loop-i-preserved c = record {
  types = types_more c.args.types.now c.args.values.now c.loop-i.i _ _ c.loop-i-test.true c.if-values-types.false (c.if-not-is.ensures.ty.0 (search rules)) c.loop-i.invariant.types;
  range = ranges_more c.args.values.now c.loop-i.i _ c.loop-i-test.true c.is.ensures.range c.loop-i.invariant.range;
}

pub returns-clause-types : goal.returns-clause-types
returns-clause-types c = (λ t. all_types c.args.types.now c.args.values.now c.loop-i.i c.loop-i-test.false c.if-values-types.false c.loop-i.invariant.types, λ e. search rules)

pub returns-clause-range : goal.returns-clause-range
returns-clause-range c = λ t. all_ranges c.args.values.now c.loop-i.i c.loop-i-test.false c.loop-i.invariant.range
