use Rattle.std.proofs.Common.{◌≡◌, ◌+◌, ◌++◌, length, map, drop}
use Rattle.std.specs.List.{zip}
use Rattle.wm_decode.specs.steps.Gathering.{func_of}
use Rattle.wm_decode.proofs.section.funcs.Given as goal

abbrev pub invariant-loop-kind : goal.invariant-loop-kind
invariant-loop-kind l = record {
  same : l.funcs.items ++ map func_of (zip (drop l.kind-index l.kinds) l.remaining.rest.items) ≡ map func_of (zip l.kinds l.fn.bodies);
  as_many : l.kind-index + length l.remaining.rest.items ≡ length l.kinds;
}
