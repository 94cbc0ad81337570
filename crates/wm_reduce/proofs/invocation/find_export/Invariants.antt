use Rattle.std.proofs.Common.{◌≡◌, drop, slice_get}
use Rattle.wm_ast.specs.Instance.{exported_functions}
use Rattle.wm_reduce.proofs.SegmentLaws.{functions_of}
use Rattle.wm_reduce.proofs.invocation.find_export.Given as goal

abbrev pub invariant-loop-export : goal.invariant-loop-export
invariant-loop-export l =
    slice_get (functions_of (drop l.export-index l.export-items)) l.left ≡ slice_get (exported_functions l.fn.m) l.fn.position
