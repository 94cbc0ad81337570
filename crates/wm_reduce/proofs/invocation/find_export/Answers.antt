use Rattle.std.proofs.Common.{◌+◌, ◌∙◌, ap, drop, slice_get, arith}
use Rattle.wm_ast.specs.Instance.{exported_functions}
use Rattle.wm_reduce.proofs.SegmentLaws.{functions_of, export_here, export_passed, export_other, no_export}
use Rattle.wm_reduce.proofs.invocation.find_export.Goals as goal
use Rattle.wm_reduce.proofs.invocation.find_export.Goals.{then-is_function+else-left-eq0, else-is_function}

pub loop-export-init : goal.loop-export-init
loop-export-init c = ap (λ es. slice_get (functions_of es) c.args.position) c.as_slice-export-items.ensures

pub returns-then-left-eq0 : goal.returns-then-left-eq0
returns-then-left-eq0 c =
    export_here c.as_slice-export-items.result.now c.loop-export.export-index c.export-item.result c.loop-export-test.true c.export-item.is
    (slice_get (exported_functions c.args.m.now) c.args.position) c.loop-export.left c.is_function.result c.is_function.ensures c.if-is_function.true c.if-left-eq0.true c.loop-export.invariant

pub loop-export-preserved : goal.loop-export-preserved
loop-export-preserved c =
    let es = c.as_slice-export-items.result.now in
    let i = c.loop-export.export-index in
    let found = slice_get (exported_functions c.args.m.now) c.args.position in
    elim c.if-is_function.branch [
      | then-is_function+else-left-eq0 w ↦
          ap (slice_get (functions_of (drop (i + 1) es))) w.left-is
          ∙ export_passed es i c.export-item.result c.loop-export-test.true c.export-item.is found c.loop-export.left c.is_function.result c.is_function.ensures w.if-is_function.true
          (let n = w.if-left-eq0.false in omega arith) c.loop-export.invariant
      | else-is_function w ↦
          ap (slice_get (functions_of (drop (i + 1) es))) w.left-is
          ∙ export_other es i c.export-item.result c.loop-export-test.true c.export-item.is found c.loop-export.left c.is_function.result c.is_function.ensures w.if-is_function.false c.loop-export.invariant
    ]

pub returns : goal.returns
returns c =
    no_export c.as_slice-export-items.result.now c.loop-export.export-index (slice_get (exported_functions c.args.m.now) c.args.position) c.loop-export.left c.loop-export-test.false c.loop-export.invariant
