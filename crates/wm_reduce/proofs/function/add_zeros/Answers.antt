use Rattle.std.proofs.Common.{◌∙◌, ◌+◌, ◌++◌, ap, sym, List, drop, get_or, filter_map}
use Rattle.std.proofs.lemmas.List.{drop_more}
use Rattle.wm_ast.specs.declared.module.Run.{Run}
use Rattle.wm_ast.specs.declared.module.ValType.TheVariants.{I32}
use Rattle.wm_ast.specs.Store.{zero_of}
use Rattle.wm_ast.specs.Types.{run_types}
use Rattle.wm_reduce.proofs.ListLaws.{zeros_run}
use Rattle.wm_reduce.proofs.function.add_zeros.Goals as goal

abbrev no_run : Run
no_run = record { count = 0; ty = I32 }

pub loop-run-preserved : goal.loop-run-preserved
loop-run-preserved c =
    zeros_run c.loop-run.locals.items c.add_run.new.locals.items (c.args.locals.now.items ++ filter_map zero_of (run_types c.args.runs.now))
    (get_or c.args.runs.now c.loop-run.run-index no_run) (drop (c.loop-run.run-index + 1) c.args.runs.now) c.in_ok-add_run.ensures
    (ap (λ (rs : List Run). c.loop-run.locals.items ++ filter_map zero_of (run_types rs)) (sym (drop_more c.args.runs.now c.loop-run.run-index no_run c.loop-run-test.true)) ∙ c.loop-run.invariant)
