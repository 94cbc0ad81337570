-- A reduction as its callers see it.
use Rattle.wm_reduce.specs.declared.reduction.Reduction.{Reduction}
use Rattle.wm_reduce.specs.State.{State}
use Rattle.wm_reduce.specs.TermView.{store_of, task_term, task_last, has_failed}

abbrev pub shown : Reduction → State
shown r = record {
  program = r.module.now;
  store = store_of r.storage;
  term = task_term r.task;
  last = task_last r.task;
  phase = r.phase;
  failed = has_failed r.task;
}
