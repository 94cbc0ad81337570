use Rattle.pk_callers.proofs.Leading.{none_wait}
use Rattle.pk_callers.proofs.waiting.callers.Goals as goal

pub returns-in-empty : goal.returns-in-empty
returns-in-empty c n cs e w = none_wait c.args.m.now c.args.entries.now n cs c.in-empty.len_below w
