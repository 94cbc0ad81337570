use Rattle.std.proofs.Common.{length, map}
use Rattle.pk_entries.specs.View.{entry_view}
use Rattle.pk_callers.proofs.Leading.{Leads}
use Rattle.pk_callers.proofs.waiting.inner_callers.Given as goal

-- the entries that are gone through tell these callers
abbrev pub invariant-loop-left : goal.invariant-loop-left
invariant-loop-left l = Leads l.m l.fn.gives (map entry_view l.fn.entries) (map entry_view l.left) l.inner.frames.items l.inner.gives

abbrev pub decreases-loop-left : goal.decreases-loop-left
decreases-loop-left l = length l.left
