use Rattle.std.proofs.Common.{refl, sym, ◌∙◌}
use Rattle.mc_nbt.specs.View.{view}
use Rattle.cc_line.specs.Running.{entry_tree}
use Rattle.pk_entries.specs.View.{entry_view}
use Rattle.pk_entries.proofs.Entries.{kept, not_kept}
use Rattle.pk_entries.proofs.entry.entry_of.Goals as goal

pub returns-then-same : goal.returns-then-same
returns-then-same c =
    let read = rw c.in-Some.is at c.in_ok-entry.ensures in
    kept (view c.args.tree.now) (entry_tree (entry_view c.in-Some.entry)) (entry_view c.in-Some.entry) read.0 refl
    (sym c.in_ok-same-in-Some.ensures ∙ c.if-same.true)

pub returns-else-same : goal.returns-else-same
returns-else-same c =
    let read = rw c.in-Some.is at c.in_ok-entry.ensures in
    not_kept (view c.args.tree.now) (entry_tree (entry_view c.in-Some.entry)) (entry_view c.in-Some.entry) read.1 refl
    (sym c.in_ok-same-in-Some.ensures ∙ c.if-same.false)
