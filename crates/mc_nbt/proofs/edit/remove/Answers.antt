use Rattle.std.proofs.Common.{sym, subst}
use Rattle.mc_nbt.specs.Tree.{remove, remove_at}
use Rattle.mc_nbt.specs.View.{view, part, parts}
use Rattle.mc_nbt.specs.Change.{Changes, IsChanged}
use Rattle.mc_nbt.specs.steps.Edit.{IsEdit, IsSettled, edited}
use Rattle.mc_nbt.proofs.ChangeLemmas.{changed_keeps, remove_keeps, settled_changes, settled_spared}
use Rattle.mc_nbt.proofs.edit.remove.Goals as goal

pub unreachable-requires : goal.unreachable-requires
unreachable-requires c = settled_spared (edited c.remove_at.result) c.in-Err.field-0 (view c.settle.new.tree) c.remove_at.ensures.spares (subst (λ r. IsSettled (edited c.remove_at.result) r (view c.settle.new.tree)) c.in-Err.is c.settle.ensures)

pub returns-clause-keeps : goal.returns-clause-keeps
returns-clause-keeps c h =
    let t = view c.args.tree.now in
    let new = view c.settle.new.tree in
    let target = remove_at (part c.split.result.0.now) (parts c.split.result.1.now) t in
    let e : IsEdit (edited c.remove_at.result) t target =
    subst (λ o. IsEdit (edited c.remove_at.result) (view o) (remove_at (part c.split.result.0.now) (parts c.split.result.1.now) (view o))) c.replace-old.ensures.value c.remove_at.ensures.edits
    in let changed : IsChanged c.in-Ok.changed t new target =
    subst (λ r. Changes r t new target) c.in-Ok.is (settled_changes (edited c.remove_at.result) c.settle.result t new target e c.settle.ensures)
    in changed_keeps c.in-Ok.changed t new (remove t (parts c.args.path.now)) (subst (λ qs. IsChanged c.in-Ok.changed t new (remove t qs)) (sym c.split.ensures) changed) h
    (λ u e. remove_keeps t (parts c.args.path.now) u h e)
