use Rattle.std.proofs.Common.{◌∙◌, List, length, map, subst, take, ◌-◌}
use Rattle.wm_ast.specs.declared.module.ValType.{ValType}
use Rattle.pk_entries.specs.View.{entry_view}
use Rattle.pk_callers.specs.Shown.{CallerShown, HasNoCaller}
use Rattle.pk_callers.proofs.CallerFound.{told_none, told_some}
use Rattle.pk_callers.proofs.Leading.{entries_parted, leads_more, leads_none, leads_stop}
use Rattle.pk_callers.proofs.waiting.inner_callers.Goals as goal

pub loop-left-init : goal.loop-left-init
loop-left-init c =
    leads_none c.args.m.now c.args.gives.now c.from_vec.result (map entry_view c.args.entries.now) c.new.result.items
    (c.from_vec.ensures ∙ c.in_ok-from_slice.ensures.items) c.new.ensures.items

pub returns-in_default-2 : goal.returns-in_default-2
returns-in_default-2 c =
    let left = c.loop-left.left.now in
    let last = c.last-item.result in
    let own = c.loop-left.inner.gives in
    let none = subst (λ (ts : List ValType). HasNoCaller c.args.m.now ts (entry_view last)) c.as_slice.ensures (told_none _ _ _ c.in_default-2.is c.in_ok-found.ensures) in
    leads_stop c.args.m.now c.args.gives.now own (map entry_view c.args.entries.now) (map entry_view left) (map entry_view (take (length left - 1) left)) (entry_view last) c.loop-left.inner.frames.items
    (entries_parted left last c.in-len1-up.len_at_least c.last-item.is) c.loop-left.invariant none

pub loop-left-preserved : goal.loop-left-preserved
loop-left-preserved c =
    let left = c.loop-left.left.now in
    let last = c.last-item.result in
    let own = c.loop-left.inner.gives in
    let found = c.in-Some.found in
    let shown = subst (λ (ts : List ValType). CallerShown c.args.m.now ts (entry_view last) found.frame found.gives) c.as_slice.ensures (told_some _ _ _ found c.in-Some.is c.in_ok-found.ensures) in
    leads_more c.args.m.now c.args.gives.now own (map entry_view c.args.entries.now) (map entry_view left) (map entry_view (take (length left - 1) left)) (entry_view last) c.loop-left.inner.frames.items
    (entries_parted left last c.in-len1-up.len_at_least c.last-item.is) c.loop-left.invariant found.frame found.gives c.push.new.self.items c.in_ok-push.ensures.items shown
