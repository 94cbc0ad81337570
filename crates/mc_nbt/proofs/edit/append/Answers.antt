use Rattle.std.proofs.Common.{◌≡◌, suc, ◌+◌, sym, ap, ◌∙◌, refl, true, false, length, arith, subst}
use Rattle.std.specs.Prelude.{nat_lt}
use Rattle.std.proofs.lemmas.List.{length-map}
use Rattle.mc_nbt.specs.Tree.{append, append_at, depth}
use Rattle.mc_nbt.specs.View.{view, part, parts}
use Rattle.mc_nbt.specs.Change.{Changes}
use Rattle.mc_nbt.specs.steps.Edit.{edited, IsEdit}
use Rattle.mc_nbt.proofs.ChangeLemmas.{settled_changes, path_most, append_tested, changes_keep, append_keeps}
use Rattle.mc_nbt.proofs.edit.append.Goals as goal

pub is_too_deep-requires : goal.is_too_deep-requires
is_too_deep-requires c =
    let most = path_most (parts c.args.path.now) c.parts.ensures.path in
    let same : length c.parts.result.now ≡ length c.args.path.now = ap length c.parts.ensures.steps in
    let size : length (parts c.args.path.now) ≡ length c.args.path.now = length-map c.args.path.now part in
    omega arith

pub returns-then-is_too_deep-clause-changes : goal.returns-then-is_too_deep-clause-changes
returns-then-is_too_deep-clause-changes c =
    let t = view c.args.tree.now in
    let v = view c.args.value in
    let one : length c.parts.result.now + 1 ≡ suc (length c.parts.result.now) = omega arith in
    let b : nat_lt 64 (suc (length (parts c.args.path.now)) + depth v) ≡ true =
    ap (λ n. nat_lt 64 (suc n + depth v)) (length-map c.args.path.now part) ∙ ap (λ s. nat_lt 64 (suc (length s) + depth v)) (sym c.parts.ensures.steps) ∙ sym (c.is_too_deep.ensures ∙ ap (λ n. nat_lt 64 (n + depth v)) one) ∙ c.if-is_too_deep.true in
    (append_tested t (parts c.args.path.now) (part c.split.result.0.now) (parts c.split.result.1.now) v true c.split.ensures c.requires.tree b, refl)

pub returns-clause-changes : goal.returns-clause-changes
returns-clause-changes c =
    let t = view c.args.tree.now in
    let v = view c.args.value in
    let one : length c.parts.result.now + 1 ≡ suc (length c.parts.result.now) = omega arith in
    let b : nat_lt 64 (suc (length (parts c.args.path.now)) + depth v) ≡ false =
    ap (λ n. nat_lt 64 (suc n + depth v)) (length-map c.args.path.now part) ∙ ap (λ s. nat_lt 64 (suc (length s) + depth v)) (sym c.parts.ensures.steps) ∙ sym (c.is_too_deep.ensures ∙ ap (λ n. nat_lt 64 (n + depth v)) one) ∙ c.if-is_too_deep.false in
    subst (Changes c.settle.result t (view c.settle.new.tree)) (sym (append_tested t (parts c.args.path.now) (part c.split.result.0.now) (parts c.split.result.1.now) v false c.split.ensures c.requires.tree b)) (settled_changes (edited c.append_at.result) c.settle.result t (view c.settle.new.tree) (append_at (part c.split.result.0.now) (parts c.split.result.1.now) v t) (subst (λ o. IsEdit (edited c.append_at.result) (view o) (append_at (part c.split.result.0.now) (parts c.split.result.1.now) v (view o))) c.replace-old.ensures.value c.append_at.ensures) c.settle.ensures)

pub returns-clause-keeps : goal.returns-clause-keeps
returns-clause-keeps c =
    let t = view c.args.tree.now in
    let v = view c.args.value in
    changes_keep c.settle.result t (view c.settle.new.tree) (append t (parts c.args.path.now) v) (returns-clause-changes c) c.requires.tree (λ u e. append_keeps t v (parts c.args.path.now) u c.parts.ensures.path c.requires.tree c.requires.value e)
