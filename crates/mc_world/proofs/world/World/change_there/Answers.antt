use Rattle.std.proofs.Common.{◌≡◌, Bool, Option, Some, ℤ, sym, ap, ◌∙◌}
use Rattle.std.specs.Prelude.{option_map}
use Rattle.mc_nbt.specs.View.{view, parts}
use Rattle.mc_cmd.specs.Form.{Text}
use Rattle.mc_world.specs.NamedMap.{name_get}
use Rattle.mc_world.specs.steps.Changing.{changed}
use Rattle.mc_world.specs.steps.Trees.{is_stored}
use Rattle.mc_world.specs.WorldView.{scores_of, seen, standing}
use Rattle.mc_world.proofs.ChangeLemmas.{changed_there, put_back_there}
use Rattle.mc_world.proofs.NamedMapLemmas.{IsWritten, set_written, under}
use Rattle.mc_world.proofs.WorldViewLemmas.{on_err, storage_world, storages_of, trees_written}
use Rattle.mc_world.proofs.world.World.change_there.Goals as goal

pub change_tree-requires-clause-tree : goal.change_tree-requires-clause-tree
change_tree-requires-clause-tree c =
    let m = c.args.self.now.storages in
    let found : Some c.in-Some.tree.now ≡ name_get m c.args.id.now = c.in-Some.ensures.value ∙ ap (under m.entries) c.as_str.ensures in
    ap (λ o. is_stored (option_map view o)) found ∙ c.args.self.now.trees c.args.id.now

pub invariant_of-self : goal.invariant_of-self
invariant_of-self c =
    let m = c.args.self.now.storages in
    let x = c.change_tree.new.tree in
    let n = c.get_mut.follows.lender x in
    let i = c.args.id.now in
    let written : IsWritten m n i x = set_written m n i x c.as_str.result.now c.in-Some.tree.now c.as_str.ensures c.in-Some.ensures.value (c.get_mut.follows.holds x).0 in
    record { trees = trees_written m n x i written c.change_tree.ensures.keeps c.args.self.now.trees }

pub returns-clause-effect : goal.returns-clause-effect
returns-clause-effect c =
    let m = c.args.self.now.storages in
    let x = c.change_tree.new.tree in
    let n = c.get_mut.follows.lender x in
    let i = c.args.id.now in
    let found = c.in-Some.ensures.value ∙ ap (under m.entries) c.as_str.ensures in
    let written : IsWritten m n i x = set_written m n i x c.as_str.result.now c.in-Some.tree.now c.as_str.ensures c.in-Some.ensures.value (c.get_mut.follows.holds x).0 in
    let os : Text → Bool = standing c.args.self.now.board in
    let sc : Text → Text → Option ℤ = scores_of c.args.self.now.board in
    let r = c.args.self.now.rule in
    changed_there c.in_ok-change_tree-in-Some.field-0 (seen c.args.self.now) (storages_of os sc n r) i (view c.in-Some.tree.now) (view x) (λ t. changed c.args.change t (parts c.args.path.now)) c.answer.result (ap (option_map view) (sym found))
    (storage_world m n x i written os sc r) c.in_ok-change_tree-in-Some.ensures.changes (c.answer.ensures (storages_of os sc n r))

pub returns-in_err-change_tree-in-Some-clause-unchanged : goal.returns-in_err-change_tree-in-Some-clause-unchanged
returns-in_err-change_tree-in-Some-clause-unchanged c =
    let m = c.args.self.now.storages in
    let x = c.change_tree.new.tree in
    let n = c.get_mut.follows.lender x in
    let i = c.args.id.now in
    let found = c.in-Some.ensures.value ∙ ap (under m.entries) c.as_str.ensures in
    let written : IsWritten m n i x = set_written m n i x c.as_str.result.now c.in-Some.tree.now c.as_str.ensures c.in-Some.ensures.value (c.get_mut.follows.holds x).0 in
    let os : Text → Bool = standing c.args.self.now.board in
    let sc : Text → Text → Option ℤ = scores_of c.args.self.now.board in
    let r = c.args.self.now.rule in
    on_err _
    (put_back_there (seen c.args.self.now) (storages_of os sc n r) i (view c.in-Some.tree.now) (view x) (ap (option_map view) (sym found))
    (storage_world m n x i written os sc r) c.in_err-change_tree-in-Some.ensures.changes
    )
