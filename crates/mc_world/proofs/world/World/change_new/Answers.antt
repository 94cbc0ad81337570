use Rattle.std.proofs.Common.{Bool, Option, ℤ, ◌∙◌}
use Rattle.mc_nbt.specs.View.{view, parts}
use Rattle.mc_cmd.specs.Form.{Text}
use Rattle.mc_world.specs.steps.Changing.{changed}
use Rattle.mc_world.specs.WorldView.{scores_of, seen, standing}
use Rattle.mc_world.proofs.ChangeLemmas.{changed_new, unchanged_new}
use Rattle.mc_world.proofs.NamedMapLemmas.{put_written}
use Rattle.mc_world.proofs.WorldViewLemmas.{storage_world, storages_of, trees_put}
use Rattle.mc_world.proofs.world.World.change_new.Goals as goal

pub returns-in_ok-insert-in-Yes-clause-effect : goal.returns-in_ok-insert-in-Yes-clause-effect
returns-in_ok-insert-in-Yes-clause-effect c =
    let m = c.args.self.now.storages in
    let n = c.insert.new.self in
    let x = c.change_tree.new.tree in
    let i = c.args.id.now in
    let os : Text → Bool = standing c.args.self.now.board in
    let sc : Text → Text → Option ℤ = scores_of c.args.self.now.board in
    let r = c.args.self.now.rule in
    changed_new c.in_ok-change_tree.field-0 (seen c.args.self.now) (storages_of os sc n r) i (view c.empty_compound-tree.result) (view x) (λ t. changed c.args.change t (parts c.args.path.now)) c.done.result
    c.requires.missing c.empty_compound-tree.ensures c.in-Yes.is c.in_ok-change_tree.ensures.changes
    (storage_world m n x i (put_written m n i x c.in_ok-name-in-Yes.name (c.in_ok-name-in-Yes.ensures.ok ∙ c.as_str.ensures) c.in_ok-insert-in-Yes.ensures.entries) os sc r)
    (c.done.ensures (storages_of os sc n r))

pub invariant_of-self : goal.invariant_of-self
invariant_of-self c =
    let m = c.args.self.now.storages in
    let n = c.insert.new.self in
    record { trees = trees_put m n c.insert.result c.in_ok-name-in-Yes.name c.change_tree.new.tree c.insert.ensures.entries c.insert.ensures.err c.change_tree.ensures.keeps c.args.self.now.trees }

pub returns-in-No-clause-effect : goal.returns-in-No-clause-effect
returns-in-No-clause-effect c =
    let w = seen c.args.self.now in
    unchanged_new c.in_ok-change_tree.field-0 w c.args.id.now (view c.empty_compound-tree.result) (view c.change_tree.new.tree) (λ t. changed c.args.change t (parts c.args.path.now)) c.failed.result
    c.requires.missing c.empty_compound-tree.ensures c.in-No.is c.in_ok-change_tree.ensures.changes (c.failed.ensures w)
