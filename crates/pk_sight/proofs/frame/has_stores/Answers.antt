use Rattle.std.proofs.Common.{subst, List, ℕ}
use Rattle.std.specs.Bool.{MatchBool}
use Rattle.mc_cmd.specs.World.{tree_in}
use Rattle.mc_world.specs.WorldView.{seen}
use Rattle.pk_sight.specs.steps.Parts.{IsKeyed}
use Rattle.pk_sight.proofs.ShownLemmas.{last_keyed}
use Rattle.pk_sight.proofs.frame.has_stores.Goals as goal

pub returns : goal.returns
returns c =
    let w = seen c.args.world.now in
    let names = c.args.names.now in
    let found = c.is_keyed-3.result in
    last_keyed names.ns w found
    (subst (λ (i : List ℕ). IsKeyed (tree_in w i)) names.io_is c.if-not-is_keyed.ensures)
    (subst (λ (i : List ℕ). IsKeyed (tree_in w i)) names.memory_is c.if-not-is_keyed-2.ensures)
    (subst (λ (i : List ℕ). MatchBool found (IsKeyed (tree_in w i)) (IsKeyed (tree_in w i) → ⊥)) names.rest_is c.is_keyed-3.ensures)
