-- An objective that stands goes on standing.
use Rattle.std.proofs.Common.{◌≡◌, List, [], ◌∷◌, Bool, true, false, Option, Some, None, refl, ◌∙◌}
use Rattle.std.specs.Prelude.{ℤ, if◌then◌else◌}
use Rattle.std.specs.List.{list_all}
use Rattle.std.specs.Str.{bytes_eq}
use Rattle.mc_nbt.specs.Tree.{Tree, int, set}
use Rattle.mc_cmd.specs.Form.{Text}
use Rattle.mc_cmd.specs.Command.{Op, assign, add, subtract, multiply, divide, remainder, lower, raise, swap}
use Rattle.mc_cmd.specs.Command.{Sub, if_test, unless_test, store_score, store_data, Simple, call, call_with, return_value, chain_length}
use Rattle.mc_cmd.specs.Command.{objective_add, score_set, score_add, score_remove, score_get, score_op, score_reset}
use Rattle.mc_cmd.specs.Command.{data_get, set_value, set_from, append_value, append_from, data_remove}
use Rattle.mc_cmd.specs.World.{World, Outcome, all_go_on, effect, fails, got, leaves, on_objective, operate, operated, or_zero, scored, store_all, stored, tree_in, with_objective, with_source}
use Rattle.mc_cmd.proofs.FormLemmas.{and_first, and_second, and_both}
use Rattle.mc_world.specs.steps.Stores.{store_stands}

-- the source of an operation leaves the objectives as they are
source_keeps : (op : Op) (w : World) (i q : Text) (a : ℤ) (p : Text) → (with_source op w i q a).objectives p ≡ w.objectives p
source_keeps assign w i q a p = refl
source_keeps add w i q a p = refl
source_keeps subtract w i q a p = refl
source_keeps multiply w i q a p = refl
source_keeps divide w i q a p = refl
source_keeps remainder w i q a p = refl
source_keeps lower w i q a p = refl
source_keeps raise w i q a p = refl
source_keeps swap w i q a p = refl

module _ (w : World) (p : Text) (stands : w.objectives p ≡ true) where
  either : (b : Bool) (x y : Outcome) → x.world.objectives p ≡ true → y.world.objectives p ≡ true → (if b then x else y).world.objectives p ≡ true
  either true x y e f = e
  either false x y e f = f

  if_there : (o : Text) (x : Outcome) → x.world.objectives p ≡ true → (on_objective w o x).world.objectives p ≡ true
  if_there o x e = either (w.objectives o) x (fails w) e stands

  got_keeps : (o : Option ℤ) → (got w o).world.objectives p ≡ true
  got_keeps None = stands
  got_keeps (Some z) = stands

  pub stored_keeps : (i : Text) (o : Option Tree) → (stored w i o).world.objectives p ≡ true
  stored_keeps i None = stands
  stored_keeps i (Some t) = stands

  added_keeps : (o : Text) (b : Bool) → (if b then true else w.objectives p) ≡ true
  added_keeps o true = refl
  added_keeps o false = stands

  operated_keeps : (h o : Text) (op : Op) (i q : Text) (b : Option ℤ) → (operated w h o op i q b).world.objectives p ≡ true
  operated_keeps h o op i q None = stands
  operated_keeps h o op i q (Some b) = go (operate op (or_zero (w.scores h o)) b)
    where
      a : ℤ
      a = or_zero (w.scores h o)

      go : (z : Option ℤ) → (scored (with_source op w i q a) h o z).world.objectives p ≡ true
      go None = source_keeps op w i q a p ∙ stands
      go (Some z) = source_keeps op w i q a p ∙ stands

  pub effect_keeps : (s : Simple) → (effect s w).world.objectives p ≡ true
  effect_keeps (objective_add o) = either (w.objectives o) (fails w) (leaves (with_objective w o)) stands (added_keeps o (bytes_eq o p))
  effect_keeps (score_set h o z) = if_there o _ stands
  effect_keeps (score_add h o z) = if_there o _ stands
  effect_keeps (score_remove h o z) = if_there o _ stands
  effect_keeps (score_get h o) = if_there o _ (got_keeps (w.scores h o))
  effect_keeps (score_op h o op i q) = if_there o _ (if_there q _ (operated_keeps h o op i q (w.scores i q)))
  effect_keeps (score_reset h o) = if_there o _ stands
  effect_keeps (data_get i ps) = got_keeps _
  effect_keeps (set_value i ps v) = stored_keeps i _
  effect_keeps (set_from i ps j qs) = stored_keeps i _
  effect_keeps (append_value i ps v) = stored_keeps i _
  effect_keeps (append_from i ps j qs) = stored_keeps i _
  effect_keeps (data_remove i ps) = stored_keeps i _
  effect_keeps (call f) = stands
  effect_keeps (call_with f i ps) = stands
  effect_keeps (return_value z) = stands
  effect_keeps chain_length = stands

  -- nor does a store take one away
  pub store_keeps : (s : Sub) (z : ℤ) → (store_all (s ∷ []) z w).objectives p ≡ true
  store_keeps (if_test c) z = stands
  store_keeps (unless_test c) z = stands
  store_keeps (store_score h o) z = stands
  store_keeps (store_data i ps) z = stored_keeps i (set (tree_in w i) ps (int z))

-- the objectives of stores go on standing in a world that keeps all of them
pub stand_still : (w v : World) → ((p : Text) → w.objectives p ≡ true → v.objectives p ≡ true) → (ss : List Sub) → list_all (store_stands w) ss ≡ true → list_all (store_stands v) ss ≡ true
stand_still w v keeps [] h = refl
stand_still w v keeps (if_test c ∷ ss) h = stand_still w v keeps ss h
stand_still w v keeps (unless_test c ∷ ss) h = stand_still w v keeps ss h
stand_still w v keeps (store_score i o ∷ ss) h = and_both _ _ (keeps o (and_first _ _ h)) (stand_still w v keeps ss (and_second (w.objectives o) _ h))
stand_still w v keeps (store_data i ps ∷ ss) h = stand_still w v keeps ss h

-- an `execute` that goes on has the objectives of its stores
pub stores_stand : (ss : List Sub) (w : World) → all_go_on ss w ≡ true → list_all (store_stands w) ss ≡ true
stores_stand [] w h = refl
stores_stand (if_test c ∷ ss) w h = stores_stand ss w (and_second _ _ h)
stores_stand (unless_test c ∷ ss) w h = stores_stand ss w (and_second _ _ h)
stores_stand (store_score i o ∷ ss) w h = and_both _ _ (and_first _ _ h) (stores_stand ss w (and_second (w.objectives o) _ h))
stores_stand (store_data i ps ∷ ss) w h = stores_stand ss w h
