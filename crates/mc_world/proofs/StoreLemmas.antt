-- The stores of an `execute` one after another, and where want of memory ends them.
use Rattle.std.proofs.Common.{◌≡◌, ℕ, ◌+◌, ◌<◌, List, [], ◌∷◌, ◌++◌, length, take, drop, Bool, true, false, Option, Some, None, refl, sym, ap, ◌∙◌, arith, map}
use Rattle.std.specs.Prelude.{ℤ, ◌||◌, if◌then◌else◌}
use Rattle.std.proofs.lemmas.List.{length-map, map-append, take-append-drop, take-map}
use Rattle.mc_nbt.specs.Tree.{int}
use Rattle.mc_cmd.specs.Command.{Sub, if_test, unless_test, store_score, store_data, Simple, call, call_with, return_value, chain_length, execute}
use Rattle.mc_cmd.specs.Command.{objective_add, score_set, score_add, score_remove, score_get, score_op, score_reset}
use Rattle.mc_cmd.specs.Command.{data_get, set_value, set_from, append_value, append_from, data_remove}
use Rattle.mc_cmd.specs.Grammar.{any_stores, has_result, may_run, stores}
use Rattle.mc_cmd.specs.World.{World, effect, fails, got, store_all, with_score}
use Rattle.mc_world.specs.WorldView.{IsLeftInPart}
use Rattle.mc_world.specs.steps.Stores.{AreStoredInPart}

-- stores behind others
pub store_behind : (ss ts : List Sub) (z : ℤ) (w : World) → store_all (ss ++ ts) z w ≡ store_all ts z (store_all ss z w)
store_behind [] ts z w = refl
store_behind (if_test c ∷ ss) ts z w = store_behind ss ts z w
store_behind (unless_test c ∷ ss) ts z w = store_behind ss ts z w
store_behind (store_score h o ∷ ss) ts z w = store_behind ss ts z (with_score w h o z)
store_behind (store_data i ps ∷ ss) ts z w = store_behind ss ts z (effect (set_value i ps (int z)) w).world

any_behind : (ss : List Sub) (s : Sub) (ts : List Sub) → stores s ≡ true → any_stores (ss ++ (s ∷ ts)) ≡ true
any_behind [] s ts h = ap (λ b. b || any_stores ts) h
any_behind (r ∷ ss) s ts h = ap (λ b. stores r || b) (any_behind ss s ts h) ∙ last (stores r)
  where
    last : (b : Bool) → (b || true) ≡ true
    last true = refl
    last false = refl

-- the stores before a place are made, and one stands there
module _ {X : Type 0} (f : X → Sub) (xs : List X) (i : ℕ) (x : X) (here : drop i xs ≡ x ∷ drop (i + 1) xs) where
  split : map f xs ≡ map f (take i xs) ++ (f x ∷ map f (drop (i + 1) xs))
  split = sym (ap (map f) (take-append-drop i xs)) ∙ map-append f (take i xs) (drop i xs) ∙ ap (λ ys. map f (take i xs) ++ map f ys) here

  pub stored_up_to : (z : ℤ) (w v : World) → i < length xs → stores (f x) ≡ true → v ≡ store_all (map f (take i xs)) z w → AreStoredInPart (map f xs) z w v
  stored_up_to z w v less one e =
      let within : i < length (map f xs) = omega (arith, length-map xs f) in (
        ap any_stores split ∙ any_behind (map f (take i xs)) (f x) (map f (drop (i + 1) xs)) one,
        (i, within, e ∙ sym (ap (λ ss. store_all ss z w) (take-map f i xs))),
      )

-- a command with a result changes nothing
result_keeps : (s : Simple) (w : World) → has_result s ≡ true → (effect s w).world ≡ w
result_keeps (objective_add o) w h = absurd cc
result_keeps (score_set i o z) w h = absurd cc
result_keeps (score_add i o z) w h = absurd cc
result_keeps (score_remove i o z) w h = absurd cc
result_keeps (score_get i o) w h = there (w.objectives o) (w.scores i o)
  where
    there : (b : Bool) (q : Option ℤ) → (if b then got w q else fails w).world ≡ w
    there true None = refl
    there true (Some z) = refl
    there false q = refl
result_keeps (score_op i o op j q) w h = absurd cc
result_keeps (score_reset i o) w h = absurd cc
result_keeps (data_get i ps) w h = there _
  where
    there : (q : Option ℤ) → (got w q).world ≡ w
    there None = refl
    there (Some z) = refl
result_keeps (set_value i ps v) w h = absurd cc
result_keeps (set_from i ps j qs) w h = absurd cc
result_keeps (append_value i ps v) w h = absurd cc
result_keeps (append_from i ps j qs) w h = absurd cc
result_keeps (data_remove i ps) w h = absurd cc
result_keeps (call f) w h = absurd cc
result_keeps (call_with f i ps) w h = absurd cc
result_keeps (return_value z) w h = absurd cc
result_keeps chain_length w h = refl

has_result_where : (ss : List Sub) (s : Simple) → may_run ss s ≡ true → any_stores ss ≡ true → has_result s ≡ true
has_result_where [] s m h = absurd cc
has_result_where (x ∷ ss) s m h = sym (ap (λ b. if b then has_result s else true) h) ∙ m

-- what want of memory leaves: nothing is changed, where the command itself wants it; else some stores are made
pub none_made : (ss : List Sub) (s : Simple) (w v : World) → may_run ss s ≡ true → v ≡ w → IsLeftInPart (execute ss s) w v
none_made [] s w v m e = absurd cc
none_made (x ∷ ss) s w v m e = (0, omega arith, e)

pub some_made : (ss : List Sub) (s : Simple) (w v : World) → may_run ss s ≡ true → AreStoredInPart ss (effect s w).result (effect s w).world v → IsLeftInPart (execute ss s) w v
some_made ss s w v m a =
    (a.1.0, a.1.1, a.1.2 ∙ ap (store_all (take a.1.0 ss) (effect s w).result) (result_keeps s w (has_result_where ss s m a.0)))
