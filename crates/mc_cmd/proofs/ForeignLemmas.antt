-- A command changes nothing of a name that it doesn't name, and so a command of somebody else nothing of a namespace's own.
use Rattle.std.proofs.Common.{◌≡◌, List, [], ◌∷◌, Option, Some, None, Bool, true, false, refl, sym, ap, ◌∙◌}
use Rattle.std.specs.Prelude.{ℤ, find, ◌||◌, if◌then◌else◌}
use Rattle.std.specs.List.{AllByRecursion}
use Rattle.std.specs.Str.{bytes_eq}
use Rattle.std.proofs.lemmas.Slice.Eq.{bytes_eq-Decides}
use Rattle.mc_nbt.specs.Tree.{Tree}
use Rattle.mc_nbt.proofs.TreeLemmas.{bytes_refl}
use Rattle.mc_cmd.specs.Form.{Text}
use Rattle.mc_cmd.specs.Command.{Op, assign, add, subtract, multiply, divide, remainder, lower, raise, swap, Cmd, plain, execute}
use Rattle.mc_cmd.specs.Command.{Simple, objective_add, score_set, score_add, score_remove, score_get, score_op, score_reset, data_get, set_value, set_from, append_value, append_from, data_remove, call, call_with, return_value, chain_length}
use Rattle.mc_cmd.specs.World.{World, Outcome, with_objective, with_score_at, fails, leaves, on_objective, got, or_zero, operate, with_source, scored, operated, stored, effect, cmd_effect}
use Rattle.mc_cmd.specs.Foreign.{simple_names, is_own, IsKept}
use Rattle.mc_cmd.specs.Layout.{io_of, memory_of, rest_of}
use Rattle.mc_cmd.specs.Pack.{IsForeign}
use Rattle.mc_cmd.proofs.WorldLemmas.{objective_elsewhere, score_of_other_objective, storage_elsewhere}

-- none of the names is this one
abbrev Lacks : Text → List Text → Type 0
Lacks n names = AllByRecursion (λ m. bytes_eq m n ≡ false) names

module _ (n : Text) (w : World) where
  same : IsKept n w w
  same = record { objective = refl; scores = λ h. refl; storage = refl }

  objective_added : (o : Text) → bytes_eq o n ≡ false → IsKept n w (with_objective w o)
  objective_added o e = record { objective = objective_elsewhere w o n e; scores = λ h. refl; storage = refl }

  score_put : (w' : World) (h o : Text) (v : Option ℤ) → bytes_eq o n ≡ false → IsKept n w w' → IsKept n w (with_score_at w' h o v)
  score_put w' h o v e k = record { objective = k.objective; scores = λ j. score_of_other_objective w' h o j n v e ∙ k.scores j; storage = k.storage }

  tree_stored : (i : Text) (o : Option Tree) → bytes_eq i n ≡ false → IsKept n w (stored w i o).world
  tree_stored i None e = same
  tree_stored i (Some t) e = record { objective = refl; scores = λ h. refl; storage = storage_elsewhere w i n t e }

  number_got : (o : Option ℤ) → IsKept n w (got w o).world
  number_got None = same
  number_got (Some z) = same

  -- where the objective doesn't stand, nothing changes
  if_stands : (o : Text) (r : Outcome) → IsKept n w r.world → IsKept n w (on_objective w o r).world
  if_stands o r k = go (w.objectives o)
    where
      go : (b : Bool) → IsKept n w (if b then r else fails w).world
      go true = k
      go false = same

  source_put : (op : Op) (i q : Text) (z : ℤ) → bytes_eq q n ≡ false → IsKept n w (with_source op w i q z)
  source_put assign i q z e = same
  source_put add i q z e = same
  source_put subtract i q z e = same
  source_put multiply i q z e = same
  source_put divide i q z e = same
  source_put remainder i q z e = same
  source_put lower i q z e = same
  source_put raise i q z e = same
  source_put swap i q z e = score_put w i q (Some z) e same

  score_made : (w' : World) (h o : Text) (v : Option ℤ) → bytes_eq o n ≡ false → IsKept n w w' → IsKept n w (scored w' h o v).world
  score_made w' h o None e k = k
  score_made w' h o (Some z) e k = score_put w' h o (Some z) e k

  score_operated : (h o : Text) (op : Op) (i q : Text) (v : Option ℤ) → bytes_eq o n ≡ false → bytes_eq q n ≡ false → IsKept n w (operated w h o op i q v).world
  score_operated h o op i q None e f = same
  score_operated h o op i q (Some b) e f =
      let a = or_zero (w.scores h o) in score_made (with_source op w i q a) h o (operate op a b) e (source_put op i q a f)

  objective_made : (o : Text) → bytes_eq o n ≡ false → IsKept n w (effect (objective_add o) w).world
  objective_made o e = go (w.objectives o)
    where
      go : (b : Bool) → IsKept n w (if b then fails w else leaves (with_objective w o)).world
      go true = same
      go false = objective_added o e

  -- a command changes nothing of a name that it doesn't name
  pub unnamed_kept : (s : Simple) → Lacks n (simple_names s) → IsKept n w (effect s w).world
  unnamed_kept (objective_add o) l = objective_made o l.0
  unnamed_kept (score_set h o z) l = if_stands o _ (score_put w h o _ l.0 same)
  unnamed_kept (score_add h o z) l = if_stands o _ (score_put w h o _ l.0 same)
  unnamed_kept (score_remove h o z) l = if_stands o _ (score_put w h o _ l.0 same)
  unnamed_kept (score_get h o) l = if_stands o _ (number_got (w.scores h o))
  unnamed_kept (score_op h o op i q) l =
      let r = operated w h o op i q (w.scores i q) in
      if_stands o (on_objective w q r) (if_stands q r (score_operated h o op i q (w.scores i q) l.0 l.1.0))
  unnamed_kept (score_reset h o) l = if_stands o _ (score_put w h o None l.0 same)
  unnamed_kept (data_get i ps) l = number_got _
  unnamed_kept (set_value i ps t) l = tree_stored i _ l.0
  unnamed_kept (set_from i ps j qs) l = tree_stored i _ l.0
  unnamed_kept (append_value i ps t) l = tree_stored i _ l.0
  unnamed_kept (append_from i ps j qs) l = tree_stored i _ l.0
  unnamed_kept (data_remove i ps) l = tree_stored i _ l.0
  unnamed_kept (call f) l = same
  unnamed_kept (call_with f i ps) l = same
  unnamed_kept (return_value z) l = same
  unnamed_kept chain_length l = same

-- a name that isn't a namespace's own is none of its own names
not_own : (ns m n : Text) → is_own ns n ≡ true → is_own ns m ≡ false → bytes_eq m n ≡ false
not_own ns m n own other = go (bytes_eq m n) refl
  where
    go : (b : Bool) → bytes_eq m n ≡ b → b ≡ false
    go false e = refl
    go true e = let one : m ≡ n = (bytes_eq-Decides m n).0 e in sym own ∙ ap (is_own ns) (sym one) ∙ other

none_own : (ns n : Text) (names : List Text) → is_own ns n ≡ true → find (is_own ns) names ≡ None → Lacks n names
none_own ns n [] own none = tt
none_own ns n (m ∷ more) own none = go (is_own ns m) refl none (none_own ns n more own)
  where
    go : (b : Bool) → is_own ns m ≡ b → (if b then Some m else find (is_own ns) more) ≡ None → (find (is_own ns) more ≡ None → Lacks n more) → Lacks n (m ∷ more)
    go true e none rest = absurd cc
    go false e none rest = (not_own ns m n own e, rest none)

-- the names that are a namespace's own
or_true : (a b : Bool) → b ≡ true → a || b ≡ true
or_true true b e = refl
or_true false b e = e

pub objective_own : (ns : Text) → is_own ns ns ≡ true
objective_own ns = ap (λ b. b || (bytes_eq ns (io_of ns) || (bytes_eq ns (memory_of ns) || bytes_eq ns (rest_of ns)))) (bytes_refl ns)

pub io_own : (ns : Text) → is_own ns (io_of ns) ≡ true
io_own ns = or_true _ _ (ap (λ b. b || (bytes_eq (io_of ns) (memory_of ns) || bytes_eq (io_of ns) (rest_of ns))) (bytes_refl (io_of ns)))

pub memory_own : (ns : Text) → is_own ns (memory_of ns) ≡ true
memory_own ns = or_true _ _ (or_true _ _ (ap (λ b. b || bytes_eq (memory_of ns) (rest_of ns)) (bytes_refl (memory_of ns))))

pub rest_own : (ns : Text) → is_own ns (rest_of ns) ≡ true
rest_own ns =
    let r = rest_of ns in
    let last = or_true (bytes_eq r (memory_of ns)) (bytes_eq r r) (bytes_refl r) in
    let two = or_true (bytes_eq r (io_of ns)) (bytes_eq r (memory_of ns) || bytes_eq r r) last in
    or_true (bytes_eq r ns) (bytes_eq r (io_of ns) || (bytes_eq r (memory_of ns) || bytes_eq r r)) two

-- a command of somebody else changes nothing of a name that is the namespace's own
pub own_kept : (ns : Text) (c : Cmd) (w : World) (n : Text) → IsForeign ns c → is_own ns n ≡ true → IsKept n w (cmd_effect c w).world
own_kept ns (plain s) w n f own = unnamed_kept n w s (none_own ns n (simple_names s) own f.apart)
own_kept ns (execute ss s) w n f own = let no = f.foreign in absurd cc
