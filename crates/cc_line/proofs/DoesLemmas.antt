-- The contract of lines: composition, and that of single commands.
use Rattle.std.proofs.Common.{◌≡◌, ℕ, ◌+◌, ◌≤◌, List, [], ◌∷◌, ◌++◌, Bool, true, false, arith}
use Rattle.std.specs.Prelude.{ℤ}
use Rattle.mc_cmd.specs.Form.{Text}
use Rattle.mc_cmd.specs.Command.{Simple, Sub, return_value, plain, execute}
use Rattle.mc_cmd.specs.World.{World, effect, is_direct, all_go_on, store_all}
use Rattle.mc_cmd.specs.Chain.{Texts, Functions}
use Rattle.mc_cmd.proofs.Runs.{Falls, falls_none, falls_append, falls_plain, falls_execute, falls_skip, returns_append, returns_before, returns_execute}
use Rattle.cc_line.specs.Sight.{Sight, Shows, Leaves, Done, Does}
use Rattle.mc_cmd.specs.Grammar.{cmd_text}
use Rattle.cc_line.proofs.Speaking.{Speaks}
use Rattle.cc_line.proofs.SightLemmas.{outside_none, outside_both, Written, shows_as}

module _ (functions : Functions) (ns : Text) where
  pub does_none : (v : Sight) → Does functions ns [] v 0 false v
  does_none v = record { by = λ w h. record { world = w; weight = 0; light = arith_zero; leaves = falls_none functions w; shows = h; outside = outside_none ns w } }
    where
      arith_zero : 0 ≤ 0
      arith_zero = omega arith

  leaves_after : (b : Bool) (xs ys : Texts) (w w1 w2 : World) (j k : ℕ) → Falls functions xs w j w1 → Leaves functions b ys w1 k w2 → Leaves functions b (xs ++ ys) w (j + k) w2
  leaves_after true xs ys w w1 w2 j k f g = returns_append functions xs ys w w1 w2 j k f g
  leaves_after false xs ys w w1 w2 j k f g = falls_append functions xs ys w w1 w2 j k f g

  pub does_append : (b : Bool) (xs ys : Texts) (v u t : Sight) (j k n : ℕ) → Does functions ns xs v j false u → Does functions ns ys u k b t → j + k ≤ n → Does functions ns (xs ++ ys) v n b t
  does_append b xs ys v u t j k n f g l = record { by = λ w h. go w (f.by w h) (λ x s. g.by x s) }
    where
      go : (w : World) → Done functions ns xs w j false u → ((x : World) → Shows ns x u → Done functions ns ys x k b t) → Done functions ns (xs ++ ys) w n b t
      go w d e =
          let r : Done functions ns ys d.world k b t = e d.world d.shows in
          let a = d.light in
          let z = r.light in
          record {
            world = r.world;
            weight = d.weight + r.weight;
            light = (let y : d.weight + r.weight ≤ n = omega arith in y);
            leaves = leaves_after b xs ys w d.world r.world d.weight r.weight d.leaves r.leaves;
            shows = r.shows;
            outside = outside_both ns w d.world r.world d.outside r.outside;
          }

  -- what follows lines that end their list is never run
  pub does_before : (xs ys : Texts) (v u : Sight) (k : ℕ) → Does functions ns xs v k true u → Does functions ns (xs ++ ys) v k true u
  does_before xs ys v u k f = record { by = λ w h. go w (f.by w h) }
    where
      go : (w : World) → Done functions ns xs w k true u → Done functions ns (xs ++ ys) w k true u
      go w d = record { world = d.world; weight = d.weight; light = d.light; leaves = returns_before functions xs ys w d.world d.weight d.leaves; shows = d.shows; outside = d.outside }

  pub does_as : (b : Bool) (xs : Texts) (v u u' : Sight) (k : ℕ) → Does functions ns xs v k b u → ((h : Text) → u.scores h ≡ u'.scores h) → ((s : _) (j : Text) → u.keys s j ≡ u'.keys s j) → Does functions ns xs v k b u'
  does_as b xs v u u' k f p q = record { by = λ w h. go w (f.by w h) }
    where
      go : (w : World) → Done functions ns xs w k b u → Done functions ns xs w k b u'
      go w d = record { world = d.world; weight = d.weight; light = d.light; leaves = d.leaves; shows = shows_as ns d.world u u' d.shows p q; outside = d.outside }

  -- ---- one command

  done_with : (b : Bool) (ts : Texts) (w w' : World) (k : ℕ) (u : Sight) → Leaves functions b ts w k w' → Written ns w w' u → Done functions ns ts w k b u
  done_with b ts w w' k u f g = record { world = w'; weight = k; light = (let y : k ≤ k = omega arith in y); leaves = f; shows = g.shows; outside = g.outside }

  pub does_plain : (s : Simple) (v u : Sight) → Speaks (plain s) → is_direct s ≡ true → ((w : World) → Shows ns w v → Written ns w (effect s w).world u) → Does functions ns (cmd_text (plain s) ∷ []) v 1 false u
  does_plain s v u r d e = record { by = λ w h. done_with false _ w (effect s w).world 1 u (falls_plain functions (cmd_text (plain s)) s w r d) (e w h) }

  pub does_execute : (ss : List Sub) (s : Simple) (v u : Sight) → Speaks (execute ss s) → is_direct s ≡ true → ((w : World) → Shows ns w v → (all_go_on ss w ≡ true) × Written ns w (store_all ss (effect s w).result (effect s w).world) u) → Does functions ns (cmd_text (execute ss s) ∷ []) v 2 false u
  does_execute ss s v u r d e = record { by = λ w h. let f = e w h in done_with false _ w (store_all ss (effect s w).result (effect s w).world) 2 u (falls_execute functions (cmd_text (execute ss s)) ss s w r f.0 d) f.1 }

  pub does_skip : (ss : List Sub) (s : Simple) (v : Sight) → Speaks (execute ss s) → ((w : World) → Shows ns w v → all_go_on ss w ≡ false) → Does functions ns (cmd_text (execute ss s) ∷ []) v 2 false v
  does_skip ss s v r e = record { by = λ w h. done_with false _ w w 2 v (falls_skip functions (cmd_text (execute ss s)) ss s w r (e w h)) (record { shows = h; outside = outside_none ns w }) }

  pub does_stop : (ss : List Sub) (z : ℤ) (v : Sight) → Speaks (execute ss (return_value z)) → ((w : World) → Shows ns w v → all_go_on ss w ≡ true) → Does functions ns (cmd_text (execute ss (return_value z)) ∷ []) v 2 true v
  does_stop ss z v r e = record { by = λ w h. done_with true _ w w 2 v (returns_execute functions (cmd_text (execute ss (return_value z))) ss z w r (e w h)) (record { shows = h; outside = outside_none ns w }) }
