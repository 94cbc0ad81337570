-- A tidy command does the same to the same part of two worlds, brings no string into it, and leaves the rule.
use Rattle.std.proofs.Common.{◌≡◌, List, [], ◌∷◌, Option, Some, None, Bool, true, false, refl, sym, ap, ap₂, ◌∙◌}
use Rattle.std.specs.Prelude.{ℤ, ◌+ℤ◌, ◌-ℤ◌, if◌then◌else◌, ◌&&◌, not, option_map, option_and_then, unwrap_or, is_some}
use Rattle.std.specs.List.{list_all}
use Rattle.std.specs.Str.{bytes_eq}
use Rattle.std.proofs.lemmas.Bool.{and_parts}
use Rattle.mc_nbt.specs.Tree.{Tree, int, compound, no_fields, Part, select, set, append, remove}
use Rattle.mc_cmd.specs.Form.{Text}
use Rattle.mc_cmd.specs.Command.{Op, assign, add, subtract, multiply, divide, remainder, lower, raise, swap, Simple, objective_add, score_set, score_add, score_remove, score_get, score_op, score_reset, data_get, set_value, set_from, append_value, append_from, data_remove, call, call_with, return_value, chain_length, Test, scores_compare, score_matches, path_selects, Sub, if_test, unless_test, store_score, store_data, Cmd, plain, execute}
use Rattle.mc_cmd.specs.World.{World, Outcome, with_objective, with_score_at, with_storage, tree_in, fails, leaves, on_objective, got, or_zero, wrapped, operate, with_source, scored, operated, stored, number_of, effect, both_compare, some_is_in, test_holds, test_stands, goes_on, all_go_on, store_all}
use Rattle.mc_cmd.specs.Tidy.{own_objective, own_storage, simple_is_tidy, test_is_tidy, sub_is_tidy}
use Rattle.mc_together.specs.Bare.{is_bare, bare_in}
use Rattle.mc_together.proofs.BareLemmas.{selected_bare, set_bare, append_bare, remove_bare}
use Rattle.mc_together.specs.Part.{SamePart, Bare}

pub first : (a b : Bool) → a && b ≡ true → a ≡ true
first a b h = (and_parts a b h).0

pub second : (a b : Bool) → a && b ≡ true → b ≡ true
second a b h = (and_parts a b h).1

-- what two commands leave, of the part and of the rule
pub record Alike (ns : Text) (r q : Outcome) : Type 0 where
  pub world : SamePart ns r.world q.world
  pub rule : r.world.rule ≡ q.world.rule
  pub result : r.result ≡ q.result

module _ (ns : Text) where
  pub same_sym : (w v : World) → SamePart ns w v → SamePart ns v w
  same_sym w v k = record { objective = λ o h. sym (k.objective o h); scores = λ i o h. sym (k.scores i o h); storages = λ i h. sym (k.storages i h) }

  pub same_trans : (w v u : World) → SamePart ns w v → SamePart ns v u → SamePart ns w u
  same_trans w v u k l = record { objective = λ o h. k.objective o h ∙ l.objective o h; scores = λ i o h. k.scores i o h ∙ l.scores i o h; storages = λ i h. k.storages i h ∙ l.storages i h }

  objective_put : (w v : World) (o : Text) → SamePart ns w v → SamePart ns (with_objective w o) (with_objective v o)
  objective_put w v o k = record { objective = λ p h. ap (λ b. if bytes_eq o p then true else b) (k.objective p h); scores = k.scores; storages = k.storages }

  score_put : (w v : World) (h o : Text) (a b : Option ℤ) → a ≡ b → SamePart ns w v → SamePart ns (with_score_at w h o a) (with_score_at v h o b)
  score_put w v h o a b e k = record {
    objective = k.objective;
    scores = λ i p own. ap₂ (λ x y. if bytes_eq h i && bytes_eq o p then x else y) e (k.scores i p own);
    storages = k.storages;
  }

  storage_put : (w v : World) (i : Text) (t : Tree) → SamePart ns w v → SamePart ns (with_storage w i t) (with_storage v i t)
  storage_put w v i t k = record { objective = k.objective; scores = k.scores; storages = λ j own. ap (λ x. if bytes_eq i j then Some t else x) (k.storages j own) }

  pub tree_same : (w v : World) (i : Text) → SamePart ns w v → own_storage ns i ≡ true → tree_in w i ≡ tree_in v i
  tree_same w v i k own = ap (λ o. unwrap_or o (compound no_fields)) (k.storages i own)

  module _ (w v : World) (k : SamePart ns w v) (r : w.rule ≡ v.rule) where
    failed : Alike ns (fails w) (fails v)
    failed = record { world = k; rule = r; result = refl }

    left : (w' v' : World) → SamePart ns w' v' → w'.rule ≡ v'.rule → Alike ns (leaves w') (leaves v')
    left w' v' m s = record { world = m; rule = s; result = refl }

    told : (a b : Option ℤ) → a ≡ b → Alike ns (got w a) (got v b)
    told a b e = go a b e
      where
        go : (a b : Option ℤ) → a ≡ b → Alike ns (got w a) (got v b)
        go None None e = failed
        go None (Some y) e = absurd cc
        go (Some x) None e = absurd cc
        go (Some x) (Some y) e = record { world = k; rule = r; result = cc }

    choice : (b c : Bool) (x y : Outcome) → b ≡ c → Alike ns x y → Alike ns (if b then x else fails w) (if c then y else fails v)
    choice true true x y e m = m
    choice true false x y e m = absurd cc
    choice false true x y e m = absurd cc
    choice false false x y e m = failed

    standing : (o : Text) (x y : Outcome) → own_objective ns o ≡ true → Alike ns x y → Alike ns (on_objective w o x) (on_objective v o y)
    standing o x y own m = choice (w.objectives o) (v.objectives o) x y (k.objective o own) m

    kept : (o p : Option Tree) (i : Text) → o ≡ p → Alike ns (stored w i o) (stored v i p)
    kept None None i e = failed
    kept None (Some u) i e = absurd cc
    kept (Some t) None i e = absurd cc
    kept (Some t) (Some u) i e =
        let s : t ≡ u = cc in
        record { world = same_trans _ _ _ (storage_put w v i t k) (record { objective = λ o h. refl; scores = λ j o h. refl; storages = λ j h. ap (λ t. if bytes_eq i j then Some t else v.storages j) s }); rule = r; result = refl }

    source : (op : Op) (i q : Text) (a b : ℤ) → a ≡ b → SamePart ns (with_source op w i q a) (with_source op v i q b) × ((with_source op w i q a).rule ≡ (with_source op v i q b).rule)
    source assign i q a b e = (k, r)
    source add i q a b e = (k, r)
    source subtract i q a b e = (k, r)
    source multiply i q a b e = (k, r)
    source divide i q a b e = (k, r)
    source remainder i q a b e = (k, r)
    source lower i q a b e = (k, r)
    source raise i q a b e = (k, r)
    source swap i q a b e = (score_put w v i q (Some a) (Some b) (ap Some e) k, r)

    made : (w' v' : World) (h o : Text) (a b : Option ℤ) → a ≡ b → SamePart ns w' v' → w'.rule ≡ v'.rule → Alike ns (scored w' h o a) (scored v' h o b)
    made w' v' h o None None e m s = record { world = m; rule = s; result = refl }
    made w' v' h o None (Some y) e m s = absurd cc
    made w' v' h o (Some x) None e m s = absurd cc
    made w' v' h o (Some x) (Some y) e m s = record { world = score_put w' v' h o (Some x) (Some y) e m; rule = s; result = refl }

    done : (h o : Text) (op : Op) (i q : Text) (a b : Option ℤ) → a ≡ b → w.scores h o ≡ v.scores h o → Alike ns (operated w h o op i q a) (operated v h o op i q b)
    done h o op i q None None e f = failed
    done h o op i q None (Some y) e f = absurd cc
    done h o op i q (Some x) None e f = absurd cc
    done h o op i q (Some x) (Some y) e f =
        let z : or_zero (w.scores h o) ≡ or_zero (v.scores h o) = ap or_zero f in
        let s = source op i q (or_zero (w.scores h o)) (or_zero (v.scores h o)) z in
        let g : x ≡ y = cc in
        made _ _ h o _ _ (ap₂ (operate op) z g) s.0 s.1

    -- a tidy command does the same
    pub effect_same : (s : Simple) → simple_is_tidy ns s ≡ true → Alike ns (effect s w) (effect s v)
    effect_same (objective_add o) t = go (w.objectives o) (v.objectives o) (k.objective o t)
      where
        go : (b c : Bool) → b ≡ c → Alike ns (if b then fails w else leaves (with_objective w o)) (if c then fails v else leaves (with_objective v o))
        go true true e = failed
        go true false e = absurd cc
        go false true e = absurd cc
        go false false e = left _ _ (objective_put w v o k) r
    effect_same (score_set h o z) t = standing o _ _ t (left _ _ (score_put w v h o _ _ refl k) r)
    effect_same (score_add h o z) t = standing o _ _ t (left _ _ (score_put w v h o _ _ (ap (λ a. Some (wrapped (or_zero a +ℤ z))) (k.scores h o t)) k) r)
    effect_same (score_remove h o z) t = standing o _ _ t (left _ _ (score_put w v h o _ _ (ap (λ a. Some (wrapped (or_zero a -ℤ z))) (k.scores h o t)) k) r)
    effect_same (score_get h o) t = standing o _ _ t (told _ _ (k.scores h o t))
    effect_same (score_op h o op i q) t =
        let a = first (own_objective ns o) (own_objective ns q) t in
        let b = second (own_objective ns o) (own_objective ns q) t in
        standing o _ _ a (standing q _ _ b (done h o op i q _ _ (k.scores i q b) (k.scores h o a)))
    effect_same (score_reset h o) t = standing o _ _ t (left _ _ (score_put w v h o None None refl k) r)
    effect_same (data_get i ps) t = told _ _ (ap (λ u. option_map number_of (select u ps)) (tree_same w v i k t))
    effect_same (set_value i ps u) t = kept _ _ i (ap (λ x. set x ps u) (tree_same w v i k t))
    effect_same (set_from i ps j qs) t =
        kept _ _ i (ap₂ (λ x y. option_and_then (set x ps) (select y qs)) (tree_same w v i k (first (own_storage ns i) (own_storage ns j) t)) (tree_same w v j k (second (own_storage ns i) (own_storage ns j) t)))
    effect_same (append_value i ps u) t = kept _ _ i (ap (λ x. append x ps u) (tree_same w v i k t))
    effect_same (append_from i ps j qs) t =
        kept _ _ i (ap₂ (λ x y. option_and_then (append x ps) (select y qs)) (tree_same w v i k (first (own_storage ns i) (own_storage ns j) t)) (tree_same w v j k (second (own_storage ns i) (own_storage ns j) t)))
    effect_same (data_remove i ps) t = kept _ _ i (ap (λ x. remove x ps) (tree_same w v i k t))
    effect_same (call f) t = failed
    effect_same (call_with f i ps) t = failed
    effect_same (return_value z) t = failed
    effect_same chain_length t = record { world = k; rule = r; result = r }

    -- conditions hold alike
    test_alike : (c : Test) → test_is_tidy ns c ≡ true → (test_holds c w ≡ test_holds c v) × (test_stands c w ≡ test_stands c v)
    test_alike (scores_compare h o c i q) t =
        let a = first (own_objective ns o) (own_objective ns q) t in
        let b = second (own_objective ns o) (own_objective ns q) t in
        (ap₂ (both_compare c) (k.scores h o a) (k.scores i q b), ap₂ (λ x y. x && y) (k.objective o a) (k.objective q b))
    test_alike (score_matches h o m) t = (ap (some_is_in m) (k.scores h o t), k.objective o t)
    test_alike (path_selects i ps) t = (ap (λ u. is_some (select u ps)) (tree_same w v i k t), refl)

    goes_alike : (s : Sub) → sub_is_tidy ns s ≡ true → goes_on s w ≡ goes_on s v
    goes_alike (if_test c) t = let a = test_alike c t in ap₂ (λ x y. x && y) a.1 a.0
    goes_alike (unless_test c) t = let a = test_alike c t in ap₂ (λ x y. x && not y) a.1 a.0
    goes_alike (store_score h o) t = k.objective o t
    goes_alike (store_data i ps) t = refl

    pub all_alike : (ss : List Sub) → list_all (sub_is_tidy ns) ss ≡ true → all_go_on ss w ≡ all_go_on ss v
    all_alike [] t = refl
    all_alike (s ∷ ss) t = ap₂ (λ x y. x && y) (goes_alike s (first (sub_is_tidy ns s) _ t)) (all_alike ss (second (sub_is_tidy ns s) (list_all (sub_is_tidy ns) ss) t))

  -- what is stored
  pub store_same : (ss : List Sub) → list_all (sub_is_tidy ns) ss ≡ true → (z y : ℤ) → z ≡ y → (w v : World) → SamePart ns w v → w.rule ≡ v.rule → SamePart ns (store_all ss z w) (store_all ss y v) × ((store_all ss z w).rule ≡ (store_all ss y v).rule)
  store_same [] t z y e w v k r = (k, r)
  store_same (if_test c ∷ ss) t z y e w v k r = store_same ss (second (test_is_tidy ns c) _ t) z y e w v k r
  store_same (unless_test c ∷ ss) t z y e w v k r = store_same ss (second (test_is_tidy ns c) _ t) z y e w v k r
  store_same (store_score h o ∷ ss) t z y e w v k r = store_same ss (second (own_objective ns o) _ t) z y e _ _ (score_put w v h o (Some z) (Some y) (ap Some e) k) r
  store_same (store_data i ps ∷ ss) t z y e w v k r =
      let a : Alike ns (stored w i (set (tree_in w i) ps (int z))) (stored v i (set (tree_in v i) ps (int y))) = kept w v k r _ _ i (ap₂ (λ x n. set x ps (int n)) (tree_same w v i k (first (own_storage ns i) _ t)) e) in
      store_same ss (second (own_storage ns i) _ t) z y e _ _ a.world a.rule

-- the rule stays
if_rule : (b : Bool) (w : World) (r : Outcome) → r.world.rule ≡ w.rule → (if b then r else fails w).world.rule ≡ w.rule
if_rule true w r e = e
if_rule false w r e = refl

got_rule : (w : World) (o : Option ℤ) → (got w o).world.rule ≡ w.rule
got_rule w None = refl
got_rule w (Some z) = refl

stored_rule : (w : World) (i : Text) (o : Option Tree) → (stored w i o).world.rule ≡ w.rule
stored_rule w i None = refl
stored_rule w i (Some t) = refl

source_rule : (op : Op) (w : World) (i q : Text) (a : ℤ) → (with_source op w i q a).rule ≡ w.rule
source_rule assign w i q a = refl
source_rule add w i q a = refl
source_rule subtract w i q a = refl
source_rule multiply w i q a = refl
source_rule divide w i q a = refl
source_rule remainder w i q a = refl
source_rule lower w i q a = refl
source_rule raise w i q a = refl
source_rule swap w i q a = refl

scored_rule : (w : World) (h o : Text) (v : Option ℤ) → (scored w h o v).world.rule ≡ w.rule
scored_rule w h o None = refl
scored_rule w h o (Some z) = refl

operated_rule : (w : World) (h o : Text) (op : Op) (i q : Text) (v : Option ℤ) → (operated w h o op i q v).world.rule ≡ w.rule
operated_rule w h o op i q None = refl
operated_rule w h o op i q (Some b) = let a = or_zero (w.scores h o) in scored_rule (with_source op w i q a) h o (operate op a b) ∙ source_rule op w i q a

added_rule : (b : Bool) (w : World) (o : Text) → (if b then fails w else leaves (with_objective w o)).world.rule ≡ w.rule
added_rule true w o = refl
added_rule false w o = refl

pub effect_rule : (s : Simple) (w : World) → (effect s w).world.rule ≡ w.rule
effect_rule (objective_add o) w = added_rule (w.objectives o) w o
effect_rule (score_set h o z) w = if_rule (w.objectives o) w _ refl
effect_rule (score_add h o z) w = if_rule (w.objectives o) w _ refl
effect_rule (score_remove h o z) w = if_rule (w.objectives o) w _ refl
effect_rule (score_get h o) w = if_rule (w.objectives o) w _ (got_rule w (w.scores h o))
effect_rule (score_op h o op i q) w = if_rule (w.objectives o) w _ (if_rule (w.objectives q) w _ (operated_rule w h o op i q (w.scores i q)))
effect_rule (score_reset h o) w = if_rule (w.objectives o) w _ refl
effect_rule (data_get i ps) w = got_rule w _
effect_rule (set_value i ps v) w = stored_rule w i _
effect_rule (set_from i ps j qs) w = stored_rule w i _
effect_rule (append_value i ps v) w = stored_rule w i _
effect_rule (append_from i ps j qs) w = stored_rule w i _
effect_rule (data_remove i ps) w = stored_rule w i _
effect_rule (call f) w = refl
effect_rule (call_with f i ps) w = refl
effect_rule (return_value z) w = refl
effect_rule chain_length w = refl

pub store_rule : (ss : List Sub) (z : ℤ) (w : World) → (store_all ss z w).rule ≡ w.rule
store_rule [] z w = refl
store_rule (if_test c ∷ ss) z w = store_rule ss z w
store_rule (unless_test c ∷ ss) z w = store_rule ss z w
store_rule (store_score h o ∷ ss) z w = store_rule ss z _
store_rule (store_data i ps ∷ ss) z w = store_rule ss z _ ∙ stored_rule w i _

-- no value of a command has a string
abbrev pub simple_is_bare : Simple → Bool
simple_is_bare (set_value i ps v) = is_bare v
simple_is_bare (append_value i ps v) = is_bare v
simple_is_bare s = true

abbrev pub cmd_is_bare : Cmd → Bool
cmd_is_bare (plain s) = simple_is_bare s
cmd_is_bare (execute ss s) = simple_is_bare s

-- no string comes into the storages
module _ (ns : Text) where
  -- of two worlds with the same storages
  same_bare : (w v : World) → ((i : Text) → v.storages i ≡ w.storages i) → Bare ns w → Bare ns v
  same_bare w v e b i own = ap bare_in (e i) ∙ b i own

  tree_bare : (o : Option Tree) → bare_in o ≡ true → is_bare (unwrap_or o (compound no_fields)) ≡ true
  tree_bare None b = refl
  tree_bare (Some t) b = b

  pub in_bare : (w : World) (i : Text) → Bare ns w → own_storage ns i ≡ true → is_bare (tree_in w i) ≡ true
  in_bare w i b own = tree_bare (w.storages i) (b i own)

  put_bare : (w : World) (i : Text) (t : Tree) → is_bare t ≡ true → Bare ns w → Bare ns (with_storage w i t)
  put_bare w i t h b j own = go (bytes_eq i j)
    where
      go : (c : Bool) → bare_in (if c then Some t else w.storages j) ≡ true
      go true = h
      go false = b j own

  stored_bare : (w : World) (i : Text) (o : Option Tree) → ((t : Tree) → o ≡ Some t → is_bare t ≡ true) → Bare ns w → Bare ns (stored w i o).world
  stored_bare w i None h b = b
  stored_bare w i (Some t) h b = put_bare w i t (h t refl) b

  if_bare : (c : Bool) (w : World) (r : Outcome) → Bare ns r.world → Bare ns w → Bare ns (if c then r else fails w).world
  if_bare true w r h b = h
  if_bare false w r h b = b

  got_bare : (w : World) (o : Option ℤ) → Bare ns w → Bare ns (got w o).world
  got_bare w None b = b
  got_bare w (Some z) b = b

  source_bare : (op : Op) (w : World) (i q : Text) (a : ℤ) → Bare ns w → Bare ns (with_source op w i q a)
  source_bare assign w i q a b = b
  source_bare add w i q a b = b
  source_bare subtract w i q a b = b
  source_bare multiply w i q a b = b
  source_bare divide w i q a b = b
  source_bare remainder w i q a b = b
  source_bare lower w i q a b = b
  source_bare raise w i q a b = b
  source_bare swap w i q a b = λ j own. b j own

  scored_bare : (w : World) (h o : Text) (v : Option ℤ) → Bare ns w → Bare ns (scored w h o v).world
  scored_bare w h o None b = b
  scored_bare w h o (Some z) b = λ j own. b j own

  operated_bare : (w : World) (h o : Text) (op : Op) (i q : Text) (v : Option ℤ) → Bare ns w → Bare ns (operated w h o op i q v).world
  operated_bare w h o op i q None b = b
  operated_bare w h o op i q (Some y) b = let a = or_zero (w.scores h o) in scored_bare (with_source op w i q a) h o (operate op a y) (source_bare op w i q a b)

  added_bare : (c : Bool) (w : World) (o : Text) → Bare ns w → Bare ns (if c then fails w else leaves (with_objective w o)).world
  added_bare true w o b = b
  added_bare false w o b = λ j own. b j own

  -- what another path selects
  moved_bare : (f : Tree → Option Tree) (u : Tree) (qs : List Part) (t : Tree) → is_bare u ≡ true → ((x y : Tree) → is_bare x ≡ true → f x ≡ Some y → is_bare y ≡ true) → option_and_then f (select u qs) ≡ Some t → is_bare t ≡ true
  moved_bare f u qs t hu hf h = go (select u qs) refl h
    where
      go : (o : Option Tree) → select u qs ≡ o → option_and_then f o ≡ Some t → is_bare t ≡ true
      go None e h = absurd cc
      go (Some x) e h = hf x t (selected_bare u qs x hu e) h

  pub effect_bare : (s : Simple) (w : World) → simple_is_tidy ns s ≡ true → simple_is_bare s ≡ true → Bare ns w → Bare ns (effect s w).world
  effect_bare (objective_add o) w t v b = added_bare (w.objectives o) w o b
  effect_bare (score_set h o z) w t v b = if_bare (w.objectives o) w _ (λ j own. b j own) b
  effect_bare (score_add h o z) w t v b = if_bare (w.objectives o) w _ (λ j own. b j own) b
  effect_bare (score_remove h o z) w t v b = if_bare (w.objectives o) w _ (λ j own. b j own) b
  effect_bare (score_get h o) w t v b = if_bare (w.objectives o) w _ (got_bare w (w.scores h o) b) b
  effect_bare (score_op h o op i q) w t v b = if_bare (w.objectives o) w _ (if_bare (w.objectives q) w _ (operated_bare w h o op i q (w.scores i q) b) b) b
  effect_bare (score_reset h o) w t v b = if_bare (w.objectives o) w _ (λ j own. b j own) b
  effect_bare (data_get i ps) w t v b = got_bare w _ b
  effect_bare (set_value i ps u) w t v b = stored_bare w i _ (λ x e. set_bare (tree_in w i) ps u x (in_bare w i b t) v e) b
  effect_bare (set_from i ps j qs) w t v b =
      stored_bare w i _ (λ x e. moved_bare (set (tree_in w i) ps) (tree_in w j) qs x (in_bare w j b (second (own_storage ns i) (own_storage ns j) t)) (λ y z hy g. set_bare (tree_in w i) ps y z (in_bare w i b (first (own_storage ns i) (own_storage ns j) t)) hy g) e) b
  effect_bare (append_value i ps u) w t v b = stored_bare w i _ (λ x e. append_bare (tree_in w i) ps u x (in_bare w i b t) v e) b
  effect_bare (append_from i ps j qs) w t v b =
      stored_bare w i _ (λ x e. moved_bare (append (tree_in w i) ps) (tree_in w j) qs x (in_bare w j b (second (own_storage ns i) (own_storage ns j) t)) (λ y z hy g. append_bare (tree_in w i) ps y z (in_bare w i b (first (own_storage ns i) (own_storage ns j) t)) hy g) e) b
  effect_bare (data_remove i ps) w t v b = stored_bare w i _ (λ x e. remove_bare (tree_in w i) ps x (in_bare w i b t) e) b
  effect_bare (call f) w t v b = b
  effect_bare (call_with f i ps) w t v b = b
  effect_bare (return_value z) w t v b = b
  effect_bare chain_length w t v b = b

  pub store_bare : (ss : List Sub) (z : ℤ) (w : World) → list_all (sub_is_tidy ns) ss ≡ true → Bare ns w → Bare ns (store_all ss z w)
  store_bare [] z w t b = b
  store_bare (if_test c ∷ ss) z w t b = store_bare ss z w (second (test_is_tidy ns c) _ t) b
  store_bare (unless_test c ∷ ss) z w t b = store_bare ss z w (second (test_is_tidy ns c) _ t) b
  store_bare (store_score h o ∷ ss) z w t b = store_bare ss z _ (second (own_objective ns o) _ t) (λ j own. b j own)
  store_bare (store_data i ps ∷ ss) z w t b =
      store_bare ss z _ (second (own_storage ns i) _ t)
      (stored_bare w i _ (λ x e. set_bare (tree_in w i) ps (int z) x (in_bare w i b (first (own_storage ns i) _ t)) refl e) b)
