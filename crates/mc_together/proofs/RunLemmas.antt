-- A chain of a tidy pack's function does the same to the part of its namespace in two worlds, and leaves all else.
use Rattle.std.proofs.Common.{◌≡◌, ℕ, zero, suc, List, [], ◌∷◌, Option, Some, None, Bool, true, false, refl, sym, ap, ap₂, ◌∙◌, subst}
use Rattle.std.specs.Prelude.{ℤ, ◌||◌, if◌then◌else◌, unwrap_or}
use Rattle.std.specs.List.{list_all, AllByRecursion}
use Rattle.std.specs.Str.{bytes_eq}
use Rattle.std.proofs.lemmas.Slice.Eq.{bytes_eq-Decides}
use Rattle.mc_nbt.specs.Tree.{Tree, int, string, list, compound, select}
use Rattle.mc_cmd.specs.Form.{Text}
use Rattle.mc_cmd.specs.Command.{Simple, objective_add, score_set, score_add, score_remove, score_get, score_op, score_reset, data_get, set_value, set_from, append_value, append_from, data_remove, call, call_with, return_value, chain_length, Sub, if_test, unless_test, store_score, store_data, Cmd, plain, execute, Line, nothing, command, pattern}
use Rattle.mc_cmd.specs.Grammar.{line_said}
use Rattle.mc_cmd.specs.World.{World, tree_in, effect, all_go_on, store_all}
use Rattle.mc_cmd.specs.Chain.{Texts, Functions, line_of, callable, has_pattern, filled_by, filled_call, Next, over, takes, next_line, next_in, next, State, in_front, act_simple, act_stored, act, Ended, run, chain, chain_from}
use Rattle.mc_cmd.specs.Foreign.{simple_names, is_own, IsKept}
use Rattle.mc_cmd.specs.Tidy.{own_objective, own_storage, own_function, simple_is_tidy, test_is_tidy, sub_is_tidy, Tidy}
use Rattle.mc_cmd.proofs.ForeignLemmas.{unnamed_kept}
use Rattle.mc_cmd.proofs.WorldLemmas.{score_of_other_objective}
use Rattle.mc_together.specs.Bare.{is_bare}
use Rattle.mc_together.proofs.BareLemmas.{selected_bare}
use Rattle.mc_together.specs.Part.{SamePart, Bare}
use Rattle.mc_together.proofs.EffectLemmas.{first, second, simple_is_bare, tree_same, effect_same, all_alike, store_same, effect_rule, store_rule, in_bare, effect_bare, store_bare}
use Rattle.mc_together.proofs.LineLemmas.{Clean, IsClean, Cleans, tidy_cleans, filled_cleans}

-- ---- what is left of other names

or_true : (a b : Bool) → b ≡ true → a || b ≡ true
or_true true b e = refl
or_true false b e = e

left_true : (a b : Bool) → a ≡ true → a || b ≡ true
left_true true b e = refl
left_true false b e = absurd cc

module _ (ns n : Text) (apart : is_own ns n ≡ false) where
  not_own : (m : Text) → is_own ns m ≡ true → bytes_eq m n ≡ false
  not_own m own = go (bytes_eq m n) refl
    where
      go : (b : Bool) → bytes_eq m n ≡ b → b ≡ false
      go false e = refl
      go true e = let one : m ≡ n = (bytes_eq-Decides m n).0 e in sym own ∙ ap (is_own ns) one ∙ apart

  objective_apart : (o : Text) → own_objective ns o ≡ true → bytes_eq o n ≡ false
  objective_apart o h = not_own o (left_true (bytes_eq o ns) _ h)

  storage_apart : (i : Text) → own_storage ns i ≡ true → bytes_eq i n ≡ false
  storage_apart i h = not_own i (or_true (bytes_eq i ns) _ h)

  abbrev LacksName : List Text → Type 0
  LacksName names = AllByRecursion (λ m. bytes_eq m n ≡ false) names

  names_apart : (s : Simple) → simple_is_tidy ns s ≡ true → LacksName (simple_names s)
  names_apart (objective_add o) t = (objective_apart o t, tt)
  names_apart (score_set h o z) t = (objective_apart o t, tt)
  names_apart (score_add h o z) t = (objective_apart o t, tt)
  names_apart (score_remove h o z) t = (objective_apart o t, tt)
  names_apart (score_get h o) t = (objective_apart o t, tt)
  names_apart (score_op h o g i q) t = (objective_apart o (first (own_objective ns o) (own_objective ns q) t), (objective_apart q (second (own_objective ns o) (own_objective ns q) t), tt))
  names_apart (score_reset h o) t = (objective_apart o t, tt)
  names_apart (data_get i ps) t = (storage_apart i t, tt)
  names_apart (set_value i ps v) t = (storage_apart i t, tt)
  names_apart (set_from i ps j qs) t = (storage_apart i (first (own_storage ns i) (own_storage ns j) t), (storage_apart j (second (own_storage ns i) (own_storage ns j) t), tt))
  names_apart (append_value i ps v) t = (storage_apart i t, tt)
  names_apart (append_from i ps j qs) t = (storage_apart i (first (own_storage ns i) (own_storage ns j) t), (storage_apart j (second (own_storage ns i) (own_storage ns j) t), tt))
  names_apart (data_remove i ps) t = (storage_apart i t, tt)
  names_apart (call f) t = tt
  names_apart (call_with f i ps) t = (storage_apart i (second (own_function ns f) (own_storage ns i) t), tt)
  names_apart (return_value z) t = tt
  names_apart chain_length t = tt

  pub same_kept : (w : World) → IsKept n w w
  same_kept w = record { objective = refl; scores = λ h. refl; storage = refl }

  pub kept_trans : (w v u : World) → IsKept n w v → IsKept n v u → IsKept n w u
  kept_trans w v u a b = record { objective = b.objective ∙ a.objective; scores = λ h. b.scores h ∙ a.scores h; storage = b.storage ∙ a.storage }

  pub effect_kept : (s : Simple) (w : World) → simple_is_tidy ns s ≡ true → IsKept n w (effect s w).world
  effect_kept s w t = unnamed_kept n w s (names_apart s t)

  store_kept : (ss : List Sub) (z : ℤ) (w : World) → list_all (sub_is_tidy ns) ss ≡ true → IsKept n w (store_all ss z w)
  store_kept [] z w t = same_kept w
  store_kept (if_test c ∷ ss) z w t = store_kept ss z w (second (test_is_tidy ns c) _ t)
  store_kept (unless_test c ∷ ss) z w t = store_kept ss z w (second (test_is_tidy ns c) _ t)
  store_kept (store_score h o ∷ ss) z w t =
      let x = objective_apart o (first (own_objective ns o) _ t) in
      kept_trans w _ _ (record { objective = refl; scores = λ j. score_of_other_objective w h o j n (Some z) x; storage = refl }) (store_kept ss z _ (second (own_objective ns o) _ t))
  store_kept (store_data i ps ∷ ss) z w t =
      kept_trans w _ _ (effect_kept (set_value i ps (int z)) w (first (own_storage ns i) _ t)) (store_kept ss z _ (second (own_storage ns i) _ t))

-- ---- what is pending

abbrev pub Pendings : Text → List Texts → Type 0
Pendings ns [] = Unit {0}
Pendings ns (ts ∷ ps) = Cleans ns ts × Pendings ns ps

abbrev pub CleanNext : Text → Next → Type 0
CleanNext ns over = Unit {0}
CleanNext ns (takes c ts ps) = Clean ns c × (Cleans ns ts × Pendings ns ps)

module _ (ns : Text) where
  said_of : (t : Text) (c : Cmd) → line_of t ≡ command c → line_said t ≡ Some (command c)
  said_of t c e = go (line_said t) refl e
    where
      go : (o : Option Line) → line_said t ≡ o → unwrap_or o nothing ≡ command c → o ≡ Some (command c)
      go None g e = absurd cc
      go (Some l) g e = ap Some e

  line_next : (t : Text) (ts : Texts) (ps : List Texts) (after : Next) → IsClean ns t → Cleans ns ts → Pendings ns ps → CleanNext ns after → CleanNext ns (next_line (line_of t) ts ps after)
  line_next t ts ps after h hs k m = go (line_of t) refl
    where
      go : (l : Line) → line_of t ≡ l → CleanNext ns (next_line l ts ps after)
      go nothing e = m
      go (command c) e = (h c (said_of t c e), (hs, k))
      go (pattern qs) e = m

  in_next : (ts : Texts) (ps : List Texts) (after : Next) → Cleans ns ts → Pendings ns ps → CleanNext ns after → CleanNext ns (next_in ts ps after)
  in_next [] ps after h k m = m
  in_next (t ∷ ts) ps after h k m = line_next t ts ps (next_in ts ps after) h.0 h.1 k (in_next ts ps after h.1 k m)

  pub clean_next : (ps : List Texts) → Pendings ns ps → CleanNext ns (next ps)
  clean_next [] h = tt
  clean_next (ts ∷ ps) h = in_next ts ps (next ps) h.0 h.1 (clean_next ps h.1)

  -- the lines of a called function are clean
  abbrev CleanLines : Option Texts → Type 0
  CleanLines None = Unit {0}
  CleanLines (Some ts) = Cleans ns ts

  front_clean : (o : Option Texts) (ps : List Texts) → CleanLines o → Pendings ns ps → Pendings ns (in_front o ps)
  front_clean None ps h k = k
  front_clean (Some ts) ps h k = (h, k)

  called_clean : (o : Option Texts) → ((ts : Texts) → o ≡ Some ts → Tidy ns ts) → CleanLines (callable o)
  called_clean None h = tt
  called_clean (Some ts) h = go (has_pattern ts)
    where
      go : (b : Bool) → CleanLines (if b then None else Some ts)
      go true = tt
      go false = tidy_cleans ns ts (h ts refl)

  by_clean : (ts : Texts) (o : Option Tree) → Tidy ns ts → ((t : Tree) → o ≡ Some t → is_bare t ≡ true) → CleanLines (filled_by ts o)
  by_clean ts None h b = tt
  by_clean ts (Some (int z)) h b = tt
  by_clean ts (Some (string s)) h b = tt
  by_clean ts (Some (list us)) h b = tt
  by_clean ts (Some (compound fs)) h b = go (filled_by ts (Some (compound fs))) refl
    where
      go : (o : Option Texts) → filled_by ts (Some (compound fs)) ≡ o → CleanLines o
      go None e = tt
      go (Some us) e = filled_cleans ns fs ts us h (b (compound fs) refl) e

  with_clean : (o : Option Texts) (p : Option Tree) → ((ts : Texts) → o ≡ Some ts → Tidy ns ts) → ((t : Tree) → p ≡ Some t → is_bare t ≡ true) → CleanLines (filled_call o p)
  with_clean None p h b = tt
  with_clean (Some ts) p h b = by_clean ts p (h ts refl) b

-- ---- one command

-- what two worlds become, and what is pending in them
pub record Acted (ns : Text) (w v : World) (a b : State) : Type 0 where
  pub world : SamePart ns a.world b.world
  pub rule : a.world.rule ≡ b.world.rule
  pub stays : b.world.rule ≡ v.rule
  pub bare : Bare ns b.world
  pub kept : (n : Text) → is_own ns n ≡ false → IsKept n w a.world
  pub pending : a.pending ≡ b.pending
  pub clean : Pendings ns b.pending

module _ (fs gs : Functions) (ns : Text) (agree : (f : Text) → own_function ns f ≡ true → fs f ≡ gs f) (lines : (f : Text) (ts : Texts) → gs f ≡ Some ts → Tidy ns ts) where
  module _ (w v : World) (k : SamePart ns w v) (r : w.rule ≡ v.rule) (b : Bare ns v) where
    still : (ps qs : List Texts) → ps ≡ qs → Pendings ns qs → Acted ns w v (record { world = w; pending = ps }) (record { world = v; pending = qs })
    still ps qs e h = record { world = k; rule = r; stays = refl; bare = b; kept = λ n a. same_kept ns n a w; pending = e; clean = h }

    does : (s : Simple) (ps : List Texts) → simple_is_tidy ns s ≡ true → simple_is_bare s ≡ true → Pendings ns ps → Acted ns w v (record { world = (effect s w).world; pending = ps }) (record { world = (effect s v).world; pending = ps })
    does s ps t u h =
        let a = effect_same ns w v k r s t in
        record { world = a.world; rule = a.rule; stays = effect_rule s v; bare = effect_bare ns s v t u b; kept = λ n x. effect_kept ns n x s w t; pending = refl; clean = h }

    simple_acted : (s : Simple) (ts : Texts) (ps : List Texts) → simple_is_tidy ns s ≡ true → simple_is_bare s ≡ true → Cleans ns ts → Pendings ns ps → Acted ns w v (act_simple fs w s ts ps) (act_simple gs v s ts ps)
    simple_acted (objective_add o) ts ps t u h m = does (objective_add o) (ts ∷ ps) t u (h, m)
    simple_acted (score_set i o z) ts ps t u h m = does (score_set i o z) (ts ∷ ps) t u (h, m)
    simple_acted (score_add i o z) ts ps t u h m = does (score_add i o z) (ts ∷ ps) t u (h, m)
    simple_acted (score_remove i o z) ts ps t u h m = does (score_remove i o z) (ts ∷ ps) t u (h, m)
    simple_acted (score_get i o) ts ps t u h m = does (score_get i o) (ts ∷ ps) t u (h, m)
    simple_acted (score_op i o g j q) ts ps t u h m = does (score_op i o g j q) (ts ∷ ps) t u (h, m)
    simple_acted (score_reset i o) ts ps t u h m = does (score_reset i o) (ts ∷ ps) t u (h, m)
    simple_acted (data_get i qs) ts ps t u h m = does (data_get i qs) (ts ∷ ps) t u (h, m)
    simple_acted (set_value i qs x) ts ps t u h m = does (set_value i qs x) (ts ∷ ps) t u (h, m)
    simple_acted (set_from i qs j rs) ts ps t u h m = does (set_from i qs j rs) (ts ∷ ps) t u (h, m)
    simple_acted (append_value i qs x) ts ps t u h m = does (append_value i qs x) (ts ∷ ps) t u (h, m)
    simple_acted (append_from i qs j rs) ts ps t u h m = does (append_from i qs j rs) (ts ∷ ps) t u (h, m)
    simple_acted (data_remove i qs) ts ps t u h m = does (data_remove i qs) (ts ∷ ps) t u (h, m)
    simple_acted (call f) ts ps t u h m = still _ _ (ap (λ o. in_front (callable o) (ts ∷ ps)) (agree f t)) (front_clean ns (callable (gs f)) (ts ∷ ps) (called_clean ns (gs f) (lines f)) (h, m))
    simple_acted (call_with f i qs) ts ps t u h m =
        let own = first (own_function ns f) (own_storage ns i) t in
        let store = second (own_function ns f) (own_storage ns i) t in
        still _ _ (ap₂ (λ o x. in_front (filled_call o (select x qs)) (ts ∷ ps)) (agree f own) (tree_same ns w v i k store))
        (front_clean ns (filled_call (gs f) (select (tree_in v i) qs)) (ts ∷ ps) (with_clean ns (gs f) (select (tree_in v i) qs) (lines f) (λ x e. selected_bare (tree_in v i) qs x (in_bare ns v i b store) e)) (h, m))
    simple_acted (return_value z) ts ps t u h m = still ps ps refl m
    simple_acted chain_length ts ps t u h m = does chain_length (ts ∷ ps) t u (h, m)

    stored_acted : (ss : List Sub) (s : Simple) (ts : Texts) (ps : List Texts) → list_all (sub_is_tidy ns) ss ≡ true → simple_is_tidy ns s ≡ true → simple_is_bare s ≡ true → Cleans ns ts → Pendings ns ps
        → Acted ns w v (act_stored fs w ss s ts ps) (act_stored gs v ss s ts ps)
    stored_acted ss s ts ps x t u h m =
        let a = simple_acted s ts ps t u h m in
        let e : (effect s w).result ≡ (effect s v).result = (effect_same ns w v k r s t).result in
        let c = store_same ns ss x _ _ e _ _ a.world a.rule in
        record {
          world = c.0;
          rule = c.1;
          stays = store_rule ss _ _ ∙ a.stays;
          bare = store_bare ns ss _ _ x a.bare;
          kept = λ n y. kept_trans ns n y w _ _ (a.kept n y) (store_kept ns n y ss _ _ x);
          pending = a.pending;
          clean = a.clean;
        }

    pub acted : (c : Cmd) (ts : Texts) (ps : List Texts) → Clean ns c → Cleans ns ts → Pendings ns ps → Acted ns w v (act fs w c ts ps) (act gs v c ts ps)
    acted (plain s) ts ps c h m = simple_acted s ts ps c.tidy c.bare h m
    acted (execute ss s) ts ps c h m =
        let x = first (list_all (sub_is_tidy ns) ss) (simple_is_tidy ns s) c.tidy in
        let t = second (list_all (sub_is_tidy ns) ss) (simple_is_tidy ns s) c.tidy in
        go (all_go_on ss w) (all_go_on ss v) (all_alike ns w v k r ss x) (stored_acted ss s ts ps x t c.bare h m)
      where
        go : (p q : Bool) → p ≡ q → Acted ns w v (act_stored fs w ss s ts ps) (act_stored gs v ss s ts ps)
            → Acted ns w v (if p then act_stored fs w ss s ts ps else record { world = w; pending = ts ∷ ps }) (if q then act_stored gs v ss s ts ps else record { world = v; pending = ts ∷ ps })
        go true true e a = a
        go true false e a = absurd cc
        go false true e a = absurd cc
        go false false e a = still (ts ∷ ps) (ts ∷ ps) refl (h, m)

  -- ---- a chain

  pub record Ran (w v : World) (e d : Ended) : Type 0 where
    pub world : SamePart ns e.world d.world
    pub rule : e.world.rule ≡ d.world.rule
    pub stays : d.world.rule ≡ v.rule
    pub bare : Bare ns d.world
    pub kept : (n : Text) → is_own ns n ≡ false → IsKept n w e.world
    pub left : e.left ≡ d.left
    pub cut : e.cut ≡ d.cut

  ends : (w v : World) (q : ℕ) (c : Bool) → SamePart ns w v → w.rule ≡ v.rule → Bare ns v → Ran w v (record { world = w; left = q; cut = c }) (record { world = v; left = q; cut = c })
  ends w v q c k r b = record { world = k; rule = r; stays = refl; bare = b; kept = λ n a. same_kept ns n a w; left = refl; cut = refl }

  onward : (w v : World) (a b : State) (e d : Ended) → Acted ns w v a b → Ran a.world b.world e d → Ran w v e d
  onward w v a b e d x y = record {
    world = y.world;
    rule = y.rule;
    stays = y.stays ∙ x.stays;
    bare = y.bare;
    kept = λ n p. kept_trans ns n p w a.world e.world (x.kept n p) (y.kept n p);
    left = y.left;
    cut = y.cut;
  }

  pub ran : (q : ℕ) (w v : World) (n : Next) → SamePart ns w v → w.rule ≡ v.rule → Bare ns v → CleanNext ns n → Ran w v (run fs q w n) (run gs q v n)
  unfolding run
  ran zero w v over k r b h = ends w v zero false k r b
  ran (suc q) w v over k r b h = ends w v (suc q) false k r b
  ran zero w v (takes c ts ps) k r b h = ends w v zero true k r b
  ran (suc zero) w v (takes (execute ss s) ts ps) k r b h = ends w v (suc zero) true k r b
  ran (suc q) w v (takes (plain s) ts ps) k r b h =
      let x = acted w v k r b (plain s) ts ps h.0 h.1.0 h.1.1 in
      let i = act fs w (plain s) ts ps in
      let j = act gs v (plain s) ts ps in
      let y = ran q i.world j.world (next j.pending) x.world x.rule x.bare (clean_next ns j.pending x.clean) in
      onward w v i j _ _ x (subst (λ p. Ran i.world j.world (run fs q i.world (next p)) (run gs q j.world (next j.pending))) (sym x.pending) y)
  ran (suc (suc q)) w v (takes (execute ss s) ts ps) k r b h =
      let x = acted w v k r b (execute ss s) ts ps h.0 h.1.0 h.1.1 in
      let i = act fs w (execute ss s) ts ps in
      let j = act gs v (execute ss s) ts ps in
      let y = ran q i.world j.world (next j.pending) x.world x.rule x.bare (clean_next ns j.pending x.clean) in
      onward w v i j _ _ x (subst (λ p. Ran i.world j.world (run fs q i.world (next p)) (run gs q j.world (next j.pending))) (sym x.pending) y)

  pub chain_ran : (f : Text) (q : ℕ) (w v : World) → own_function ns f ≡ true → SamePart ns w v → w.rule ≡ v.rule → Bare ns v → Ran w v (chain_from fs f q w) (chain_from gs f q v)
  unfolding chain
  chain_ran f q w v own k r b =
      let ps = in_front (callable (gs f)) [] in
      let y = ran q w v (next ps) k r b (clean_next ns ps (front_clean ns (callable (gs f)) [] (called_clean ns (gs f) (lines f)) tt)) in
      subst (λ o. Ran w v (run fs q w (next (in_front (callable o) []))) (run gs q v (next ps))) (sym (agree f own)) y
