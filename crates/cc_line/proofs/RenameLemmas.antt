-- A core that is proved on its own scratch scores holds on any spots.
use Rattle.std.proofs.Common.{◌≡◌, ℕ, suc, ◌+◌, List, [], ◌∷◌, length, Option, Some, None, Bool, true, false, refl, sym, ap, ◌∙◌, subst, arith, ◌⊎◌, inl, inr}
use Rattle.std.specs.Prelude.{ℤ, pos, ◌+ℤ◌, ◌-ℤ◌, not, ◌&&◌, if◌then◌else◌, codes, map, nat_eq, nat_le, slice_index_or}
use Rattle.std.specs.List.{list_all}
use Rattle.std.specs.Str.{bytes_eq}
use Rattle.std.proofs.lemmas.Slice.Eq.{bytes_eq-Decides}
use Rattle.mc_nbt.proofs.TreeLemmas.{bytes_refl}
use Rattle.mc_nbt.proofs.TestLemmas.{some_same, eq_same, and_first, and_second, and_both}
use Rattle.mc_cmd.specs.Form.{Text}
use Rattle.mc_cmd.specs.World.{wrapped, or_zero, operate, some_is_in, both_compare}
use Rattle.cc_line.specs.Place.{is_scratch, Spot, scratch, placed}
use Rattle.cc_line.specs.State.{State, read, with_spot}
use Rattle.cc_line.specs.Step.{Act, set_spot, increase, decrease, combine, set_place, copy_place, load_place, keep_place, load_site, keep_site, place_to_site, site_to_place, set_site, copy_site, append_value_to, append_site, erase_site, open_place, make_list, save_list, restore_list, Check, in_range, compare, stands, Cond, holds, fails, Step, run_act, when, stop_when, Flow, flow, more, step_weight, steps_weight, with_some_spot, combined, after_act, check_holds, cond_holds, conds_hold, after_step, stops, run_steps, SpotReady, ActReady, CheckReady, CondReady, CondsReady, StepReady, Ready}
use Rattle.cc_line.specs.Fit.{scratch_fits, spot_fits, is_swap, act_fits, check_fits, cond_fits, conds_fit, step_fits, steps_fit}
use Rattle.cc_line.specs.Key.{is_work}
use Rattle.cc_line.specs.Core.{Differ, Straight, IsAt, Left, Makes, MakesOne, rename_spot, rename_act, rename_check, rename_cond, rename_step, renamed, act_on_scratch, check_on_scratch, cond_on_scratch, step_on_scratch, all_on_scratch, Injective, bind, CoreMakes, core_on, CoreMakesOne, core_on_one}
use Rattle.cc_line.proofs.CoreLemmas.{read_same, read_other, spot_keys, spot_long, spot_ready}

module _ (r : Text → Spot) (inj : Injective r) where
  -- the one state is the other one seen through the names
  pub record Follows (s0 s : State) : Type 0 where
    pub reads : (h : Text) → is_scratch h ≡ true → read s (r h) ≡ s0.scores h
    pub ready : (h : Text) → is_scratch h ≡ true → SpotReady (r h) s

  -- spots that are no names' are left alone
  pub record Beside (s t : State) : Type 0 where
    pub spots : (x : Spot) → ((h : Text) → is_scratch h ≡ true → Differ (r h) x) → read t x ≡ read s x
    pub keys : t.keys ≡ s.keys
    pub long : length t.places ≡ length s.places

  beside_none : (s : State) → Beside s s
  beside_none s = record { spots = λ x n. refl; keys = refl; long = refl }

  beside_both : (s t u : State) → Beside s t → Beside t u → Beside s u
  beside_both s t u f g = record { spots = λ x n. g.spots x n ∙ f.spots x n; keys = g.keys ∙ f.keys; long = g.long ∙ f.long }

  written : (s0 s : State) (h : Text) (z : ℤ) → Follows s0 s → is_scratch h ≡ true → Follows (with_spot s0 (scratch h) z) (with_spot s (r h) z) × Beside s (with_spot s (r h) z)
  written s0 s h z f k = (
    record { reads = λ g l. go g l (bytes_eq h g) refl; ready = λ g l. spot_ready s (r h) (r g) z (f.ready g l) },
    record { spots = λ x n. read_other s (r h) x z (n h k); keys = spot_keys s (r h) z; long = spot_long s (r h) z },
  )
    where
      go : (g : Text) → is_scratch g ≡ true → (b : Bool) → bytes_eq h g ≡ b → read (with_spot s (r h) z) (r g) ≡ (if b then Some z else s0.scores g)
      go g l true e = ap (λ q. read (with_spot s (r h) z) (r q)) (sym ((bytes_eq-Decides h g).0 e)) ∙ read_same s (r h) z (f.ready h k)
      go g l false e = read_other s (r h) (r g) z (inj.apart h g k l e) ∙ f.reads g l

  -- an act
  pub record ActFollows (a : Act) (s0 s : State) : Type 0 where
    pub ready : ActReady (rename_act r a) s
    pub follows : Follows (after_act a s0) (after_act (rename_act r a) s)
    pub beside : Beside s (after_act (rename_act r a) s)

  -- a number made of the one that stood there
  changed_follows : (f : ℤ → ℤ) (h : Text) (s0 s : State) → is_scratch h ≡ true → Follows s0 s
      → Follows (with_spot s0 (scratch h) (wrapped (f (or_zero (s0.scores h))))) (with_spot s (r h) (wrapped (f (or_zero (read s (r h)))))) × Beside s (with_spot s (r h) (wrapped (f (or_zero (read s (r h))))))
  changed_follows f h s0 s k g =
      let e : wrapped (f (or_zero (read s (r h)))) ≡ wrapped (f (or_zero (s0.scores h))) = ap (λ o. wrapped (f (or_zero o))) (g.reads h k) in
      let w = written s0 s h (wrapped (f (or_zero (s0.scores h)))) g k in
      (subst (λ z. Follows (with_spot s0 (scratch h) (wrapped (f (or_zero (s0.scores h))))) (with_spot s (r h) z)) (sym e) w.0, subst (λ z. Beside s (with_spot s (r h) z)) (sym e) w.1)

  act_follows : (a : Act) (s0 s : State) → act_on_scratch a ≡ true → Follows s0 s → ActFollows a s0 s
  act_follows (set_spot (scratch h) z) s0 s k f = let w = written s0 s h z f k in record { ready = f.ready h k; follows = w.0; beside = w.1 }
  act_follows (set_spot (placed i) z) s0 s k f = absurd cc
  act_follows (increase (scratch h) n) s0 s k f = let w = changed_follows (λ a. a +ℤ pos n) h s0 s k f in record { ready = f.ready h k; follows = w.0; beside = w.1 }
  act_follows (increase (placed i) n) s0 s k f = absurd cc
  act_follows (decrease (scratch h) n) s0 s k f = let w = changed_follows (λ a. a -ℤ pos n) h s0 s k f in record { ready = f.ready h k; follows = w.0; beside = w.1 }
  act_follows (decrease (placed i) n) s0 s k f = absurd cc
  act_follows (combine (placed i) op y) s0 s k f = absurd cc
  act_follows (combine (scratch h) op (placed j)) s0 s k f = absurd (let x = and_second (is_scratch h) _ k in cc)
  act_follows (combine (scratch h) op (scratch g)) s0 s k f =
      let kh = and_first (is_scratch h) (is_scratch g) k in
      let kg = and_second (is_scratch h) (is_scratch g) k in
      let t = by kh (s0.scores g) in
      let e : combined s (r h) op (read s (r g)) ≡ combined s (r h) op (s0.scores g) = ap (combined s (r h) op) (f.reads g kg) in
      record { ready = (f.ready h kh, f.ready g kg); follows = subst (Follows (combined s0 (scratch h) op (s0.scores g))) (sym e) t.0; beside = subst (Beside s) (sym e) t.1 }
    where
      some : is_scratch h ≡ true → (o : Option ℤ) → Follows (with_some_spot s0 (scratch h) o) (with_some_spot s (r h) o) × Beside s (with_some_spot s (r h) o)
      some kh None = (f, beside_none s)
      some kh (Some z) = written s0 s h z f kh

      by : is_scratch h ≡ true → (o : Option ℤ) → Follows (combined s0 (scratch h) op o) (combined s (r h) op o) × Beside s (combined s (r h) op o)
      by kh None = (f, beside_none s)
      by kh (Some b) =
          let e : operate op (or_zero (read s (r h))) b ≡ operate op (or_zero (s0.scores h)) b = ap (λ o. operate op (or_zero o) b) (f.reads h kh) in
          let w = some kh (operate op (or_zero (s0.scores h)) b) in
          (subst (λ o. Follows (with_some_spot s0 (scratch h) (operate op (or_zero (s0.scores h)) b)) (with_some_spot s (r h) o)) (sym e) w.0, subst (λ o. Beside s (with_some_spot s (r h) o)) (sym e) w.1)
  act_follows (set_place i z) s0 s k f = absurd cc
  act_follows (copy_place i j) s0 s k f = absurd cc
  act_follows (load_place h i) s0 s k f = absurd cc
  act_follows (keep_place i h) s0 s k f = absurd cc
  act_follows (load_site h p) s0 s k f = absurd cc
  act_follows (keep_site p h) s0 s k f = absurd cc
  act_follows (place_to_site p i) s0 s k f = absurd cc
  act_follows (site_to_place i p) s0 s k f = absurd cc
  act_follows (set_site p t) s0 s k f = absurd cc
  act_follows (copy_site p q) s0 s k f = absurd cc
  act_follows (append_value_to p t) s0 s k f = absurd cc
  act_follows (append_site p q) s0 s k f = absurd cc
  act_follows (erase_site p) s0 s k f = absurd cc
  act_follows (open_place i) s0 s k f = absurd cc
  act_follows (make_list zs) s0 s k f = absurd cc
  act_follows (save_list p) s0 s k f = absurd cc
  act_follows (restore_list p) s0 s k f = absurd cc

  check_follows : (c : Check) (s0 s : State) → check_on_scratch c ≡ true → Follows s0 s → CheckReady (rename_check r c) s × (check_holds (rename_check r c) s ≡ check_holds c s0)
  check_follows (in_range (scratch h) y) s0 s k f = (f.ready h k, ap (some_is_in y) (f.reads h k))
  check_follows (in_range (placed i) y) s0 s k f = absurd cc
  check_follows (compare (placed i) p y) s0 s k f = absurd cc
  check_follows (compare (scratch h) p (placed i)) s0 s k f = absurd (let x = and_second (is_scratch h) _ k in cc)
  check_follows (compare (scratch h) p (scratch g)) s0 s k f =
      let kh = and_first (is_scratch h) (is_scratch g) k in
      let kg = and_second (is_scratch h) (is_scratch g) k in
      ((f.ready h kh, f.ready g kg), ap (λ o. both_compare p o (read s (r g))) (f.reads h kh) ∙ ap (both_compare p (s0.scores h)) (f.reads g kg))
  check_follows (stands p) s0 s k f = absurd cc

  cond_follows : (c : Cond) (s0 s : State) → cond_on_scratch c ≡ true → Follows s0 s → CondReady (rename_cond r c) s × (cond_holds (rename_cond r c) s ≡ cond_holds c s0)
  cond_follows (holds c) s0 s k f = check_follows c s0 s k f
  cond_follows (fails c) s0 s k f = let n = check_follows c s0 s k f in (n.0, ap not n.1)

  conds_follow : (cs : List Cond) (s0 s : State) → list_all cond_on_scratch cs ≡ true → Follows s0 s → CondsReady (map (rename_cond r) cs) s × (conds_hold (map (rename_cond r) cs) s ≡ conds_hold cs s0)
  conds_follow [] s0 s k f = (tt, refl)
  conds_follow (c ∷ cs) s0 s k f =
      let m = cond_follows c s0 s (and_first _ _ k) f in
      let n = conds_follow cs s0 s (and_second (cond_on_scratch c) _ k) f in
      ((m.0, n.0), ap (λ b. b && conds_hold (map (rename_cond r) cs) s) m.1 ∙ ap (λ b. cond_holds c s0 && b) n.1)

  -- the weights are the same
  weight_same : (x : Step) → step_on_scratch x ≡ true → step_weight (rename_step r x) ≡ step_weight x
  weight_same (run_act (set_spot y z)) k = refl
  weight_same (run_act (increase y n)) k = refl
  weight_same (run_act (decrease y n)) k = refl
  weight_same (run_act (combine y op z)) k = refl
  weight_same (run_act (set_place i z)) k = absurd cc
  weight_same (run_act (copy_place i j)) k = absurd cc
  weight_same (run_act (load_place h i)) k = absurd cc
  weight_same (run_act (keep_place i h)) k = absurd cc
  weight_same (run_act (load_site h p)) k = absurd cc
  weight_same (run_act (keep_site p h)) k = absurd cc
  weight_same (run_act (place_to_site p i)) k = absurd cc
  weight_same (run_act (site_to_place i p)) k = absurd cc
  weight_same (run_act (set_site p t)) k = absurd cc
  weight_same (run_act (copy_site p q)) k = absurd cc
  weight_same (run_act (append_value_to p t)) k = absurd cc
  weight_same (run_act (append_site p q)) k = absurd cc
  weight_same (run_act (erase_site p)) k = absurd cc
  weight_same (run_act (open_place i)) k = absurd cc
  weight_same (run_act (make_list zs)) k = absurd cc
  weight_same (run_act (save_list p)) k = absurd cc
  weight_same (run_act (restore_list p)) k = absurd cc
  weight_same (when cs a) k = refl
  weight_same (stop_when cs) k = refl

  pub weights_same : (xs : List Step) → all_on_scratch xs ≡ true → steps_weight (renamed r xs) ≡ steps_weight xs
  weights_same [] k = refl
  weights_same (x ∷ xs) k = ap (λ n. n + steps_weight (renamed r xs)) (weight_same x (and_first _ _ k)) ∙ ap (λ n. step_weight x + n) (weights_same xs (and_second (step_on_scratch x) _ k))

  -- THE RENAMING LEMMA
  pub record Renamed (xs : List Step) (s0 s : State) : Type 0 where
    pub ready : Ready (renamed r xs) s
    pub stopped : (run_steps (renamed r xs) s).stopped ≡ (run_steps xs s0).stopped
    pub used : (run_steps (renamed r xs) s).used ≡ (run_steps xs s0).used
    pub follows : Follows (run_steps xs s0).state (run_steps (renamed r xs) s).state
    pub beside : Beside s (run_steps (renamed r xs) s).state

  -- one step, and whether it ends its list
  record StepFollows (x : Step) (s0 s : State) : Type 0 where
    ready : StepReady (rename_step r x) s
    stopped : stops (rename_step r x) s ≡ stops x s0
    follows : Follows (after_step x s0) (after_step (rename_step r x) s)
    beside : Beside s (after_step (rename_step r x) s)

  step_follows : (x : Step) (s0 s : State) → step_on_scratch x ≡ true → Follows s0 s → StepFollows x s0 s
  step_follows (run_act a) s0 s k f = let g = act_follows a s0 s k f in record { ready = g.ready; stopped = refl; follows = g.follows; beside = g.beside }
  step_follows (stop_when cs) s0 s k f = let n = conds_follow cs s0 s k f in record { ready = n.0; stopped = n.1; follows = f; beside = beside_none s }
  step_follows (when cs a) s0 s k f = go (conds_hold cs s0) refl
    where
      n : CondsReady (map (rename_cond r) cs) s × (conds_hold (map (rename_cond r) cs) s ≡ conds_hold cs s0)
      n = conds_follow cs s0 s (and_first _ _ k) f

      g : ActFollows a s0 s
      g = act_follows a s0 s (and_second (list_all cond_on_scratch cs) _ k) f

      go : (b : Bool) → conds_hold cs s0 ≡ b → StepFollows (when cs a) s0 s
      go true e =
          let p : after_step (when cs a) s0 ≡ after_act a s0 = ap (λ q. if q then after_act a s0 else s0) e in
          let q : after_step (rename_step r (when cs a)) s ≡ after_act (rename_act r a) s = ap (λ q. if q then after_act (rename_act r a) s else s) (n.1 ∙ e) in
          record { ready = (n.0, λ x. g.ready); stopped = refl; follows = subst (λ u. Follows u (after_step (rename_step r (when cs a)) s)) (sym p) (subst (Follows (after_act a s0)) (sym q) g.follows); beside = subst (Beside s) (sym q) g.beside }
      go false e =
          let p : after_step (when cs a) s0 ≡ s0 = ap (λ q. if q then after_act a s0 else s0) e in
          let q : after_step (rename_step r (when cs a)) s ≡ s = ap (λ q. if q then after_act (rename_act r a) s else s) (n.1 ∙ e) in
          record { ready = (n.0, λ x. absurd (let y : true ≡ false = sym x ∙ n.1 ∙ e in cc)); stopped = refl; follows = subst (λ u. Follows u (after_step (rename_step r (when cs a)) s)) (sym p) (subst (Follows s0) (sym q) f); beside = subst (Beside s) (sym q) (beside_none s) }

  pub rename : (xs : List Step) (s0 s : State) → all_on_scratch xs ≡ true → Follows s0 s → Renamed xs s0 s
  rename [] s0 s k f = record { ready = tt; stopped = refl; used = refl; follows = f; beside = beside_none s }
  rename (x ∷ xs) s0 s k f = go (stops x s0) refl (rename xs (after_step x s0) (after_step (rename_step r x) s) (and_second (step_on_scratch x) _ k) g.follows)
    where
      g : StepFollows x s0 s
      g = step_follows x s0 s (and_first _ _ k) f

      w : step_weight (rename_step r x) ≡ step_weight x
      w = weight_same x (and_first _ _ k)

      go : (b : Bool) → stops x s0 ≡ b → Renamed xs (after_step x s0) (after_step (rename_step r x) s) → Renamed (x ∷ xs) s0 s
      go true e n =
          let p : run_steps (x ∷ xs) s0 ≡ flow true s0 (step_weight x) = ap (λ q. if q then flow true s0 (step_weight x) else more (step_weight x) (run_steps xs (after_step x s0))) e in
          let q : run_steps (renamed r (x ∷ xs)) s ≡ flow true s (step_weight (rename_step r x)) = ap (λ q. if q then flow true s (step_weight (rename_step r x)) else more (step_weight (rename_step r x)) (run_steps (renamed r xs) (after_step (rename_step r x) s))) (g.stopped ∙ e) in
          record {
            ready = (g.ready, λ y. absurd (let z : true ≡ false = sym (g.stopped ∙ e) ∙ y in cc));
            stopped = ap (λ (y : Flow). y.stopped) q ∙ ap (λ (y : Flow). y.stopped) (sym p);
            used = ap (λ (y : Flow). y.used) q ∙ w ∙ ap (λ (y : Flow). y.used) (sym p);
            follows = subst (λ (y : Flow). Follows (run_steps (x ∷ xs) s0).state y.state) (sym q) (subst (λ (y : Flow). Follows y.state s) (sym p) f);
            beside = subst (λ (y : Flow). Beside s y.state) (sym q) (beside_none s);
          }
      go false e n =
          let p : run_steps (x ∷ xs) s0 ≡ more (step_weight x) (run_steps xs (after_step x s0)) = ap (λ q. if q then flow true s0 (step_weight x) else more (step_weight x) (run_steps xs (after_step x s0))) e in
          let q : run_steps (renamed r (x ∷ xs)) s ≡ more (step_weight (rename_step r x)) (run_steps (renamed r xs) (after_step (rename_step r x) s)) = ap (λ q. if q then flow true s (step_weight (rename_step r x)) else more (step_weight (rename_step r x)) (run_steps (renamed r xs) (after_step (rename_step r x) s))) (g.stopped ∙ e) in
          record {
            ready = (g.ready, λ y. n.ready);
            stopped = ap (λ (y : Flow). y.stopped) q ∙ n.stopped ∙ ap (λ (y : Flow). y.stopped) (sym p);
            used = ap (λ (y : Flow). y.used) q ∙ ap (λ m. m + (run_steps (renamed r xs) (after_step (rename_step r x) s)).used) w ∙ ap (λ m. step_weight x + m) n.used ∙ ap (λ (y : Flow). y.used) (sym p);
            follows = subst (λ (y : Flow). Follows (run_steps (x ∷ xs) s0).state y.state) (sym q) (subst (λ (y : Flow). Follows y.state (run_steps (renamed r xs) (after_step (rename_step r x) s)).state) (sym p) n.follows);
            beside = subst (λ (y : Flow). Beside s y.state) (sym q) (beside_both _ _ _ g.beside n.beside);
          }

-- renamed steps fit where the steps do, and the spots that the names get
spot_renamed : (r : Text → Spot) → ((h : Text) → scratch_fits h ≡ true → spot_fits (r h) ≡ true) → (x : Spot) → spot_fits x ≡ true → spot_fits (rename_spot r x) ≡ true
spot_renamed r g (scratch h) f = g h f
spot_renamed r g (placed i) f = f

act_renamed : (r : Text → Spot) → ((h : Text) → scratch_fits h ≡ true → spot_fits (r h) ≡ true) → (a : Act) → act_fits a ≡ true → act_fits (rename_act r a) ≡ true
act_renamed r g (set_spot x z) f = and_both _ _ (spot_renamed r g x (and_first _ _ f)) (and_second (spot_fits x) _ f)
act_renamed r g (increase x n) f = and_both _ _ (spot_renamed r g x (and_first _ _ f)) (and_second (spot_fits x) _ f)
act_renamed r g (decrease x n) f = and_both _ _ (spot_renamed r g x (and_first _ _ f)) (and_second (spot_fits x) _ f)
act_renamed r g (combine x op y) f = let e = and_second (spot_fits x) _ f in and_both _ _ (spot_renamed r g x (and_first _ _ f)) (and_both _ _ (spot_renamed r g y (and_first (spot_fits y) (not (is_swap op)) e)) (and_second (spot_fits y) (not (is_swap op)) e))
act_renamed r g (set_place i z) f = f
act_renamed r g (copy_place i j) f = f
act_renamed r g (load_place h i) f = f
act_renamed r g (keep_place i h) f = f
act_renamed r g (load_site h p) f = f
act_renamed r g (keep_site p h) f = f
act_renamed r g (place_to_site p i) f = f
act_renamed r g (site_to_place i p) f = f
act_renamed r g (set_site p t) f = f
act_renamed r g (copy_site p q) f = f
act_renamed r g (append_value_to p t) f = f
act_renamed r g (append_site p q) f = f
act_renamed r g (erase_site p) f = f
act_renamed r g (open_place i) f = f
act_renamed r g (make_list zs) f = f
act_renamed r g (save_list p) f = f
act_renamed r g (restore_list p) f = f

check_renamed : (r : Text → Spot) → ((h : Text) → scratch_fits h ≡ true → spot_fits (r h) ≡ true) → (c : Check) → check_fits c ≡ true → check_fits (rename_check r c) ≡ true
check_renamed r g (in_range x y) f = and_both _ _ (spot_renamed r g x (and_first _ _ f)) (and_second (spot_fits x) _ f)
check_renamed r g (compare x p y) f = and_both _ _ (spot_renamed r g x (and_first _ _ f)) (spot_renamed r g y (and_second (spot_fits x) _ f))
check_renamed r g (stands p) f = f

cond_renamed : (r : Text → Spot) → ((h : Text) → scratch_fits h ≡ true → spot_fits (r h) ≡ true) → (c : Cond) → cond_fits c ≡ true → cond_fits (rename_cond r c) ≡ true
cond_renamed r g (holds c) f = check_renamed r g c f
cond_renamed r g (fails c) f = check_renamed r g c f

conds_renamed : (r : Text → Spot) → ((h : Text) → scratch_fits h ≡ true → spot_fits (r h) ≡ true) → (cs : List Cond) → list_all cond_fits cs ≡ true → (list_all cond_fits (map (rename_cond r) cs) ≡ true) × (length (map (rename_cond r) cs) ≡ length cs)
conds_renamed r g [] f = (refl, refl)
conds_renamed r g (c ∷ cs) f = let n = conds_renamed r g cs (and_second (cond_fits c) _ f) in (and_both _ _ (cond_renamed r g c (and_first _ _ f)) n.0, ap suc n.1)

some_renamed : (r : Text → Spot) → ((h : Text) → scratch_fits h ≡ true → spot_fits (r h) ≡ true) → (cs : List Cond) → conds_fit cs ≡ true → conds_fit (map (rename_cond r) cs) ≡ true
some_renamed r g cs f = let n = conds_renamed r g cs (and_first _ _ f) in and_both _ _ n.0 (ap (λ k. nat_le 1 k && nat_le k 16) n.1 ∙ and_second (list_all cond_fits cs) _ f)

pub steps_renamed : (r : Text → Spot) → ((h : Text) → scratch_fits h ≡ true → spot_fits (r h) ≡ true) → (xs : List Step) → steps_fit xs ≡ true → steps_fit (renamed r xs) ≡ true
steps_renamed r g [] f = refl
steps_renamed r g (x ∷ xs) f = and_both _ _ (one x (and_first _ _ f)) (steps_renamed r g xs (and_second (step_fits x) _ f))
  where
    one : (x : Step) → step_fits x ≡ true → step_fits (rename_step r x) ≡ true
    one (run_act a) f = act_renamed r g a f
    one (when cs a) f = and_both _ _ (some_renamed r g cs (and_first _ _ f)) (act_renamed r g a (and_second (conds_fit cs) _ f))
    one (stop_when cs) f = some_renamed r g cs f

-- ---- operands in places

pub lists_same : (xs ys : List ℤ) → length xs ≡ length ys → ((i : ℕ) → slice_index_or xs i (pos 0) ≡ slice_index_or ys i (pos 0)) → xs ≡ ys
lists_same [] [] e f = refl
lists_same [] (y ∷ ys) e f = absurd (omega arith)
lists_same (x ∷ xs) [] e f = absurd (omega arith)
lists_same (x ∷ xs) (y ∷ ys) e f = ap (λ z. z ∷ xs) (f 0) ∙ ap (λ l. y ∷ l) (lists_same xs ys (omega arith) (λ i. f (suc i)))

which : (x : Spot) (k : ℕ) → (x ≡ placed k) ⊎ Differ x (placed k)
which (scratch h) k = inr tt
which (placed i) k = go (nat_eq i k) refl
  where
    refl_eq : (i : ℕ) → nat_eq i i ≡ true
    refl_eq i = grind arith

    go : (b : Bool) → nat_eq i k ≡ b → (placed i ≡ placed k) ⊎ (i ≡ k → ⊥)
    go true e = inl (ap placed (eq_same i k e))
    go false e = inr (λ q. let y : true ≡ false = sym (refl_eq i) ∙ ap (nat_eq i) q ∙ e in cc)

-- a scratch score and an operand's spot
at_apart : (h g : Text) (x : Spot) → IsAt h x → bytes_eq h g ≡ false → Differ x (scratch g)
at_apart h g (scratch k) a e = ap (λ q. bytes_eq q g) a ∙ e
at_apart h g (placed i) a e = tt

apart_at : (h g : Text) (x : Spot) → IsAt h x → bytes_eq g h ≡ false → Differ (scratch g) x
apart_at h g (scratch k) a e = ap (bytes_eq g) a ∙ e
apart_at h g (placed i) a e = tt

differ_back : (x y : Spot) → Differ x y → Differ y x
differ_back (scratch h) (scratch g) d = go (bytes_eq g h) refl
  where
    go : (b : Bool) → bytes_eq g h ≡ b → b ≡ false
    go true e = absurd (let y : true ≡ false = sym (bytes_refl h) ∙ ap (bytes_eq h) (sym ((bytes_eq-Decides g h).0 e)) ∙ d in cc)
    go false e = refl
differ_back (scratch h) (placed j) d = tt
differ_back (placed i) (scratch g) d = tt
differ_back (placed i) (placed j) d = λ e. d (sym e)

abbrev ra : Text
ra = codes "#a"

abbrev rb : Text
rb = codes "#b"

module _ (x y : Spot) (d : Differ x y) (ax : IsAt (codes "#a") x) (ay : IsAt (codes "#b") y) where
  abbrev names : Text → Spot
  names = bind (codes "#a") x (codes "#b") y

  -- which name it is
  data NameIs (h : Text) : Type 0 where
    first_name : codes "#a" ≡ h → names h ≡ x → NameIs h
    second_name : codes "#b" ≡ h → names h ≡ y → NameIs h
    other_name : bytes_eq (codes "#a") h ≡ false → bytes_eq (codes "#b") h ≡ false → names h ≡ scratch h → NameIs h

  name_is : (h : Text) → NameIs h
  name_is h = go (bytes_eq (codes "#a") h) refl (bytes_eq (codes "#b") h) refl
    where
      go : (p : Bool) → bytes_eq (codes "#a") h ≡ p → (q : Bool) → bytes_eq (codes "#b") h ≡ q → NameIs h
      go true e q f = first_name ((bytes_eq-Decides (codes "#a") h).0 e) (ap (λ b. if b then x else if bytes_eq (codes "#b") h then y else scratch h) e)
      go false e true f = second_name ((bytes_eq-Decides (codes "#b") h).0 f) (ap (λ b. if b then x else if bytes_eq (codes "#b") h then y else scratch h) e ∙ ap (λ b. if b then y else scratch h) f)
      go false e false f = other_name e f (ap (λ b. if b then x else if bytes_eq (codes "#b") h then y else scratch h) e ∙ ap (λ b. if b then y else scratch h) f)

  same_absurd : (g h : Text) → g ≡ h → bytes_eq g h ≡ false → ⊥
  same_absurd g h e n = let z : true ≡ false = sym (bytes_refl g) ∙ ap (bytes_eq g) e ∙ n in cc

  names_injective : Injective names
  names_injective = record { apart = λ g h k l n. by g h n (name_is g) (name_is h) }
    where
      by : (g h : Text) → bytes_eq g h ≡ false → NameIs g → NameIs h → Differ (names g) (names h)
      by g h n (first_name e p) (first_name f q) = absurd (same_absurd g h (sym e ∙ f) n)
      by g h n (first_name e p) (second_name f q) = subst (λ u. Differ u (names h)) (sym p) (subst (Differ x) (sym q) d)
      by g h n (first_name e p) (other_name f f' q) = subst (λ u. Differ u (names h)) (sym p) (subst (Differ x) (sym q) (at_apart (codes "#a") h x ax f))
      by g h n (second_name e p) (first_name f q) = subst (λ u. Differ u (names h)) (sym p) (subst (Differ y) (sym q) (differ_back x y d))
      by g h n (second_name e p) (second_name f q) = absurd (same_absurd g h (sym e ∙ f) n)
      by g h n (second_name e p) (other_name f f' q) = subst (λ u. Differ u (names h)) (sym p) (subst (Differ y) (sym q) (at_apart (codes "#b") h y ay f'))
      by g h n (other_name e e' p) (first_name f q) = subst (λ u. Differ u (names h)) (sym p) (subst (Differ (scratch g)) (sym q) (differ_back x (scratch g) (at_apart (codes "#a") g x ax e)))
      by g h n (other_name e e' p) (second_name f q) = subst (λ u. Differ u (names h)) (sym p) (subst (Differ (scratch g)) (sym q) (differ_back y (scratch g) (at_apart (codes "#b") g y ay e')))
      by g h n (other_name e e' p) (other_name f f' q) = subst (λ u. Differ u (names h)) (sym p) (subst (Differ (scratch g)) (sym q) n)

  -- a place that is no operand's
  names_beside : (k : ℕ) → Differ x (placed k) → Differ y (placed k) → (h : Text) → is_scratch h ≡ true → Differ (names h) (placed k)
  names_beside k dx dy h l = by (name_is h)
    where
      by : NameIs h → Differ (names h) (placed k)
      by (first_name e p) = subst (λ u. Differ u (placed k)) (sym p) dx
      by (second_name e p) = subst (λ u. Differ u (placed k)) (sym p) dy
      by (other_name e f p) = subst (λ u. Differ u (placed k)) (sym p) tt

  -- a score that no routine uses keeps its name
  names_kept : (h : Text) → is_work h ≡ false → names h ≡ scratch h
  names_kept h w = by (name_is h)
    where
      by : NameIs h → names h ≡ scratch h
      by (first_name e p) = absurd (let z : true ≡ false = ap is_work e ∙ w in cc)
      by (second_name e p) = absurd (let z : true ≡ false = ap is_work e ∙ w in cc)
      by (other_name e f p) = p

  -- the state seen through the names
  abbrev pulled : State → State
  pulled s = record s { scores = λ h. read s (names h) }

  pulled_follows : (s : State) → SpotReady x s → SpotReady y s → Follows names names_injective (record s { scores = λ h. read s (names h) }) s
  pulled_follows s wx wy = record { reads = λ h l. refl; ready = λ h l. by h l (name_is h) }
    where
      by : (h : Text) → is_scratch h ≡ true → NameIs h → SpotReady (names h) s
      by h l (first_name e p) = subst (λ u. SpotReady u s) (sym p) wx
      by h l (second_name e p) = subst (λ u. SpotReady u s) (sym p) wy
      by h l (other_name e f p) = subst (λ u. SpotReady u s) (sym p) tt

  -- the places, where only the one operand's has changed
  places_same : (s t : State) (z : ℤ) → SpotReady x s → length t.places ≡ length s.places → read t x ≡ Some z → read t y ≡ read s y
      → ((k : ℕ) → Differ x (placed k) → Differ y (placed k) → read t (placed k) ≡ read s (placed k)) → t.places ≡ (with_spot s x z).places
  places_same s t z wx long ex ey rest = lists_same t.places (with_spot s x z).places (long ∙ sym (spot_long s x z)) (λ k. some_same _ _ (by k (which x k) (which y k)))
    where
      by : (k : ℕ) → (x ≡ placed k) ⊎ Differ x (placed k) → (y ≡ placed k) ⊎ Differ y (placed k) → read t (placed k) ≡ read (with_spot s x z) (placed k)
      by k (inl e) q = ap (read t) (sym e) ∙ ex ∙ sym (read_same s x z wx) ∙ ap (read (with_spot s x z)) e
      by k (inr n) (inl e) = ap (read t) (sym e) ∙ ey ∙ ap (read s) e ∙ sym (read_other s x (placed k) z n)
      by k (inr n) (inr m) = rest k n m ∙ sym (read_other s x (placed k) z n)

  on_spots : (xs : List Step) (a b z : ℤ) (s : State) → CoreMakes xs a b z → SpotReady x s → SpotReady y s → read s x ≡ Some a → read s y ≡ Some b
      → (t : State) × Straight (renamed names xs) s t × Left s t x z
  on_spots xs a b z s m wx wy ex ey =
      let s0 : State = record s { scores = λ h. read s (names h) } in
      let f = pulled_follows s wx wy in
      let kept0 : (h : Text) → is_scratch h ≡ true → is_work h ≡ false → s0.scores h ≡ s.scores h = λ h l w. ap (read s) (names_kept h w) in
      let c = m.on s0 ex ey in
      let t0 : State = c.0 in
      let g = rename names names_injective xs s0 s m.plain f in
      let t : State = (run_steps (renamed names xs) s).state in
      let last : (run_steps xs s0).state ≡ t0 = ap (λ (q : Flow). q.state) c.1.ends in
      let reads : (h : Text) → is_scratch h ≡ true → read t (names h) ≡ t0.scores h = λ h l. g.follows.reads h l ∙ ap (λ (q : State). q.scores h) last in
      let halts : (run_steps (renamed names xs) s).stopped ≡ false = g.stopped ∙ ap (λ (q : Flow). q.stopped) c.1.ends in
      let rx : read t x ≡ Some z = reads (codes "#a") refl ∙ c.2 in
      let ry : read t y ≡ read s y = reads (codes "#b") refl ∙ c.3 ∙ sym ey in (
        t,
        record { ready = g.ready; ends = ap (λ b. flow b t (run_steps (renamed names xs) s).used) halts ∙ ap (flow false t) (g.used ∙ ap (λ (q : Flow). q.used) c.1.ends ∙ sym (weights_same names names_injective xs m.plain)) },
        record {
          result = rx;
          places = places_same s t z wx g.beside.long rx ry (λ k n q. g.beside.spots (placed k) (names_beside k n q));
          keys = g.beside.keys;
          scores = λ h l w. ap (read t) (sym (names_kept h w)) ∙ reads h l ∙ c.4 h l w ∙ kept0 h l w;
        },
      )

-- the names give spots that fit
bind_fits : (x y : Spot) → spot_fits x ≡ true → spot_fits y ≡ true → (h : Text) → scratch_fits h ≡ true → spot_fits (bind (codes "#a") x (codes "#b") y h) ≡ true
bind_fits x y fx fy h f = go (bytes_eq (codes "#a") h) (bytes_eq (codes "#b") h)
  where
    go : (p q : Bool) → spot_fits (if p then x else if q then y else scratch h) ≡ true
    go true q = fx
    go false true = fy
    go false false = f

-- A CORE ON ANY SPOTS, from its theorem on its own scores
pub core_makes : (xs : List Step) (a b z : ℤ) → CoreMakes xs a b z → Makes (core_on xs) a b z
core_makes xs a b z m = record {
  fits = λ x y fx fy. steps_renamed (bind (codes "#a") x (codes "#b") y) (bind_fits x y fx fy) xs m.fits;
  on = λ x y s d ax ay wx wy ex ey. on_spots x y d ax ay xs a b z s m wx wy ex ey;
}

-- ---- one operand

module _ (x : Spot) (ax : IsAt (codes "#a") x) where
  abbrev name : Text → Spot
  name h = if bytes_eq (codes "#a") h then x else scratch h

  data OneIs (h : Text) : Type 0 where
    this_name : codes "#a" ≡ h → name h ≡ x → OneIs h
    no_name : bytes_eq (codes "#a") h ≡ false → name h ≡ scratch h → OneIs h

  one_is : (h : Text) → OneIs h
  one_is h = go (bytes_eq (codes "#a") h) refl
    where
      go : (p : Bool) → bytes_eq (codes "#a") h ≡ p → OneIs h
      go true e = this_name ((bytes_eq-Decides (codes "#a") h).0 e) (ap (λ b. if b then x else scratch h) e)
      go false e = no_name e (ap (λ b. if b then x else scratch h) e)

  one_injective : Injective name
  one_injective = record { apart = λ g h k l n. by g h n (one_is g) (one_is h) }
    where
      by : (g h : Text) → bytes_eq g h ≡ false → OneIs g → OneIs h → Differ (name g) (name h)
      by g h n (this_name e p) (this_name f q) = absurd (let z : true ≡ false = sym (bytes_refl g) ∙ ap (bytes_eq g) (sym e ∙ f) ∙ n in cc)
      by g h n (this_name e p) (no_name f q) = subst (λ u. Differ u (name h)) (sym p) (subst (Differ x) (sym q) (at_apart (codes "#a") h x ax f))
      by g h n (no_name e p) (this_name f q) = subst (λ u. Differ u (name h)) (sym p) (subst (Differ (scratch g)) (sym q) (differ_back x (scratch g) (at_apart (codes "#a") g x ax e)))
      by g h n (no_name e p) (no_name f q) = subst (λ u. Differ u (name h)) (sym p) (subst (Differ (scratch g)) (sym q) n)

  one_beside : (k : ℕ) → Differ x (placed k) → (h : Text) → Differ (name h) (placed k)
  one_beside k dx h = by (one_is h)
    where
      by : OneIs h → Differ (name h) (placed k)
      by (this_name e p) = subst (λ u. Differ u (placed k)) (sym p) dx
      by (no_name e p) = subst (λ u. Differ u (placed k)) (sym p) tt

  one_kept : (h : Text) → is_work h ≡ false → name h ≡ scratch h
  one_kept h w = by (one_is h)
    where
      by : OneIs h → name h ≡ scratch h
      by (this_name e p) = absurd (let z : true ≡ false = ap is_work e ∙ w in cc)
      by (no_name e p) = p

  one_follows : (s : State) → SpotReady x s → Follows name one_injective (record s { scores = λ h. read s (name h) }) s
  one_follows s wx = record { reads = λ h l. refl; ready = λ h l. by h (one_is h) }
    where
      by : (h : Text) → OneIs h → SpotReady (name h) s
      by h (this_name e p) = subst (λ u. SpotReady u s) (sym p) wx
      by h (no_name e p) = subst (λ u. SpotReady u s) (sym p) tt

  one_places : (s t : State) (z : ℤ) → SpotReady x s → length t.places ≡ length s.places → read t x ≡ Some z
      → ((k : ℕ) → Differ x (placed k) → read t (placed k) ≡ read s (placed k)) → t.places ≡ (with_spot s x z).places
  one_places s t z wx long ex rest = lists_same t.places (with_spot s x z).places (long ∙ sym (spot_long s x z)) (λ k. some_same _ _ (by k (which x k)))
    where
      by : (k : ℕ) → (x ≡ placed k) ⊎ Differ x (placed k) → read t (placed k) ≡ read (with_spot s x z) (placed k)
      by k (inl e) = ap (read t) (sym e) ∙ ex ∙ sym (read_same s x z wx) ∙ ap (read (with_spot s x z)) e
      by k (inr n) = rest k n ∙ sym (read_other s x (placed k) z n)

  on_spot : (xs : List Step) (a z : ℤ) (s : State) → CoreMakesOne xs a z → SpotReady x s → read s x ≡ Some a
      → (t : State) × Straight (renamed name xs) s t × Left s t x z
  on_spot xs a z s m wx ex =
      let s0 : State = record s { scores = λ h. read s (name h) } in
      let f = one_follows s wx in
      let kept0 : (h : Text) → is_scratch h ≡ true → is_work h ≡ false → s0.scores h ≡ s.scores h = λ h l w. ap (read s) (one_kept h w) in
      let c = m.on s0 ex in
      let t0 : State = c.0 in
      let g = rename name one_injective xs s0 s m.plain f in
      let t : State = (run_steps (renamed name xs) s).state in
      let last : (run_steps xs s0).state ≡ t0 = ap (λ (q : Flow). q.state) c.1.ends in
      let reads : (h : Text) → is_scratch h ≡ true → read t (name h) ≡ t0.scores h = λ h l. g.follows.reads h l ∙ ap (λ (q : State). q.scores h) last in
      let halts : (run_steps (renamed name xs) s).stopped ≡ false = g.stopped ∙ ap (λ (q : Flow). q.stopped) c.1.ends in
      let rx : read t x ≡ Some z = reads (codes "#a") refl ∙ c.2 in (
        t,
        record { ready = g.ready; ends = ap (λ b. flow b t (run_steps (renamed name xs) s).used) halts ∙ ap (flow false t) (g.used ∙ ap (λ (q : Flow). q.used) c.1.ends ∙ sym (weights_same name one_injective xs m.plain)) },
        record {
          result = rx;
          places = one_places s t z wx g.beside.long rx (λ k n. g.beside.spots (placed k) (λ h l. one_beside k n h));
          keys = g.beside.keys;
          scores = λ h l w. ap (read t) (sym (one_kept h w)) ∙ reads h l ∙ c.3 h l w ∙ kept0 h l w;
        },
      )

one_fits : (x : Spot) → spot_fits x ≡ true → (h : Text) → scratch_fits h ≡ true → spot_fits (if bytes_eq (codes "#a") h then x else scratch h) ≡ true
one_fits x fx h f = go (bytes_eq (codes "#a") h)
  where
    go : (p : Bool) → spot_fits (if p then x else scratch h) ≡ true
    go true = fx
    go false = f

pub core_makes_one : (xs : List Step) (a z : ℤ) → CoreMakesOne xs a z → MakesOne (core_on_one xs) a z
core_makes_one xs a z m = record {
  fits = λ x fx. steps_renamed (λ h. if bytes_eq (codes "#a") h then x else scratch h) (one_fits x fx) xs m.fits;
  on = λ x s ax wx ex. on_spot x ax xs a z s m wx ex;
}
