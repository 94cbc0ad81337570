-- Items made of steps, and items one after the other.
use Rattle.std.proofs.Common.{◌≡◌, ℕ, ◌+◌, List, [], ◌∷◌, ◌++◌, Bool, true, false, refl, sym, ap, ◌∙◌, subst, arith}
use Rattle.std.specs.Prelude.{if◌then◌else◌}
use Rattle.mc_nbt.proofs.TestLemmas.{and_first, and_second, and_both}
use Rattle.mc_cmd.specs.Form.{Text}
use Rattle.cc_line.specs.State.{State}
use Rattle.cc_line.specs.Step.{Cond, Step, Flow, flow, more, step_weight, steps_weight, conds_hold, after_step, stops, run_steps, CondsReady, Ready}
use Rattle.cc_line.specs.Fit.{step_fits, steps_fit}
use Rattle.cc_line.specs.Core.{Straight}
use Rattle.cc_line.specs.Item.{Item, step_item, call_when, Items, no_more, first, join, steps_items, called, run_item, run_items, items_most, ItemReady, ItemsReady, item_fits, items_fit}
use Rattle.cc_line.proofs.StepLemmas.{unmoved}

-- ---- steps as items

pub steps_run : (xs : List Step) (s : State) → run_items (steps_items xs) s ≡ run_steps xs s
steps_run [] s = refl
steps_run (x ∷ xs) s = go (stops x s) refl (steps_run xs (after_step x s))
  where
    go : (b : Bool) → stops x s ≡ b → run_items (steps_items xs) (after_step x s) ≡ run_steps xs (after_step x s) → (if b then flow b (after_step x s) (step_weight x) else more (step_weight x) (run_items (steps_items xs) (after_step x s))) ≡ (if b then flow true s (step_weight x) else more (step_weight x) (run_steps xs (after_step x s)))
    go true e i = ap (λ t. flow true t (step_weight x)) (unmoved x s e)
    go false e i = ap (more (step_weight x)) i

pub steps_ready : (xs : List Step) (s : State) → Ready xs s → ItemsReady (steps_items xs) s
steps_ready [] s r = tt
steps_ready (x ∷ xs) s r = (r.0, λ e. steps_ready xs (after_step x s) (r.1 e))

pub steps_most : (xs : List Step) → items_most (steps_items xs) ≡ steps_weight xs
steps_most [] = refl
steps_most (x ∷ xs) = ap (λ n. step_weight x + n) (steps_most xs)

pub steps_all_fit : (xs : List Step) → steps_fit xs ≡ true → items_fit (steps_items xs) ≡ true
steps_all_fit [] f = refl
steps_all_fit (x ∷ xs) f = and_both _ _ (and_first _ _ f) (steps_all_fit xs (and_second (step_fits x) _ f))

pub steps_joined : (xs ys : List Step) → steps_items (xs ++ ys) ≡ join (steps_items xs) (steps_items ys)
steps_joined [] ys = refl
steps_joined (x ∷ xs) ys = ap (first (step_item x)) (steps_joined xs ys)

-- ---- items one after the other

pub join_most : (xs ys : Items) → items_most (join xs ys) ≡ items_most xs + items_most ys
join_most no_more ys = let e : items_most ys ≡ 0 + items_most ys = omega arith in e
join_most (first x xs) ys = let i = join_most xs ys in omega arith

pub join_fits : (xs ys : Items) → items_fit xs ≡ true → items_fit ys ≡ true → items_fit (join xs ys) ≡ true
join_fits no_more ys f g = g
join_fits (first x xs) ys f g = and_both _ _ (and_first _ _ f) (join_fits xs ys (and_second (item_fits x) _ f) g)

-- items that lead from the one state to the other, and go on
pub record Leads (xs : Items) (s t : State) : Type 0 where
  pub ready : ItemsReady xs s
  pub used : ℕ
  pub ends : run_items xs s ≡ flow false t used

-- items that end their list on the way
pub record Halts (xs : Items) (s t : State) : Type 0 where
  pub ready : ItemsReady xs s
  pub used : ℕ
  pub ends : run_items xs s ≡ flow true t used

pub leads_none : (s : State) → Leads no_more s s
leads_none s = record { ready = tt; used = 0; ends = refl }

pub leads_as : (xs : Items) (s t u : State) → t ≡ u → Leads xs s t → Leads xs s u
leads_as xs s t u e f = subst (Leads xs s) e f

pub straight_leads : (xs : List Step) (s t : State) → Straight xs s t → Leads (steps_items xs) s t
straight_leads xs s t f = record { ready = steps_ready xs s f.ready; used = steps_weight xs; ends = steps_run xs s ∙ f.ends }

module _ (x : Item) (s : State) where
  abbrev follow : Items → Flow → Flow
  follow xs f = if f.stopped then f else more f.used (run_items xs f.state)

  -- an item that goes on, and what follows it
  pub leads_first : (xs : Items) (t u : State) (k : ℕ) → ItemReady x s → run_item x s ≡ flow false t k → Leads xs t u → Leads (first x xs) s u
  leads_first xs t u k r e f = record {
    ready = (r, λ q. subst (ItemsReady xs) (sym (ap (λ (g : Flow). g.state) e)) f.ready);
    used = k + f.used;
    ends = ap (follow xs) e ∙ ap (more k) f.ends;
  }

  pub halts_first : (xs : Items) (t u : State) (k : ℕ) → ItemReady x s → run_item x s ≡ flow false t k → Halts xs t u → Halts (first x xs) s u
  halts_first xs t u k r e f = record {
    ready = (r, λ q. subst (ItemsReady xs) (sym (ap (λ (g : Flow). g.state) e)) f.ready);
    used = k + f.used;
    ends = ap (follow xs) e ∙ ap (more k) f.ends;
  }

  -- an item that ends the list
  pub halts_here : (xs : Items) (t : State) (k : ℕ) → ItemReady x s → run_item x s ≡ flow true t k → Halts (first x xs) s t
  halts_here xs t k r e = record {
    ready = (r, λ q. absurd (let y : true ≡ false = sym (ap (λ (g : Flow). g.stopped) e) ∙ q in cc));
    used = k;
    ends = ap (follow xs) e;
  }

-- what follows items that go on
more_more : (j k : ℕ) (q : Flow) → more j (more k q) ≡ more (j + k) q
more_more j k q = let e : j + (k + q.used) ≡ (j + k) + q.used = omega arith in ap (λ n. flow q.stopped q.state n) e

more_none : (q : Flow) → q ≡ more 0 q
more_none q = let e : q.used ≡ 0 + q.used = omega arith in ap (λ n. flow q.stopped q.state n) e

pub items_then : (xs ys : Items) (s t : State) (k : ℕ) → run_items xs s ≡ flow false t k → ItemsReady xs s → ItemsReady ys t → ItemsReady (join xs ys) s × (run_items (join xs ys) s ≡ more k (run_items ys t))
items_then no_more ys s t k e r w =
    let p : s ≡ t = ap (λ (q : Flow). q.state) e in
    let n : 0 ≡ k = ap (λ (q : Flow). q.used) e in
    (subst (ItemsReady ys) (sym p) w, ap (run_items ys) p ∙ more_none (run_items ys t) ∙ ap (λ m. more m (run_items ys t)) n)
items_then (first x xs) ys s t k e r w = go (run_item x s) refl e r.1 (λ l g. items_then xs ys (run_item x s).state t l g)
  where
    go : (f : Flow) → run_item x s ≡ f → (if f.stopped then f else more f.used (run_items xs f.state)) ≡ flow false t k → (f.stopped ≡ false → ItemsReady xs f.state)
        → ((l : ℕ) → run_items xs f.state ≡ flow false t l → ItemsReady xs f.state → ItemsReady ys t → ItemsReady (join xs ys) f.state × (run_items (join xs ys) f.state ≡ more l (run_items ys t)))
        → ItemsReady (first x (join xs ys)) s × (run_items (first x (join xs ys)) s ≡ more k (run_items ys t))
    go f o e r1 ih = by f.stopped refl e
      where
        by : (b : Bool) → f.stopped ≡ b → (if b then f else more f.used (run_items xs f.state)) ≡ flow false t k → ItemsReady (first x (join xs ys)) s × (run_items (first x (join xs ys)) s ≡ more k (run_items ys t))
        by true d e = absurd (let y : true ≡ false = sym d ∙ ap (λ (q : Flow). q.stopped) e in cc)
        by false d e =
            let l : ℕ = (run_items xs f.state).used in
            let g : run_items xs f.state ≡ flow false t l = (λ i. flow (ap (λ (q : Flow). q.stopped) e i) (ap (λ (q : Flow). q.state) e i) l) in
            let n = ih l g (r1 d) w in
            let u : f.used + l ≡ k = ap (λ (q : Flow). q.used) e in (
              (r.0, λ q. subst (λ (h : Flow). ItemsReady (join xs ys) h.state) (sym o) n.0),
              ap (λ (h : Flow). if h.stopped then h else more h.used (run_items (join xs ys) h.state)) o ∙ ap (λ b. if b then f else more f.used (run_items (join xs ys) f.state)) d ∙ ap (more f.used) n.1 ∙ more_more f.used l (run_items ys t) ∙ ap (λ m. more m (run_items ys t)) u,
            )

pub leads_join : (xs ys : Items) (s t u : State) → Leads xs s t → Leads ys t u → Leads (join xs ys) s u
leads_join xs ys s t u f g = let n = items_then xs ys s t f.used f.ends f.ready g.ready in record { ready = n.0; used = f.used + g.used; ends = n.1 ∙ ap (more f.used) g.ends }

pub halts_join : (xs ys : Items) (s t u : State) → Leads xs s t → Halts ys t u → Halts (join xs ys) s u
halts_join xs ys s t u f g = let n = items_then xs ys s t f.used f.ends f.ready g.ready in record { ready = n.0; used = f.used + g.used; ends = n.1 ∙ ap (more f.used) g.ends }

-- what follows items that end their list
pub halts_before : (xs ys : Items) (s t : State) → Halts xs s t → Halts (join xs ys) s t
halts_before no_more ys s t f = absurd (let y : false ≡ true = ap (λ (q : Flow). q.stopped) f.ends in cc)
halts_before (first x xs) ys s t f = go (run_item x s) refl f.ends f.ready.1 (λ g. halts_before xs ys (run_item x s).state t g)
  where
    go : (h : Flow) → run_item x s ≡ h → (if h.stopped then h else more h.used (run_items xs h.state)) ≡ flow true t f.used → (h.stopped ≡ false → ItemsReady xs h.state) → (Halts xs h.state t → Halts (join xs ys) h.state t) → Halts (first x (join xs ys)) s t
    go h o e r1 ih = by h.stopped refl e
      where
        by : (b : Bool) → h.stopped ≡ b → (if b then h else more h.used (run_items xs h.state)) ≡ flow true t f.used → Halts (first x (join xs ys)) s t
        by true d e = halts_here x s (join xs ys) t f.used f.ready.0 (o ∙ e)
        by false d e =
            let l : ℕ = (run_items xs h.state).used in
            let g : run_items xs h.state ≡ flow true t l = (λ i. flow (ap (λ (q : Flow). q.stopped) e i) (ap (λ (q : Flow). q.state) e i) l) in
            let c : run_item x s ≡ flow false h.state h.used = o ∙ ap (λ b. flow b h.state h.used) d in
            halts_first x s (join xs ys) h.state t h.used f.ready.0 c (ih (record { ready = r1 d; used = l; ends = g }))

-- ---- calls under conditions

pub called_leads : (cs : List Cond) (f : Text) (xs : Items) (s t : State) → CondsReady cs s → conds_hold cs s ≡ true → Leads xs s t → Leads (first (call_when cs f xs) no_more) s t
called_leads cs f xs s t r e g =
    leads_first (call_when cs f xs) s no_more t t (2 + g.used) (r, λ q. g.ready) (ap (λ b. if b then called 2 (run_items xs s) else flow false s 2) e ∙ ap (called 2) g.ends) (leads_none t)

pub uncalled_leads : (cs : List Cond) (f : Text) (xs : Items) (s : State) → CondsReady cs s → conds_hold cs s ≡ false → Leads (first (call_when cs f xs) no_more) s s
uncalled_leads cs f xs s r e =
    leads_first (call_when cs f xs) s no_more s s 2 (r, λ q. absurd (let y : true ≡ false = sym q ∙ e in cc)) (ap (λ b. if b then called 2 (run_items xs s) else flow false s 2) e) (leads_none s)
