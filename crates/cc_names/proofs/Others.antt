-- Steps and items that don't speak of the key of the next piece do the same whatever stands there.
use Rattle.std.proofs.Common.{◌≡◌, List, [], ◌∷◌, Option, Bool, true, false, refl, sym, ap, ◌∙◌, subst}
use Rattle.std.specs.Prelude.{◌||◌, if◌then◌else◌}
use Rattle.mc_nbt.specs.Tree.{Tree}
use Rattle.mc_cmd.specs.steps.OpenText.{Ints}
use Rattle.cc_line.specs.State.{State, Site, selected}
use Rattle.cc_line.specs.Step.{Cond, Step, run_act, when, stop_when, step_weight, after_act, after_step, conds_hold, stops, Flow, flow, more, run_steps, CondsReady, StepReady, Ready}
use Rattle.cc_line.specs.OpenStep.{OpenAct, open_set_spot, open_combine, open_load_site, open_keep_site, open_place_to_site, open_site_to_place, open_set_site, open_copy_site, OpenStep, closed_step, open_act, open_when, act_with, step_with, steps_with, steps_names, HasSomeInts, ints_in}
use Rattle.cc_line.specs.Item.{Item, step_item, call_item, call_when, fill_item, fill_when, Items, no_more, first, called, filled_steps, run_item, run_items, ItemReady, ItemsReady}
use Rattle.cc_names.specs.Names.{is_next, act_speaks, conds_speak, step_speaks, open_act_speaks, open_step_speaks, open_steps_speak, item_speaks, items_speak}
use Rattle.cc_names.proofs.Next.{with_next}
use Rattle.cc_names.proofs.Acts.{neither_first, neither_second, selected_alike, act_alike, act_ready, conds_alike, conds_ready}

-- ---- lines that are filled

steps_speak : List Step → Bool
steps_speak [] = false
steps_speak (x ∷ xs) = step_speaks x || steps_speak xs

act_filled : (r : Ints) (a : OpenAct) → act_speaks (act_with r a) ≡ open_act_speaks a
act_filled r (open_set_spot x n) = refl
act_filled r (open_combine x op h n) = refl
act_filled r (open_load_site h p) = refl
act_filled r (open_keep_site p h) = refl
act_filled r (open_place_to_site p i) = refl
act_filled r (open_site_to_place i p) = refl
act_filled r (open_set_site p t) = refl
act_filled r (open_copy_site p q) = refl

step_filled : (r : Ints) (x : OpenStep) → step_speaks (step_with r x) ≡ open_step_speaks x
step_filled r (closed_step x) = refl
step_filled r (open_act a) = act_filled r a
step_filled r (open_when cs a) = ap (λ b. conds_speak cs || b) (act_filled r a)

steps_filled : (r : Ints) (xs : List OpenStep) → steps_speak (steps_with r xs) ≡ open_steps_speak xs
unfolding steps_speak
steps_filled r [] = refl
steps_filled r (x ∷ xs) = ap (λ b. b || steps_speak (steps_with r xs)) (step_filled r x) ∙ ap (λ b. open_step_speaks x || b) (steps_filled r xs)

module _ (o : Option Tree) where
  -- where lines lead with something else under the key
  abbrev pub flow_with : Flow → Flow
  flow_with f = flow f.stopped (with_next f.state o) f.used

  either_with : (b : Bool) (f g : Flow) → (if b then flow_with f else flow_with g) ≡ flow_with (if b then f else g)
  either_with true f g = refl
  either_with false f g = refl

  either_state : (b : Bool) (s t : State) → (if b then with_next s o else with_next t o) ≡ with_next (if b then s else t) o
  either_state true s t = refl
  either_state false s t = refl

  -- ---- steps

  step_alike : (x : Step) (s : State) → step_speaks x ≡ false → after_step x (with_next s o) ≡ with_next (after_step x s) o
  step_alike (run_act a) s e = act_alike o a s e
  step_alike (when cs a) s e =
      let f = neither_first (conds_speak cs) (act_speaks a) e in
      let g = neither_second (conds_speak cs) (act_speaks a) e in
      ap (λ b. if b then after_act a (with_next s o) else with_next s o) (conds_alike o cs s f)
      ∙ ap (λ t. if conds_hold cs s then t else with_next s o) (act_alike o a s g)
      ∙ either_state (conds_hold cs s) (after_act a s) s
  step_alike (stop_when cs) s e = refl

  stops_alike : (x : Step) (s : State) → step_speaks x ≡ false → stops x (with_next s o) ≡ stops x s
  stops_alike (run_act a) s e = refl
  stops_alike (when cs a) s e = refl
  stops_alike (stop_when cs) s e = conds_alike o cs s e

  step_ready : (x : Step) (s : State) → step_speaks x ≡ false → StepReady x s → StepReady x (with_next s o)
  step_ready (run_act a) s e w = act_ready o a s e w
  step_ready (when cs a) s e w =
      let f = neither_first (conds_speak cs) (act_speaks a) e in
      let g = neither_second (conds_speak cs) (act_speaks a) e in
      (conds_ready o cs s w.0, λ h. act_ready o a s g (w.1 (sym (conds_alike o cs s f) ∙ h)))
  step_ready (stop_when cs) s e w = conds_ready o cs s w

  steps_alike : (xs : List Step) (s : State) → steps_speak xs ≡ false → run_steps xs (with_next s o) ≡ flow_with (run_steps xs s)
  unfolding steps_speak
  steps_alike [] s e = refl
  steps_alike (x ∷ xs) s e =
      let f = neither_first (step_speaks x) (steps_speak xs) e in
      let g = neither_second (step_speaks x) (steps_speak xs) e in
      ap (λ b. if b then flow true (with_next s o) (step_weight x) else more (step_weight x) (run_steps xs (after_step x (with_next s o)))) (stops_alike x s f)
      ∙ ap (λ t. if stops x s then flow true (with_next s o) (step_weight x) else more (step_weight x) (run_steps xs t)) (step_alike x s f)
      ∙ ap (λ p. if stops x s then flow true (with_next s o) (step_weight x) else more (step_weight x) p) (steps_alike xs (after_step x s) g)
      ∙ either_with (stops x s) (flow true s (step_weight x)) (more (step_weight x) (run_steps xs (after_step x s)))

  steps_ready : (xs : List Step) (s : State) → steps_speak xs ≡ false → Ready xs s → Ready xs (with_next s o)
  unfolding steps_speak
  steps_ready [] s e w = tt
  steps_ready (x ∷ xs) s e w =
      let f = neither_first (step_speaks x) (steps_speak xs) e in
      let g = neither_second (step_speaks x) (steps_speak xs) e in (
        step_ready x s f w.0,
        λ h. subst (Ready xs) (sym (step_alike x s f)) (steps_ready xs (after_step x s) g (w.1 (sym (stops_alike x s f) ∙ h))),
      )

  -- ---- helpers that are filled

  filled_alike : (p : Site) (xs : List OpenStep) (s : State) → is_next p.store p.name ≡ false → filled_steps p xs (with_next s o) ≡ filled_steps p xs s
  filled_alike p xs s e = ap (λ v. steps_with (ints_in v) xs) (selected_alike o s p e)

  fill_alike : (p : Site) (xs : List OpenStep) (s : State) → (is_next p.store p.name || open_steps_speak xs) ≡ false → run_steps (filled_steps p xs (with_next s o)) (with_next s o) ≡ flow_with (run_steps (filled_steps p xs s) s)
  fill_alike p xs s e =
      let f = neither_first (is_next p.store p.name) (open_steps_speak xs) e in
      let g = neither_second (is_next p.store p.name) (open_steps_speak xs) e in
      ap (λ ys. run_steps ys (with_next s o)) (filled_alike p xs s f)
      ∙ steps_alike (filled_steps p xs s) s (steps_filled (ints_in (selected s p)) xs ∙ g)

  abbrev FillReady : Site → List OpenStep → State → Type 0
  FillReady p xs s = HasSomeInts (selected s p) (steps_names xs) × Ready (filled_steps p xs s) s

  fill_ready : (p : Site) (xs : List OpenStep) (s : State) → (is_next p.store p.name || open_steps_speak xs) ≡ false → FillReady p xs s → FillReady p xs (with_next s o)
  fill_ready p xs s e w =
      let f = neither_first (is_next p.store p.name) (open_steps_speak xs) e in
      let g = neither_second (is_next p.store p.name) (open_steps_speak xs) e in (
        subst (λ v. HasSomeInts v (steps_names xs)) (sym (selected_alike o s p f)) w.0,
        subst (λ ys. Ready ys (with_next s o)) (sym (filled_alike p xs s f)) (steps_ready (filled_steps p xs s) s (steps_filled (ints_in (selected s p)) xs ∙ g) w.1),
      )

  -- ---- items

  -- a call where conditions hold
  choice_alike : (cs : List Cond) (s : State) (f g : Flow) → conds_speak cs ≡ false → g ≡ flow_with f → (if conds_hold cs (with_next s o) then called 2 g else flow false (with_next s o) 2) ≡ flow_with (if conds_hold cs s then called 2 f else flow false s 2)
  choice_alike cs s f g e is =
      ap (λ b. if b then called 2 g else flow false (with_next s o) 2) (conds_alike o cs s e)
      ∙ ap (λ p. if conds_hold cs s then called 2 p else flow false (with_next s o) 2) is
      ∙ either_with (conds_hold cs s) (called 2 f) (flow false s 2)

  choice_ready : (P Q : Type 0) (cs : List Cond) (s : State) → conds_speak cs ≡ false → (P → Q) → CondsReady cs s × (conds_hold cs s ≡ true → P) → CondsReady cs (with_next s o) × (conds_hold cs (with_next s o) ≡ true → Q)
  choice_ready P Q cs s e on w = (conds_ready o cs s w.0, λ h. on (w.1 (sym (conds_alike o cs s e) ∙ h)))

  -- an item and what follows it
  both_alike : (x : Item) (xs : Items) (s : State) → run_item x (with_next s o) ≡ flow_with (run_item x s) → run_items xs (with_next (run_item x s).state o) ≡ flow_with (run_items xs (run_item x s).state) → run_items (first x xs) (with_next s o) ≡ flow_with (run_items (first x xs) s)
  both_alike x xs s e f =
      let p = run_item x s in
      ap (λ (q : Flow). if q.stopped then q else more q.used (run_items xs q.state)) e
      ∙ ap (λ (q : Flow). if p.stopped then flow_with p else more p.used q) f
      ∙ either_with p.stopped p (more p.used (run_items xs p.state))

  mutual
    pub item_alike : (x : Item) (s : State) → item_speaks x ≡ false → run_item x (with_next s o) ≡ flow_with (run_item x s)
    item_alike (step_item x) s e = ap (λ b. flow b (after_step x (with_next s o)) (step_weight x)) (stops_alike x s e) ∙ ap (λ t. flow (stops x s) t (step_weight x)) (step_alike x s e)
    item_alike (call_item f xs) s e = ap (called 1) (items_alike xs s e)
    item_alike (call_when cs f xs) s e = choice_alike cs s (run_items xs s) (run_items xs (with_next s o)) (neither_first (conds_speak cs) (items_speak xs) e) (items_alike xs s (neither_second (conds_speak cs) (items_speak xs) e))
    item_alike (fill_item f p xs) s e = ap (called 1) (fill_alike p xs s e)
    item_alike (fill_when cs f p xs) s e =
        choice_alike cs s (run_steps (filled_steps p xs s) s) (run_steps (filled_steps p xs (with_next s o)) (with_next s o)) (neither_first (conds_speak cs) (is_next p.store p.name || open_steps_speak xs) e)
        (fill_alike p xs s (neither_second (conds_speak cs) (is_next p.store p.name || open_steps_speak xs) e))

    items_alike : (xs : Items) (s : State) → items_speak xs ≡ false → run_items xs (with_next s o) ≡ flow_with (run_items xs s)
    items_alike no_more s e = refl
    items_alike (first x xs) s e = both_alike x xs s (item_alike x s (neither_first (item_speaks x) (items_speak xs) e)) (items_alike xs (run_item x s).state (neither_second (item_speaks x) (items_speak xs) e))

  -- what follows an item is ready too
  pub rest_ready : (x : Item) (xs : Items) (s : State) → run_item x (with_next s o) ≡ flow_with (run_item x s) → ((run_item x s).stopped ≡ false → ItemsReady xs (with_next (run_item x s).state o)) → (run_item x (with_next s o)).stopped ≡ false → ItemsReady xs (run_item x (with_next s o)).state
  rest_ready x xs s e rest h = subst (λ (q : Flow). ItemsReady xs q.state) (sym e) (rest (sym (ap (λ (q : Flow). q.stopped) e) ∙ h))

  mutual
    pub item_ready : (x : Item) (s : State) → item_speaks x ≡ false → ItemReady x s → ItemReady x (with_next s o)
    item_ready (step_item x) s e w = step_ready x s e w
    item_ready (call_item f xs) s e w = items_ready xs s e w
    item_ready (call_when cs f xs) s e w = choice_ready _ _ cs s (neither_first (conds_speak cs) (items_speak xs) e) (λ r. items_ready xs s (neither_second (conds_speak cs) (items_speak xs) e) r) w
    item_ready (fill_item f p xs) s e w = fill_ready p xs s e w
    item_ready (fill_when cs f p xs) s e w =
        choice_ready (FillReady p xs s) (FillReady p xs (with_next s o)) cs s (neither_first (conds_speak cs) (is_next p.store p.name || open_steps_speak xs) e)
        (λ r. fill_ready p xs s (neither_second (conds_speak cs) (is_next p.store p.name || open_steps_speak xs) e) r) w

    items_ready : (xs : Items) (s : State) → items_speak xs ≡ false → ItemsReady xs s → ItemsReady xs (with_next s o)
    items_ready no_more s e w = tt
    items_ready (first x xs) s e w =
        let f = neither_first (item_speaks x) (items_speak xs) e in
        let g = neither_second (item_speaks x) (items_speak xs) e in
        (item_ready x s f w.0, rest_ready x xs s (item_alike x s f) (λ h. items_ready xs (run_item x s).state g (w.1 h)))
