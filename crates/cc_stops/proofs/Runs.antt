-- With fewer stops items lead where they lead, or to what differs unseen.
use Rattle.std.proofs.Common.{◌≡◌, ℕ, ◌+◌, ◌≤◌, List, [], ◌∷◌, Some, Bool, true, false, refl, sym, ap, ◌∙◌, subst, arith}
use Rattle.std.specs.Prelude.{ℤ, pos, ◌&&◌, if◌then◌else◌}
use Rattle.std.specs.List.{list_all}
use Rattle.std.specs.Ordering.{int_eq}
use Rattle.std.specs.Str.{bytes_eq}
use Rattle.std.proofs.lemmas.Bool.Decides.{Decides-int_eq}
use Rattle.std.proofs.lemmas.Slice.Eq.{bytes_eq-Decides}
use Rattle.mc_cmd.specs.Command.{Range, exactly, from, up_to, between}
use Rattle.mc_cmd.specs.World.{some_is_in}
use Rattle.mc_cmd.proofs.FormLemmas.{and_first, and_second}
use Rattle.cc_line.specs.Key.{score_trap}
use Rattle.cc_line.specs.Place.{scratch, placed}
use Rattle.cc_line.specs.State.{State}
use Rattle.cc_line.specs.Step.{Act, Check, in_range, compare, stands, Cond, holds, fails, Step, run_act, when, stop_when, step_weight, after_act, after_step, conds_hold, Flow, flow, more, StepReady}
use Rattle.cc_line.specs.Item.{Item, step_item, call_item, call_when, fill_item, fill_when, Items, no_more, first, run_item, run_items, ItemReady, ItemsReady}
use Rattle.cc_stops.specs.Harmless.{cond_stands, act_is_harmless, step_is_harmless, item_is_harmless}
use Rattle.cc_stops.specs.Law.{is_trapped, DifferUnseen, LeadAlike, to_same, to_trap, StopLess, RunsAlike}
use Rattle.cc_stops.specs.Stops.{has_trapped, is_from_one, tells_trap, tell_trap, is_trap_stop, are_harmless, without_stops}
use Rattle.cc_stops.proofs.Acts.{Calm, calm_none, calm_then, act_calm, act_ready, conds_ready}
use Rattle.cc_stops.proofs.Wide.{IsWide, item_wide}

-- ---- what a stop at a trap is

range_is : (r : Range) → is_from_one r ≡ true → r ≡ from (pos 1)
range_is (from z) e = ap from ((Decides-int_eq z (pos 1)).0 e)
range_is (exactly z) e = absurd cc
range_is (up_to z) e = absurd cc
range_is (between y z) e = absurd cc

check_is : (c : Check) → tells_trap c ≡ true → c ≡ in_range (scratch score_trap) (from (pos 1))
check_is (in_range (scratch h) r) e =
    ap (λ g. in_range (scratch g) r) (sym ((bytes_eq-Decides score_trap h).0 (and_first (bytes_eq score_trap h) _ e)))
    ∙ ap (in_range (scratch score_trap)) (range_is r (and_second (bytes_eq score_trap h) _ e))
check_is (in_range (placed i) r) e = absurd cc
check_is (compare x c y) e = absurd cc
check_is (stands p) e = absurd cc

conds_are : (cs : List Cond) → tell_trap cs ≡ true → cs ≡ has_trapped
conds_are [] e = absurd cc
conds_are (holds c ∷ []) e = ap (λ d. holds d ∷ []) (check_is c e)
conds_are (fails c ∷ []) e = absurd cc
conds_are (holds c ∷ (d ∷ cs)) e = absurd cc
conds_are (fails c ∷ (d ∷ cs)) e = absurd cc

pub stop_is : (x : Item) → is_trap_stop x ≡ true → x ≡ step_item (stop_when has_trapped)
stop_is (step_item (stop_when cs)) e = ap (λ ds. step_item (stop_when ds)) (conds_are cs e)
stop_is (step_item (run_act a)) e = absurd cc
stop_is (step_item (when cs a)) e = absurd cc
stop_is (call_item f xs) e = absurd cc
stop_is (call_when cs f xs) e = absurd cc
stop_is (fill_item f p xs) e = absurd cc
stop_is (fill_when cs f p xs) e = absurd cc

-- ---- behind a trap

still_trapped : (s t : State) → DifferUnseen s t → is_trapped s ≡ true → is_trapped t ≡ true
still_trapped s t d e = ap (λ o. some_is_in (from (pos 1)) o && true) (d.scores score_trap refl) ∙ e

step_calm : (x : Step) (s : State) → IsWide s → step_is_harmless x ≡ true → Calm s (after_step x s)
step_calm (run_act a) s w h = act_calm a s w h
step_calm (when cs a) s w h = go (conds_hold cs s)
  where
    go : (b : Bool) → Calm s (if b then after_act a s else s)
    go true = act_calm a s w (and_second (list_all cond_stands cs) _ h)
    go false = calm_none s w
step_calm (stop_when cs) s w h = calm_none s w

step_ready : (x : Step) (s : State) → IsWide s → step_is_harmless x ≡ true → StepReady x s
step_ready (run_act a) s w h = act_ready a s w h
step_ready (when cs a) s w h = (conds_ready cs s w (and_first (list_all cond_stands cs) _ h), λ e. act_ready a s w (and_second (list_all cond_stands cs) _ h))
step_ready (stop_when cs) s w h = conds_ready cs s w h

-- items that are run behind a trap: all is ready, and what differs is unseen
record Behind (ys : Items) (s : State) : Type 0 where
  ready : ItemsReady ys s
  unseen : DifferUnseen s (run_items ys s).state

-- an item and what follows it
behind_item : (x : Item) (ys : Items) (s : State) → ItemReady x s → Calm s (run_item x s).state → ((run_item x s).stopped ≡ false → Behind ys (run_item x s).state) → Behind (first x ys) s
behind_item x ys s r c rest = record {
  ready = (r, λ e. (rest e).ready);
  unseen = go (run_item x s).stopped refl;
}
  where
    go : (b : Bool) → (run_item x s).stopped ≡ b → DifferUnseen s (if b then run_item x s else more (run_item x s).used (run_items ys (run_item x s).state)).state
    go true e = c.unseen
    go false e = calm_then s (run_item x s).state (run_items ys (run_item x s).state).state c (rest e).unseen

harmless_item : (x : Item) (ys : Items) (s : State) → IsWide s → item_is_harmless x ≡ true → ((t : State) → IsWide t → DifferUnseen s t → Behind ys t) → Behind (first x ys) s
harmless_item (step_item x) ys s w h rest =
    let c = step_calm x s w h in
    behind_item (step_item x) ys s (step_ready x s w h) c (λ e. rest (after_step x s) c.wide c.unseen)
harmless_item (call_item f xs) ys s w h rest = absurd cc
harmless_item (call_when cs f xs) ys s w h rest = absurd cc
harmless_item (fill_item f p xs) ys s w h rest = absurd cc
harmless_item (fill_when cs f p xs) ys s w h rest = absurd cc

-- a stop that stays ends the list
halted : (ys : Items) (s : State) → is_trapped s ≡ true → Behind (first (step_item (stop_when has_trapped)) ys) s
halted ys s e = record {
  ready = ((tt, tt), λ f. absurd (let v : true ≡ false = sym e ∙ f in cc));
  unseen = go (is_trapped s) e;
}
  where
    go : (b : Bool) → b ≡ true → DifferUnseen s (if b then flow b s (step_weight (stop_when has_trapped)) else more (step_weight (stop_when has_trapped)) (run_items ys s)).state
    go true f = record { keys = λ r k g. refl; scores = λ h g. refl }
    go false f = absurd cc

behind : (xs : Items) (s : State) → IsWide s → is_trapped s ≡ true → are_harmless xs ≡ true → Behind (without_stops xs) s
behind no_more s w e h = record { ready = tt; unseen = record { keys = λ r k g. refl; scores = λ g f. refl } }
behind (first x xs) s w e h = by_stop (is_trap_stop x) refl h (λ t v d g. behind xs t v d g)
  where
    Rest : Type 0
    Rest = (t : State) → IsWide t → is_trapped t ≡ true → are_harmless xs ≡ true → Behind (without_stops xs) t

    by_rest : (c : Bool) → are_harmless xs ≡ c → is_trap_stop x ≡ true → Rest → Behind (if c then without_stops xs else first x (without_stops xs)) s
    by_rest true g f rest = rest s w e g
    by_rest false g f rest = subst (λ y. Behind (first y (without_stops xs)) s) (sym (stop_is x f)) (halted (without_stops xs) s e)

    by_stop : (b : Bool) → is_trap_stop x ≡ b → (if b then true else item_is_harmless x && are_harmless xs) ≡ true → Rest → Behind (if b && are_harmless xs then without_stops xs else first x (without_stops xs)) s
    by_stop true f k rest = by_rest (are_harmless xs) refl f rest
    by_stop false f k rest =
        harmless_item x (without_stops xs) s w (and_first (item_is_harmless x) _ k)
        (λ t v d. rest t v (still_trapped s t d e) (and_second (item_is_harmless x) _ k))

-- ---- all

going_on : (b : Bool) (p q : Flow) → b ≡ false → (if b then p else q) ≡ q
going_on false p q e = refl
going_on true p q e = absurd cc

halting : (b : Bool) (p q : Flow) → b ≡ true → (if b then p else q) ≡ p
halting true p q e = refl
halting false p q e = absurd cc

abbrev Alike : Items → Items → State → Type 0
Alike xs ys s = ItemsReady ys s × LeadAlike xs ys s

-- an item that stays
stays : (x : Item) (xs ys : Items) (s : State) → ItemReady x s → ((run_item x s).stopped ≡ false → Alike xs ys (run_item x s).state) → Alike (first x xs) (first x ys) s
stays x xs ys s r rest = ((r, λ e. (rest e).0), go (run_item x s).stopped refl)
  where
    p : Flow
    p = run_item x s

    go : (b : Bool) → p.stopped ≡ b → LeadAlike (first x xs) (first x ys) s
    go true e =
        let here : run_items (first x xs) s ≡ p = halting p.stopped p (more p.used (run_items xs p.state)) e in
        let there : run_items (first x ys) s ≡ p = halting p.stopped p (more p.used (run_items ys p.state)) e in
        to_same p.used (there ∙ ap (λ f. flow f.stopped f.state p.used) (sym here)) (let u : (run_items (first x xs) s).used ≡ p.used = ap (λ f. f.used) here in omega arith)
    go false e =
        let here : run_items (first x xs) s ≡ more p.used (run_items xs p.state) = going_on p.stopped p (more p.used (run_items xs p.state)) e in
        let there : run_items (first x ys) s ≡ more p.used (run_items ys p.state) = going_on p.stopped p (more p.used (run_items ys p.state)) e in
        onward here there (rest e).1
      where
        onward : run_items (first x xs) s ≡ more p.used (run_items xs p.state) → run_items (first x ys) s ≡ more p.used (run_items ys p.state) → LeadAlike xs ys p.state → LeadAlike (first x xs) (first x ys) s
        onward here there (to_same k is less) =
            to_same (p.used + k) (there ∙ (ap (more p.used) is ∙ ap (λ f. flow f.stopped f.state (p.used + k)) (sym here)))
            (let u : (run_items (first x xs) s).used ≡ p.used + (run_items xs p.state).used = ap (λ f. f.used) here in omega arith)
        onward here there (to_trap trapped d) =
            to_trap (ap (λ f. is_trapped f.state) here ∙ trapped)
            (subst (λ f. DifferUnseen f.state (run_items (first x ys) s).state) (sym here) (subst (λ f. DifferUnseen (run_items xs p.state).state f.state) (sym there) d))

-- a stop that is left out
goes : (xs : Items) (s : State) → IsWide s → are_harmless xs ≡ true → (is_trapped s ≡ false → Alike xs (without_stops xs) s) → Alike (first (step_item (stop_when has_trapped)) xs) (without_stops xs) s
goes xs s w h rest = go (is_trapped s) refl
  where
    k : ℕ
    k = step_weight (stop_when has_trapped)

    go : (b : Bool) → is_trapped s ≡ b → Alike (first (step_item (stop_when has_trapped)) xs) (without_stops xs) s
    go true e =
        let here : run_items (first (step_item (stop_when has_trapped)) xs) s ≡ flow true s k = halting (is_trapped s) (flow (is_trapped s) s k) (more k (run_items xs s)) e ∙ ap (λ b. flow b s k) e in
        let b = behind xs s w e h in
        (b.ready, to_trap (ap (λ f. is_trapped f.state) here ∙ e) (subst (λ f. DifferUnseen f.state (run_items (without_stops xs) s).state) (sym here) b.unseen))
    go false e =
        let here : run_items (first (step_item (stop_when has_trapped)) xs) s ≡ more k (run_items xs s) = going_on (is_trapped s) (flow (is_trapped s) s k) (more k (run_items xs s)) e in
        let r = rest e in
        (r.0, onward here r.1)
      where
        onward : run_items (first (step_item (stop_when has_trapped)) xs) s ≡ more k (run_items xs s) → LeadAlike xs (without_stops xs) s → LeadAlike (first (step_item (stop_when has_trapped)) xs) (without_stops xs) s
        onward here (to_same j is less) =
            to_same j (is ∙ ap (λ f. flow f.stopped f.state j) (sym here))
            (let u : (run_items (first (step_item (stop_when has_trapped)) xs) s).used ≡ k + (run_items xs s).used = ap (λ f. f.used) here in omega arith)
        onward here (to_trap trapped d) =
            to_trap (ap (λ f. is_trapped f.state) here ∙ trapped)
            (subst (λ f. DifferUnseen f.state (run_items (without_stops xs) s).state) (sym here) d)

alike : (xs : Items) (s : State) → IsWide s → ItemsReady xs s → Alike xs (without_stops xs) s
alike no_more s w r = (tt, to_same 0 refl (omega arith))
alike (first x xs) s w r = by_stop (is_trap_stop x) refl (λ e. alike xs (run_item x s).state (item_wide x s w) (r.1 e))
  where
    Rest : Type 0
    Rest = (run_item x s).stopped ≡ false → Alike xs (without_stops xs) (run_item x s).state

    by_rest : (c : Bool) → are_harmless xs ≡ c → is_trap_stop x ≡ true → Rest → Alike (first x xs) (if c then without_stops xs else first x (without_stops xs)) s
    by_rest true g f rest =
        let is : x ≡ step_item (stop_when has_trapped) = stop_is x f in
        subst (λ y. Alike (first y xs) (without_stops xs) s) (sym is)
        (goes xs s w g (λ e. subst (λ y. (run_item y s).stopped ≡ false → Alike xs (without_stops xs) (run_item y s).state) is rest e))
    by_rest false g f rest = stays x xs (without_stops xs) s r.0 rest

    by_stop : (b : Bool) → is_trap_stop x ≡ b → Rest → Alike (first x xs) (if b && are_harmless xs then without_stops xs else first x (without_stops xs)) s
    by_stop true f rest = by_rest (are_harmless xs) refl f rest
    by_stop false f rest = stays x xs (without_stops xs) s r.0 rest

-- THE LAW: with fewer stops nothing differs that is seen
pub runs_alike : RunsAlike
runs_alike xs s w r = let a = alike xs s w r in record { ready = a.0; leads = a.1 }
