-- With the needed names alone items lead where they lead, or to what differs unseen.
use Rattle.std.proofs.Common.{◌≡◌, ℕ, ◌+◌, ◌≤◌, List, [], ◌∷◌, Option, Some, None, Bool, true, false, refl, sym, ap, ◌∙◌, subst, arith}
use Rattle.std.specs.Prelude.{◌&&◌, ◌||◌, not, if◌then◌else◌, unwrap_or}
use Rattle.mc_nbt.specs.Tree.{Tree}
use Rattle.mc_cmd.specs.Chain.{cmd_weight}
use Rattle.mc_cmd.specs.Command.{Simple, Sub}
use Rattle.mc_cmd.proofs.FormLemmas.{and_first, and_second}
use Rattle.cc_line.specs.Sight.{in_rest}
use Rattle.cc_line.specs.Key.{key_next}
use Rattle.cc_line.specs.State.{State}
use Rattle.cc_line.specs.Step.{Act, Cond, Step, run_act, when, stop_when, act_said, under_subs, step_weight, after_act, conds_hold, Flow, flow, more}
use Rattle.cc_line.specs.Item.{Item, step_item, call_item, call_when, fill_item, fill_when, Items, no_more, first, run_item, run_items, ItemReady, ItemsReady}
use Rattle.cc_stops.specs.Law.{is_trapped}
use Rattle.cc_stops.specs.Stops.{has_trapped, is_trap_stop}
use Rattle.cc_stops.proofs.Runs.{stop_is}
use Rattle.cc_names.specs.Law.{RunsAlike}
use Rattle.cc_names.specs.Names.{act_names_next, conds_speak, item_speaks, surely_names_next, is_way_out, is_needed, exit_of, freed_step, freed, is_needless, and_if_needed, with_needed_names}
use Rattle.cc_names.specs.Same.{same_conds}
use Rattle.cc_names.proofs.Acts.{neither_first, neither_second, conds_alike, conds_ready}
use Rattle.cc_names.proofs.Leads.{Leads, same_flow, trapped_flow, leads_none, leads_then, leads_more, Follows, goes_on, ends_here, stays, leads_alike}
use Rattle.cc_names.proofs.Next.{with_next, next_again, next_there, next_unseen, Named, act_named}
use Rattle.cc_names.proofs.Others.{item_alike, item_ready, rest_ready}
use Rattle.cc_names.proofs.Sameness.{conds_same}

-- ---- where the name isn't needed it is the same whatever it is

module _ (o : Option Tree) where
  -- what items lead to from a state, and with something else under the key
  abbrev Either : Items → State → Type 0
  Either xs s = Follows (run_items xs s) xs (with_next s o)

  -- a way out at a trap
  trap_either : (xs : Items) (s : State) → (is_trapped s ≡ false → Either xs s) → Either (first (step_item (stop_when has_trapped)) xs) s
  trap_either xs s rest = record { ready = ((tt, tt), λ e. (rest e).ready); leads = go (is_trapped s) refl }
    where
      x : Item
      x = step_item (stop_when has_trapped)

      go : (b : Bool) → is_trapped s ≡ b → Leads (run_items (first x xs) s) (run_items (first x xs) (with_next s o))
      go true e =
          subst (λ p. Leads p (run_items (first x xs) (with_next s o))) (sym (ends_here x xs s e))
          (subst (Leads (run_item x s)) (sym (ends_here x xs (with_next s o) e)) (trapped_flow e (next_unseen s o)))
      go false e =
          subst (λ p. Leads p (run_items (first x xs) (with_next s o))) (sym (goes_on x xs s e))
          (subst (Leads (more (step_weight (stop_when has_trapped)) (run_items xs s))) (sym (goes_on x xs (with_next s o) e))
          (leads_more _ _ (run_items xs s) (run_items xs (with_next s o)) (omega arith) (rest e).leads))

  -- a line that names the next piece in any case
  named_either : (a : Act) (xs : Items) (s : State) → Named a → ItemsReady (first (step_item (run_act a)) xs) s → Either (first (step_item (run_act a)) xs) s
  named_either a xs s n r =
      let is : after_act a (with_next s o) ≡ after_act a s = n.makes (with_next s o) ∙ next_again s o (Some n.tree) ∙ sym (n.makes s) in
      record {
        ready = (n.needs (with_next s o), λ e. subst (ItemsReady xs) (sym is) (r.1 refl));
        leads = subst (Leads (run_items (first (step_item (run_act a)) xs) s)) (ap (λ t. more (step_weight (run_act a)) (run_items xs t)) (sym is)) (leads_none (run_items (first (step_item (run_act a)) xs) s));
      }

  -- an item that doesn't speak of it
  other_either : (x : Item) (xs : Items) (s : State) → item_speaks x ≡ false → ItemReady x s → (run_item x s).stopped ≡ false → Either xs (run_item x s).state → Either (first x xs) s
  other_either x xs s e r h rest =
      let is = item_alike o x s e in
      let there : (run_item x (with_next s o)).stopped ≡ false = ap (λ (q : Flow). q.stopped) is ∙ h in
      let k = (run_item x s).used in
      let on : run_items (first x xs) (with_next s o) ≡ more k (run_items xs (with_next (run_item x s).state o)) = goes_on x xs (with_next s o) there ∙ ap (λ (q : Flow). more q.used (run_items xs q.state)) is in
      record {
        ready = (item_ready o x s e r, rest_ready o x xs s is (λ f. rest.ready));
        leads =
            subst (λ p. Leads p (run_items (first x xs) (with_next s o))) (sym (goes_on x xs s h))
            (subst (Leads (more k (run_items xs (run_item x s).state))) (sym on)
            (leads_more k k (run_items xs (run_item x s).state) (run_items xs (with_next (run_item x s).state o)) (omega arith) rest.leads));
      }

  -- no item but a way out ends the list
  leads_on : (x : Item) (s : State) → is_way_out x ≡ false → (run_item x s).stopped ≡ false
  leads_on (step_item (run_act a)) s e = refl
  leads_on (step_item (when cs a)) s e = refl
  leads_on (step_item (stop_when cs)) s e = absurd cc
  leads_on (call_item f xs) s e = refl
  leads_on (call_when cs f xs) s e = go (conds_hold cs s)
    where
      go : (b : Bool) → (if b then flow false (run_items xs s).state (2 + (run_items xs s).used) else flow false s 2).stopped ≡ false
      go true = refl
      go false = refl
  leads_on (fill_item f p xs) s e = refl
  leads_on (fill_when cs f p xs) s e = go (conds_hold cs s) _ _
    where
      go : (b : Bool) (t : State) (k : ℕ) → (if b then flow false t k else flow false s 2).stopped ≡ false
      go true t k = refl
      go false t k = refl

  surely_either : (x : Item) (xs : Items) (s : State) → surely_names_next x ≡ true → ItemsReady (first x xs) s → Either (first x xs) s
  surely_either (step_item (run_act a)) xs s e r = named_either a xs s (act_named a e) r
  surely_either (step_item (when cs a)) xs s e r = absurd cc
  surely_either (step_item (stop_when cs)) xs s e r = absurd cc
  surely_either (call_item f ys) xs s e r = absurd cc
  surely_either (call_when cs f ys) xs s e r = absurd cc
  surely_either (fill_item f p ys) xs s e r = absurd cc
  surely_either (fill_when cs f p ys) xs s e r = absurd cc

  either : (xs : Items) (s : State) → is_needed xs ≡ false → ItemsReady xs s → Either xs s
  either no_more s e r = absurd cc
  either (first x xs) s e r = by_stop (is_trap_stop x) refl e (λ f n. either xs (run_item x s).state n (r.1 f))
    where
      Rest : Type 0
      Rest = (run_item x s).stopped ≡ false → is_needed xs ≡ false → Either xs (run_item x s).state

      by_name : (b : Bool) → surely_names_next x ≡ b → is_way_out x ≡ false → (if b then false else item_speaks x || is_needed xs) ≡ false → Rest → Either (first x xs) s
      by_name true f w n rest = surely_either x xs s f r
      by_name false f w n rest =
          let on = leads_on x s w in
          other_either x xs s (neither_first (item_speaks x) (is_needed xs) n) r.0 on (rest on (neither_second (item_speaks x) (is_needed xs) n))

      by_way : (b : Bool) → is_way_out x ≡ b → (if b then true else if surely_names_next x then false else item_speaks x || is_needed xs) ≡ false → Rest → Either (first x xs) s
      by_way true f n rest = absurd cc
      by_way false f n rest = by_name (surely_names_next x) refl f n rest

      by_stop : (b : Bool) → is_trap_stop x ≡ b → (if b then is_needed xs else if is_way_out x then true else if surely_names_next x then false else item_speaks x || is_needed xs) ≡ false → Rest → Either (first x xs) s
      by_stop true f n rest =
          let is : x ≡ step_item (stop_when has_trapped) = stop_is x f in
          subst (λ y. Either (first y xs) s) (sym is)
          (trap_either xs s (λ g. subst (λ y. (run_item y s).stopped ≡ false → is_needed xs ≡ false → Either xs (run_item y s).state) is rest g n))
      by_stop false f n rest = by_way (is_way_out x) refl n rest

-- ---- a line that is left out

-- the state before an act that names the next piece, by that behind it
before_name : (a : Act) (s : State) → Named a → s ≡ with_next (after_act a s) (s.keys in_rest key_next)
before_name a s n = sym (ap (λ t. with_next t (s.keys in_rest key_next)) (n.makes s) ∙ next_again s (Some n.tree) (s.keys in_rest key_next) ∙ next_there s)

not_needed : (b : Bool) → not b ≡ true → b ≡ false
not_needed false e = refl
not_needed true e = absurd cc

-- what follows is as it is behind the act
unnamed : (a : Act) (k : ℕ) (xs : Items) (s : State) → Named a → is_needed xs ≡ false → ItemsReady xs (after_act a s) → Follows (more k (run_items xs (after_act a s))) xs s
unnamed a k xs s n e r =
    let f = either (s.keys in_rest key_next) xs (after_act a s) e r in
    let g : Follows (run_items xs (after_act a s)) xs s = subst (Follows (run_items xs (after_act a s)) xs) (sym (before_name a s n)) f in
    record { ready = g.ready; leads = leads_then _ (run_items xs (after_act a s)) (run_items xs s) (lighter k (run_items xs (after_act a s))) g.leads }
  where
    lighter : (k : ℕ) (p : Flow) → Leads (more k p) p
    lighter k p = same_flow p.used refl (let u : p.used ≤ k + p.used = omega arith in u)

left_out : (x : Item) (xs : Items) (s : State) → is_needless x (is_needed xs) ≡ true → ItemsReady (first x xs) s → Follows (run_items (first x xs) s) xs s
left_out (step_item (run_act a)) xs s e r =
    unnamed a (step_weight (run_act a)) xs s (act_named a (and_first (act_names_next a) _ e)) (not_needed (is_needed xs) (and_second (act_names_next a) _ e)) (r.1 refl)
left_out (step_item (when cs a)) xs s e r = go (conds_hold cs s) (r.1 refl)
  where
    go : (b : Bool) → ItemsReady xs (if b then after_act a s else s) → Follows (more (step_weight (when cs a)) (run_items xs (if b then after_act a s else s))) xs s
    go true w = unnamed a (step_weight (when cs a)) xs s (act_named a (and_first (act_names_next a) _ e)) (not_needed (is_needed xs) (and_second (act_names_next a) _ e)) w
    go false w = record { ready = w; leads = same_flow (run_items xs s).used refl (let u : (run_items xs s).used ≤ 2 + (run_items xs s).used = omega arith in u) }
left_out (step_item (stop_when cs)) xs s e r = absurd cc
left_out (call_item f ys) xs s e r = absurd cc
left_out (call_when cs f ys) xs s e r = absurd cc
left_out (fill_item f p ys) xs s e r = absurd cc
left_out (fill_when cs f p ys) xs s e r = absurd cc

needed_alike : (x : Item) (xs : Items) (s : State) → ItemsReady (first x xs) s → Follows (run_items (first x xs) s) (and_if_needed x xs) s
needed_alike x xs s r = go (is_needless x (is_needed xs)) refl
  where
    go : (b : Bool) → is_needless x (is_needed xs) ≡ b → Follows (run_items (first x xs) s) (if b then xs else first x xs) s
    go true e = left_out x xs s e r
    go false e = record { ready = r; leads = leads_none (run_items (first x xs) s) }

-- ---- a line that is freed of its conditions

-- the way out with which items begin, and what is behind it
record Exits (ds : List Cond) (xs : Items) : Type 0 where
  behind : Items
  is : xs ≡ first (step_item (stop_when ds)) behind
  calm : is_needed behind ≡ false

exits_at : (ds : List Cond) (xs : Items) → exit_of xs ≡ Some ds → Exits ds xs
exits_at ds (first (step_item (stop_when cs)) xs) e = go (is_needed xs) refl e
  where
    go : (b : Bool) → is_needed xs ≡ b → (if b then None else Some cs) ≡ Some ds → Exits ds (first (step_item (stop_when cs)) xs)
    go true f g = absurd cc
    go false f g = record { behind = xs; is = ap (λ bs. first (step_item (stop_when bs)) xs) (ap (λ o. unwrap_or o cs) g); calm = f }
exits_at ds no_more e = absurd cc
exits_at ds (first (step_item (run_act a)) xs) e = absurd cc
exits_at ds (first (step_item (when cs a)) xs) e = absurd cc
exits_at ds (first (call_item f ys) xs) e = absurd cc
exits_at ds (first (call_when cs f ys) xs) e = absurd cc
exits_at ds (first (fill_item f p ys) xs) e = absurd cc
exits_at ds (first (fill_when cs f p ys) xs) e = absurd cc

-- no act weighs more than one where conditions hold
said_light : (us : List Sub) (simple : Simple) → cmd_weight (under_subs us simple) ≤ 2
said_light [] simple = omega arith
said_light (u ∷ us) simple = omega arith

pub act_light : (a : Act) → step_weight (run_act a) ≤ 2
act_light a = said_light (act_said [] a).stores (act_said [] a).simple

-- where the conditions hold it is the same; where they don't nobody needs the name
freed_before : (cs : List Cond) (a : Act) (xs : Items) (s : State) → Named a → conds_speak cs ≡ false → is_needed xs ≡ false
    → ItemsReady (first (step_item (when cs a)) (first (step_item (stop_when cs)) xs)) s
    → Follows (run_items (first (step_item (when cs a)) (first (step_item (stop_when cs)) xs)) s) (first (step_item (run_act a)) (first (step_item (stop_when cs)) xs)) s
freed_before cs a xs s n c e r = go (conds_hold cs s) refl (r.1 refl)
  where
    x : Item
    x = step_item (stop_when cs)

    t : State
    t = with_next s (Some n.tree)

    Goal : Bool → Type 0
    Goal b = Follows (more (step_weight (when cs a)) (run_items (first x xs) (if b then after_act a s else s))) (first (step_item (run_act a)) (first x xs)) s

    go : (b : Bool) → conds_hold cs s ≡ b → ItemsReady (first x xs) (if b then after_act a s else s) → Goal b
    go true h w = record {
      ready = (n.needs s, λ f. w);
      leads = leads_more (step_weight (when cs a)) (step_weight (run_act a)) (run_items (first x xs) (after_act a s)) (run_items (first x xs) (after_act a s)) (act_light a) (leads_none (run_items (first x xs) (after_act a s)));
    }
    go false h w =
        let there : conds_hold cs t ≡ false = conds_alike (Some n.tree) cs s c ∙ h in
        let rest = either (Some n.tree) xs s e (w.1 h) in
        let on : ItemsReady (first x xs) t = (conds_ready (Some n.tree) cs s w.0, λ f. rest.ready) in
        let led : Leads (run_items (first x xs) s) (run_items (first x xs) t) =
        subst (λ p. Leads p (run_items (first x xs) t)) (sym (goes_on x xs s h))
        (subst (Leads (more (step_weight (stop_when cs)) (run_items xs s))) (sym (goes_on x xs t there))
        (leads_more _ _ (run_items xs s) (run_items xs t) (omega arith) rest.leads)) in
        record {
          ready = (n.needs s, λ f. subst (ItemsReady (first x xs)) (sym (n.makes s)) on);
          leads = subst (λ u. Leads (more (step_weight (when cs a)) (run_items (first x xs) s)) (more (step_weight (run_act a)) (run_items (first x xs) u))) (sym (n.makes s))
              (leads_more (step_weight (when cs a)) (step_weight (run_act a)) (run_items (first x xs) s) (run_items (first x xs) t) (act_light a) led);
        }

freed_step_alike : (x : Step) (xs : Items) (s : State) → ItemsReady (first (step_item x) xs) s → Follows (run_items (first (step_item x) xs) s) (first (step_item (freed_step (exit_of xs) x)) xs) s
freed_step_alike x xs s r = go x (exit_of xs) refl r
  where
    same : (x : Step) → ItemsReady (first (step_item x) xs) s → Follows (run_items (first (step_item x) xs) s) (first (step_item x) xs) s
    same x r = record { ready = r; leads = leads_none (run_items (first (step_item x) xs) s) }

    named : (cs ds : List Cond) (a : Act) → exit_of xs ≡ Some ds → act_names_next a ≡ true → same_conds cs ds ≡ true → ItemsReady (first (step_item (when cs a)) xs) s → Follows (run_items (first (step_item (when cs a)) xs) s) (first (step_item (run_act a)) xs) s
    named cs ds a e f g r =
        let out = exits_at ds xs e in
        let c = conds_same cs ds g in
        let is : first (step_item (stop_when cs)) out.behind ≡ xs = ap (λ bs. first (step_item (stop_when bs)) out.behind) c.0 ∙ sym out.is in
        subst (λ ys. Follows (run_items (first (step_item (when cs a)) ys) s) (first (step_item (run_act a)) ys) s) is
        (freed_before cs a out.behind s (act_named a f) c.1 out.calm (subst (λ ys. ItemsReady (first (step_item (when cs a)) ys) s) (sym is) r))

    test : (cs ds : List Cond) (a : Act) (b : Bool) → (act_names_next a && same_conds cs ds) ≡ b → exit_of xs ≡ Some ds → ItemsReady (first (step_item (when cs a)) xs) s
        → Follows (run_items (first (step_item (when cs a)) xs) s) (first (step_item (if b then run_act a else when cs a)) xs) s
    test cs ds a true h e r = named cs ds a e (and_first (act_names_next a) _ h) (and_second (act_names_next a) _ h) r
    test cs ds a false h e r = same (when cs a) r

    go : (x : Step) (o : Option (List Cond)) → exit_of xs ≡ o → ItemsReady (first (step_item x) xs) s → Follows (run_items (first (step_item x) xs) s) (first (step_item (freed_step o x)) xs) s
    go x None e r = same x r
    go (run_act a) (Some ds) e r = same (run_act a) r
    go (stop_when cs) (Some ds) e r = same (stop_when cs) r
    go (when cs a) (Some ds) e r = test cs ds a (act_names_next a && same_conds cs ds) refl e r

freed_alike : (x : Item) (xs : Items) (s : State) → ItemsReady (first x xs) s → Follows (run_items (first x xs) s) (first (freed (exit_of xs) x) xs) s
freed_alike (step_item x) xs s r = freed_step_alike x xs s r
freed_alike (call_item f ys) xs s r = record { ready = r; leads = leads_none (run_items (first (call_item f ys) xs) s) }
freed_alike (call_when cs f ys) xs s r = record { ready = r; leads = leads_none (run_items (first (call_when cs f ys) xs) s) }
freed_alike (fill_item f p ys) xs s r = record { ready = r; leads = leads_none (run_items (first (fill_item f p ys) xs) s) }
freed_alike (fill_when cs f p ys) xs s r = record { ready = r; leads = leads_none (run_items (first (fill_when cs f p ys) xs) s) }

-- ---- all

alike : (xs : Items) (s : State) → ItemsReady xs s → Follows (run_items xs s) (with_needed_names xs) s
alike no_more s r = record { ready = tt; leads = leads_none (flow false s 0) }
alike (first x xs) s r =
    let ys : Items = with_needed_names xs in
    let y : Item = freed (exit_of ys) x in
    let one : Follows (run_items (first x xs) s) (first x ys) s = stays x xs ys s r.0 (λ e. alike xs (run_item x s).state (r.1 e)) in
    let two : Follows (run_items (first x ys) s) (first y ys) s = freed_alike x ys s one.ready in
    let three : Follows (run_items (first y ys) s) (and_if_needed y ys) s = needed_alike y ys s two.ready in
    record {
      ready = three.ready;
      leads = leads_then (run_items (first x xs) s) (run_items (first x ys) s) (run_items (and_if_needed y ys) s) one.leads
          (leads_then (run_items (first x ys) s) (run_items (first y ys) s) (run_items (and_if_needed y ys) s) two.leads three.leads);
    }

-- THE LAW: with the needed names alone nothing differs that is seen
pub runs_alike : RunsAlike
runs_alike xs s r = let a = alike xs s r in record { ready = a.ready; leads = leads_alike xs (with_needed_names xs) s a.leads }
