-- What leaving stops out changes of what is said of each item.
use Rattle.std.proofs.Common.{◌≡◌, suc, ◌+◌, ◌≤◌, ◌++◌, Bool, true, false, refl, sym, ap, ◌∙◌, subst, arith}
use Rattle.std.specs.Prelude.{◌&&◌, if◌then◌else◌}
use Rattle.mc_cmd.proofs.FormLemmas.{and_first, and_second, and_both}
use Rattle.cc_line.specs.Item.{Item, step_item, call_item, call_when, fill_item, fill_when, Items, no_more, first, item_most, items_most, item_helpers, items_helpers, item_fits, items_fit}
use Rattle.cc_line.specs.Step.{run_act, when, stop_when}
use Rattle.cc_text.specs.Short.{item_short, items_short}
use Rattle.cc_text.specs.Tables.{ItemsNamed}
use Rattle.cc_sched.specs.Charge.{exits, item_is_even, items_are_even, item_avoids_sched, items_avoid_sched}
use Rattle.cc_stops.specs.Law.{ExitsNoMore, HelpersSame, KeepsAvoiding, KeepsEven, KeepsFit, KeepsNamed, KeepsShort, WeighsNoMore}
use Rattle.cc_stops.specs.Stops.{has_trapped, is_trap_stop, are_harmless, without_stops}
use Rattle.cc_stops.proofs.Runs.{stop_is}

-- where an item is left out, which is a stop then, or stays
by_case : (P : Items → Type 0) (x : Item) (c : Bool) (xs ys : Items) → (x ≡ step_item (stop_when has_trapped) → P xs) → P ys → P (if is_trap_stop x && c then xs else ys)
by_case P x c xs ys f p = go (is_trap_stop x) c refl
  where
    go : (a b : Bool) → is_trap_stop x ≡ a → P (if a && b then xs else ys)
    go true true e = f (stop_is x e)
    go true false e = p
    go false b e = p

pub weighs_no_more : WeighsNoMore
weighs_no_more no_more = omega arith
weighs_no_more (first x xs) =
    let i = weighs_no_more xs in
    by_case (λ ys. items_most ys ≤ item_most x + items_most xs) x (are_harmless xs) (without_stops xs) (first x (without_stops xs)) (λ e. (let y : items_most (without_stops xs) ≤ item_most x + items_most xs = omega arith in y))
    (let y : item_most x + items_most (without_stops xs) ≤ item_most x + items_most xs = omega arith in y)

more_exits : (x : Item) (xs ys : Items) → exits ys ≤ exits xs → exits (first x ys) ≤ exits (first x xs)
more_exits (step_item (run_act a)) xs ys e = e
more_exits (step_item (when cs a)) xs ys e = e
more_exits (step_item (stop_when cs)) xs ys e = (let y : suc (exits ys) ≤ suc (exits xs) = omega arith in y)
more_exits (call_item f zs) xs ys e = e
more_exits (call_when cs f zs) xs ys e = e
more_exits (fill_item f p zs) xs ys e = e
more_exits (fill_when cs f p zs) xs ys e = e

pub exits_no_more : ExitsNoMore
exits_no_more no_more = omega arith
exits_no_more (first x xs) =
    let i = exits_no_more xs in
    by_case (λ ys. exits ys ≤ exits (first x xs)) x (are_harmless xs) (without_stops xs) (first x (without_stops xs))
    (λ e. subst (λ y. exits (without_stops xs) ≤ exits (first y xs)) (sym e) (let y : exits (without_stops xs) ≤ suc (exits xs) = omega arith in y))
    (more_exits x xs (without_stops xs) i)

pub helpers_same : HelpersSame
helpers_same ns no_more = refl
helpers_same ns (first x xs) =
    let i = helpers_same ns xs in
    by_case (λ ys. items_helpers ns ys ≡ items_helpers ns (first x xs)) x (are_harmless xs) (without_stops xs) (first x (without_stops xs))
    (λ e. i ∙ ap (λ y. items_helpers ns (first y xs)) (sym e))
    (ap (λ hs. item_helpers ns x ++ hs) i)

-- what is true of each item
kept : (x : Item) (xs : Items) (test : Items → Bool) (here : Bool) → (here && test xs) ≡ true → ((ys : Items) → test (first x ys) ≡ (here && test ys)) → test (without_stops xs) ≡ true → test (without_stops (first x xs)) ≡ true
kept x xs test here h same i =
    by_case (λ ys. test ys ≡ true) x (are_harmless xs) (without_stops xs) (first x (without_stops xs)) (λ e. i)
    (same (without_stops xs) ∙ and_both _ _ (and_first here _ h) i)

pub keeps_fit : KeepsFit
keeps_fit no_more h = refl
keeps_fit (first x xs) h = kept x xs items_fit (item_fits x) h (λ ys. refl) (keeps_fit xs (and_second (item_fits x) _ h))

pub keeps_avoiding : KeepsAvoiding
keeps_avoiding no_more h = refl
keeps_avoiding (first x xs) h = kept x xs items_avoid_sched (item_avoids_sched x) h (λ ys. refl) (keeps_avoiding xs (and_second (item_avoids_sched x) _ h))

pub keeps_even : KeepsEven
keeps_even no_more h = refl
keeps_even (first x xs) h = kept x xs items_are_even (item_is_even x) h (λ ys. refl) (keeps_even xs (and_second (item_is_even x) _ h))

pub keeps_short : KeepsShort
keeps_short no_more h = refl
keeps_short (first x xs) h = kept x xs items_short (item_short x) h (λ ys. refl) (keeps_short xs (and_second (item_short x) _ h))

pub keeps_named : KeepsNamed
keeps_named names no_more h = tt
keeps_named names (first x xs) h =
    let i = keeps_named names xs h.1 in
    by_case (ItemsNamed names) x (are_harmless xs) (without_stops xs) (first x (without_stops xs)) (λ e. i) (h.0, i)
