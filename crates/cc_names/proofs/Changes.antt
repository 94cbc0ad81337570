-- What naming the next piece where it is needed alone changes of what is said of each item.
use Rattle.std.proofs.Common.{◌≡◌, suc, ◌+◌, ◌≤◌, List, ◌++◌, Option, Some, None, Bool, true, false, refl, sym, ap, ◌∙◌, subst, arith}
use Rattle.std.specs.Prelude.{◌&&◌, if◌then◌else◌}
use Rattle.std.specs.List.{list_all}
use Rattle.mc_cmd.specs.Form.{Text}
use Rattle.mc_cmd.proofs.FormLemmas.{and_first, and_second, and_both}
use Rattle.cc_line.specs.Fit.{conds_fit}
use Rattle.cc_line.specs.Item.{Item, step_item, call_item, call_when, fill_item, fill_when, Items, no_more, first, item_most, items_most, item_helpers, items_helpers, item_fits, items_fit}
use Rattle.cc_line.specs.Step.{Act, Cond, Step, run_act, when, stop_when}
use Rattle.cc_text.specs.Short.{item_short, items_short}
use Rattle.cc_text.specs.Tables.{ItemNamed, ItemsNamed, NamedHelper}
use Rattle.cc_sched.specs.Charge.{exits, item_is_even, items_are_even, cond_avoids_sched, item_avoids_sched, items_avoid_sched}
use Rattle.cc_names.specs.Law.{ExitsSame, HelpersSame, KeepsAvoiding, KeepsEven, KeepsFit, KeepsNamed, KeepsShort, WeighsNoMore}
use Rattle.cc_names.specs.Names.{act_names_next, exit_of, freed_step, freed, is_needless, and_if_needed, is_needed, with_needed_names}
use Rattle.cc_names.specs.Same.{same_conds}
use Rattle.cc_names.proofs.Runs.{act_light}

-- ---- an item that is freed of its conditions, or stays

freed_step_case : (P : Step → Type 0) (o : Option (List Cond)) (x : Step) → ((cs : List Cond) (a : Act) → x ≡ when cs a → P (run_act a)) → P x → P (freed_step o x)
freed_step_case P None x f p = p
freed_step_case P (Some ds) (run_act a) f p = p
freed_step_case P (Some ds) (stop_when cs) f p = p
freed_step_case P (Some ds) (when cs a) f p = go (act_names_next a && same_conds cs ds) (f cs a refl)
  where
    go : (b : Bool) → P (run_act a) → P (if b then run_act a else when cs a)
    go true q = q
    go false q = p

freed_case : (P : Item → Type 0) (o : Option (List Cond)) (x : Item) → ((cs : List Cond) (a : Act) → x ≡ step_item (when cs a) → P (step_item (run_act a))) → P x → P (freed o x)
freed_case P o (step_item x) f p = freed_step_case (λ y. P (step_item y)) o x (λ cs a e. f cs a (ap step_item e)) p
freed_case P o (call_item g ys) f p = p
freed_case P o (call_when cs g ys) f p = p
freed_case P o (fill_item g q ys) f p = p
freed_case P o (fill_when cs g q ys) f p = p

-- ---- a line that is left out, which is no way out and calls no helper, or stays

kept_case : (P : Items → Type 0) (x : Item) (xs : Items) → ((y : Step) → x ≡ step_item y → ((cs : List Cond) → y ≡ stop_when cs → ⊥) → P xs) → P (first x xs) → P (and_if_needed x xs)
kept_case P x xs f p = go (is_needless x (is_needed xs)) refl
  where
    is_step : (x : Item) (n : Bool) → is_needless x n ≡ true → ((y : Step) → x ≡ step_item y → ((cs : List Cond) → y ≡ stop_when cs → ⊥) → P xs) → P xs
    is_step (step_item (run_act a)) n e f = f (run_act a) refl (λ cs e. absurd cc)
    is_step (step_item (when bs a)) n e f = f (when bs a) refl (λ cs e. absurd cc)
    is_step (step_item (stop_when bs)) n e f = absurd cc
    is_step (call_item g ys) n e f = absurd cc
    is_step (call_when cs g ys) n e f = absurd cc
    is_step (fill_item g q ys) n e f = absurd cc
    is_step (fill_when cs g q ys) n e f = absurd cc

    go : (b : Bool) → is_needless x (is_needed xs) ≡ b → P (if b then xs else first x xs)
    go true e = is_step x (is_needed xs) e f
    go false e = p

-- ---- weights, ways out, helpers

freed_weight : (o : Option (List Cond)) (x : Item) → item_most (freed o x) ≤ item_most x
freed_weight o x =
    freed_case (λ y. item_most y ≤ item_most x) o x
    (λ cs a e. subst (λ y. item_most (step_item (run_act a)) ≤ item_most y) (sym e) (act_light a))
    (let y : item_most x ≤ item_most x = omega arith in y)

pub weighs_no_more : WeighsNoMore
weighs_no_more no_more = omega arith
weighs_no_more (first x xs) =
    let i = weighs_no_more xs in
    let ys = with_needed_names xs in
    let z = freed (exit_of ys) x in
    let l : item_most z ≤ item_most x = freed_weight (exit_of ys) x in
    kept_case (λ vs. items_most vs ≤ item_most x + items_most xs) z ys
    (λ y e n. (let u : items_most ys ≤ item_most x + items_most xs = omega arith in u))
    (let u : item_most z + items_most ys ≤ item_most x + items_most xs = omega arith in u)

same_exits : (x : Item) (xs ys : Items) → exits ys ≡ exits xs → exits (first x ys) ≡ exits (first x xs)
same_exits (step_item (run_act a)) xs ys e = e
same_exits (step_item (when cs a)) xs ys e = e
same_exits (step_item (stop_when cs)) xs ys e = ap suc e
same_exits (call_item f zs) xs ys e = e
same_exits (call_when cs f zs) xs ys e = e
same_exits (fill_item f p zs) xs ys e = e
same_exits (fill_when cs f p zs) xs ys e = e

no_exit : (y : Step) (xs : Items) → ((cs : List Cond) → y ≡ stop_when cs → ⊥) → exits xs ≡ exits (first (step_item y) xs)
no_exit (run_act a) xs n = refl
no_exit (when cs a) xs n = refl
no_exit (stop_when cs) xs n = absurd (n cs refl)

freed_exits : (o : Option (List Cond)) (x : Item) (xs : Items) → exits (first (freed o x) xs) ≡ exits (first x xs)
freed_exits o x xs =
    freed_case (λ y. exits (first y xs) ≡ exits (first x xs)) o x
    (λ cs a e. ap (λ y. exits (first y xs)) (sym e))
    refl

pub exits_same : ExitsSame
exits_same no_more = refl
exits_same (first x xs) =
    let i = exits_same xs in
    let ys = with_needed_names xs in
    let z = freed (exit_of ys) x in
    let all : exits (first z ys) ≡ exits (first x xs) = freed_exits (exit_of ys) x ys ∙ same_exits x xs ys i in
    kept_case (λ vs. exits vs ≡ exits (first x xs)) z ys (λ y e n. no_exit y ys n ∙ ap (λ v. exits (first v ys)) (sym e) ∙ all) all

freed_helpers : (ns : Text) (o : Option (List Cond)) (x : Item) → item_helpers ns (freed o x) ≡ item_helpers ns x
freed_helpers ns o x = freed_case (λ y. item_helpers ns y ≡ item_helpers ns x) o x (λ cs a e. ap (item_helpers ns) (sym e)) refl

pub helpers_same : HelpersSame
helpers_same ns no_more = refl
helpers_same ns (first x xs) =
    let i = helpers_same ns xs in
    let ys = with_needed_names xs in
    let z = freed (exit_of ys) x in
    let all : items_helpers ns (first z ys) ≡ items_helpers ns (first x xs) = ap (λ hs. hs ++ items_helpers ns ys) (freed_helpers ns (exit_of ys) x) ∙ ap (λ hs. item_helpers ns x ++ hs) i in
    kept_case (λ vs. items_helpers ns vs ≡ items_helpers ns (first x xs)) z ys (λ y e n. ap (λ v. item_helpers ns v ++ items_helpers ns ys) (sym e) ∙ all) all

-- ---- what is true of each item

kept : (x : Item) (xs : Items) (one : Item → Bool) (test : Items → Bool) → ((y : Item) (ys : Items) → test (first y ys) ≡ (one y && test ys)) → ((cs : List Cond) (a : Act) → one (step_item (when cs a)) ≡ true → one (step_item (run_act a)) ≡ true)
    → one x ≡ true → test (with_needed_names xs) ≡ true → test (with_needed_names (first x xs)) ≡ true
kept x xs one test same less h i =
    let ys = with_needed_names xs in
    let z = freed (exit_of ys) x in
    let here : one z ≡ true = freed_case (λ y. one y ≡ true) (exit_of ys) x (λ cs a e. less cs a (ap one (sym e) ∙ h)) h in
    kept_case (λ vs. test vs ≡ true) z ys (λ y e n. i) (same z ys ∙ and_both _ _ here i)

pub keeps_fit : KeepsFit
keeps_fit no_more h = refl
keeps_fit (first x xs) h = kept x xs item_fits items_fit (λ y ys. refl) (λ cs a e. and_second (conds_fit cs) _ e) (and_first (item_fits x) _ h) (keeps_fit xs (and_second (item_fits x) _ h))

pub keeps_avoiding : KeepsAvoiding
keeps_avoiding no_more h = refl
keeps_avoiding (first x xs) h = kept x xs item_avoids_sched items_avoid_sched (λ y ys. refl) (λ cs a e. and_second (list_all cond_avoids_sched cs) _ e) (and_first (item_avoids_sched x) _ h) (keeps_avoiding xs (and_second (item_avoids_sched x) _ h))

pub keeps_even : KeepsEven
keeps_even no_more h = refl
keeps_even (first x xs) h = kept x xs item_is_even items_are_even (λ y ys. refl) (λ cs a e. refl) (and_first (item_is_even x) _ h) (keeps_even xs (and_second (item_is_even x) _ h))

pub keeps_short : KeepsShort
keeps_short no_more h = refl
keeps_short (first x xs) h = kept x xs item_short items_short (λ y ys. refl) (λ cs a e. e) (and_first (item_short x) _ h) (keeps_short xs (and_second (item_short x) _ h))

freed_named : (names : List NamedHelper) (o : Option (List Cond)) (x : Item) → ItemNamed names x → ItemNamed names (freed o x)
freed_named names o x h = freed_case (ItemNamed names) o x (λ cs a e. subst (ItemNamed names) e h) h

pub keeps_named : KeepsNamed
keeps_named names no_more h = tt
keeps_named names (first x xs) h =
    let i = keeps_named names xs h.1 in
    let ys = with_needed_names xs in
    kept_case (ItemsNamed names) (freed (exit_of ys) x) ys (λ y e n. i) (freed_named names (exit_of ys) x h.0, i)
