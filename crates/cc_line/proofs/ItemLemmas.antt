-- What the lines of items do is what the items do, whatever the namespace.
use Rattle.std.proofs.Common.{◌≡◌, ℕ, ◌+◌, ◌≤◌, List, [], ◌∷◌, ◌++◌, Bool, true, false, Option, Some, None, refl, sym, ap, ◌∙◌, subst, arith}
use Rattle.std.specs.Prelude.{pos, ◌&&◌, if◌then◌else◌, codes, map}
use Rattle.std.specs.List.{list_all}
use Rattle.mc_nbt.specs.Tree.{Tree, Fields, int, string, list, compound, Part, select}
use Rattle.mc_cmd.specs.Form.{Text}
use Rattle.mc_cmd.proofs.WordLemmas.{all_lack, lacks-append}
use Rattle.mc_cmd.specs.Word.{is_small_byte, is_namespace, is_function_name}
use Rattle.mc_cmd.specs.Command.{call, call_with, Simple, Sub, plain, execute}
use Rattle.mc_cmd.specs.Grammar.{cmd_text}
use Rattle.mc_cmd.specs.Layout.{full_name}
use Rattle.mc_cmd.specs.World.{World, tree_in, all_go_on}
use Rattle.mc_cmd.specs.Chain.{cmd_weight, Texts, Functions, has_pattern}
use Rattle.mc_cmd.specs.Tidy.{own_function, is_before, is_tidy, Tidy}
use Rattle.mc_cmd.specs.steps.OpenText.{Ints}
use Rattle.mc_cmd.specs.steps.MacroBody.{BodyLine, body_text, body_with, cmds_text, AllReady}
use Rattle.mc_cmd.specs.steps.Straight.{Falls, Runs}
use Rattle.mc_cmd.proofs.FormLemmas.{and_first, and_second, and_both, cut_at_text}
use Rattle.mc_cmd.proofs.NameLemmas.{namespace_lacks}
use Rattle.mc_cmd.proofs.ChunkLemmas.{namespace_function, function_chunk}
use Rattle.mc_cmd.proofs.Runs.{runs_falls, runs_returns, falls_call, falls_call_if, falls_with, falls_with_if}
use Rattle.mc_cmd.proofs.MacroLemmas.{filled_lines}
use Rattle.mc_nbt.proofs.TreeLemmas.{bytes_refl}
use Rattle.cc_line.specs.Sight.{Sight, Shows, Leaves, Done, Does}
use Rattle.cc_line.specs.State.{State, seen, Site, site_path, selected}
use Rattle.cc_line.specs.Step.{Cond, site_id, cond_subs, says, said_command, step_weight, steps_weight, conds_hold, Flow, flow, more, run_steps, CondsReady, Ready, home_to_site, place_to_site, run_act, site_to_home, site_to_place}
use Rattle.cc_line.specs.Fit.{cond_fits, conds_fit, site_fits}
use Rattle.cc_line.specs.OpenStep.{OpenStep, step_with, steps_with, steps_names, HasSomeInts, ints_in, open_texts, open_steps_fit, OpenAct, act_with, closed_step, open_act, open_copy_site, open_keep_site, open_load_site, open_place_to_site, open_set_site, open_set_spot, open_combine, open_site_to_place, open_when}
use Rattle.cc_line.specs.Item.{Item, step_item, call_item, call_when, fill_item, fill_when, Items, no_more, first, called, filled_steps, run_item, run_items, item_most, items_most, ItemReady, ItemsReady, item_command, item_text, items_texts, Helper, item_helpers, items_helpers, HasAll, AllTidy, item_fits, items_fit}
use Rattle.cc_line.proofs.Speaking.{Speaks}
use Rattle.cc_line.proofs.DoesLemmas.{does_none, does_skip}
use Rattle.cc_line.proofs.ActLemmas.{site_selected, apart_from_frame, conds_shown}
use Rattle.cc_line.proofs.StepLemmas.{step_does_so, does_join, steps_do, steps_within}
use Rattle.cc_line.proofs.FitLemmas.{Clean, word, joined, wide, space, store_clean, path_clean, namespace_clean, store_fits, store_own, SaidFits, said, Fitting, said_fitting, behind_fitting, step_fitting, fitting_speaks, fitting_tidy, all_speak, unfilled_before}
use Rattle.cc_line.proofs.OpenStepLemmas.{open_line, lines_are, filled_are, all_ready, names_given, steps_with_fit, given_in, open_tidy}
use Rattle.cc_line.specs.Place.{Home, home, in_list, in_score}

-- ---- calls as contracts of lines

leaves_runs : (b : Bool) (functions : Functions) (ts : Texts) (w w' : World) (k : ℕ) → Leaves functions b ts w k w' → Runs functions ts w k w'
leaves_runs true functions ts w w' k l = runs_returns functions ts w w' k l
leaves_runs false functions ts w w' k l = runs_falls functions ts w w' k l

module _ (functions : Functions) (ns : Text) where
  -- a call that runs these lines from every world
  by_body : (t : Text) (body : Texts) (v u : Sight) (j k : ℕ) (b : Bool) → Does functions ns body v k b u
      → ((w w' : World) (n : ℕ) → Shows ns w v → Runs functions body w n w' → Falls functions (t ∷ []) w (j + n) w')
      → Does functions ns (t ∷ []) v (j + k) false u
  by_body t body v u j k b d runs = record { by = λ w h. go w h (d.by w h) }
    where
      go : (w : World) → Shows ns w v → Done functions ns body w k b u → Done functions ns (t ∷ []) w (j + k) false u
      go w h e = let x = e.light in record {
        world = e.world;
        weight = j + e.weight;
        light = (let y : j + e.weight ≤ j + k = omega arith in y);
        leaves = runs w e.world e.weight h (leaves_runs b functions body w e.world e.weight e.leaves);
        shows = e.shows;
        outside = e.outside;
      }

  does_call : (f : Text) (body : Texts) (v u : Sight) (k : ℕ) (b : Bool) → Speaks (plain (call f)) → functions f ≡ Some body → has_pattern body ≡ false → Does functions ns body v k b u → Does functions ns (cmd_text (plain (call f)) ∷ []) v (1 + k) false u
  does_call f body v u k b r e p d = by_body _ body v u 1 k b d (λ w w' n h g. falls_call functions _ f body w w' n r e p g)

  does_call_when : (us : List Sub) (f : Text) (body : Texts) (v u : Sight) (k : ℕ) (b : Bool) → Speaks (execute us (call f)) → ((w : World) → Shows ns w v → all_go_on us w ≡ true) → functions f ≡ Some body → has_pattern body ≡ false → Does functions ns body v k b u
      → Does functions ns (cmd_text (execute us (call f)) ∷ []) v (2 + k) false u
  does_call_when us f body v u k b r c e p d = by_body _ body v u 2 k b d (λ w w' n h g. falls_call_if functions _ us f body w w' n r (c w h) e p g)

  does_fill : (f i : Text) (ps : List Part) (ls : List BodyLine) (fs : Fields) (r : Ints) (v u : Sight) (k : ℕ) (b : Bool) → Speaks (plain (call_with f i ps)) → functions f ≡ Some (body_text ls) → ((w : World) → Shows ns w v → select (tree_in w i) ps ≡ Some (compound fs)) → AllReady (compound fs) r ls
      → Does functions ns (cmds_text (body_with r ls)) v k b u → Does functions ns (cmd_text (plain (call_with f i ps)) ∷ []) v (1 + k) false u
  does_fill f i ps ls fs r v u k b s e sel a d = by_body _ (cmds_text (body_with r ls)) v u 1 k b d (λ w w' n h g. falls_with functions _ f i ps (body_text ls) (cmds_text (body_with r ls)) fs w w' n s e (sel w h) (filled_lines (compound fs) r ls a) g)

  does_fill_when : (us : List Sub) (f i : Text) (ps : List Part) (ls : List BodyLine) (fs : Fields) (r : Ints) (v u : Sight) (k : ℕ) (b : Bool) → Speaks (execute us (call_with f i ps)) → ((w : World) → Shows ns w v → all_go_on us w ≡ true) → functions f ≡ Some (body_text ls) → ((w : World) → Shows ns w v → select (tree_in w i) ps ≡ Some (compound fs)) → AllReady (compound fs) r ls
      → Does functions ns (cmds_text (body_with r ls)) v k b u → Does functions ns (cmd_text (execute us (call_with f i ps)) ∷ []) v (2 + k) false u
  does_fill_when us f i ps ls fs r v u k b s c e sel a d = by_body _ (cmds_text (body_with r ls)) v u 2 k b d (λ w w' n h g. falls_with_if functions _ us f i ps (body_text ls) (cmds_text (body_with r ls)) fs w w' n s (c w h) e (sel w h) (filled_lines (compound fs) r ls a) g)

-- ---- the texts of items

function_own : (ns f : Text) → is_namespace ns ≡ true → own_function ns (full_name ns f) ≡ true
function_own ns f h = ap (is_before ns) (cut_at_text 58 ns f (namespace_lacks ns 58 refl h)) ∙ bytes_refl ns

module _ (ns : Text) (h : is_namespace ns ≡ true) where
  name_clean : (f : Text) → is_function_name f ≡ true → Clean 81 (full_name ns f)
  name_clean f g = record { short = (function_chunk ns f h g).short; bare = lacks-append 34 ns (58 ∷ f) (namespace_clean ns h).bare (all_lack is_small_byte 34 refl f (and_first _ _ g)) }

  call_said : (f : Text) → is_function_name f ≡ true → SaidFits ns h (says (call (full_name ns f)))
  call_said f g = said ns h _ (namespace_function ns f h g) (function_own ns f h) (wide (joined (word (codes "function ") refl) (name_clean f g)) (omega arith))

  fill_said : (f : Text) (p : Site) → is_function_name f ≡ true → site_fits p ≡ true → SaidFits ns h (says (call_with (full_name ns f) (site_id ns p) (site_path p)))
  fill_said f p g e = said ns h _ (and_both _ _ (namespace_function ns f h g) (and_both _ _ (store_fits ns p.store h) (and_first _ _ e))) (and_both _ _ (function_own ns f h) (store_own ns p.store))
      (wide (joined (word (codes "function ") refl) (joined (name_clean f g) (joined space (joined (word (codes "with storage ") refl) (joined (store_clean ns p.store h) (joined space (path_clean (site_path p) (and_first _ _ e)))))))) (omega arith))

  pub item_fitting : (x : Item) → item_fits x ≡ true → Fitting ns h (item_command ns x)
  item_fitting (step_item x) f = step_fitting ns h x f
  item_fitting (call_item g xs) f = said_fitting ns h _ (call_said g (and_first _ _ f))
  item_fitting (call_when cs g xs) f = behind_fitting ns h cs _ (and_first _ _ f) (call_said g (and_first (is_function_name g) (items_fit xs) (and_second (conds_fit cs) _ f)))
  item_fitting (fill_item g p xs) f = said_fitting ns h _ (fill_said g p (and_first _ _ f) (and_first (site_fits p) (open_steps_fit xs) (and_second (is_function_name g) _ f)))
  item_fitting (fill_when cs g p xs) f =
      let e = and_second (conds_fit cs) (is_function_name g && (site_fits p && open_steps_fit xs)) f in
      behind_fitting ns h cs _ (and_first _ _ f) (fill_said g p (and_first _ _ e) (and_first (site_fits p) (open_steps_fit xs) (and_second (is_function_name g) _ e)))

  pub item_speaks : (x : Item) → item_fits x ≡ true → Speaks (item_command ns x)
  item_speaks x f = fitting_speaks ns h _ (item_fitting x f)

  pub items_unfilled : (xs : Items) → items_fit xs ≡ true → has_pattern (items_texts ns xs) ≡ false
  items_unfilled no_more f = refl
  items_unfilled (first x xs) f = unfilled_before (item_command ns x) (items_texts ns xs) (item_speaks x (and_first _ _ f)) (items_unfilled xs (and_second (item_fits x) _ f))

has_front_all : (functions : Functions) (ns : Text) (hs ks : List Helper) → HasAll functions ns (hs ++ ks) → HasAll functions ns hs
has_front_all functions ns [] ks g = tt
has_front_all functions ns (h ∷ hs) ks g = (g.0, has_front_all functions ns hs ks g.1)

has_back_all : (functions : Functions) (ns : Text) (hs ks : List Helper) → HasAll functions ns (hs ++ ks) → HasAll functions ns ks
has_back_all functions ns [] ks g = g
has_back_all functions ns (h ∷ hs) ks g = has_back_all functions ns hs ks g.1

-- ---- THE REFINEMENT of items

module _ (functions : Functions) (ns : Text) (h : is_namespace ns ≡ true) where
  few : (cs : List Cond) → conds_fit cs ≡ true → list_all cond_fits cs ≡ true
  few cs f = and_first _ _ f

  -- a helper whose lines are filled, by what its path selects
  fills : (f : Text) (p : Site) (xs : List OpenStep) (s : State) (o : Option Tree) → site_fits p ≡ true → open_steps_fit xs ≡ true → selected s p ≡ o → HasSomeInts o (steps_names xs) → Ready (steps_with (ints_in o) xs) s → functions (full_name ns f) ≡ Some (open_texts ns xs)
      → (fs : Fields) × (ls : List BodyLine) × ((w : World) → Shows ns w (seen s) → select (tree_in w (site_id ns p)) (site_path p) ≡ Some (compound fs)) × AllReady (compound fs) (ints_in o) ls × (functions (full_name ns f) ≡ Some (body_text ls))
      × Does functions ns (cmds_text (body_with (ints_in o) ls)) (seen s) (run_steps (steps_with (ints_in o) xs) s).used (run_steps (steps_with (ints_in o) xs) s).stopped (seen (run_steps (steps_with (ints_in o) xs) s).state)
  fills f p xs s None fp fx e g k there = absurd g
  fills f p xs s (Some (int z)) fp fx e g k there = absurd g
  fills f p xs s (Some (string b)) fp fx e g k there = absurd g
  fills f p xs s (Some (list ts)) fp fx e g k there = absurd g
  fills f p xs s (Some (compound fs)) fp fx e g k there =
      let r : Ints = ints_in (Some (compound fs)) in
      let n = names_given fs (steps_names xs) g in
      let fit = steps_with_fit ns h r xs fx (given_in ns h (compound fs) r (steps_names xs) n) in
      let d = steps_do functions ns (steps_with r xs) s (all_speak ns h (steps_with r xs) fit) fit k in (
        fs,
        map (open_line ns h) xs,
        λ w m. site_selected ns w s m p (apart_from_frame p fp) ∙ e,
        all_ready ns h (compound fs) r xs fx n,
        there ∙ ap Some (sym (lines_are ns h xs)),
        subst (λ ts. Does functions ns ts (seen s) (run_steps (steps_with r xs) s).used (run_steps (steps_with r xs) s).stopped (seen (run_steps (steps_with r xs) s).state)) (sym (filled_are ns h r xs)) d,
      )

  -- a call that is made or not
  chosen : (cs : List Cond) (x : Item) (s : State) (r : Flow) → conds_fit cs ≡ true → CondsReady cs s → (c : Simple) → item_command ns x ≡ execute (cond_subs ns cs) c → Speaks (execute (cond_subs ns cs) c)
      → (conds_hold cs s ≡ true → Does functions ns (cmd_text (execute (cond_subs ns cs) c) ∷ []) (seen s) (2 + r.used) false (seen r.state))
      → (let f : Flow = (if conds_hold cs s then called 2 r else flow false s 2) in Does functions ns (cmd_text (execute (cond_subs ns cs) c) ∷ []) (seen s) f.used f.stopped (seen f.state))
  chosen cs x s r f k c e sp d = go (conds_hold cs s) refl d
    where
      go : (b : Bool) → conds_hold cs s ≡ b → (b ≡ true → Does functions ns (cmd_text (execute (cond_subs ns cs) c) ∷ []) (seen s) (2 + r.used) false (seen r.state))
          → (let f : Flow = (if b then called 2 r else flow false s 2) in Does functions ns (cmd_text (execute (cond_subs ns cs) c) ∷ []) (seen s) f.used f.stopped (seen f.state))
      go true q d = d refl
      go false q d = does_skip functions ns (cond_subs ns cs) c (seen s) sp (λ w m. conds_shown ns w s m cs (few cs f) k ∙ q)

  mutual
    pub item_does : (x : Item) (s : State) → item_fits x ≡ true → HasAll functions ns (item_helpers ns x) → ItemReady x s
        → Does functions ns (item_text ns x ∷ []) (seen s) (run_item x s).used (run_item x s).stopped (seen (run_item x s).state)
    item_does (step_item x) s f there k = step_does_so functions ns x s (item_speaks ns h (step_item x) f) f k
    item_does (call_item g xs) s f there k =
        let e = and_second (is_function_name g) _ f in
        does_call functions ns (full_name ns g) (items_texts ns xs) (seen s) (seen (run_items xs s).state) (run_items xs s).used (run_items xs s).stopped (item_speaks ns h (call_item g xs) f) there.0 (items_unfilled ns h xs e) (items_do xs s e there.1 k)
    item_does (call_when cs g xs) s f there k =
        let e = and_second (is_function_name g) (items_fit xs) (and_second (conds_fit cs) _ f) in
        let few' = and_first (conds_fit cs) (is_function_name g && items_fit xs) f in
        chosen cs (call_when cs g xs) s (run_items xs s) few' k.0 (call (full_name ns g)) refl (item_speaks ns h (call_when cs g xs) f)
        (λ q. does_call_when functions ns (cond_subs ns cs) (full_name ns g) (items_texts ns xs) (seen s) (seen (run_items xs s).state) (run_items xs s).used (run_items xs s).stopped (item_speaks ns h (call_when cs g xs) f) (λ w m. conds_shown ns w s m cs (few cs few') k.0 ∙ q) there.0 (items_unfilled ns h xs e) (items_do xs s e there.1 (k.1 q)))
    item_does (fill_item g p xs) s f there k =
        let e = and_second (is_function_name g) (site_fits p && open_steps_fit xs) f in
        let y = fills g p xs s (selected s p) (and_first _ _ e) (and_second (site_fits p) _ e) refl k.0 k.1 there.0 in
        does_fill functions ns (full_name ns g) (site_id ns p) (site_path p) y.1 y.0 (ints_in (selected s p)) (seen s) (seen (run_steps (filled_steps p xs s) s).state) (run_steps (filled_steps p xs s) s).used (run_steps (filled_steps p xs s) s).stopped (item_speaks ns h (fill_item g p xs) f) y.4 y.2 y.3 y.5
    item_does (fill_when cs g p xs) s f there k =
        let e = and_second (is_function_name g) (site_fits p && open_steps_fit xs) (and_second (conds_fit cs) _ f) in
        let few' = and_first (conds_fit cs) (is_function_name g && (site_fits p && open_steps_fit xs)) f in
        chosen cs (fill_when cs g p xs) s (run_steps (filled_steps p xs s) s) few' k.0 (call_with (full_name ns g) (site_id ns p) (site_path p)) refl (item_speaks ns h (fill_when cs g p xs) f)
        (λ q. let y = fills g p xs s (selected s p) (and_first _ _ e) (and_second (site_fits p) _ e) refl (k.1 q).0 (k.1 q).1 there.0 in
        does_fill_when functions ns (cond_subs ns cs) (full_name ns g) (site_id ns p) (site_path p) y.1 y.0 (ints_in (selected s p)) (seen s) (seen (run_steps (filled_steps p xs s) s).state) (run_steps (filled_steps p xs s) s).used (run_steps (filled_steps p xs s) s).stopped (item_speaks ns h (fill_when cs g p xs) f) (λ w m. conds_shown ns w s m cs (few cs few') k.0 ∙ q) y.4 y.2 y.3 y.5)

    pub items_do : (xs : Items) (s : State) → items_fit xs ≡ true → HasAll functions ns (items_helpers ns xs) → ItemsReady xs s
        → Does functions ns (items_texts ns xs) (seen s) (run_items xs s).used (run_items xs s).stopped (seen (run_items xs s).state)
    items_do no_more s f there k = does_none functions ns (seen s)
    items_do (first x xs) s f there k =
        does_join functions ns (item_text ns x) (items_texts ns xs) s (run_item x s) (run_items xs (run_item x s).state)
        (item_does x s (and_first _ _ f) (has_front_all functions ns (item_helpers ns x) (items_helpers ns xs) there) k.0)
        (λ e. items_do xs (run_item x s).state (and_second (item_fits x) _ f) (has_back_all functions ns (item_helpers ns x) (items_helpers ns xs) there) (k.1 e))

-- ---- the most that items weigh

open_weight : (r q : Ints) (x : OpenStep) → step_weight (step_with r x) ≡ step_weight (step_with q x)
open_weight r q (closed_step x) = refl
open_weight r q (open_act a) = by a
  where
    home_to : (p p' : Site) (i : ℕ) → step_weight (run_act (place_to_site p i)) ≡ step_weight (run_act (place_to_site p' i))
    home_to p p' i = go (home i)
      where
        go : (q : Home) → cmd_weight (said_command (home_to_site [] p q)) ≡ cmd_weight (said_command (home_to_site [] p' q))
        go (in_score j) = refl
        go (in_list j) = refl

    home_from : (p p' : Site) (i : ℕ) → step_weight (run_act (site_to_place i p)) ≡ step_weight (run_act (site_to_place i p'))
    home_from p p' i = go (home i)
      where
        go : (q : Home) → cmd_weight (said_command (site_to_home [] q p)) ≡ cmd_weight (said_command (site_to_home [] q p'))
        go (in_score j) = refl
        go (in_list j) = refl

    by : (a : OpenAct) → step_weight (run_act (act_with r a)) ≡ step_weight (run_act (act_with q a))
    by (open_set_spot x n) = refl
    by (open_combine x op w n) = refl
    by (open_load_site w p) = refl
    by (open_keep_site p w) = refl
    by (open_place_to_site p i) = home_to _ _ i
    by (open_site_to_place i p) = home_from _ _ i
    by (open_set_site p t) = refl
    by (open_copy_site p p') = refl
open_weight r q (open_when cs a) = refl

pub open_weights : (r q : Ints) (xs : List OpenStep) → steps_weight (steps_with r xs) ≡ steps_weight (steps_with q xs)
open_weights r q [] = refl
open_weights r q (x ∷ xs) = ap (λ n. n + steps_weight (steps_with r xs)) (open_weight r q x) ∙ ap (λ n. step_weight (step_with q x) + n) (open_weights r q xs)

maybe : (b : Bool) (r : Flow) (s : State) (k : ℕ) → r.used ≤ k → (let f : Flow = (if b then called 2 r else flow false s 2) in f.used) ≤ 2 + k
maybe true r s k h = omega arith
maybe false r s k h = omega arith

either : (b : Bool) (r q : Flow) (j k : ℕ) → r.used ≤ j → q.used ≤ k → (let f : Flow = (if b then r else more r.used q) in f.used) ≤ j + k
either true r q j k h g = omega arith
either false r q j k h g = omega arith

filled_within : (p : Site) (xs : List OpenStep) (s : State) → (run_steps (filled_steps p xs s) s).used ≤ steps_weight (steps_with (λ n. pos 0) xs)
filled_within p xs s = let a = steps_within (filled_steps p xs s) s in let b = open_weights (ints_in (selected s p)) (λ n. pos 0) xs in omega arith

mutual
  item_within : (x : Item) (s : State) → (run_item x s).used ≤ item_most x
  item_within (step_item x) s = omega arith
  item_within (call_item f xs) s = let a = items_within xs s in omega arith
  item_within (call_when cs f xs) s = maybe (conds_hold cs s) (run_items xs s) s (items_most xs) (items_within xs s)
  item_within (fill_item f p xs) s = let a = filled_within p xs s in omega arith
  item_within (fill_when cs f p xs) s = maybe (conds_hold cs s) (run_steps (filled_steps p xs s) s) s (steps_weight (steps_with (λ n. pos 0) xs)) (filled_within p xs s)

  pub items_within : (xs : Items) (s : State) → (run_items xs s).used ≤ items_most xs
  items_within no_more s = omega arith
  items_within (first x xs) s = either (run_item x s).stopped (run_item x s) (run_items xs (run_item x s).state) (item_most x) (items_most xs) (item_within x s) (items_within xs (run_item x s).state)

-- ---- the lines of items, and of their helpers, are tidy under every namespace

all_tidy_append : (ns : Text) (hs ks : List Helper) → AllTidy ns hs → AllTidy ns ks → AllTidy ns (hs ++ ks)
all_tidy_append ns [] ks f g = g
all_tidy_append ns (h ∷ hs) ks f g = (f.0, all_tidy_append ns hs ks f.1 g)

module _ (ns : Text) (h : is_namespace ns ≡ true) where
  item_tidy : (x : Item) → item_fits x ≡ true → is_tidy ns (item_text ns x) ≡ true
  item_tidy x f = fitting_tidy ns h _ (item_fitting ns h x f)

  pub items_tidy : (xs : Items) → items_fit xs ≡ true → Tidy ns (items_texts ns xs)
  items_tidy no_more f = refl
  items_tidy (first x xs) f = and_both _ _ (item_tidy x (and_first _ _ f)) (items_tidy xs (and_second (item_fits x) _ f))

  mutual
    item_helpers_tidy : (x : Item) → item_fits x ≡ true → AllTidy ns (item_helpers ns x)
    item_helpers_tidy (step_item x) f = tt
    item_helpers_tidy (call_item g xs) f = let e = and_second (is_function_name g) _ f in (items_tidy xs e, items_helpers_tidy xs e)
    item_helpers_tidy (call_when cs g xs) f = let e = and_second (is_function_name g) (items_fit xs) (and_second (conds_fit cs) _ f) in (items_tidy xs e, items_helpers_tidy xs e)
    item_helpers_tidy (fill_item g p xs) f = (open_tidy ns h xs (and_second (site_fits p) (open_steps_fit xs) (and_second (is_function_name g) _ f)), tt)
    item_helpers_tidy (fill_when cs g p xs) f = (open_tidy ns h xs (and_second (site_fits p) (open_steps_fit xs) (and_second (is_function_name g) (site_fits p && open_steps_fit xs) (and_second (conds_fit cs) _ f))), tt)

    pub items_helpers_tidy : (xs : Items) → items_fit xs ≡ true → AllTidy ns (items_helpers ns xs)
    items_helpers_tidy no_more f = tt
    items_helpers_tidy (first x xs) f = all_tidy_append ns (item_helpers ns x) (items_helpers ns xs) (item_helpers_tidy x (and_first _ _ f)) (items_helpers_tidy xs (and_second (item_fits x) _ f))
