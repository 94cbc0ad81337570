-- What the lines of steps do is what the steps do.
use Rattle.std.proofs.Common.{◌≡◌, ℕ, ◌+◌, ◌≤◌, List, [], ◌∷◌, length, Bool, true, false, refl, sym, ap, ◌∙◌, subst, arith, ◌++◌}
use Rattle.std.specs.Prelude.{ℤ, pos, ◌&&◌, if◌then◌else◌}
use Rattle.std.specs.List.{list_all}
use Rattle.mc_cmd.specs.Form.{Text}
use Rattle.mc_cmd.specs.Command.{return_value, Sub, Simple, plain, execute}
use Rattle.mc_cmd.specs.Grammar.{cmd_text}
use Rattle.mc_cmd.specs.World.{World, effect, store_all, is_direct, all_go_on}
use Rattle.mc_cmd.specs.Chain.{Texts, Functions, cmd_weight}
use Rattle.mc_cmd.proofs.FormLemmas.{and_first, and_second}
use Rattle.cc_line.specs.Sight.{Shows, Does}
use Rattle.cc_line.specs.Place.{place_name, Home, in_score, in_list, home}
use Rattle.cc_line.specs.State.{State, seen, Site}
use Rattle.cc_line.specs.Step.{Act, set_spot, increase, decrease, combine, set_place, copy_place, load_place, keep_place, load_site, keep_site, place_to_site, site_to_place, set_site, copy_site, append_value_to, append_site, erase_site, open_place, make_list, save_list, restore_list, Cond, Step, run_act, when, stop_when, Said, set_home, load_home, keep_home, copy_home, home_to_site, site_to_home, act_said, cond_subs, under_subs, said_command, step_command, step_text, steps_texts, step_weight, steps_weight, after_act, conds_hold, after_step, stops, Flow, flow, more, run_steps, StepReady, Ready}
use Rattle.cc_line.specs.Fit.{conds_fit, cond_fits, step_fits, steps_fit}
use Rattle.cc_line.proofs.Speaking.{Speaks}
use Rattle.cc_line.proofs.SightLemmas.{Written}
use Rattle.cc_line.proofs.DoesLemmas.{does_none, does_append, does_before, does_plain, does_execute, does_skip, does_stop}
use Rattle.cc_line.proofs.ActLemmas.{SaidWrites, act_writes, conds_shown, conds_and, conds_store}

pub said_does : (functions : Functions) (ns : Text) (d : Said) (s u : State) → Speaks (said_command d) → ((w : World) → (h : Shows ns w (seen s)) → SaidWrites ns w s h d u) → is_direct d.simple ≡ true
    → Does functions ns (cmd_text (said_command d) ∷ []) (seen s) (cmd_weight (said_command d)) false (seen u)
said_does functions ns d s u r g q = by d.stores refl
  where
    by : (us : List Sub) → d.stores ≡ us → Does functions ns (cmd_text (said_command d) ∷ []) (seen s) (cmd_weight (said_command d)) false (seen u)
    by [] e =
        let same : said_command d ≡ plain d.simple = ap (λ us. under_subs us d.simple) e in
        subst (λ x. Does functions ns (cmd_text x ∷ []) (seen s) (cmd_weight x) false (seen u)) (sym same)
        (does_plain functions ns d.simple (seen s) (seen u) (subst Speaks same r) q (λ w h. subst (λ us. Written ns w (store_all us (effect d.simple w).result (effect d.simple w).world) (seen u)) e (g w h).written))
    by (v ∷ us) e =
        let same : said_command d ≡ execute (v ∷ us) d.simple = ap (λ us. under_subs us d.simple) e in
        subst (λ x. Does functions ns (cmd_text x ∷ []) (seen s) (cmd_weight x) false (seen u)) (sym same)
        (does_execute functions ns (v ∷ us) d.simple (seen s) (seen u) (subst Speaks same r) q
        (λ w h. (ap (λ us. all_go_on us w) (sym e) ∙ (g w h).goes, subst (λ us. Written ns w (store_all us (effect d.simple w).result (effect d.simple w).world) (seen u)) e (g w h).written)))

-- an act's command is direct, and has as many stores under each namespace
record Like (d e : Said) : Type 0 where
  direct : is_direct d.simple ≡ true
  count : length d.stores ≡ length e.stores

set_like : (ns : Text) (q : Home) (z : ℤ) → Like (set_home ns q z) (set_home [] q z)
set_like ns (in_score i) z = record { direct = refl; count = refl }
set_like ns (in_list i) z = record { direct = refl; count = refl }

load_like : (ns h : Text) (q : Home) → Like (load_home ns h q) (load_home [] h q)
load_like ns h (in_score i) = record { direct = refl; count = refl }
load_like ns h (in_list i) = record { direct = refl; count = refl }

keep_like : (ns h : Text) (q : Home) → Like (keep_home ns q h) (keep_home [] q h)
keep_like ns h (in_score i) = record { direct = refl; count = refl }
keep_like ns h (in_list i) = record { direct = refl; count = refl }

copy_like : (ns : Text) (p q : Home) → Like (copy_home ns p q) (copy_home [] p q)
copy_like ns p (in_score j) = keep_like ns (place_name j) p
copy_like ns (in_score i) (in_list j) = record { direct = refl; count = refl }
copy_like ns (in_list i) (in_list j) = record { direct = refl; count = refl }

to_site_like : (ns : Text) (p : Site) (q : Home) → Like (home_to_site ns p q) (home_to_site [] p q)
to_site_like ns p (in_score i) = record { direct = refl; count = refl }
to_site_like ns p (in_list i) = record { direct = refl; count = refl }

from_site_like : (ns : Text) (q : Home) (p : Site) → Like (site_to_home ns q p) (site_to_home [] q p)
from_site_like ns (in_score i) p = record { direct = refl; count = refl }
from_site_like ns (in_list i) p = record { direct = refl; count = refl }

act_like : (ns : Text) (a : Act) → Like (act_said ns a) (act_said [] a)
act_like ns (set_spot x z) = record { direct = refl; count = refl }
act_like ns (increase x n) = record { direct = refl; count = refl }
act_like ns (decrease x n) = record { direct = refl; count = refl }
act_like ns (combine x op y) = record { direct = refl; count = refl }
act_like ns (set_place i z) = set_like ns (home i) z
act_like ns (copy_place i j) = copy_like ns (home i) (home j)
act_like ns (load_place h i) = load_like ns h (home i)
act_like ns (keep_place i h) = keep_like ns h (home i)
act_like ns (load_site h p) = record { direct = refl; count = refl }
act_like ns (keep_site p h) = record { direct = refl; count = refl }
act_like ns (place_to_site p i) = to_site_like ns p (home i)
act_like ns (site_to_place i p) = from_site_like ns (home i) p
act_like ns (set_site p t) = record { direct = refl; count = refl }
act_like ns (copy_site p q) = record { direct = refl; count = refl }
act_like ns (append_value_to p t) = record { direct = refl; count = refl }
act_like ns (append_site p q) = record { direct = refl; count = refl }
act_like ns (erase_site p) = record { direct = refl; count = refl }
act_like ns (open_place i) = record { direct = refl; count = refl }
act_like ns (make_list zs) = record { direct = refl; count = refl }
act_like ns (save_list p) = record { direct = refl; count = refl }
act_like ns (restore_list p) = record { direct = refl; count = refl }

pub act_direct : (ns : Text) (a : Act) → is_direct (act_said ns a).simple ≡ true
act_direct ns a = (act_like ns a).direct

some_fit : (cs : List Cond) → conds_fit cs ≡ true → list_all cond_fits cs ≡ true
some_fit cs f = and_first _ _ f

pub step_does : (functions : Functions) (ns : Text) (x : Step) (s : State) → Speaks (step_command ns x) → step_fits x ≡ true → StepReady x s
    → Does functions ns (step_text ns x ∷ []) (seen s) (cmd_weight (step_command ns x)) (stops x s) (seen (after_step x s))
step_does functions ns (run_act a) s r f k = said_does functions ns (act_said ns a) s (after_act a s) r (λ w h. act_writes ns w s h a f k) (act_direct ns a)
step_does functions ns (when cs a) s r f k = go (conds_hold cs s) refl
  where
    few : list_all cond_fits cs ≡ true
    few = some_fit cs (and_first _ _ f)

    go : (b : Bool) → conds_hold cs s ≡ b → Does functions ns (step_text ns (when cs a) ∷ []) (seen s) 2 false (seen (if b then after_act a s else s))
    go true e = does_execute functions ns (cond_subs ns cs ++ (act_said ns a).stores) (act_said ns a).simple (seen s) (seen (after_act a s)) r (act_direct ns a)
        (λ w h. let g = act_writes ns w s h a (and_second (conds_fit cs) _ f) (k.1 e) in (
          conds_and ns w s h cs (act_said ns a).stores few k.0 ∙ ap (λ b. b && all_go_on (act_said ns a).stores w) e ∙ g.goes,
          subst (λ x. Written ns w x (seen (after_act a s))) (sym (conds_store ns cs (act_said ns a).stores _ _)) g.written,
        ))
    go false e = does_skip functions ns (cond_subs ns cs ++ (act_said ns a).stores) (act_said ns a).simple (seen s) r (λ w h. conds_and ns w s h cs (act_said ns a).stores few k.0 ∙ ap (λ b. b && all_go_on (act_said ns a).stores w) e)
step_does functions ns (stop_when cs) s r f k = go (conds_hold cs s) refl
  where
    go : (b : Bool) → conds_hold cs s ≡ b → Does functions ns (step_text ns (stop_when cs) ∷ []) (seen s) 2 b (seen s)
    go true e = does_stop functions ns (cond_subs ns cs) (pos 0) (seen s) r (λ w h. conds_shown ns w s h cs (some_fit cs f) k ∙ e)
    go false e = does_skip functions ns (cond_subs ns cs) (return_value (pos 0)) (seen s) r (λ w h. conds_shown ns w s h cs (some_fit cs f) k ∙ e)

-- the weight doesn't depend on the namespace
subs_weigh : (us vs : List Sub) (s t : Simple) → length us ≡ length vs → cmd_weight (under_subs us s) ≡ cmd_weight (under_subs vs t)
subs_weigh [] [] s t e = refl
subs_weigh (u ∷ us) (v ∷ vs) s t e = refl
subs_weigh [] (v ∷ vs) s t e = absurd (omega arith)
subs_weigh (u ∷ us) [] s t e = absurd (omega arith)

pub weight_is : (ns : Text) (x : Step) → cmd_weight (step_command ns x) ≡ step_weight x
weight_is ns (run_act a) = subs_weigh (act_said ns a).stores (act_said [] a).stores (act_said ns a).simple (act_said [] a).simple (act_like ns a).count
weight_is ns (when cs a) = refl
weight_is ns (stop_when cs) = refl

pub step_does_so : (functions : Functions) (ns : Text) (x : Step) (s : State) → Speaks (step_command ns x) → step_fits x ≡ true → StepReady x s
    → Does functions ns (step_text ns x ∷ []) (seen s) (step_weight x) (stops x s) (seen (after_step x s))
step_does_so functions ns x s r f k = subst (λ n. Does functions ns (step_text ns x ∷ []) (seen s) n (stops x s) (seen (after_step x s))) (weight_is ns x) (step_does functions ns x s r f k)

-- a step that ends its list leaves the state
pub unmoved : (x : Step) (s : State) → stops x s ≡ true → after_step x s ≡ s
unmoved (run_act a) s e = absurd cc
unmoved (when cs a) s e = absurd cc
unmoved (stop_when cs) s e = refl

-- a line and what follows it
pub does_join : (functions : Functions) (ns : Text) (t : Text) (ts : Texts) (v : State) (one rest : Flow) → Does functions ns (t ∷ []) (seen v) one.used one.stopped (seen one.state)
    → (one.stopped ≡ false → Does functions ns ts (seen one.state) rest.used rest.stopped (seen rest.state))
    → (let f : Flow = (if one.stopped then one else more one.used rest) in Does functions ns (t ∷ ts) (seen v) f.used f.stopped (seen f.state))
does_join functions ns t ts v one rest f g = go one.stopped refl f g
  where
    go : (b : Bool) → one.stopped ≡ b → Does functions ns (t ∷ []) (seen v) one.used b (seen one.state) → (b ≡ false → Does functions ns ts (seen one.state) rest.used rest.stopped (seen rest.state))
        → (let f : Flow = (if b then one else more one.used rest) in Does functions ns (t ∷ ts) (seen v) f.used f.stopped (seen f.state))
    go true e f g = subst (λ b. Does functions ns (t ∷ ts) (seen v) one.used b (seen one.state)) (sym e) (does_before functions ns (t ∷ []) ts (seen v) (seen one.state) one.used f)
    go false e f g = does_append functions ns rest.stopped (t ∷ []) ts (seen v) (seen one.state) (seen rest.state) one.used rest.used _ f (g refl) (same (one.used + rest.used))
      where
        same : (a : ℕ) → a ≤ a
        same a = omega arith

-- each step's text says its command
abbrev pub AllSpeak : Text → List Step → Type 0
AllSpeak ns [] = Unit {0}
AllSpeak ns (x ∷ xs) = Speaks (step_command ns x) × AllSpeak ns xs

-- THE REFINEMENT of lists of steps
pub steps_do : (functions : Functions) (ns : Text) (xs : List Step) (s : State) → AllSpeak ns xs → steps_fit xs ≡ true → Ready xs s
    → Does functions ns (steps_texts ns xs) (seen s) (run_steps xs s).used (run_steps xs s).stopped (seen (run_steps xs s).state)
steps_do functions ns [] s r f k = does_none functions ns (seen s)
steps_do functions ns (x ∷ xs) s r f k =
    by (stops x s) refl (step_does_so functions ns x s r.0 (and_first _ _ f) k.0) (λ e. steps_do functions ns xs (after_step x s) r.1 (and_second (step_fits x) _ f) (k.1 e))
  where
    by : (b : Bool) → stops x s ≡ b → Does functions ns (step_text ns x ∷ []) (seen s) (step_weight x) b (seen (after_step x s))
        → (b ≡ false → Does functions ns (steps_texts ns xs) (seen (after_step x s)) (run_steps xs (after_step x s)).used (run_steps xs (after_step x s)).stopped (seen (run_steps xs (after_step x s)).state))
        → (let f : Flow = (if b then flow true s (step_weight x) else more (step_weight x) (run_steps xs (after_step x s))) in Does functions ns (step_text ns x ∷ steps_texts ns xs) (seen s) f.used f.stopped (seen f.state))
    by true e f g = does_join functions ns (step_text ns x) (steps_texts ns xs) s (flow true s (step_weight x)) (run_steps xs (after_step x s)) (subst (λ u. Does functions ns (step_text ns x ∷ []) (seen s) (step_weight x) true (seen u)) (unmoved x s e) f) (λ q. absurd cc)
    by false e f g = does_join functions ns (step_text ns x) (steps_texts ns xs) s (flow false (after_step x s) (step_weight x)) (run_steps xs (after_step x s)) f g

-- a way weighs at most what all steps do
pub steps_within : (xs : List Step) (s : State) → (run_steps xs s).used ≤ steps_weight xs
steps_within [] s = omega arith
steps_within (x ∷ xs) s = go (stops x s) (steps_within xs (after_step x s))
  where
    go : (b : Bool) → (run_steps xs (after_step x s)).used ≤ steps_weight xs → (let f : Flow = (if b then flow true s (step_weight x) else more (step_weight x) (run_steps xs (after_step x s))) in f.used) ≤ step_weight x + steps_weight xs
    go true h = omega arith
    go false h = omega arith
