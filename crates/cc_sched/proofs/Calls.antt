-- A call from outside: refused, or a job begins.
use Rattle.std.proofs.Common.{◌≡◌, ℕ, ◌<◌, ◌≤◌, [], ◌∷◌, length, Some, Bool, true, false, refl, sym, ap, ◌∙◌, subst, arith, append-nil}
use Rattle.std.specs.Prelude.{ℤ, pos, codes, ◌&&◌, ◌||◌, if◌then◌else◌, option_and_then}
use Rattle.std.proofs.lemmas.Bool.{le-leb, lt-ltb}
use Rattle.mc_nbt.specs.Tree.{Tree, int, depth, select}
use Rattle.mc_nbt.specs.Path.{is_path}
use Rattle.mc_nbt.specs.Shape.{is_tree}
use Rattle.mc_nbt.specs.Spelling.{tree_text}
use Rattle.mc_nbt.specs.Word.{is_int, is_key}
use Rattle.mc_cmd.specs.Form.{Text}
use Rattle.mc_cmd.specs.Command.{exactly}
use Rattle.mc_cmd.specs.Word.{is_namespace, is_holder}
use Rattle.mc_cmd.specs.World.{World, some_is_in}
use Rattle.mc_cmd.specs.Chain.{Functions, has_pattern}
use Rattle.mc_cmd.specs.Layout.{full_name}
use Rattle.mc_cmd.proofs.FormLemmas.{and_both}
use Rattle.cc_line.specs.Sight.{in_io, in_rest, with_key, Shows}
use Rattle.cc_line.specs.Key.{key_state, key_args, key_end, key_fail, key_next, id_tree, body_piece}
use Rattle.cc_line.specs.State.{State, at_key, number_at, seen, with_copy, with_tree}
use Rattle.cc_line.specs.Step.{stop_when, flow, more, run_steps, steps_texts, after_step}
use Rattle.cc_line.specs.Fit.{step_fits, steps_fit, tree_fits}
use Rattle.cc_line.proofs.ActLemmas.{within_is}
use Rattle.cc_line.proofs.FitLemmas.{Clean, word, joined, wide, number_clean, all_speak}
use Rattle.cc_line.proofs.StepLemmas.{steps_do, steps_within}
use Rattle.cc_sched.specs.Names.{call_name}
use Rattle.cc_sched.specs.Sched.{state_site, read_state, is_running, is_dead, take_args, job_steps, begin_steps, call_steps, call_texts}
use Rattle.cc_sched.specs.Pieces.{guarded, is_one}
use Rattle.cc_sched.specs.Turn.{Whole, is_refused, called_state, Begun}
use Rattle.cc_sched.proofs.Dispatch.{body_of}
use Rattle.cc_sched.proofs.Reloads.{int_fits, site_fits_as, trap_set_fits, end_site, fail_site, next_site, own_site, steps_unfilled}
use Rattle.cc_sched.proofs.Turns.{whole_of}

int_is : (n : ℕ) → n < 2147483648 → is_int (pos n) ≡ true
int_is n h = lt-ltb n 2147483648 h

body_tree : (f : ℕ) → f < 2147483648 → is_tree (id_tree (body_piece f 0)) ≡ true
unfolding is_key
body_tree f h = and_both _ _ (and_both _ _ (and_both _ _ (int_is f h) refl) refl) refl

body_fits : (f : ℕ) → f < 2147483648 → tree_fits (id_tree (body_piece f 0)) ≡ true
body_fits f h =
    let c : Clean 60 (tree_text (id_tree (body_piece f 0))) = wide (joined (word (codes "{i:") refl) (joined (number_clean (pos f) (int_is f h)) (joined (word (codes ",j:") refl) (joined (number_clean (pos 0) refl) (word (codes "}") refl))))) (omega arith) in
    let s = c.short in
    and_both _ _ (body_tree f h) (and_both _ _ (le-leb (length (tree_text (id_tree (body_piece f 0)))) 400000 (omega arith)) c.bare)

front_fits : steps_fit (read_state ∷ (stop_when (is_running ∷ []) ∷ (stop_when (is_dead ∷ []) ∷ (take_args ∷ [])))) ≡ true
unfolding is_holder is_path is_key
front_fits = refl

fit_front : (a b c d e : Bool) → a && (b && (c && (d && true))) ≡ true → e ≡ true → a && (b && (c && (d && e))) ≡ true
fit_front true true true true e f g = g
fit_front true true true false e f g = absurd cc
fit_front true true false d e f g = absurd cc
fit_front true false c d e f g = absurd cc
fit_front false b c d e f g = absurd cc

begin_fits : (f : ℕ) → f < 2147483648 → steps_fit (job_steps 2 3 (body_piece f 0)) ≡ true
begin_fits f h =
    (and_both _ _ trap_set_fits (and_both _ _ (site_fits_as (at_key in_rest key_end) (int (pos 2)) end_site (int_fits (pos 2) refl)) (and_both _ _ (site_fits_as (at_key in_rest key_fail) (int (pos 3)) fail_site (int_fits (pos 3) refl)) (and_both _ _ (site_fits_as (at_key in_rest key_next) (id_tree (body_piece f 0)) next_site (body_fits f h)) (and_both _ _ (site_fits_as state_site (int (pos 1)) own_site (int_fits (pos 1) refl)) refl)))))

pub call_fits : (f : ℕ) → f < 2147483648 → steps_fit (call_steps f) ≡ true
call_fits f h = fit_front (step_fits read_state) (step_fits (stop_when (is_running ∷ []))) (step_fits (stop_when (is_dead ∷ []))) (step_fits take_args) (steps_fit (job_steps 2 3 (body_piece f 0))) front_fits (begin_fits f h)

pub call_does : (functions : Functions) (ns : Text) → is_namespace ns ≡ true → (k f : ℕ) → f < 2147483648 → functions (full_name ns (call_name k)) ≡ Some (call_texts ns f) → (s : State) (quota : ℕ) → 12 ≤ quota → (w : World) → Shows ns w (seen s) → Whole functions ns (call_name k) quota w (seen (called_state f s))
call_does functions ns n k f h there s quota room w sh =
    let fit = call_fits f h in
    let speak = all_speak ns n (call_steps f) fit in
    let d = steps_do functions ns (call_steps f) s speak fit (tt, λ a. ((tt, tt), λ b. ((tt, tt), λ c. (tt, λ e. (tt, λ g. (tt, λ i. (tt, λ j. (tt, λ l. (tt, λ m. tt))))))))) in
    let low : (run_steps (call_steps f) s).used ≤ 12 = steps_within (call_steps f) s in
    let plain : has_pattern (call_texts ns f) ≡ false = subst (λ ts. has_pattern ts ≡ false) (append-nil (steps_texts ns (call_steps f))) (steps_unfilled ns (call_steps f) speak [] refl) in
    whole_of functions ns (call_name k) (call_texts ns f) (seen s) (seen (called_state f s)) (run_steps (call_steps f) s).used quota w there plain (body_of functions ns (run_steps (call_steps f) s).stopped (call_texts ns f) (seen s) (seen (called_state f s)) (run_steps (call_steps f) s).used d) (omega arith) sh

-- where the lines of a call lead, by the number of the state
lead : (f : ℕ) (s : State) (z : ℤ) → s.keys in_io key_state ≡ Some (int z)
    → called_state f s ≡ (if is_one z && true then guarded s else (if some_is_in (exactly (pos 4)) (Some z) && true then guarded s else (run_steps (begin_steps f) (guarded s)).state))
lead f s z e = ap (λ o. by (number_at (option_and_then (λ u. select u []) o))) e ∙ spread (is_one z && true) (some_is_in (exactly (pos 4)) (Some z) && true)
  where
    by : ℤ → State
    by y = (more 2 (if is_one y && true then flow true (guarded s) 2 else more 2 (if some_is_in (exactly (pos 4)) (Some y) && true then flow true (guarded s) 2 else more 2 (run_steps (begin_steps f) (guarded s))))).state

    spread : (a b : Bool) → (more 2 (if a then flow true (guarded s) 2 else more 2 (if b then flow true (guarded s) 2 else more 2 (run_steps (begin_steps f) (guarded s))))).state ≡ (if a then guarded s else (if b then guarded s else (run_steps (begin_steps f) (guarded s)).state))
    spread true b = refl
    spread false true = refl
    spread false false = refl

pub refused : (f : ℕ) (s : State) (z : ℤ) → s.keys in_io key_state ≡ Some (int z) → is_refused z ≡ true → called_state f s ≡ guarded s
refused f s z e r = lead f s z e ∙ go (is_one z) (some_is_in (exactly (pos 4)) (Some z)) r
  where
    go : (a b : Bool) → a || b ≡ true → (if a && true then guarded s else (if b && true then guarded s else (run_steps (begin_steps f) (guarded s)).state)) ≡ guarded s
    go true b r = refl
    go false true r = refl
    go false false r = absurd cc

begun_by : (f : ℕ) (t : Tree) (g : State) → Begun f t (run_steps (job_steps 2 3 (body_piece f 0)) (record g { keys = with_key g.keys in_rest key_args t })).state
begun_by f t g = record { trap = refl; ends = refl; fails = refl; next = refl; args = refl; state = refl }

pub begins : (f : ℕ) (s : State) (z : ℤ) (t : Tree) → s.keys in_io key_state ≡ Some (int z) → is_refused z ≡ false → s.keys in_io (codes "args") ≡ Some t → depth t ≤ 63 → Begun f t (called_state f s)
begins f s z t e r given low = subst (Begun f t) (sym (lead f s z e ∙ go (is_one z) (some_is_in (exactly (pos 4)) (Some z)) r ∙ ap (λ u. (run_steps (job_steps 2 3 (body_piece f 0)) u).state) taken)) (begun_by f t (guarded s))
  where
    go : (a b : Bool) → a || b ≡ false → (if a && true then guarded s else (if b && true then guarded s else (run_steps (begin_steps f) (guarded s)).state)) ≡ (run_steps (begin_steps f) (guarded s)).state
    go false false r = refl
    go true b r = absurd cc
    go false true r = absurd cc

    taken : after_step take_args (guarded s) ≡ record (guarded s) { keys = with_key s.keys in_rest key_args t }
    taken = ap (λ o. with_copy (guarded s) (at_key in_rest key_args) (option_and_then (λ u. select u []) o)) given ∙ ap (λ o. with_tree (guarded s) (at_key in_rest key_args) o) (within_is t low)
