-- A reload and a command of somebody else change nothing that stands.
use Rattle.std.proofs.Common.{◌≡◌, ℕ, ◌+◌, ◌-◌, ◌≤◌, List, [], ◌∷◌, ◌++◌, Some, Bool, true, false, length, refl, sym, ap, ◌∙◌, subst, arith}
use Rattle.std.specs.Prelude.{ℤ, pos, None, codes, ◌&&◌, if◌then◌else◌, is_some, option_and_then, unwrap_or}
use Rattle.mc_nbt.specs.Tree.{Tree, compound, depth, int, key, list, no_fields, no_items, select}
use Rattle.mc_nbt.specs.Path.{is_path}
use Rattle.mc_nbt.specs.Shape.{is_tree}
use Rattle.mc_nbt.specs.Word.{is_int, is_key}
use Rattle.mc_nbt.specs.Spelling.{tree_text}
use Rattle.std.specs.Fmt.{signed_decimal}
use Rattle.std.proofs.lemmas.Bool.{le-leb}
use Rattle.cc_line.specs.Place.{scratch}
use Rattle.mc_nbt.proofs.TreeLemmas.{bytes_refl}
use Rattle.mc_cmd.specs.Form.{Text}
use Rattle.mc_cmd.specs.Command.{Cmd, objective_add, return_value, set_value}
use Rattle.mc_cmd.specs.Grammar.{cmd_text}
use Rattle.mc_cmd.specs.Word.{is_namespace, is_holder}
use Rattle.mc_cmd.specs.World.{World, cmd_effect, empty_world, tree_in, with_objective}
use Rattle.mc_cmd.specs.Chain.{Texts, Functions, has_pattern}
use Rattle.mc_cmd.specs.Pack.{IsForeign}
use Rattle.mc_cmd.specs.Foreign.{IsKept, is_own}
use Rattle.mc_cmd.proofs.FormLemmas.{and_both}
use Rattle.mc_cmd.proofs.NameLemmas.{namespace_objective}
use Rattle.mc_cmd.proofs.ForeignLemmas.{objective_own, io_own, memory_own, rest_own, own_kept}
use Rattle.cc_line.specs.Sight.{Store, in_io, in_memory, in_rest, store_id, Sight, Shows, HasKeys, Does}
use Rattle.cc_line.specs.Key.{key_state, key_frame, key_below, key_end, key_fail, key_next, score_trap, id_tree, init_piece, group_init}
use Rattle.cc_line.specs.State.{State, Site, at_key, seen, frame_tree}
use Rattle.cc_line.specs.Step.{Flow, flow, more, Step, run_act, set_site, set_spot, says, stop_when, holds, stands, cond_subs, run_steps, step_text, steps_texts}
use Rattle.cc_line.specs.Fit.{site_fits, step_fits, steps_fit, tree_fits}
use Rattle.cc_line.proofs.Speaking.{Speaks}
use Rattle.cc_line.proofs.SightLemmas.{holds_as, key_set}
use Rattle.cc_line.proofs.DoesLemmas.{does_append, does_before, does_plain}
use Rattle.cc_line.proofs.FitLemmas.{Clean, number_clean, word, joined, wide, namespace_clean, store_clean, store_fits, store_own, said, Fitting, said_fitting, fitting_speaks, all_speak, unfilled_before}
use Rattle.cc_line.proofs.StepLemmas.{AllSpeak, steps_do}
use Rattle.cc_sched.specs.Names.{load_name}
use Rattle.cc_sched.specs.Sched.{state_site, load_guard, load_objective, load_frame, load_steps, load_texts, HasSched}
use Rattle.cc_sched.specs.Turn.{Whole, fresh, loaded_state, LoadsFirst}
use Rattle.mc_cmd.specs.declared.TheConstants.{LOAD_QUOTA}
use Rattle.mc_cmd.specs.steps.Straight.{Falls}
use Rattle.mc_cmd.specs.Layout.{full_name}
use Rattle.mc_cmd.proofs.Runs.{falls_append, falls_plain, falls_skip, runs_falls, whole_from}
use Rattle.cc_sched.proofs.Dispatch.{body_of}
use Rattle.cc_sched.proofs.Finishing.{same}
use Rattle.cc_sched.proofs.Turns.{whole_of}

pub load_guard_fits : steps_fit load_guard ≡ true
unfolding is_path is_key
load_guard_fits = refl

-- an int as a value, and the name of a piece of instantiation
pub int_fits : (z : ℤ) → is_int z ≡ true → tree_fits (int z) ≡ true
int_fits z h = let c = number_clean z h in let s = c.short in and_both _ _ (and_both _ _ h refl) (and_both _ _ (le-leb (length (signed_decimal z)) 400000 (omega arith)) c.bare)

is_id_tree : is_tree (id_tree (init_piece 0)) ≡ true
unfolding is_key
is_id_tree = refl

id_text : Clean 40 (tree_text (id_tree (init_piece 0)))
id_text = wide (joined (word (codes "{i:") refl) (joined (number_clean (pos group_init) refl) (joined (word (codes ",j:") refl) (joined (number_clean (pos 0) refl) (word (codes "}") refl))))) (omega arith)

id_fits : tree_fits (id_tree (init_piece 0)) ≡ true
id_fits = let s = id_text.short in and_both _ _ is_id_tree (and_both _ _ (le-leb (length (tree_text (id_tree (init_piece 0)))) 400000 (omega arith)) id_text.bare)

pub site_fits_as : (p : Site) (t : Tree) → site_fits p ≡ true → tree_fits t ≡ true → step_fits (run_act (set_site p t)) ≡ true
site_fits_as p t h k = and_both _ _ h k

first_fits : step_fits (run_act (set_site (at_key in_rest key_below) (list no_items))) ≡ true
unfolding is_path is_key
first_fits = refl

pub trap_set_fits : step_fits (run_act (set_spot (scratch score_trap) (pos 0))) ≡ true
unfolding is_holder
trap_set_fits = refl

pub end_site : site_fits (at_key in_rest key_end) ≡ true
unfolding is_path is_key
end_site = refl

pub fail_site : site_fits (at_key in_rest key_fail) ≡ true
unfolding is_path is_key
fail_site = refl

pub next_site : site_fits (at_key in_rest key_next) ≡ true
unfolding is_path is_key
next_site = refl

pub own_site : site_fits state_site ≡ true
unfolding is_path is_key
own_site = refl

pub load_fits : steps_fit load_steps ≡ true
load_fits = and_both _ _ first_fits (and_both _ _ trap_set_fits (and_both _ _ (site_fits_as (at_key in_rest key_end) (int (pos 0)) end_site (int_fits (pos 0) refl)) (and_both _ _ (site_fits_as (at_key in_rest key_fail) (int (pos 4)) fail_site (int_fits (pos 4) refl)) (and_both _ _ (site_fits_as (at_key in_rest key_next) (id_tree (init_piece 0)) next_site id_fits) (and_both _ _ (site_fits_as state_site (int (pos 1)) own_site (int_fits (pos 1) refl)) refl)))))

frame_key : is_path (key key_frame ∷ []) ≡ true
unfolding is_path is_key
frame_key = refl

frame_tree_fits : is_tree (frame_tree []) ≡ true
unfolding is_key
frame_tree_fits = refl

pub steps_unfilled : (ns : Text) (xs : List Step) → AllSpeak ns xs → (ts : Texts) → has_pattern ts ≡ false → has_pattern (steps_texts ns xs ++ ts) ≡ false
steps_unfilled ns [] a ts h = h
steps_unfilled ns (x ∷ xs) a ts h = unfilled_before _ (steps_texts ns xs ++ ts) a.0 (steps_unfilled ns xs a.1 ts h)

module _ (ns : Text) (n : is_namespace ns ≡ true) where
  pub objective_fitting : Fitting ns n (load_objective ns)
  objective_fitting = said_fitting ns n (says (objective_add ns)) (said ns n (objective_add ns) (namespace_objective ns n) (bytes_refl ns)
      (wide (joined (word (codes "scoreboard objectives add ") refl) (joined (namespace_clean ns n) (word (codes " dummy") refl))) (omega arith)))

  objective_speaks : Speaks (load_objective ns)
  objective_speaks = fitting_speaks ns n _ objective_fitting

  pub frame_fitting : Fitting ns n (load_frame ns)
  frame_fitting = said_fitting ns n (says (set_value (store_id ns in_rest) (key key_frame ∷ []) (frame_tree []))) (said ns n _ (and_both _ _ (and_both _ _ (store_fits ns in_rest n) frame_key) frame_tree_fits) (store_own ns in_rest)
      (wide (joined (word (codes "data modify storage ") refl) (joined (store_clean ns in_rest n) (word (codes " t set value {f:[]}") refl))) (omega arith)))

  frame_speaks : Speaks (load_frame ns)
  frame_speaks = fitting_speaks ns n _ frame_fitting

  rest_unfilled : has_pattern (cmd_text (load_objective ns) ∷ (cmd_text (load_frame ns) ∷ steps_texts ns load_steps)) ≡ false
  rest_unfilled = unfilled_before (load_objective ns) (cmd_text (load_frame ns) ∷ steps_texts ns load_steps) objective_speaks
      (unfilled_before (load_frame ns) (steps_texts ns load_steps) frame_speaks
      (subst (λ ts. has_pattern ts ≡ false) (Rattle.std.proofs.Common.append-nil (steps_texts ns load_steps)) (steps_unfilled ns load_steps (all_speak ns n load_steps load_fits) [] refl)))

  load_unfilled : has_pattern (load_texts ns) ≡ false
  load_unfilled = steps_unfilled ns load_guard (all_speak ns n load_guard load_guard_fits) (cmd_text (load_objective ns) ∷ (cmd_text (load_frame ns) ∷ steps_texts ns load_steps)) rest_unfilled

-- A reload: the pack has a state, so nothing is done.
pub reload : (functions : Functions) (ns : Text) (piece : ℕ) → is_namespace ns ≡ true → HasSched functions ns piece → (s : State) (t : Tree) → s.keys in_io key_state ≡ Some t → (quota : ℕ) → 2 ≤ quota → (w : World) → Shows ns w (seen s) → Whole functions ns load_name quota w (seen s)
reload functions ns piece n d s t e quota two w sh =
    let ts : Texts = cmd_text (load_objective ns) ∷ (cmd_text (load_frame ns) ∷ steps_texts ns load_steps) in
    let stops : Does functions ns (steps_texts ns load_guard) (seen s) 2 true (seen s) = go _ loaded (steps_do functions ns load_guard s (all_speak ns n load_guard load_guard_fits) load_guard_fits ((tt, tt), λ x. tt)) in
    let all : Does functions ns (load_texts ns) (seen s) 2 true (seen s) = does_before functions ns (steps_texts ns load_guard) ts (seen s) (seen s) 2 stops in
    whole_of functions ns load_name (load_texts ns) (seen s) (seen s) 2 quota w d.loads (load_unfilled ns n) (body_of functions ns true (load_texts ns) (seen s) (seen s) 2 all) two sh
  where
    loaded : is_some (option_and_then (λ u. select u []) (s.keys in_io key_state)) && true ≡ true
    loaded = ap (λ o. is_some (option_and_then (λ u. select u []) o) && true) e

    go : (b : Bool) → b ≡ true → (let r : Flow = (if b then flow true s 2 else more 2 (flow false s 0)) in Does functions ns (steps_texts ns load_guard) (seen s) r.used r.stopped (seen r.state)) → Does functions ns (steps_texts ns load_guard) (seen s) 2 true (seen s)
    go true e f = f
    go false e f = absurd cc

-- ---- commands of somebody else

pub foreign : (ns : Text) (c : Cmd) (w : World) (v : Sight) → IsForeign ns c → Shows ns w v → Shows ns (cmd_effect c w).world v
foreign ns c w v f h =
    let k = own_kept ns c w ns f (objective_own ns) in
    record { objective = k.objective ∙ h.objective; scores = λ j. k.scores j ∙ h.scores j; stores = λ s. kept s (own_kept ns c w (store_id ns s) f (own s)) }
  where
    own : (s : Store) → is_own ns (store_id ns s) ≡ true
    own in_io = io_own ns
    own in_memory = memory_own ns
    own in_rest = rest_own ns

    kept : (s : Store) → IsKept (store_id ns s) w (cmd_effect c w).world → HasKeys (tree_in (cmd_effect c w).world (store_id ns s)) (v.keys s)
    kept s k = holds_as (tree_in w (store_id ns s)) (tree_in (cmd_effect c w).world (store_id ns s)) (v.keys s) (v.keys s) (h.stores s) (sym (ap (λ o. unwrap_or o (compound no_fields)) k.storage)) (λ j. refl)

-- ---- the first load

abbrev nothing_seen : Sight
nothing_seen = record { scores = λ h. None; keys = λ r k. None }

begun_shows : (ns : Text) → Shows ns (with_objective empty_world ns) nothing_seen
begun_shows ns = record {
  objective = ap (λ b. if b then true else false) (bytes_refl ns);
  scores = λ h. refl;
  stores = λ s. record { fields = no_fields; is = refl; at = λ k. refl; shallow = low };
}
  where
    low : depth (compound no_fields) ≤ 64
    low = omega arith

pub load : (functions : Functions) (ns : Text) (piece : ℕ) → is_namespace ns ≡ true → HasSched functions ns piece → LoadsFirst functions ns
load functions ns piece n d =
    let t1 : Text = step_text ns (stop_when (holds (stands state_site) ∷ [])) in
    let t2 : Text = cmd_text (load_objective ns) in
    let ts : Texts = cmd_text (load_frame ns) ∷ steps_texts ns load_steps in
    let framed : Does functions ns (cmd_text (load_frame ns) ∷ []) nothing_seen 1 false (seen fresh) =
    does_plain functions ns (set_value (store_id ns in_rest) (key key_frame ∷ []) (frame_tree [])) nothing_seen (seen fresh) (frame_speaks ns n) refl
    (λ w h. key_set ns w nothing_seen in_rest key_frame [] (frame_tree []) h) in
    let rest : Does functions ns ts nothing_seen (1 + (run_steps load_steps fresh).used) false (seen loaded_state) =
    does_append functions ns false (cmd_text (load_frame ns) ∷ []) (steps_texts ns load_steps) nothing_seen (seen fresh) (seen loaded_state) 1 (run_steps load_steps fresh).used _
    framed (steps_do functions ns load_steps fresh (all_speak ns n load_steps load_fits) load_fits (tt, λ a. (tt, λ b. (tt, λ c. (tt, λ e. (tt, λ f. (tt, λ g. tt))))))) (same (1 + (run_steps load_steps fresh).used)) in
    let r = rest.by (with_objective empty_world ns) (begun_shows ns) in
    let f1 : Falls functions (t1 ∷ []) empty_world 2 empty_world = falls_skip functions t1 (cond_subs ns (holds (stands state_site) ∷ [])) (return_value (pos 0)) empty_world (all_speak ns n load_guard load_guard_fits).0 refl in
    let f2 : Falls functions (t2 ∷ []) empty_world 1 (with_objective empty_world ns) = falls_plain functions t2 (objective_add ns) empty_world (objective_speaks ns n) refl in
    let f3 : Falls functions (t2 ∷ ts) empty_world (1 + r.weight) r.world = falls_append functions (t2 ∷ []) ts empty_world (with_objective empty_world ns) r.world 1 r.weight f2 r.leaves in
    let f4 : Falls functions (t1 ∷ (t2 ∷ ts)) empty_world (2 + (1 + r.weight)) r.world = falls_append functions (t1 ∷ []) (t2 ∷ ts) empty_world empty_world r.world 2 (1 + r.weight) f1 f3 in
    let le : r.weight ≤ 7 = r.light in
    record {
      world = r.world;
      left = LOAD_QUOTA - (2 + (1 + r.weight));
      shows = r.shows;
      is = whole_from functions (full_name ns load_name) (load_texts ns) empty_world r.world (2 + (1 + r.weight)) LOAD_QUOTA (omega arith) d.loads (load_unfilled ns n) (runs_falls functions (load_texts ns) empty_world r.world (2 + (1 + r.weight)) f4);
    }
