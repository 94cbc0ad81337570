-- The lines of the scheduler's functions are tidy.
use Rattle.std.proofs.Common.{◌≡◌, ◌∙◌, ◌<◌, ℕ, zero, suc, ◌+◌, List, [], ◌∷◌, ◌++◌, true, Some, length, refl, ap, arith, append_assoc, append-nil}
use Rattle.std.specs.Prelude.{codes, nat_lt, option_and_then}
use Rattle.std.specs.Fmt.{decimal}
use Rattle.std.specs.List.{list_all}
use Rattle.std.proofs.lemmas.Bool.{ltb-true}
use Rattle.std.proofs.lemmas.List.Folds.{list_all-append}
use Rattle.mc_cmd.specs.Form.{Text, lacks}
use Rattle.mc_cmd.specs.Command.{Cmd, call, pattern, plain, PatternPart}
use Rattle.mc_cmd.specs.Grammar.{cmd_text, line_said, line_text}
use Rattle.mc_cmd.specs.Chain.{Texts}
use Rattle.mc_cmd.specs.Layout.{full_name}
use Rattle.mc_cmd.specs.Tidy.{is_tidy, is_tidy_by, parts_by, says_tidy, text_by, Tidy}
use Rattle.mc_cmd.specs.Word.{is_function_name, is_namespace}
use Rattle.mc_cmd.proofs.FormLemmas.{and_both, and_first, and_second}
use Rattle.cc_line.specs.Sight.{in_rest}
use Rattle.cc_line.specs.Key.{key_next}
use Rattle.cc_line.specs.State.{at_key}
use Rattle.cc_line.specs.Step.{Step, step_text, steps_texts}
use Rattle.cc_line.specs.Fit.{step_fits, steps_fit}
use Rattle.cc_line.specs.Item.{AllTidy, call_item, call_when, fill_item, Item, item_fits, item_text, items_fit, no_more, steps_items}
use Rattle.cc_line.proofs.FitLemmas.{Fitting, fitting_speaks, fitting_tidy, joined, namespace_clean, step_fitting, word}
use Rattle.cc_line.proofs.ItemLemmas.{item_fitting, items_tidy}
use Rattle.cc_sched.specs.Names.{call_name, go_name, group_name, run_name}
use Rattle.cc_sched.specs.Functions.{call_functions, sched_functions}
use Rattle.cc_sched.specs.Sched.{budget_command, call_steps, call_texts, end_texts, finish_command, finish_conds, give_back, go_command, go_texts, group_command, group_room, group_texts, guard_steps, is_quiet, left_command, left_conds, load_frame, load_guard, load_objective, load_steps, load_texts, next_texts, reserve_steps, round_command, rounds_commands, rounds_texts, run_command, run_pattern, run_texts, tick_texts, trap_item, trap_steps, trap_texts}
use Rattle.cc_sched.proofs.Calls.{call_fits}
use Rattle.cc_sched.proofs.Dispatch.{both_names, digits_name, finish_conds_fit, key_n, name_fits, name_of, round_conds_fit, run_item_fits, run_item_when, run_says}
use Rattle.cc_sched.proofs.Finishing.{trap_fits}
use Rattle.cc_sched.proofs.MacroLemmas.{run_spelled}
use Rattle.cc_sched.proofs.Reloads.{frame_fitting, load_fits, load_guard_fits, objective_fitting}
use Rattle.cc_sched.proofs.Ticks.{budget_fitting, give_back_fits, left_item_fits, reserve_fits}
use Rattle.cc_sched.proofs.Turns.{guard_fits}

-- a helper's items are those of its call
trap_items_fit : items_fit (steps_items trap_steps) ≡ true
trap_items_fit = and_second (is_function_name (codes "h_trap")) _ (and_second (Rattle.cc_line.specs.Fit.conds_fit Rattle.cc_sched.specs.Sched.trap_conds) _ trap_fits)

module _ (ns : Text) (n : is_namespace ns ≡ true) where
  step_line : (x : Step) → step_fits x ≡ true → is_tidy ns (step_text ns x) ≡ true
  step_line x f = fitting_tidy ns n _ (step_fitting ns n x f)

  steps_lines : (xs : List Step) → steps_fit xs ≡ true → Tidy ns (steps_texts ns xs)
  steps_lines [] f = refl
  steps_lines (x ∷ xs) f = and_both _ _ (step_line x (and_first _ _ f)) (steps_lines xs (and_second (step_fits x) _ f))

  item_line : (x : Item) → item_fits x ≡ true → is_tidy ns (item_text ns x) ≡ true
  item_line x f = fitting_tidy ns n _ (item_fitting ns n x f)

  -- lines and then others
  followed : (ts us : Texts) → Tidy ns ts → Tidy ns us → Tidy ns (ts ++ us)
  followed ts us f g = list_all-append (is_tidy ns) ts us ∙ and_both _ _ f g

  run_line : is_tidy ns (cmd_text (run_command ns)) ≡ true
  run_line = item_line (fill_item run_name (at_key in_rest key_next) []) (and_both _ _ refl (and_both _ _ (and_both _ _ key_n refl) refl))

  round_line : is_tidy ns (cmd_text (round_command ns)) ≡ true
  round_line = item_line (run_item_when (is_quiet ∷ [])) (run_item_fits (is_quiet ∷ []) round_conds_fit)

  left_line : (k : ℕ) (f : Text) → k < 2147483648 → is_function_name f ≡ true → is_tidy ns (cmd_text (left_command ns k f)) ≡ true
  left_line k f h g = item_line (call_when (left_conds k) f no_more) (left_item_fits k f h g)

  rounds_lines : (k : ℕ) → Tidy ns (rounds_texts ns k)
  rounds_lines zero = refl
  rounds_lines (suc k) = and_both _ _ round_line (rounds_lines k)

  finish_line : is_tidy ns (cmd_text (finish_command ns)) ≡ true
  finish_line = item_line (run_item_when finish_conds) (run_item_fits finish_conds finish_conds_fit)

  trap_line : is_tidy ns (item_text ns trap_item) ≡ true
  trap_line = item_line trap_item trap_fits

  next_tidy : Tidy ns (next_texts ns)
  next_tidy = followed (steps_texts ns guard_steps) (cmd_text (run_command ns) ∷ end_texts ns) (steps_lines guard_steps guard_fits) (and_both _ _ run_line (and_both _ _ finish_line (and_both _ _ trap_line refl)))

  go_tidy : Tidy ns (go_texts ns)
  go_tidy = and_both _ _ round_line (and_both _ _ (left_line 0 go_name (omega arith) refl) refl)

  group_tidy : (piece : ℕ) → piece < 200000000 → Tidy ns (group_texts ns piece)
  group_tidy piece h =
      followed (rounds_texts ns 8) (steps_texts ns (give_back ∷ []) ++ (cmd_text (group_command ns piece) ∷ [])) (rounds_lines 8)
      (followed (steps_texts ns (give_back ∷ [])) (cmd_text (group_command ns piece) ∷ []) (steps_lines (give_back ∷ []) give_back_fits) (and_both _ _ (left_line (group_room piece) group_name (omega arith) refl) refl))

  tick_tidy : (piece : ℕ) → piece < 200000000 → Tidy ns (tick_texts ns piece)
  tick_tidy piece h =
      followed (steps_texts ns guard_steps) (cmd_text (budget_command ns) ∷ (steps_texts ns (reserve_steps piece) ++ rounds_commands ns piece)) (steps_lines guard_steps guard_fits)
      (and_both _ _ (fitting_tidy ns n _ (budget_fitting ns n))
      (followed (steps_texts ns (reserve_steps piece)) (rounds_commands ns piece) (steps_lines (reserve_steps piece) (reserve_fits piece (omega arith)))
      (and_both _ _ (left_line (group_room piece) group_name (omega arith) refl) (and_both _ _ (left_line 0 go_name (omega arith) refl) (and_both _ _ finish_line (and_both _ _ trap_line refl))))))

  load_tidy : Tidy ns (load_texts ns)
  load_tidy =
      followed (steps_texts ns load_guard) (cmd_text (load_objective ns) ∷ (cmd_text (load_frame ns) ∷ steps_texts ns load_steps)) (steps_lines load_guard load_guard_fits)
      (and_both _ _ (fitting_tidy ns n _ (objective_fitting ns n)) (and_both _ _ (fitting_tidy ns n _ (frame_fitting ns n)) (steps_lines load_steps load_fits)))

  trap_tidy : Tidy ns (trap_texts ns)
  trap_tidy = items_tidy ns n (steps_items trap_steps) trap_items_fit

  call_tidy : (f : ℕ) → f < 2147483648 → Tidy ns (call_texts ns f)
  call_tidy f h = steps_lines (call_steps f) (call_fits f h)

  -- ---- the macro line

  -- a macro line whose placeholders are filled by a digit says a command
  filled_by : (ps : List PatternPart) (d : Text) (x : Cmd) → line_said (line_text (pattern ps)) ≡ Some (pattern ps) → parts_by d ps ≡ cmd_text x → Fitting ns n x → is_tidy_by ns d (line_text (pattern ps)) ≡ true
  filled_by ps d x r e f =
      ap (λ q. says_tidy ns (option_and_then (λ l. line_said (text_by d (line_text (pattern ps)) l)) q)) r
      ∙ ap (λ t. says_tidy ns (line_said t)) e
      ∙ ap (says_tidy ns) (fitting_speaks ns n x f) ∙ f.own

  macro_line : (ps : List PatternPart) (x y : Cmd) → line_said (line_text (pattern ps)) ≡ Some (pattern ps) → lacks 34 (line_text (pattern ps)) ≡ true
      → parts_by (48 ∷ []) ps ≡ cmd_text x → parts_by (49 ∷ []) ps ≡ cmd_text y → Fitting ns n x → Fitting ns n y → is_tidy ns (line_text (pattern ps)) ≡ true
  macro_line ps x y r b e g f h = and_both _ _ b (and_both _ _ (filled_by ps (48 ∷ []) x r e f) (filled_by ps (49 ∷ []) y r g h))

  call_fitting : (f : Text) → is_function_name f ≡ true → Fitting ns n (plain (call (full_name ns f)))
  call_fitting f h = item_fitting ns n (call_item f no_more) (and_both _ _ h refl)

  run_bare : lacks 34 (line_text (pattern (run_pattern ns))) ≡ true
  run_bare = ap (lacks 34) (run_spelled ns) ∙ (joined (word (codes "$function ") refl) (joined (namespace_clean ns n) (word (codes ":f$(i)_$(j)") refl))).bare

  run_parts : (d : Text) → parts_by d (run_pattern ns) ≡ codes "function " ++ full_name ns (codes "f" ++ (d ++ (codes "_" ++ d)))
  run_parts d = simp (append_assoc, append-nil)

  run_tidy : Tidy ns (run_texts ns)
  run_tidy = and_both _ _ (macro_line (run_pattern ns) _ _ (run_says ns n) run_bare (run_parts (48 ∷ [])) (run_parts (49 ∷ [])) (call_fitting (codes "f0_0") refl) (call_fitting (codes "f1_1") refl)) refl

  -- ---- all functions

  calls_tidy : (k : ℕ) (fs : List ℕ) → list_all (λ f. nat_lt f 2147483648) fs ≡ true → AllTidy ns (call_functions ns k fs)
  calls_tidy k [] h = tt
  calls_tidy k (f ∷ fs) h = (call_tidy f (ltb-true f 2147483648 (and_first _ _ h)), calls_tidy (suc k) fs (and_second (nat_lt f 2147483648) _ h))

  pub functions_tidy : (piece : ℕ) → piece < 200000000 → (exports : List ℕ) → list_all (λ f. nat_lt f 2147483648) exports ≡ true → AllTidy ns (sched_functions ns piece exports)
  functions_tidy piece h exports g = (load_tidy, (tick_tidy piece h, (go_tidy, (group_tidy piece h, (next_tidy, (run_tidy, (trap_tidy, calls_tidy 0 exports g)))))))

-- ---- their names

call_named : (k : ℕ) → k < 2147483648 → is_function_name (call_name k) ≡ true
call_named k h = name_fits 99 (decimal k) 12 (both_names (name_of (codes "c") refl) (digits_name k h)) (omega arith)

calls_named : (ns : Text) (k : ℕ) (fs : List ℕ) → k + length fs < 2147483648 → list_all (λ h. is_function_name h.name) (call_functions ns k fs) ≡ true
calls_named ns k [] h = refl
calls_named ns k (f ∷ fs) h = and_both _ _ (call_named k (omega arith)) (calls_named ns (suc k) fs (omega arith))

pub functions_named : (ns : Text) (piece : ℕ) (exports : List ℕ) → length exports < 2147483648 → list_all (λ h. is_function_name h.name) (sched_functions ns piece exports) ≡ true
functions_named ns piece exports h = calls_named ns 0 exports (let x : 0 + length exports < 2147483648 = omega arith in x)
