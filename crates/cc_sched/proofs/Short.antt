-- The functions of the scheduler can be kept in files, and charges keep items short.
use Rattle.std.proofs.Common.{◌≡◌, ℕ, zero, suc, ◌+◌, ◌≤◌, ◌<◌, List, [], ◌∷◌, ◌++◌, true, refl, arith}
use Rattle.std.specs.Prelude.{codes}
use Rattle.std.specs.List.{AllByRecursion}
use Rattle.mc_nbt.specs.Path.{is_path}
use Rattle.mc_nbt.specs.Word.{is_key}
use Rattle.mc_cmd.specs.Form.{Text}
use Rattle.mc_cmd.specs.Command.{call}
use Rattle.mc_cmd.specs.Grammar.{cmd_text}
use Rattle.mc_cmd.specs.Layout.{full_name}
use Rattle.mc_cmd.specs.Word.{is_function_name, is_namespace}
use Rattle.mc_cmd.proofs.FormLemmas.{and_first, and_second, and_both}
use Rattle.mc_cmd.proofs.PieceLemmas.{IsPiece, joined, space, namespace_piece}
use Rattle.mc_cmd.specs.Lines.{IsShort}
use Rattle.cc_line.specs.Key.{key_next}
use Rattle.cc_line.specs.Sight.{in_rest}
use Rattle.cc_line.specs.State.{at_key}
use Rattle.cc_line.specs.Step.{Step, steps_texts, stop_when}
use Rattle.cc_line.specs.Fit.{conds_fit, step_fits, steps_fit, site_fits}
use Rattle.cc_line.specs.Item.{first, Items, item_most, item_text, items_fit, no_more, step_item, steps_items}
use Rattle.cc_text.specs.Short.{AllShort, item_short, items_short, step_short, steps_short}
use Rattle.cc_text.proofs.ShortSteps.{wide, word, store_piece, behind_piece, step_piece}
use Rattle.cc_text.proofs.ShortItems.{AllPieces, few_lines, pieces_append, items_file_short, step_within, call_piece, fill_piece}
use Rattle.cc_text.proofs.ShortTrees.{body_short, init_short, no_items_short, int_short}
use Rattle.cc_sched.specs.Charge.{charge}
use Rattle.cc_sched.specs.Functions.{call_functions, sched_functions}
use Rattle.cc_sched.specs.Names.{run_name, trap_name, go_name, group_name, score_budget}
use Rattle.cc_sched.specs.Sched.{end_texts, guard_steps, run_call, run_command, finish_command, finish_conds, trap_steps, trap_texts, trap_conds, trap_item, next_texts, run_texts, is_quiet, round_command, rounds_texts, left_conds, left_command, go_texts, group_room, give_back, group_command, group_texts, budget_command, reserve_steps, rounds_commands, tick_texts, load_guard, load_objective, load_frame, load_steps, load_texts, call_steps, call_texts}
use Rattle.cc_sched.proofs.Calls.{call_fits}
use Rattle.cc_sched.proofs.Reloads.{load_fits, load_guard_fits}
use Rattle.cc_sched.proofs.Dispatch.{finish_conds_fit, round_conds_fit}
use Rattle.cc_sched.proofs.Finishing.{trap_fits}
use Rattle.cc_sched.proofs.Ticks.{give_back_fits, left_conds_fit, reserve_fits}
use Rattle.cc_sched.proofs.Turns.{guard_fits}

-- ---- charges

pub charge_short : (k : ℕ) (xs : Items) → items_short xs ≡ true → items_short (charge k xs) ≡ true
charge_short k no_more s = refl
charge_short k (first (step_item (stop_when cs)) xs) s = charge_short 0 xs s
charge_short k (first x xs) s = and_both _ _ (and_first _ _ s) (charge_short (k + item_most x) xs (and_second (item_short x) _ s))

-- ---- functions

next_fits : site_fits (at_key in_rest key_next) ≡ true
unfolding is_path is_key
next_fits = refl

trap_items_fit : items_fit (steps_items trap_steps) ≡ true
trap_items_fit = and_second (is_function_name trap_name) _ (and_second (conds_fit trap_conds) _ trap_fits)

module _ (ns : Text) (n : is_namespace ns ≡ true) where
  steps_pieces : (xs : List Step) → steps_fit xs ≡ true → steps_short xs ≡ true → AllPieces (steps_texts ns xs)
  steps_pieces [] f s = tt
  steps_pieces (x ∷ xs) f s = (
    wide (step_piece ns n 34000 x (and_first _ _ f) (step_within x (and_first _ _ s))) (omega arith),
    steps_pieces xs (and_second (step_fits x) _ f) (and_second (step_short x) _ s),
  )

  run_piece : IsPiece 414000 (cmd_text (run_command ns))
  run_piece = wide (fill_piece ns n run_name (at_key in_rest key_next) refl next_fits) (omega arith)

  trap_piece : IsPiece 414000 (item_text ns trap_item)
  trap_piece = behind_piece ns n 402000 trap_conds (call (full_name ns trap_name)) (and_first (conds_fit trap_conds) _ trap_fits) (wide (call_piece ns n trap_name refl) (omega arith))

  round_piece : IsPiece 414000 (cmd_text (round_command ns))
  round_piece = behind_piece ns n 402000 (is_quiet ∷ []) (run_call ns) round_conds_fit (wide (fill_piece ns n run_name (at_key in_rest key_next) refl next_fits) (omega arith))

  finish_piece : IsPiece 414000 (cmd_text (finish_command ns))
  finish_piece = behind_piece ns n 402000 finish_conds (run_call ns) finish_conds_fit (wide (fill_piece ns n run_name (at_key in_rest key_next) refl next_fits) (omega arith))

  left_piece : (k : ℕ) (f : Text) → k < 2147483648 → is_function_name f ≡ true → IsPiece 414000 (cmd_text (left_command ns k f))
  left_piece k f h g = behind_piece ns n 402000 (left_conds k) (call (full_name ns f)) (left_conds_fit k h) (wide (call_piece ns n f g) (omega arith))

  rounds_pieces : (k : ℕ) → AllPieces (rounds_texts ns k)
  rounds_pieces zero = tt
  rounds_pieces (suc k) = (round_piece, rounds_pieces k)

  budget_piece : IsPiece 414000 (cmd_text (budget_command ns))
  budget_piece =
      wide (joined (word (codes "execute ") refl) (joined (word (codes "store result score ") refl) (joined (word score_budget refl) (joined space (joined (namespace_piece ns n) (joined space (joined (word (codes "run ") refl) (word (codes "gamerule maxCommandChainLength") refl)))))))) (omega arith)

  objective_piece : IsPiece 414000 (cmd_text (load_objective ns))
  objective_piece = wide (joined (word (codes "scoreboard objectives add ") refl) (joined (namespace_piece ns n) (word (codes " dummy") refl))) (omega arith)

  frame_piece : IsPiece 414000 (cmd_text (load_frame ns))
  frame_piece = wide (joined (word (codes "data modify storage ") refl) (joined (store_piece ns in_rest n) (joined space (word (codes "t set value {f:[]}") refl)))) (omega arith)

  -- the macro line
  run_line : AllPieces (run_texts ns)
  run_line = (
    wide (joined (word (codes "$") refl) (joined (joined (word (codes "function ") refl) (joined (namespace_piece ns n) (word (codes ":f") refl))) (word (codes "$(i)_$(j)") refl))) (omega arith),
    tt,
  )

  -- each function
  load_short : IsShort (load_texts ns)
  load_short =
      few_lines (load_texts ns)
      (pieces_append (steps_texts ns load_guard) (cmd_text (load_objective ns) ∷ (cmd_text (load_frame ns) ∷ steps_texts ns load_steps)) (steps_pieces load_guard load_guard_fits refl)
      (objective_piece, (frame_piece, steps_pieces load_steps load_fits (rw (no_items_short, int_short 0 (omega arith), int_short 4 (omega arith), init_short 0 (omega arith), int_short 1 (omega arith)) refl))))
      (omega arith)

  tick_short : (piece : ℕ) → piece ≤ 1000000 → IsShort (tick_texts ns piece)
  tick_short piece h =
      few_lines (tick_texts ns piece)
      (pieces_append (steps_texts ns guard_steps) (cmd_text (budget_command ns) ∷ (steps_texts ns (reserve_steps piece) ++ rounds_commands ns piece)) (steps_pieces guard_steps guard_fits refl)
      (budget_piece, pieces_append (steps_texts ns (reserve_steps piece)) (rounds_commands ns piece) (steps_pieces (reserve_steps piece) (reserve_fits piece (omega arith)) refl) (left_piece (group_room piece) group_name (omega arith) refl, (left_piece 0 go_name (omega arith) refl, (finish_piece, (trap_piece, tt))))))
      (omega arith)

  go_short : IsShort (go_texts ns)
  go_short = few_lines (go_texts ns) (round_piece, (left_piece 0 go_name (omega arith) refl, tt)) (omega arith)

  group_short : (piece : ℕ) → piece ≤ 1000000 → IsShort (group_texts ns piece)
  group_short piece h =
      few_lines (group_texts ns piece)
      (pieces_append (rounds_texts ns 8) (steps_texts ns (give_back ∷ []) ++ (cmd_text (group_command ns piece) ∷ [])) (rounds_pieces 8)
      (pieces_append (steps_texts ns (give_back ∷ [])) (cmd_text (group_command ns piece) ∷ []) (steps_pieces (give_back ∷ []) give_back_fits refl) (left_piece (group_room piece) group_name (omega arith) refl, tt)))
      (omega arith)

  next_short : IsShort (next_texts ns)
  next_short =
      few_lines (next_texts ns)
      (pieces_append (steps_texts ns guard_steps) (cmd_text (run_command ns) ∷ end_texts ns) (steps_pieces guard_steps guard_fits refl) (run_piece, (finish_piece, (trap_piece, tt))))
      (omega arith)

  trap_short : IsShort (trap_texts ns)
  trap_short = items_file_short ns n (steps_items trap_steps) trap_items_fit refl (omega arith)

  call_short : (f : ℕ) → f < 2147483648 → IsShort (call_texts ns f)
  call_short f h =
      few_lines (call_texts ns f)
      (steps_pieces (call_steps f) (call_fits f h) (rw (int_short 2 (omega arith), int_short 3 (omega arith), body_short f 0 h (omega arith), int_short 1 (omega arith)) refl))
      (omega arith)

  calls_short : (k : ℕ) (fs : List ℕ) → AllByRecursion (λ f. f < 2147483648) fs → AllShort (call_functions ns k fs)
  calls_short k [] a = tt
  calls_short k (f ∷ fs) a = (call_short f a.0, calls_short (suc k) fs a.1)

  -- all of them, where these are the functions of exports
  pub functions_short : (piece : ℕ) → piece ≤ 1000000 → (exports : List ℕ) → AllByRecursion (λ f. f < 2147483648) exports → AllShort (sched_functions ns piece exports)
  functions_short piece h exports a = (
    load_short,
    (
      tick_short piece h,
      (
        go_short,
        (
          group_short piece h,
          (
            next_short,
            (
              few_lines (run_texts ns) run_line (omega arith),
              (trap_short, calls_short 0 exports a),
            ),
          ),
        ),
      ),
    ),
  )
