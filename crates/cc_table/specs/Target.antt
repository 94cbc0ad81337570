-- Calls through the table: the function that an element has, if it has the type that is called (4.4.5.11).
use Rattle.std.specs.Prelude.{ℕ, ◌+◌, List, [], ◌∷◌, ◌++◌, map, ℤ, pos, negsuc, ◌-ℤ◌, Option, Some, None, slice_get}
use Rattle.std.specs.Prelude.{codes}
use Rattle.std.specs.Fmt.{decimal}
use Rattle.mc_cmd.specs.Form.{Text}
use Rattle.mc_cmd.specs.Command.{subtract, up_to}
use Rattle.wm_ast.specs.declared.module.Module.{Module}
use Rattle.wm_ast.specs.Instance.{first_store}
use Rattle.wm_ast.specs.Step.{Target, function, refused, unknown, target_of}
use Rattle.cc_line.specs.Key.{score_trap}
use Rattle.cc_line.specs.Place.{scratch}
use Rattle.cc_line.specs.Routine.{trap_number}
use Rattle.cc_line.specs.Step.{combine, load_place, in_range, Cond, holds, Step, run_act, when, stop_when}
use Rattle.cc_line.specs.Item.{step_item, Items, first, join, steps_items}
use Rattle.cc_call.specs.Frames.{first_opening}
use Rattle.cc_table.specs.Look.{look_by}

-- What an element leads to as a number: the index of the shared piece with which the function opens, or the number
-- of the trap, taken below 0.
abbrev pub target_number : Target → ℤ
target_number (function f) = pos (first_opening + f)
target_number (refused k) = pos 0 -ℤ pos (trap_number k)
target_number unknown = negsuc 0

-- the number of an element, and of none, for calls of the type of this index
abbrev pub element_number : Module → ℕ → Option (Option ℕ) → ℤ
element_number m n e = target_number (target_of m (slice_get m.types n) e)

-- those of the elements of the module's table
abbrev pub call_numbers : Module → ℕ → List ℤ
call_numbers m n = map (λ e. element_number m n (Some e)) (first_store m).table

-- the helper that has them
abbrev pub call_helper : ℕ → Text
call_helper n = codes "h_cc_call_" ++ decimal n

-- a number below 0 is a trap, which is recorded; the items end
abbrev pub is_refused : List Cond
is_refused = holds (in_range (scratch (codes "#c")) (up_to (negsuc 0))) ∷ []

abbrev pub refuse_steps : List Step
refuse_steps =
    when is_refused (combine (scratch score_trap) subtract (scratch (codes "#c"))) ∷ stop_when is_refused ∷ []

-- The element whose index stands in a place: `#c` gets the index of the shared piece with which its function opens, or
-- its trap is recorded.
abbrev pub target_items : Module → ℕ → ℕ → Items
target_items m n i =
    first
    (step_item (run_act (load_place (codes "#a") i)))
    (join (look_by (call_helper n) (call_numbers m n) (element_number m n None)) (steps_items refuse_steps))
