-- The scheduler's functions: their lines under a namespace. What can be said by items is said by items; the rest are
-- commands by hand: macro lines that name functions, the rule, the objective, and rounds that call themselves.
use Rattle.std.specs.Prelude.{◌≡◌, ℕ, zero, suc, ◌+◌, List, [], ◌∷◌, ◌++◌, ℤ, pos, negsuc, ◌*◌, Some, codes}
use Rattle.mc_nbt.specs.Tree.{key, int, list, no_items}
use Rattle.mc_cmd.specs.Form.{Text}
use Rattle.mc_cmd.specs.Command.{exactly, from, store_score, chain_length, call, call_with, objective_add}
use Rattle.mc_cmd.specs.Command.{set_value, Simple, Cmd, plain, execute, PatternPart, literal, hole, pattern}
use Rattle.mc_cmd.specs.Grammar.{cmd_text, line_text}
use Rattle.mc_cmd.specs.Chain.{Texts, Functions}
use Rattle.mc_cmd.specs.Layout.{full_name}
use Rattle.cc_line.specs.Sight.{in_io, in_rest, store_id}
use Rattle.cc_line.specs.Place.{scratch}
use Rattle.cc_line.specs.Key.{key_state, key_trap, key_next, key_frame, key_below, key_args, key_end, key_fail}
use Rattle.cc_line.specs.Key.{key_ends, score_trap, PieceId, body_piece, init_piece, id_tree}
use Rattle.cc_line.specs.State.{Site, at_key, frame_tree}
use Rattle.cc_line.specs.Step.{Act, set_spot, increase, decrease, load_site, keep_site, set_site, copy_site, in_range}
use Rattle.cc_line.specs.Step.{stands, Cond, holds, fails, Step, run_act, stop_when, cond_subs, steps_texts}
use Rattle.cc_line.specs.Item.{Item, call_when, steps_items, item_text, items_texts}
use Rattle.cc_sched.specs.Names.{run_name, trap_name, next_name, go_name, group_name, tick_name, load_name}
use Rattle.cc_sched.specs.Names.{score_state, score_budget}

-- ---- a turn

abbrev pub state_site : Site
state_site = at_key in_io key_state

abbrev pub read_state : Step
read_state = run_act (load_site score_state state_site)

-- the number of the state that was read
abbrev pub is_in_state : ℤ → Cond
is_in_state z = holds (in_range (scratch score_state) (exactly z))

abbrev pub is_running : Cond
is_running = is_in_state (pos 1)

-- the list of lines ends here in another state than 1
abbrev pub stop_unless_running : Step
stop_unless_running = stop_when (fails (in_range (scratch score_state) (exactly (pos 1))) ∷ [])

-- nothing is done in another state than 1
abbrev pub guard_steps : List Step
guard_steps = read_state ∷ (stop_unless_running ∷ [])

-- the piece that is next
abbrev pub run_call : Text → Simple
run_call ns = call_with (full_name ns run_name) (store_id ns in_rest) (key key_next ∷ [])

abbrev pub run_command : Text → Cmd
run_command ns = plain (run_call ns)

-- a recorded trap is told, and the job ends in the state of its traps
abbrev pub trap_steps : List Step
trap_steps =
    run_act (keep_site (at_key in_io key_trap) score_trap)
    ∷ (run_act (copy_site state_site (at_key in_rest key_fail)) ∷ [])

-- the lines that tell a trap
abbrev pub trap_texts : Text → Texts
trap_texts ns = items_texts ns (steps_items trap_steps)

abbrev pub trap_conds : List Cond
trap_conds = holds (in_range (scratch score_trap) (from (pos 1))) ∷ []

abbrev pub trap_item : Item
trap_item = call_when trap_conds trap_name (steps_items trap_steps)

-- nothing has trapped, and the job isn't over
abbrev pub is_quiet : Cond
is_quiet = holds (in_range (scratch score_trap) (exactly (pos 0)))

-- what tells in the name of the piece that is next that it ends the job
abbrev pub ends_site : Site
ends_site = record { store = in_rest; name = key_next; parts = key key_ends ∷ [] }

abbrev pub finish_conds : List Cond
finish_conds = is_quiet ∷ (holds (stands ends_site) ∷ [])

-- at the end of a turn and of a tick: where the job runs on, and the piece that is next ends it, that one is run too
abbrev pub finish_command : Text → Cmd
finish_command ns = execute (cond_subs ns finish_conds) (run_call ns)

-- the lines that end a turn and a tick
abbrev pub end_texts : Text → Texts
end_texts ns = cmd_text (finish_command ns) ∷ (item_text ns trap_item ∷ [])

abbrev pub next_texts : Text → Texts
next_texts ns = steps_texts ns guard_steps ++ (cmd_text (run_command ns) ∷ end_texts ns)

-- ---- the dispatch: a macro line that takes the two numbers of the piece's name

abbrev pub run_pattern : Text → List PatternPart
run_pattern ns =
    literal (codes "function " ++ full_name ns (codes "f"))
    ∷ (hole (codes "i") ∷ (literal (codes "_") ∷ (hole (codes "j") ∷ [])))

abbrev pub run_texts : Text → Texts
run_texts ns = line_text (pattern (run_pattern ns)) ∷ []

-- ---- a tick

-- a round: the piece that is next, where there is one
abbrev pub round_command : Text → Cmd
round_command ns = execute (cond_subs ns (is_quiet ∷ [])) (run_call ns)

-- a function is called while the job runs and so much of the budget is left
abbrev pub left_conds : ℕ → List Cond
left_conds n = holds (in_range (scratch score_budget) (from (pos n))) ∷ (is_quiet ∷ [])

abbrev pub left_command : Text → ℕ → Text → Cmd
left_command ns n name = execute (cond_subs ns (left_conds n)) (call (full_name ns name))

-- rounds one at a time, while something of the budget is left
abbrev pub go_command : Text → Cmd
go_command ns = left_command ns 0 go_name

abbrev pub go_texts : Text → Texts
go_texts ns = cmd_text (round_command ns) ∷ (cmd_text (go_command ns) ∷ [])

-- so many rounds with no test between them
abbrev pub rounds_texts : Text → ℕ → Texts
rounds_texts ns zero = []
rounds_texts ns (suc k) = cmd_text (round_command ns) ∷ rounds_texts ns k

-- what eight heaviest pieces take with their rounds
abbrev pub group_room : ℕ → ℕ
group_room piece = 8 * piece

-- eight rounds, which have paid for eight tests, and spend one and this line; and then the next eight
abbrev pub give_back : Step
give_back = run_act (increase (scratch score_budget) 13)

abbrev pub group_command : Text → ℕ → Cmd
group_command ns piece = left_command ns (group_room piece) group_name

abbrev pub group_texts : Text → ℕ → Texts
group_texts ns piece =
    rounds_texts ns 8 ++ (steps_texts ns (give_back ∷ []) ++ (cmd_text (group_command ns piece) ∷ []))

-- the budget is the rule's
abbrev pub budget_command : Text → Cmd
budget_command ns = execute (store_score score_budget ns ∷ []) chain_length

-- what a tick keeps back for its last piece, the round of it and what begins and ends a tick, where a piece weighs at
-- most so much with a turn
abbrev pub reserve : ℕ → ℕ
reserve piece = piece + 10

-- so much of the budget is kept back
abbrev pub keep_back : ℕ → Step
keep_back n = run_act (decrease (scratch score_budget) n)

abbrev pub reserve_steps : ℕ → List Step
reserve_steps piece = keep_back (reserve piece) ∷ []

-- rounds, eight at a time where the budget has room for the heaviest pieces, and then one at a time
abbrev pub rounds_commands : Text → ℕ → Texts
rounds_commands ns piece = cmd_text (group_command ns piece) ∷ (cmd_text (go_command ns) ∷ end_texts ns)

abbrev pub tick_texts : Text → ℕ → Texts
tick_texts ns piece =
    steps_texts ns guard_steps
    ++ (cmd_text (budget_command ns) ∷ (steps_texts ns (reserve_steps piece) ++ rounds_commands ns piece))

-- ---- the end of a job

-- the act with which a piece ends the job: the trap score says that no piece is next
abbrev pub end_rounds : Act
end_rounds = set_spot (scratch score_trap) (negsuc 0)

-- ---- loading

-- a pack that was loaded before has a state
abbrev pub load_guard : List Step
load_guard = stop_when (holds (stands state_site) ∷ []) ∷ []

abbrev pub load_objective : Text → Cmd
load_objective ns = plain (objective_add ns)

-- a frame of no places
abbrev pub load_frame : Text → Cmd
load_frame ns = plain (set_value (store_id ns in_rest) (key key_frame ∷ []) (frame_tree []))

abbrev pub set_int : Site → ℕ → Step
set_int p n = run_act (set_site p (int (pos n)))

abbrev pub set_next : PieceId → Step
set_next i = run_act (set_site (at_key in_rest key_next) (id_tree i))

-- a job whose ends are these states begins with this piece
abbrev pub job_steps : ℕ → ℕ → PieceId → List Step
job_steps end fail i =
    run_act (set_spot (scratch score_trap) (pos 0))
    ∷ (set_int (at_key in_rest key_end) end
    ∷ (set_int (at_key in_rest key_fail) fail ∷ (set_next i ∷ (set_int state_site 1 ∷ []))))

-- instantiation ends in the state 0, or in 4 with a trap
abbrev pub load_steps : List Step
load_steps = run_act (set_site (at_key in_rest key_below) (list no_items)) ∷ job_steps 0 4 (init_piece 0)

abbrev pub load_texts : Text → Texts
load_texts ns =
    steps_texts ns load_guard
    ++ (cmd_text (load_objective ns) ∷ (cmd_text (load_frame ns) ∷ steps_texts ns load_steps))

-- ---- a call from outside: refused while a job runs, and where instantiation has trapped

abbrev pub args_site : Site
args_site = at_key in_io (codes "args")

-- the arguments are taken, and a job begins that ends in the state 2, or in 3 with a trap
abbrev pub take_args : Step
take_args = run_act (copy_site (at_key in_rest key_args) args_site)

abbrev pub begin_steps : ℕ → List Step
begin_steps f = take_args ∷ job_steps 2 3 (body_piece f 0)

abbrev pub is_dead : Cond
is_dead = is_in_state (pos 4)

abbrev pub call_steps : ℕ → List Step
call_steps f = read_state ∷ (stop_when (is_running ∷ []) ∷ (stop_when (is_dead ∷ []) ∷ begin_steps f))

abbrev pub call_texts : Text → ℕ → Texts
call_texts ns f = steps_texts ns (call_steps f)

-- a pack has the scheduler's functions under the namespace, where a piece weighs at most so much
pub record HasSched (functions : Functions) (ns : Text) (piece : ℕ) : Type 0 where
  pub next : functions (full_name ns next_name) ≡ Some (next_texts ns)
  pub runs : functions (full_name ns run_name) ≡ Some (run_texts ns)
  pub traps : functions (full_name ns trap_name) ≡ Some (trap_texts ns)
  pub ticks : functions (full_name ns tick_name) ≡ Some (tick_texts ns piece)
  pub goes : functions (full_name ns go_name) ≡ Some (go_texts ns)
  pub groups : functions (full_name ns group_name) ≡ Some (group_texts ns piece)
  pub loads : functions (full_name ns load_name) ≡ Some (load_texts ns)
