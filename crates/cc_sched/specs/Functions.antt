-- The functions of the scheduler as a list, in the order in which they are emitted.
use Rattle.std.specs.Prelude.{ℕ, suc, List, [], ◌∷◌, ◌++◌}
use Rattle.mc_cmd.specs.Form.{Text}
use Rattle.mc_cmd.specs.Chain.{Texts}
use Rattle.cc_line.specs.Item.{Helper}
use Rattle.cc_sched.specs.Names.{call_name, go_name, group_name, load_name, next_name, run_name, tick_name, trap_name}
use Rattle.cc_sched.specs.Sched.{call_texts, go_texts, group_texts, load_texts, next_texts, run_texts, tick_texts}
use Rattle.cc_sched.specs.Sched.{trap_texts}

-- a function by its name without the namespace, and its lines
abbrev pub function : Text → Texts → Helper
function name lines = record { name = name; lines = lines }

-- the functions that call exports, numbered from k on, by the index of each export's function
abbrev pub call_functions : Text → ℕ → List ℕ → List Helper
call_functions ns k [] = []
call_functions ns k (f ∷ fs) = function (call_name k) (call_texts ns f) ∷ call_functions ns (suc k) fs

-- the functions that begin chains, and rounds
abbrev pub chain_functions : Text → ℕ → List Helper
chain_functions ns piece =
    function load_name (load_texts ns)
    ∷ (function tick_name (tick_texts ns piece)
    ∷ (function go_name (go_texts ns)
    ∷ (function group_name (group_texts ns piece) ∷ (function next_name (next_texts ns) ∷ []))))

-- all of them under a namespace, where a piece weighs at most so much
abbrev pub sched_functions : Text → ℕ → List ℕ → List Helper
sched_functions ns piece exports =
    chain_functions ns piece
    ++ (function run_name (run_texts ns) ∷ (function trap_name (trap_texts ns) ∷ call_functions ns 0 exports))
