-- What a state of a running pack tells of the activations for which it stands, which the contracts of public functions
-- cite.
use Rattle.std.specs.Prelude.{◌≡◌, ℕ, List}
use Rattle.std.specs.List.{Contains}
use Rattle.wm_ast.specs.declared.module.Module.{Module}
use Rattle.wm_ast.specs.Store.{Store}
use Rattle.wm_valid.specs.Height.{Low}
use Rattle.wm_flat.specs.Flat.{Activation, running, config_of}
use Rattle.wm_flat.specs.Program.{IsProgram}
use Rattle.wm_view.specs.View.{view}
use Rattle.cc_line.specs.Running.{Kept}
use Rattle.cc_line.specs.State.{State}
use Rattle.cc_entries.specs.Law.{AllTell}
use Rattle.cc_cut.specs.declared.table.Cut.{Cut}
use Rattle.cc_cut.specs.Cuts.{function_cuts}
use Rattle.cc_simulate.specs.Callers.{Waiting}
use Rattle.cc_simulate.specs.Stands.{Standing}

-- ---- cuts and callers

-- two cuts of a function with one index are one
abbrev pub IndicesTellCuts : Type 0
IndicesTellCuts = (m : Module) (n : ℕ) (c d : Cut) → Contains (function_cuts m n) c → Contains (function_cuts m n) d
    → c.index ≡ d.index → c ≡ d

-- the same frames below are those of the same callers, whichever functions these wait for
abbrev pub EntriesTellCallers : Type 0
EntriesTellCallers = (m : Module) → IsProgram m → (n k : ℕ) (cs ds : List Activation) (bs : List Kept)
    → Waiting m n cs bs → Waiting m k ds bs → cs ≡ ds

-- the pieces that follow the frames of callers are told by their names
abbrev pub CallersHaveNames : Type 0
CallersHaveNames = (m : Module) → IsProgram m → (n : ℕ) (cs : List Activation) (bs : List Kept) → Waiting m n cs bs
    → AllTell bs

-- ---- activations

-- two activations for which a state stands are one, and so are their callers
abbrev pub OneStanding : Type 0
OneStanding = (m : Module) → IsProgram m → Low m → (cs ds : List Activation) (a b : Activation) (s : State)
    → Standing m cs a s → Standing m ds b s → (cs ≡ ds) × (a ≡ b)

-- so the configurations for which it stands show the same, over whatever stores
abbrev pub OneView : Type 0
OneView = (m : Module) → IsProgram m → Low m → (cs ds : List Activation) (a b : Activation) (s : State) (x y : Store)
    → Standing m cs a s → Standing m ds b s → view (config_of x (running cs a)) ≡ view (config_of y (running ds b))
