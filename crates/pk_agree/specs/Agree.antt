-- When a pack does what a module does, whatever lawful events come.
use Rattle.std.specs.Prelude.{◌≡◌, ◌≤◌, ℕ, ◌+◌, ◌*◌, List, [], ◌∷◌, map, filter, Option, Some, None, true, false, codes}
use Rattle.std.specs.Option.{option_to_list}
use Rattle.mc_nbt.specs.Tree.{Tree, key, select}
use Rattle.mc_nbt.specs.declared.value.Value.{Value}
use Rattle.mc_cmd.specs.Form.{Text}
use Rattle.mc_cmd.specs.Layout.{memory_of, Answer, new, running, done, trap, dead, io_value, answer, globals, memory}
use Rattle.mc_cmd.specs.Pack.{ExportType, Pack, Event, call, tick, reload, other, IsLawful, Lawful, Standing, happen}
use Rattle.mc_cmd.specs.Pack.{play}
use Rattle.mc_cmd.specs.World.{World, tree_in}
use Rattle.wm_ast.specs.declared.answer.TrapKind.{TrapKind}
use Rattle.wm_ast.specs.declared.module.Export.{Export}
use Rattle.wm_ast.specs.declared.module.Func.{Func}
use Rattle.wm_ast.specs.declared.module.FuncType.{FuncType}
use Rattle.wm_ast.specs.declared.module.Module.{Module}
use Rattle.wm_ast.specs.After.{Outcome, Ends, Traps, HasOutcome}
use Rattle.wm_ast.specs.Instance.{is_function}
use Rattle.wm_ast.specs.Operation.{kind_type}
use Rattle.wm_ast.specs.Store.{Store}
use Rattle.wm_flat.specs.FlatTyping.{IsFunction}
use Rattle.pk_agree.specs.Job.{Job, IsOverWithin, IsPresent}
use Rattle.cc_line.specs.Routine.{trap_number}

-- ---- the index

-- an entry of the index is the export of a function of these types, under its name
pub record IsExport (m : Module) (e : Export) (x : ExportType) : Type 0 where
  pub func : Func
  pub type : FuncType
  pub is_function : IsFunction m e.index func type
  pub name : x.name ≡ e.name
  pub params : map kind_type x.params ≡ type.params
  pub result : map kind_type (option_to_list x.result) ≡ type.results

-- the entries are these exports, in their order
abbrev pub AreExports : Module → List Export → List ExportType → Type 0
AreExports m [] [] = Unit {0}
AreExports m (e ∷ es) (x ∷ xs) = IsExport m e x × AreExports m es xs
AreExports m es xs = ⊥

-- the functions among the exports, in their order
abbrev pub function_exports : Module → List Export
function_exports m = filter (λ e. is_function e.space) m.exports

-- ---- answers

-- the world shows the globals and the memory of a store
pub record IsPublic (ns : Text) (w : World) (s : Store) : Type 0 where
  pub globals_are : globals ns w ≡ Some s.globals
  pub memory_is : memory ns w ≡ Some s.memory

-- the job came to this, and the world shows the store that it left
pub record CameTo (m : Module) (ns : Text) (w : World) (j : Job) (x : Outcome) (s : Store) : Type 0 where
  pub outcome : HasOutcome m j.config x
  pub public : IsPublic ns w s

-- What an answer tells of the job: `new` that instantiation has ended, and `dead` that it has trapped so; `done` that a
-- call has ended with just this value, or with none, and `trap` that it has trapped so. The world shows the store then.
abbrev pub TellsOfJob : Module → Text → World → Job → Option Answer → Type 0
TellsOfJob m ns w j None = ⊥
TellsOfJob m ns w j (Some running) = Unit {0}
TellsOfJob m ns w j (Some new) =
    (j.instantiates ≡ true) × (vs : List Value) × (s : Store) × CameTo m ns w j (Ends vs s) s
TellsOfJob m ns w j (Some (done v)) =
    (j.instantiates ≡ false) × (s : Store) × CameTo m ns w j (Ends (option_to_list v) s) s
TellsOfJob m ns w j (Some (trap n)) =
    (j.instantiates ≡ false) × (k : TrapKind) × (s : Store) × (n ≡ trap_number k) × CameTo m ns w j (Traps k s) s
TellsOfJob m ns w j (Some (dead n)) =
    (j.instantiates ≡ true) × (k : TrapKind) × (s : Store) × (n ≡ trap_number k) × CameTo m ns w j (Traps k s) s

-- ---- public places

-- what stands in the public places: the state, the result, the trap, the memory and the globals
abbrev pub public_places : Text → World → List (Option Tree)
public_places ns w =
    io_value ns w (codes "state")
    ∷ io_value ns w (codes "result")
    ∷ io_value ns w (codes "trap")
    ∷ select (tree_in w (memory_of ns)) (key (codes "mem") ∷ [])
    ∷ select (tree_in w (memory_of ns)) (key (codes "g") ∷ [])
    ∷ []

-- the pack takes no call: it runs, or it is dead
abbrev pub IsRefusing : Option Answer → Type 0
IsRefusing (Some running) = Unit {0}
IsRefusing (Some (dead n)) = Unit {0}
IsRefusing _ = ⊥

-- Events that change no public place, by the answer before them: a call that isn't taken, a tick of a pack that doesn't
-- run, and any reload and command of somebody else.
abbrev pub IsQuiet : Option Answer → Event → Type 0
IsQuiet a (call k args) = IsRefusing a
IsQuiet a (tick b) = a ≡ Some running → ⊥
IsQuiet a (reload b) = Unit {0}
IsQuiet a (other c) = Unit {0}

-- ---- agreement

-- what holds of a standing of the pack and the job that it is at
pub record IsTrueOf (m : Module) (pack : Pack) (s : Standing) (j : Job) : Type 0 where
  -- no chain was cut
  pub uncut : s.cut ≡ false
  -- the answer tells what the job came to
  pub tells : TellsOfJob m pack.index.ns s.world j (answer pack.index.ns s.world)
  -- where the job is over within n steps, the pack has answered by a credit of 16 * (n + 1)
  pub in_time : (n : ℕ) → IsOverWithin m j n → 16 * (n + 1) ≤ j.credit
      → answer pack.index.ns s.world ≡ Some running → ⊥
  -- before the first tick the pack runs
  pub begun : j.ticked ≡ false → answer pack.index.ns s.world ≡ Some running

-- A pack agrees with a module: its index lists the module's function exports, after each lawful list of events it
-- stands at a job of which all this holds, and a quiet event changes no public place then.
pub record Agrees (m : Module) (pack : Pack) : Type 0 where
  pub exports : AreExports m (function_exports m) pack.index.exports
  pub always : (events : List Event) → Lawful pack.index events
      → (j : Job) × IsPresent m pack events j × IsTrueOf m pack (play pack events) j
  pub quiet : (events : List Event) → Lawful pack.index events → (e : Event) → IsLawful pack.index e
      → IsQuiet (answer pack.index.ns (play pack events).world) e
      → public_places pack.index.ns (happen pack (play pack events) e).world
      ≡ public_places pack.index.ns (play pack events).world
