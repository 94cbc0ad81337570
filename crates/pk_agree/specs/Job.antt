-- The job that a pack is at: instantiation first, and then each call that it takes.
use Rattle.std.specs.Prelude.{◌≡◌, ◌≤◌, ℕ, ◌+◌, ◌-◌, ◌/◌, List, [], ◌∷◌, Option, Some, None, Bool, true, false}
use Rattle.std.specs.Prelude.{slice_get}
use Rattle.mc_nbt.specs.declared.value.Value.{Value}
use Rattle.mc_cmd.specs.declared.TheConstants.{BMIN}
use Rattle.mc_cmd.specs.Layout.{Answer, new, done, trap, answer}
use Rattle.mc_cmd.specs.Pack.{Pack, Event, call, tick, reload, other, Standing, happen, loaded}
use Rattle.wm_ast.specs.declared.module.Module.{Module}
use Rattle.wm_ast.specs.After.{after, IsNext, Outcome, Ends, Traps, Runs, HasOutcome}
use Rattle.wm_ast.specs.Configuration.{Config}
use Rattle.wm_ast.specs.Instance.{first_config, export_config}
use Rattle.wm_ast.specs.Store.{Store}
use Rattle.wm_flat.specs.FlatTyping.{least_pages}

-- A job: how many steps pass before the first one of its configuration, the configuration, whether the job is
-- instantiation, the credit that ticks have given it, and whether a tick has come since it began.
pub record Job : Type 0 where
  pub offset : ℕ
  pub config : Config
  pub instantiates : Bool
  pub credit : ℕ
  pub ticked : Bool

-- instantiation has steps before the start function's: one for each page that the memory has at least, and four
abbrev pub first_offset : Module → ℕ
first_offset m = least_pages (slice_get m.mems 0) + 4

-- the first job of a program (4.5.4)
abbrev pub first_job : Module → Job
first_job m = record {
  offset = first_offset m;
  config = first_config m;
  instantiates = true;
  credit = 0;
  ticked = false;
}

-- the job of a call with this configuration (4.5.5)
abbrev pub call_job : Config → Job
call_job c = record { offset = 0; config = c; instantiates = false; credit = 0; ticked = false }

-- a job after a tick with a budget: each whole BMIN of it is a credit
abbrev pub ticked_job : Job → ℕ → Job
ticked_job j b = record j { credit = j.credit + b / BMIN; ticked = true }

-- the job is over within so many steps: its configuration has ended or trapped then
abbrev pub IsOverWithin : Module → Job → ℕ → Type 0
IsOverWithin m j n = (j.offset ≤ n) × (IsNext (after m j.config (n - j.offset)) → ⊥)

-- ---- events

-- the pack has answered, and takes a call
abbrev pub IsAtRest : Option Answer → Type 0
IsAtRest (Some new) = Unit {0}
IsAtRest (Some (done v)) = Unit {0}
IsAtRest (Some (trap n)) = Unit {0}
IsAtRest _ = ⊥

-- the store in which an outcome leaves a job
abbrev pub left_by : Outcome → Option Store
left_by (Ends vs s) = Some s
left_by (Traps k s) = Some s
left_by Runs = None

-- What a call of an export makes of the job, by the answer before it. Where the pack is at rest, and the job has ended
-- or trapped, a new job begins over the store that this left. Else the job stays.
pub data AfterCall (m : Module) (a : Option Answer) (j : Job) (k : ℕ) (args : List Value) : Job → Type 0 where
  begins : (x : Outcome) (s : Store) (c : Config) → IsAtRest a → HasOutcome m j.config x → left_by x ≡ Some s
      → export_config m s k args ≡ Some c → AfterCall m a j k args (call_job c)
  stays : (IsAtRest a → HasOutcome m j.config Runs) → AfterCall m a j k args j

-- what an event makes of the job, by the answer before it
abbrev pub AfterEvent : Module → Option Answer → Job → Event → Job → Type 0
AfterEvent m a j (call k args) i = AfterCall m a j k args i
AfterEvent m a j (tick b) i = i ≡ ticked_job j b
AfterEvent m a j (reload b) i = i ≡ j
AfterEvent m a j (other c) i = i ≡ j

-- events lead from a standing of the pack and a job to this job
abbrev pub AfterEvents : Module → Pack → Standing → Job → List Event → Job → Type 0
AfterEvents m pack s j [] i = i ≡ j
AfterEvents m pack s j (e ∷ es) i =
    (h : Job) × AfterEvent m (answer pack.index.ns s.world) j e h × AfterEvents m pack (happen pack s e) h es i

-- the job that stands after these events, from loading on
abbrev pub IsPresent : Module → Pack → List Event → Job → Type 0
IsPresent m pack events j = AfterEvents m pack (loaded pack) (first_job m) events j
