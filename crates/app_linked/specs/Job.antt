-- The job that linked modules are at, over the events of a pack: as `Job` of `pk_agree`, by the linked reduction.
use Rattle.std.specs.Prelude.{◌≡◌, ◌≤◌, ℕ, ◌+◌, ◌-◌, ◌/◌, List, [], ◌∷◌, Option, Some, Bool, true, false}
use Rattle.mc_nbt.specs.declared.value.Value.{Value}
use Rattle.mc_cmd.specs.declared.TheConstants.{BMIN}
use Rattle.mc_cmd.specs.Layout.{Answer, answer}
use Rattle.mc_cmd.specs.Pack.{Pack, Event, call, tick, reload, other, Standing, happen, loaded}
use Rattle.pk_agree.specs.Job as one
use Rattle.pk_agree.specs.Job.{first_offset, IsAtRest}
use Rattle.wm_match.specs.Program.{Program}
use Rattle.wm_join.specs.Agree.{left_by}
use Rattle.wm_join.specs.Image.{image_config}
use Rattle.wm_join.specs.Joined.{joined}
use Rattle.wm_join.specs.LinkedAfter.{after, IsNext, Outcome, Runs, HasOutcome}
use Rattle.wm_join.specs.LinkedConfiguration.{Config}
use Rattle.wm_join.specs.LinkedInstance.{first_config, export_config}
use Rattle.wm_join.specs.LinkedStore.{Store}

-- A job: how many steps pass before the first one of its configuration, the configuration, whether the job is
-- instantiation, the credit that ticks have given it, and whether a tick has come since it began.
pub record Job : Type 0 where
  pub offset : ℕ
  pub config : Config
  pub instantiates : Bool
  pub credit : ℕ
  pub ticked : Bool

-- the first job of linked modules; the steps before it go with the least pages of the one memory
abbrev pub first_job : Program → Job
first_job p = record {
  offset = first_offset (joined p);
  config = first_config p;
  instantiates = true;
  credit = 0;
  ticked = false;
}

-- the job of a call with this configuration
abbrev pub call_job : Config → Job
call_job c = record { offset = 0; config = c; instantiates = false; credit = 0; ticked = false }

-- a job after a tick with a budget: each whole BMIN of it is a credit
abbrev pub ticked_job : Job → ℕ → Job
ticked_job j b = record j { credit = j.credit + b / BMIN; ticked = true }

-- the job is over within so many steps: its configuration has ended or trapped then
abbrev pub IsOverWithin : Program → Job → ℕ → Type 0
IsOverWithin p j n = (j.offset ≤ n) × (IsNext (after p j.config (n - j.offset)) → ⊥)

-- What a call of an export makes of the job, by the answer before it. Where the pack is at rest, and the job has ended
-- or trapped, a new job begins over the store that this left. Else the job stays.
pub data AfterCall (p : Program) (a : Option Answer) (j : Job) (k : ℕ) (args : List Value) : Job → Type 0 where
  begins : (x : Outcome) (s : Store) (c : Config) → IsAtRest a → HasOutcome p j.config x → left_by x ≡ Some s
      → export_config p s k args ≡ Some c → AfterCall p a j k args (call_job c)
  stays : (IsAtRest a → HasOutcome p j.config Runs) → AfterCall p a j k args j

-- what an event makes of the job, by the answer before it
abbrev pub AfterEvent : Program → Option Answer → Job → Event → Job → Type 0
AfterEvent p a j (call k args) i = AfterCall p a j k args i
AfterEvent p a j (tick b) i = i ≡ ticked_job j b
AfterEvent p a j (reload b) i = i ≡ j
AfterEvent p a j (other c) i = i ≡ j

-- events lead from a standing of the pack and a job to this job
abbrev pub AfterEvents : Program → Pack → Standing → Job → List Event → Job → Type 0
AfterEvents p pack s j [] i = i ≡ j
AfterEvents p pack s j (e ∷ es) i =
    (h : Job) × AfterEvent p (answer pack.index.ns s.world) j e h × AfterEvents p pack (happen pack s e) h es i

-- the job that stands after these events, from loading on
abbrev pub IsPresent : Program → Pack → List Event → Job → Type 0
IsPresent p pack events j = AfterEvents p pack (loaded pack) (first_job p) events j

-- a job of linked modules as one of the joined module
abbrev pub image_job : Program → Job → one.Job
image_job p j = record {
  offset = j.offset;
  config = image_config p j.config;
  instantiates = j.instantiates;
  credit = j.credit;
  ticked = j.ticked;
}
