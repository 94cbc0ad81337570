-- The joined module does what the linked modules do.
use Rattle.std.specs.Prelude.{◌≡◌, ℕ, ◌<◌, List, length, All, Option, Some, None, option_map, slice_get}
use Rattle.mc_nbt.specs.declared.value.Value.{Value}
use Rattle.wm_ast.specs.declared.module.Elem.{Elem}
use Rattle.wm_ast.specs.declared.module.Global.{Global}
use Rattle.wm_ast.specs.declared.module.Module.{Module}
use Rattle.wm_ast.specs.After as one_after
use Rattle.wm_ast.specs.Configuration as one
use Rattle.wm_ast.specs.Instance as one_instance
use Rattle.wm_ast.specs.Instance.{first_value}
use Rattle.wm_ast.specs.Store as one_store
use Rattle.wm_match.specs.Program.{Program}
use Rattle.wm_join.specs.Image.{HasGlobals, image_store, image_config, image_progress, image_outcome}
use Rattle.wm_join.specs.Joined.{joined}
use Rattle.wm_join.specs.LinkedAfter.{after, Outcome, Ends, Traps, Runs, HasOutcome}
use Rattle.wm_join.specs.LinkedConfiguration.{Config}
use Rattle.wm_join.specs.LinkedInstance.{first_store, first_config, export_config}
use Rattle.wm_join.specs.LinkedStep.{Progress, Next, Ended, Trapped, Stuck}
use Rattle.wm_join.specs.LinkedStore.{Store}

-- the store of what a configuration comes to has as many globals of each module as the module
abbrev pub Fits : Program → Progress → Type 0
Fits p (Next c) = HasGlobals p c.store
Fits p (Ended vs s) = HasGlobals p s
Fits p (Trapped k s) = HasGlobals p s
Fits p Stuck = Unit {0}

-- From linked stores of these modules on, the joined module does what the linked ones do, step by step.
pub record RunsAlike (p : Program) : Type 0 where
  -- the calls of the main module's exports are those of the joined module's
  pub calls : (s : Store) (k : ℕ) (arguments : List Value)
      → one_instance.export_config (joined p) (image_store p s) k arguments
      ≡ option_map (image_config p) (export_config p s k arguments)
  -- after each number of steps the one is the image of the other
  pub runs : (c : Config) (n : ℕ)
      → HasGlobals p c.store
      → one_after.after (joined p) (image_config p c) n ≡ image_progress p (after p c n)
  -- so the next call can be made of the store that is left
  pub keeps : (c : Config) (n : ℕ) → HasGlobals p c.store → Fits p (after p c n)

-- They begin alike, with the call of the start function.
pub record BeginsAlike (p : Program) : Type 0 where
  pub store : HasGlobals p (first_store p)
  pub config : one_instance.first_config (joined p) ≡ image_config p (first_config p)

-- the first value of the global is a constant
abbrev pub HasConstant : Global → Type 0
HasConstant g = (v : Value) × (first_value g ≡ Some v)

-- the element segment names functions
abbrev pub NamesFunctions : Module → Elem → Type 0
NamesFunctions m e = All (λ (f : ℕ). f < length m.funcs) e.funcs

-- What of a valid module the beginning rests on.
pub record CanBegin (m : Module) : Type 0 where
  pub globals : (n : ℕ) (g : Global) → slice_get m.globals n ≡ Some g → HasConstant g
  pub elements : (n : ℕ) (e : Elem) → slice_get m.elems n ≡ Some e → NamesFunctions m e

-- Outcomes.

-- the store of an outcome has as many globals of each module as the module
abbrev pub LeavesGlobals : Program → Outcome → Type 0
LeavesGlobals p (Ends vs s) = HasGlobals p s
LeavesGlobals p (Traps k s) = HasGlobals p s
LeavesGlobals p Runs = Unit {0}

-- What becomes of the joined module is the image of what becomes of the linked modules.
pub record IsOutcomeOf (p : Program) (c : Config) (x : one_after.Outcome) : Type 0 where
  pub outcome : Outcome
  pub has : HasOutcome p c outcome
  pub image : x ≡ image_outcome p outcome
  pub leaves : LeavesGlobals p outcome

-- so it is of each configuration that the image of one stands for
abbrev pub OutcomesAgree : Program → Type 0
OutcomesAgree p =
    (c : Config) (x : one_after.Outcome)
    → HasGlobals p c.store
    → one_after.HasOutcome (joined p) (image_config p c) x
    → IsOutcomeOf p c x

-- Calls that follow.

-- the store in which an outcome leaves linked modules
abbrev pub left_by : Outcome → Option Store
left_by (Ends vs s) = Some s
left_by (Traps k s) = Some s
left_by Runs = None

-- the store in which an outcome leaves one module
abbrev pub one_left_by : one_after.Outcome → Option one_store.Store
one_left_by (one_after.Ends vs s) = Some s
one_left_by (one_after.Traps k s) = Some s
one_left_by one_after.Runs = None

-- A configuration of the joined module is the image of a call of an export, over the store in which the linked modules
-- were left.
pub record IsCallAfter (p : Program) (c : Config) (k : ℕ) (arguments : List Value) (d : one.Config) : Type 0 where
  pub outcome : Outcome
  pub has : HasOutcome p c outcome
  pub store : Store
  pub left : left_by outcome ≡ Some store
  pub config : Config
  pub begins : export_config p store k arguments ≡ Some config
  pub image : d ≡ image_config p config
  pub globals : HasGlobals p config.store

-- the next call of the joined module is that of the linked modules
abbrev pub CallsFollow : Program → Type 0
CallsFollow p =
    (c : Config) (x : one_after.Outcome) (s : one_store.Store) (k : ℕ) (arguments : List Value) (d : one.Config)
    → HasGlobals p c.store
    → one_after.HasOutcome (joined p) (image_config p c) x
    → one_left_by x ≡ Some s
    → one_instance.export_config (joined p) s k arguments ≡ Some d
    → IsCallAfter p c k arguments d
