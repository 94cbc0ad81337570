-- What a running pack stands for, also in the middle of an instruction.
use Rattle.std.specs.Prelude.{◌≡◌, ◌≤◌, ◌<◌, ℕ, ◌+◌, ◌*◌, List, Some}
use Rattle.mc_nbt.specs.declared.value.Value.{Value}
use Rattle.mc_cmd.specs.Form.{Text}
use Rattle.mc_cmd.specs.Layout.{running, answer}
use Rattle.mc_cmd.specs.Pack.{Pack, Event, Lawful, play}
use Rattle.mc_cmd.specs.World.{World}
use Rattle.wm_ast.specs.declared.module.Func.{Func}
use Rattle.wm_ast.specs.declared.module.FuncType.{FuncType}
use Rattle.wm_ast.specs.declared.module.Module.{Module}
use Rattle.wm_ast.specs.After.{after}
use Rattle.wm_ast.specs.Configuration.{Config}
use Rattle.wm_ast.specs.Instance.{call_config}
use Rattle.wm_ast.specs.Step.{Next}
use Rattle.wm_ast.specs.Store.{Store}
use Rattle.wm_flat.specs.Flat.{Activation, config_of}
use Rattle.wm_flat.specs.Flat as machine
use Rattle.wm_flat.specs.FlatTyping.{IsFunction}
use Rattle.cc_line.specs.Key.{init_piece}
use Rattle.cc_line.specs.Running.{NextPiece}
use Rattle.cc_line.specs.Sight.{Shows}
use Rattle.cc_line.specs.State.{State, seen}
use Rattle.cc_pieces.specs.Law.{most_takers}
use Rattle.cc_simulate.specs.Stands.{Standing, Entering, Taking}
use Rattle.pk_agree.specs.Job.{Job, IsPresent}

-- The world shows a state of the pack that stands for a configuration of the reduction (4.2.13).
pub data StandsFor (m : Module) (ns : Text) (w : World) (c : Config) : Type 0 where
  -- A piece is next that goes on with an activation: that of a cut, that which makes its frame, one that fetches its
  -- arguments, that which restores its frame behind a call, that which puts the value of a branch that has been taken
  -- to its place, or that which appends pages to a memory that grows. The configuration is the activation's over its
  -- callers, whose frames are below: an instruction is next, or the end of a sequence.
  at_standing : (s : Store) (cs : List Activation) (a : Activation) (p : State) → Shows ns w (seen p)
      → Standing m cs a p → c ≡ config_of s (machine.running cs a) → StandsFor m ns w c
  -- The first piece of a function of the module is next, which makes the frame. The configuration is the call.
  at_entry : (s : Store) (n : ℕ) (f : Func) (t : FuncType) (args : List Value) (p : State) → Shows ns w (seen p)
      → IsFunction m n f t → Entering m n args p → c ≡ call_config s n args → StandsFor m ns w c
  -- One of the few shared pieces is next that take arguments into the frame. It continues the call.
  at_taker : (s : Store) (n : ℕ) (f : Func) (t : FuncType) (args : List Value) (zeros k : ℕ) (p : State)
      → Shows ns w (seen p) → IsFunction m n f t → k < most_takers → Taking m n args zeros k p
      → c ≡ call_config s n args → StandsFor m ns w c

-- Where a running pack is in its job. A piece of instantiation is next, and the credit is at most 16 for each of its
-- steps and one more. Or the world stands for what the job has come to after n steps, and the credit is at most 16 for
-- each of these and one more, and those before.
pub data Resumes (m : Module) (ns : Text) (w : World) (j : Job) : Type 0 where
  in_instantiation : (i : ℕ) → NextPiece w ns (init_piece i) → j.credit ≤ 16 * (j.offset + 1) → Resumes m ns w j
  in_configuration : (n : ℕ) (c : Config) → after m j.config n ≡ Next c → StandsFor m ns w c
      → j.credit ≤ 16 * (n + 1 + j.offset) → Resumes m ns w j

-- after each lawful list of events after which the pack runs, it is in the job that stands then
pub record Resumable (m : Module) (pack : Pack) : Type 0 where
  pub always : (events : List Event) → Lawful pack.index events
      → (j : Job) × IsPresent m pack events j
      × (answer pack.index.ns (play pack events).world ≡ Some running
      → Resumes m pack.index.ns (play pack events).world j)
