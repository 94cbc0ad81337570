-- What turns, ticks, reloads and foreign commands leave.
use Rattle.std.specs.Prelude.{◌≡◌, ◌≤◌, ℕ, ◌/◌, ℤ, pos, [], Some, None, Bool, ◌||◌, false}
use Rattle.mc_cmd.specs.Form.{Text}
use Rattle.mc_cmd.specs.World.{World, empty_world, some_is_in}
use Rattle.mc_cmd.specs.declared.TheConstants.{LOAD_QUOTA}
use Rattle.mc_cmd.specs.Chain.{Functions, chain_from}
use Rattle.mc_cmd.specs.Layout.{full_name}
use Rattle.mc_nbt.specs.Tree.{Tree, int}
use Rattle.mc_cmd.specs.Command.{exactly}
use Rattle.cc_line.specs.Key.{key_state, key_next, key_args, key_end, key_fail, score_trap, PieceId, body_piece}
use Rattle.cc_line.specs.Key.{id_tree}
use Rattle.cc_line.specs.Item.{Items}
use Rattle.cc_line.specs.Sight.{in_io, in_rest, Sight, Shows, SameOutside}
use Rattle.cc_line.specs.State.{State, seen}
use Rattle.cc_line.specs.Step.{run_steps}
use Rattle.cc_sched.specs.Names.{load_name, next_name, tick_name}
use Rattle.cc_sched.specs.Sched.{call_steps, load_steps}
use Rattle.cc_sched.specs.Pieces.{Finishes, Idle, is_one, Rounds, Settled, tick_start, told}

-- The chain of a function isn't cut, and leaves a world that shows this of the namespace and differs from the one
-- before in nothing outside of it.
pub record Whole (functions : Functions) (ns name : Text) (quota : ℕ) (w : World) (v : Sight) : Type 0 where
  pub world : World
  pub left : ℕ
  pub is : chain_from functions (full_name ns name) quota w ≡ record { world = world; left = left; cut = false }
  pub shows : Shows ns world v
  pub outside : SameOutside ns w world

-- A turn whose piece leaves a state isn't cut, and comes to the state to which its end leads from there, whose trap is
-- told, and in which the piece that is next, if any, is none that ends the job.
pub record Turned (functions : Functions) (ns : Text) (program : PieceId → Items) (piece quota : ℕ) (w : World)
    (s : State) : Type 0 where
  pub state : State
  pub whole : Whole functions ns next_name quota w (seen (told state))
  pub finishes : Finishes functions ns program piece s state
  pub settled : Settled functions ns program piece state

-- The number of rounds is at least that of the whole parts of a budget of b, where such a part is at least so much, or
-- the job is over.
pub data IsEnough (b least n : ℕ) (u : State) : Type 0 where
  job_over : Idle u → IsEnough b least n u
  rounds_enough : b / least ≤ n → IsEnough b least n u

-- A tick with a budget of b isn't cut, and comes to a state to which rounds lead, whose trap is told, and in which the
-- piece that is next, if any, is none that ends the job.
pub record Ticked (functions : Functions) (ns : Text) (program : PieceId → Items) (piece least b : ℕ) (w : World)
    (s : State) : Type 0 where
  pub state : State
  pub whole : Whole functions ns tick_name b w (seen (told state))
  pub count : ℕ
  pub rounds : Rounds functions ns program piece count (tick_start piece b s) state
  pub enough : IsEnough b least count (told state)
  pub settled : Settled functions ns program piece state

-- ---- loading

-- a state of which nothing stands but a frame of no places
abbrev pub fresh : State
fresh = record { places = []; scores = λ h. None; keys = λ r k. None }

-- what a pack shows once it is loaded
abbrev pub loaded_state : State
loaded_state = (run_steps load_steps fresh).state

-- the chain of `load` from the empty world isn't cut, and leaves this state
pub record LoadsFirst (functions : Functions) (ns : Text) : Type 0 where
  pub world : World
  pub left : ℕ
  pub is : chain_from functions (full_name ns load_name) LOAD_QUOTA empty_world
      ≡ record { world = world; left = left; cut = false }
  pub shows : Shows ns world (seen loaded_state)

-- ---- a call from outside

-- a call is refused in the states 1 and 4
abbrev pub is_refused : ℤ → Bool
is_refused z = is_one z || some_is_in (exactly (pos 4)) (Some z)

-- the state after the lines of a call
abbrev pub called_state : ℕ → State → State
called_state f s = (run_steps (call_steps f) s).state

-- a job of a function begins with these arguments: no trap is recorded, the states in which it ends are 2 and 3, its
-- first piece is next, and the state is 1
pub record Begun (f : ℕ) (t : Tree) (s : State) : Type 0 where
  pub trap : s.scores score_trap ≡ Some (pos 0)
  pub ends : s.keys in_rest key_end ≡ Some (int (pos 2))
  pub fails : s.keys in_rest key_fail ≡ Some (int (pos 3))
  pub next : s.keys in_rest key_next ≡ Some (id_tree (body_piece f 0))
  pub args : s.keys in_rest key_args ≡ Some t
  pub state : s.keys in_io key_state ≡ Some (int (pos 1))
