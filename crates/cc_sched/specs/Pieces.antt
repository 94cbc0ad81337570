-- What the scheduler takes of a piece, and what rounds of pieces are.
use Rattle.std.specs.Prelude.{◌≡◌, ◌≤◌, ℕ, zero, suc, ◌+◌, ◌-◌, ℤ, pos, negsuc, Some, Bool, true, false}
use Rattle.mc_nbt.specs.Tree.{int}
use Rattle.mc_cmd.specs.declared.TheConstants.{PIECE}
use Rattle.mc_cmd.specs.Form.{Text}
use Rattle.mc_cmd.specs.Command.{exactly}
use Rattle.mc_cmd.specs.World.{some_is_in}
use Rattle.mc_cmd.specs.Chain.{Functions}
use Rattle.mc_cmd.specs.Layout.{full_name}
use Rattle.cc_line.specs.Sight.{in_io, in_rest}
use Rattle.cc_line.specs.Key.{key_state, key_next, score_trap, PieceId, body_piece, id_tree}
use Rattle.cc_line.specs.State.{State, with_score}
use Rattle.cc_line.specs.Step.{after_step, run_steps}
use Rattle.cc_line.specs.Item.{call_item, Items, no_more, first, run_item, run_items, items_most, items_fit}
use Rattle.cc_line.specs.Item.{items_texts, items_helpers, HasAll, ItemsReady}
use Rattle.cc_sched.specs.Names.{piece_name, routine_name, PieceFits, is_end, score_budget}
use Rattle.cc_sched.specs.Charge.{Charged}
use Rattle.cc_sched.specs.Sched.{give_back, read_state, trap_item, reserve_steps}

-- what a piece that ends the job may weigh
abbrev pub end_weight : ℕ
end_weight = 9

-- what a turn spends besides its piece: guard 4, dispatch 2, and its end 14: the line that runs the piece that ends the
-- job 3, that piece, and the test for a trap 2; where no such piece is next, that line 2 and a trap 5
abbrev pub turn_weight : ℕ
turn_weight = 20

-- what the heaviest piece of a pack may weigh with a turn: PIECE at most
abbrev pub IsPieceWeight : ℕ → Type 0
IsPieceWeight piece = (turn_weight ≤ piece) × (piece ≤ PIECE)

-- what is run for a piece of these items: they themselves, or the function that has their lines, for a piece that is of
-- no function's body
abbrev pub piece_of : PieceId → Items → Items
piece_of (body_piece f j) xs = xs
piece_of i xs = first (call_item (routine_name i) xs) no_more

-- the number is 1, that of a job that runs
abbrev pub is_one : ℤ → Bool
is_one z = some_is_in (exactly (pos 1)) (Some z)

-- the number is 0, that of a trap score where nothing has trapped and the job runs
abbrev pub is_zero : ℤ → Bool
is_zero z = some_is_in (exactly (pos 0)) (Some z)

-- the pack is in a state, and it is another one than 1
pub record Idle (s : State) : Type 0 where
  pub number : ℤ
  pub state : s.keys in_io key_state ≡ Some (int number)
  pub other : is_one number ≡ false

-- the state with the pack's state read
abbrev pub guarded : State → State
guarded s = after_step read_state s

-- a trap is told, if one is recorded
abbrev pub told : State → State
told u = (run_item trap_item u).state

-- the job is over: a piece has trapped or has ended it, and once the trap is told the pack is in another state than 1
pub record Over (s : State) : Type 0 where
  pub number : ℤ
  pub trap : s.scores score_trap ≡ Some number
  pub loud : is_zero number ≡ false
  pub idle : Idle (told s)

-- What is owed by the items of a piece that ends the job: they weigh little, tell that no piece is next, and leave the
-- pack in another state than 1.
pub record Ends (xs : Items) (s : State) : Type 0 where
  pub light : items_most xs ≤ end_weight
  pub trap : (run_items xs s).state.scores score_trap ≡ Some (negsuc 0)
  pub idle : Idle (run_items xs s).state

-- of a pack with these functions, in which the items of each piece are those of the program, and weigh at most so much
module _ (functions : Functions) (ns : Text) (program : PieceId → Items) (piece : ℕ) where
  -- The piece that the state names: the pack has its lines and its helpers, it finds what it needs, with a turn it
  -- weighs at most so much, and one that is named as the end of the job ends it.
  pub record Named (s : State) : Type 0 where
    pub id : PieceId
    pub id_fits : PieceFits id
    pub named : s.keys in_rest key_next ≡ Some (id_tree id)
    pub holds : functions (full_name ns (piece_name id)) ≡ Some (items_texts ns (program id))
    pub helpers : HasAll functions ns (items_helpers ns (program id))
    pub fits : items_fit (program id) ≡ true
    pub ready : ItemsReady (program id) s
    pub light : items_most (program id) + turn_weight ≤ piece
    pub ends : is_end id ≡ true → Ends (program id) s

  -- In rounds the pack runs, nothing has trapped, and what the piece takes from the budget covers what was run.
  pub record Piece (s : State) : Type 0 where
    pub named : Named s
    pub running : s.keys in_io key_state ≡ Some (int (pos 1))
    pub quiet : s.scores score_trap ≡ Some (pos 0)
    pub charged : Charged (program named.id) s (piece - 2)

  -- so many rounds lead from a state to another one: the pieces are run that the states name, and between them
  -- something may be given back to the budget
  pub data Rounds : ℕ → State → State → Type 0 where
    no_round : (s : State) → Rounds zero s s
    one_round : (n : ℕ) (s u : State) (p : Piece s) → Rounds n (run_items (program p.named.id) s).state u
        → Rounds (suc n) s u
    gives_back : (n : ℕ) (s u : State) → Rounds n (after_step give_back s) u → Rounds n s u

  -- a piece is next, or the job is over
  pub data Stands (s : State) : Type 0 where
    goes_on : Piece s → Stands s
    is_over : Over s → Stands s

  -- wherever rounds lead, the pack stands
  abbrev pub Steady : State → Type 0
  Steady s = (n : ℕ) (u : State) → Rounds n s u → Stands u

  -- A pack as a turn or a tick leaves it, but for the trap that is told then: the job is over, or a piece is next, and
  -- none that ends the job.
  pub data Settled (s : State) : Type 0 where
    settled_over : Over s → Settled s
    settled_on : (p : Piece s) → is_end p.named.id ≡ false → Settled s

  -- Where the end of a turn and of a tick leads from a state: nowhere, where the pack is settled; and where the piece
  -- that is next ends the job, that piece is run.
  pub data Finishes (s u : State) : Type 0 where
    finished : Settled s → u ≡ s → Finishes s u
    finishing : (p : Piece s) → is_end p.named.id ≡ true → u ≡ (run_items (program p.named.id) s).state → Finishes s u

-- where the rounds of a tick begin: the state is read, and the budget is what the rule tells without a reserve
abbrev pub tick_start : ℕ → ℕ → State → State
tick_start piece b s = (run_steps (reserve_steps piece) (with_score (guarded s) score_budget (pos b))).state
