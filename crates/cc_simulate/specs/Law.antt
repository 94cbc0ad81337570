-- Laws of pieces, which the contracts of public functions cite.
use Rattle.std.specs.Prelude.{◌≡◌, ℕ, zero, suc, ◌/◌, List, [], length, reverse, Some}
use Rattle.std.specs.List.{Contains}
use Rattle.mc_nbt.specs.declared.value.Value.{Value}
use Rattle.wm_ast.specs.declared.module.Func.{Func}
use Rattle.wm_ast.specs.declared.module.FuncType.{FuncType}
use Rattle.wm_ast.specs.declared.module.Module.{Module}
use Rattle.wm_ast.specs.declared.module.ValType.{ValType}
use Rattle.wm_ast.specs.Store.{Store, Callee, callee_of}
use Rattle.wm_ast.specs.Types.{run_types}
use Rattle.wm_valid.specs.Height.{Low}
use Rattle.wm_flat.specs.Flat.{Activation, opened}
use Rattle.wm_flat.specs.FlatTyping.{Are, IsFunction, TypedState}
use Rattle.wm_flat.specs.Program.{IsProgram}
use Rattle.cc_line.specs.Item.{Items, run_items, ItemsReady}
use Rattle.cc_line.specs.State.{State}
use Rattle.cc_cut.specs.declared.table.Cut.{Cut}
use Rattle.cc_cut.specs.Cuts.{function_cuts}
use Rattle.cc_cut.specs.Law.{widths}
use Rattle.cc_cut.specs.Piece.{Piece}
use Rattle.cc_move.specs.Law.{at}
use Rattle.cc_call.specs.Frames.{done_piece}
use Rattle.cc_pieces.specs.Entry.{args_of_piece, taker_items}
use Rattle.cc_body.specs.Pieces.{function_entry}
use Rattle.cc_simulate.specs.Frame.{stack_ints}
use Rattle.cc_simulate.specs.Callers.{IsPieceOf}
use Rattle.cc_simulate.specs.Stands.{ChangesFrameAlone, ChangesStoreAlone, Finished, Ending, At, Standing, name_of, rank_of, HasStore, Arrives}
use Rattle.cc_simulate.specs.Stands.{Entering, Taking}
use Rattle.cc_simulate.specs.Named.{items_named}

-- ---- what pieces do

-- items that find what they need, and lead to a state of which this holds
pub record Enters (xs : Items) (s : State) (P : State → Type 0) : Type 0 where
  pub ready : ItemsReady xs s
  pub there : P (run_items xs s).state
  pub keeps : ChangesFrameAlone s (run_items xs s).state

-- items that find what they need, and lead on as they have to
pub record Simulates (m : Module) (r : ℕ) (st : Store) (cs : List Activation) (a : Activation) (xs : Items) (s : State)
    : Type 0 where
  pub ready : ItemsReady xs s
  pub arrives : Arrives m r st cs a (run_items xs s).state
  pub spares : ChangesStoreAlone s (run_items xs s).state

-- From a state that stands for an activation, over any callers, and has what the store has, the piece that it names
-- does what the machine does.
abbrev pub PiecesSimulate : Type 0
PiecesSimulate = (m : Module) → IsProgram m → Low m → (results : List ValType) (st : Store)
    (cs : List Activation) (a : Activation) (s : State) → TypedState m results (at st cs a) → (x : Standing m cs a s)
    → HasStore m st s x
    → Simulates m (rank_of m x) st cs a (items_named m (name_of m x)) s

-- Where the results of the outermost call are handed over, the piece that is next ends the job with them.
abbrev pub JobsEnd : Type 0
JobsEnd = (m : Module) (vs : List Value) (s : State) → Ending m vs s
    → Enters (items_named m (done_piece (length (stack_ints vs)))) s (Finished vs)

-- each cut has its piece
abbrev pub CutsHavePieces : Type 0
CutsHavePieces = (m : Module) (n : ℕ) (c : Cut) → Contains (function_cuts m n) c → (q : Piece) × IsPieceOf m n c q

-- ---- what the pieces of a call from outside do

-- the state stands for the function's activation
abbrev pub HasEntered : Module → ℕ → Callee → List Value → State → Type 0
HasEntered m n c args s = At m [] (opened n c (reverse args)) s

-- with so many whole pieces of arguments to come
abbrev pub HasBegun : Module → ℕ → Func → Callee → List Value → ℕ → State → Type 0
HasBegun m n f c args zero s = HasEntered m n c args s
HasBegun m n f c args (suc k) s = Taking m n args (widths (run_types f.locals)) k s

-- The first piece of a function makes its frame, and takes the arguments but for whole pieces of them. Each shared
-- piece takes one of these. Then the state stands for the function's activation.
abbrev pub CallsEnter : Type 0
CallsEnter = (m : Module) → IsProgram m → (n : ℕ) (f : Func) (t : FuncType) (c : Callee)
    (args : List Value) → IsFunction m n f t → callee_of m n ≡ Some c → Are t.params args
    → ((s : State) → Entering m n args s
    → Enters (function_entry m n f t) s (HasBegun m n f c args (widths t.params / args_of_piece)))
    × ((s : State) (k : ℕ) → HasBegun m n f c args (suc k) s → Enters (taker_items k) s (HasBegun m n f c args k))
