-- What is read of the beginning of a call: the frame of its function, and the arguments in the entry of its caller.
use Rattle.std.specs.Prelude.{◌≡◌, ◌≤◌, ◌-◌, ◌++◌, ◌∷◌, [], ℕ, ℤ, pos, List, length, take, drop, reverse, replicate}
use Rattle.std.specs.Prelude.{filter_map, option_map, slice_get, Option, Some, None}
use Rattle.mc_nbt.specs.declared.value.Value.{Value}
use Rattle.wm_ast.specs.declared.module.FuncType.{FuncType}
use Rattle.wm_ast.specs.declared.module.Module.{Module}
use Rattle.wm_ast.specs.Store.{zero_of}
use Rattle.wm_ast.specs.Types.{function_type}
use Rattle.wm_valid.specs.Arrows.{◌>>=◌}
use Rattle.wm_flat.specs.Flat.{Activation}
use Rattle.wm_flat.specs.FlatTyping.{types_of}
use Rattle.wm_flat.specs.Operands.{operands}
use Rattle.wm_flat.specs.Program.{IsProgram}
use Rattle.wm_view.specs.declared.view.FrameView.{FrameView}
use Rattle.wm_view.specs.Seen.{frames_round}
use Rattle.cc_line.specs.Running.{Kept}
use Rattle.cc_line.specs.State.{State}
use Rattle.cc_call.specs.Law.{IsBelow}
use Rattle.cc_cut.specs.Law.{widths}
use Rattle.cc_move.specs.Calls.{gives_of}
use Rattle.cc_simulate.specs.Callers.{Waits, Waiting}
use Rattle.cc_simulate.specs.Frame.{local_ints, stack_ints}
use Rattle.cc_spots.specs.declared.spot.CutSpot.{CutSpot}
use Rattle.pk_entries.specs.declared.entry.Entry.{Entry}
use Rattle.mc_inspect.specs.declared.reading.Reading.{Reading}
use Rattle.mc_inspect.specs.steps.Read.{IsReading}

-- the type of the function of this index
abbrev pub type_at : Module → ℕ → Option FuncType
type_at m n = slice_get m.funcs n >>= function_type m

-- ---- the frame of the function

-- it has arguments that have the first of these ints, zeros for the other locals, and no operands
pub record IsBegun (func : ℕ) (spot : CutSpot) (params : ℕ) (ints : List ℤ) (f : FrameView) : Type 0 where
  pub func_is : f.func ≡ func
  pub args : List Value
  pub are : types_of args ≡ take params spot.locals
  pub rest : List ℤ
  pub given : ints ≡ local_ints args ++ rest
  pub locals : f.locals ≡ args ++ filter_map zero_of (drop params spot.locals)
  pub operands_are : f.operands ≡ []

-- no arguments have these ints
abbrev pub IsBegunNot : CutSpot → ℕ → List ℤ → Type 0
IsBegunNot spot params ints = (args : List Value) (rest : List ℤ) → types_of args ≡ take params spot.locals
    → ints ≡ local_ints args ++ rest → ⊥

-- ---- places

-- these are the first ones
abbrev pub HasFront : List ℤ → List ℤ → Type 0
HasFront places front = (rest : List ℤ) × (places ≡ front ++ rest)

-- so many are zeros, from this one on
pub record HasZeros (from count : ℕ) (places : List ℤ) : Type 0 where
  pub front : List ℤ
  pub rest : List ℤ
  pub parts : places ≡ front ++ (replicate count (pos 0) ++ rest)
  pub front_length : length front ≡ from

-- the frame has its size, so many of the arguments, and zeros in the places of the other locals
pub record IsMade (places : List ℤ) (spot : CutSpot) (given : List ℤ) (fetched params : ℕ) : Type 0 where
  pub sized : length places ≡ spot.size
  pub enough : fetched ≤ length given
  pub front : HasFront places (take fetched given)
  pub zeros : HasZeros params (widths spot.locals - params) places

-- the last of these ints, from this one on, are places from there on
pub record AreTaken (places ints : List ℤ) (from : ℕ) : Type 0 where
  pub whole : from ≤ length ints
  pub front : List ℤ
  pub front_length : length front ≡ from
  pub junk : List ℤ
  pub parts : places ≡ front ++ (drop from ints ++ junk)

-- ---- the caller

-- the places of the last frame below
abbrev pub last_places_of : List Entry → List ℤ
last_places_of [] = []
last_places_of (e ∷ []) = e.places.items
last_places_of (e ∷ f ∷ es) = last_places_of (f ∷ es)

-- none where there are no frames below
abbrev pub last_places_in : Option (List Entry) → List ℤ
last_places_in None = []
last_places_in (Some es) = last_places_of es

abbrev pub last_places : Reading → List ℤ
last_places x = last_places_in (option_map (λ v. v.items) x.entries)

-- A caller waits at this cut for the function, over the others below. The call has as many places of arguments as a
-- function of this type, and these ints stand in the caller's entry behind what its frame uses.
pub record PassedBy (m : Module) (n : ℕ) (p : State) (ty : FuncType) (func index : ℕ) (given : List ℤ)
    (cs : List Activation) (c : Activation) : Type 0 where
  pub entry : Kept
  pub waits : Waits m n c entry
  pub in_func : c.func ≡ func
  pub is_index : waits.cut.index ≡ index
  pub below : List Kept
  pub waiting : Waiting m c.func cs below
  pub is_below : IsBelow (below ++ entry ∷ []) p
  pub takes : widths waits.type.params ≡ widths ty.params
  pub behind : given ≡ drop (length (local_ints c.locals ++ stack_ints (operands c))) entry.places

-- such callers are there, and these are their frames
pub record IsPassed (m : Module) (n : ℕ) (p : State) (ty : FuncType) (func index : ℕ) (frames : List FrameView)
    (given : List ℤ) : Type 0 where
  pub callers : List Activation
  pub caller : Activation
  pub passed : PassedBy m n p ty func index given callers caller
  pub shown : frames ≡ frames_round (caller ∷ callers) []

abbrev pub IsPassedFor : Module → Reading → FuncType → ℕ → ℕ → List FrameView → List ℤ → Type 0
IsPassedFor m x ty func index frames given = IsProgram m → (p : State) (n : ℕ) → IsReading x p
    → gives_of m n ≡ reverse ty.results → IsPassed m n p ty func index frames given

-- there are none
abbrev pub IsPassedNot : Module → Reading → FuncType → ℕ → ℕ → Type 0
IsPassedNot m x ty func index = IsProgram m → (p : State) (n : ℕ) (given : List ℤ) (cs : List Activation)
    (c : Activation) → IsReading x p → gives_of m n ≡ reverse ty.results → PassedBy m n p ty func index given cs c → ⊥
