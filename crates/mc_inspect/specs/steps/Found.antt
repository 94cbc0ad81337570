-- For what a state stands of which something was read.
use Rattle.std.specs.Prelude.{◌≡◌, ◌<◌, ◌++◌, ◌∷◌, ℕ, ℤ, List, [], reverse, Option, Some, None, MatchOption, Bool, ◌⊎◌}
use Rattle.std.specs.Bool.{MatchBool}
use Rattle.std.specs.List.{Contains}
use Rattle.mc_nbt.specs.declared.value.Value.{Value}
use Rattle.wm_ast.specs.declared.module.Func.{Func}
use Rattle.wm_ast.specs.declared.module.FuncType.{FuncType}
use Rattle.wm_ast.specs.declared.module.Module.{Module}
use Rattle.wm_ast.specs.declared.module.ValType.{ValType}
use Rattle.wm_valid.specs.Height.{Low}
use Rattle.wm_flat.specs.Flat.{Activation}
use Rattle.wm_flat.specs.FlatTyping.{types_of, IsFunction}
use Rattle.wm_flat.specs.Operands.{operands}
use Rattle.wm_flat.specs.Program.{IsProgram}
use Rattle.wm_place.specs.Visit.{Visit}
use Rattle.wm_view.specs.declared.view.FrameView.{FrameView}
use Rattle.wm_view.specs.declared.view.Inspection.{Inspection}
use Rattle.wm_view.specs.Seen.{frames_round, seen_running}
use Rattle.wm_view.specs.View.{frame_view, inspection}
use Rattle.cc_line.specs.Key.{PieceId}
use Rattle.cc_line.specs.Running.{Kept}
use Rattle.cc_line.specs.State.{State}
use Rattle.cc_call.specs.Law.{IsBelow}
use Rattle.cc_entries.specs.Law.{NameTells}
use Rattle.cc_cut.specs.declared.table.Cut.{Cut}
use Rattle.cc_cut.specs.Cuts.{function_cuts}
use Rattle.cc_move.specs.Calls.{gives_of}
use Rattle.cc_move.specs.Standing.{StandsAt}
use Rattle.cc_pieces.specs.Law.{most_takers}
use Rattle.cc_body.specs.Layout.{frame_size}
use Rattle.cc_simulate.specs.Callers.{Waiting}
use Rattle.cc_simulate.specs.Frame.{Frame}
use Rattle.cc_simulate.specs.Stands.{Running, Standing, Entering, Taking}
use Rattle.cc_simulate.specs.Uses.{uses_bytes}
use Rattle.cc_spots.specs.declared.spot.CutSpot.{CutSpot}
use Rattle.cc_told.specs.Cases.{Names}
use Rattle.mc_inspect.specs.declared.reading.Reading.{Reading}
use Rattle.mc_inspect.specs.steps.Read.{IsReading}

-- ---- an activation

-- the state stands for an activation over its callers, and this is seen of them
pub record StandsSeen (m : Module) (p : State) (v : Inspection) : Type 0 where
  pub callers : List Activation
  pub activation : Activation
  pub standing : Standing m callers activation p
  pub shown : seen_running callers activation ≡ v

-- it stands for none
abbrev pub StandsNot : Module → State → Type 0
StandsNot m p = (cs : List Activation) (a : Activation) → Standing m cs a p → ⊥

-- of each state that names the piece, runs, and has what was read
abbrev pub Tells : Module → Reading → PieceId → Option Inspection → Type 0
Tells m x i o = IsProgram m → Low m → (p : State) → NameTells i → IsReading x p → Running (uses_bytes m) p → Names i p
    → MatchOption o (StandsNot m p) (StandsSeen m p)

-- ---- a call from outside

-- a call of a function of the module begins
pub record Enters (m : Module) (p : State) : Type 0 where
  pub index : ℕ
  pub func : Func
  pub type : FuncType
  pub is_function : IsFunction m index func type
  pub args : List Value
  pub entering : Entering m index args p

-- it takes its arguments
pub record Takes (m : Module) (p : State) : Type 0 where
  pub index : ℕ
  pub func : Func
  pub type : FuncType
  pub is_function : IsFunction m index func type
  pub args : List Value
  pub zeros : ℕ
  pub number : ℕ
  pub few : number < most_takers
  pub taking : Taking m index args zeros number p

-- whether it is this that is so of each state that names the piece, runs, and has what was read
abbrev pub TellsOfCall : Module → Reading → PieceId → (State → Type 0) → Bool → Type 0
TellsOfCall m x i P b = IsProgram m → Low m → (p : State) → NameTells i → IsReading x p → Running (uses_bytes m) p
    → Names i p → MatchBool b (P p) (P p → ⊥)

-- a call begins, or takes its arguments
abbrev pub IsOutside : Module → State → Type 0
IsOutside m p = Enters m p ⊎ Takes m p

-- no frame is seen, and the call is next
abbrev pub call_seen : Inspection
call_seen = inspection [] (Some 16) []

-- ---- whichever it is

pub data IsPlaced (m : Module) (p : State) (v : Inspection) : Type 0 where
  stands : StandsSeen m p v → IsPlaced m p v
  enters : Enters m p → v ≡ call_seen → IsPlaced m p v
  takes : Takes m p → v ≡ call_seen → IsPlaced m p v

pub record IsUnplaced (m : Module) (p : State) : Type 0 where
  pub stands : StandsNot m p
  pub enters : Enters m p → ⊥
  pub takes : Takes m p → ⊥

abbrev pub Places : Module → Reading → PieceId → Option Inspection → Type 0
Places m x i o = IsProgram m → Low m → (p : State) → NameTells i → IsReading x p → Running (uses_bytes m) p → Names i p
    → MatchOption o (IsUnplaced m p) (IsPlaced m p)

-- ---- a frame

-- these places hold locals and operands of the types that the spot has and of these kinds
pub record IsFrameAt (func : ℕ) (spot : CutSpot) (kinds : List ValType) (zs : List ℤ) (f : FrameView) : Type 0 where
  pub func_is : f.func ≡ func
  pub locals : types_of f.locals ≡ spot.locals
  pub operands : types_of f.operands ≡ kinds
  pub held : Frame spot.size f.locals (reverse f.operands) zs

-- the frame has such operands, and then these, which the places don't hold
pub record IsFrameUnder (func : ℕ) (spot : CutSpot) (kinds : List ValType) (zs : List ℤ) (top : List Value)
    (f : FrameView) : Type 0 where
  pub below : FrameView
  pub is_held : IsFrameAt func spot kinds zs below
  pub shown : f ≡ frame_view below.func below.locals (below.operands ++ top)

-- they hold none
abbrev pub HoldsNoFrame : CutSpot → List ValType → List ℤ → Type 0
HoldsNoFrame spot kinds zs = (ls os : List Value) → types_of ls ≡ spot.locals → types_of os ≡ reverse kinds
    → Frame spot.size ls os zs → ⊥

-- ---- the frames below

-- callers of the function wait below, and show these frames, the outermost first
pub record BelowShown (m : Module) (n : ℕ) (p : State) (fs : List FrameView) : Type 0 where
  pub below : List Kept
  pub is_below : IsBelow below p
  pub callers : List Activation
  pub waiting : Waiting m n callers below
  pub shown : fs ≡ frames_round callers []

abbrev pub ShowBelow : Module → Reading → List ValType → List FrameView → Type 0
ShowBelow m x gives fs = (p : State) (n : ℕ) → IsReading x p → gives_of m n ≡ reverse gives → BelowShown m n p fs

abbrev pub HasNoneBelow : Module → Reading → List ValType → Type 0
HasNoneBelow m x gives = IsProgram m → (p : State) (n : ℕ) (cs : List Activation) (bs : List Kept) → IsReading x p
    → gives_of m n ≡ reverse gives → Waiting m n cs bs → IsBelow bs p → ⊥

-- ---- an activation at a cut

-- one value, or none
abbrev pub one_or_none : Option Value → List Value
one_or_none None = []
one_or_none (Some v) = v ∷ []

-- The activation stands at the cut of this index of this function, and its callers wait below. The frame has its locals
-- and its operands, but for those at the top that are told.
pub record HeldAt (m : Module) (func index : ℕ) (top : List Value) (p : State) (cs : List Activation) (a : Activation)
    : Type 0 where
  pub in_func : a.func ≡ func
  pub cut : Cut
  pub is_cut : Contains (function_cuts m a.func) cut
  pub is_index : cut.index ≡ index
  pub visit : Visit
  pub stands : StandsAt m a visit
  pub place : visit.path ≡ cut.place
  pub others : List Value
  pub parts : operands a ≡ top ++ others
  pub frame : Frame (frame_size m a.func) a.locals others p.places
  pub below : List Kept
  pub waiting : Waiting m a.func cs below
  pub is_below : IsBelow below p

-- one does, of which this is seen, and of its callers
pub record IsHeld (m : Module) (func index : ℕ) (top : List Value) (p : State) (v : Inspection) : Type 0 where
  pub callers : List Activation
  pub activation : Activation
  pub held : HeldAt m func index top p callers activation
  pub shown : seen_running callers activation ≡ v

abbrev pub Holds : Module → Reading → ℕ → ℕ → List Value → Inspection → Type 0
Holds m x func index top v = (p : State) → IsReading x p → IsHeld m func index top p v

-- none does
abbrev pub HoldsNone : Module → Reading → ℕ → ℕ → List Value → Type 0
HoldsNone m x func index top = IsProgram m → (p : State) (cs : List Activation) (a : Activation) → IsReading x p
    → HeldAt m func index top p cs a → ⊥

-- ---- the frames, with the innermost one at a spot

-- what is seen where these frames stand round one at a spot
abbrev pub spot_seen : List FrameView → FrameView → CutSpot → Inspection
spot_seen fs f spot =
    inspection (fs ++ frame_view f.func f.locals (f.operands ++ spot.constants) ∷ []) spot.next spot.left

-- callers of the frame's function wait below; this is seen of them and of the frame
pub record FrameShown (m : Module) (p : State) (f : FrameView) (spot : CutSpot) (v : Inspection) : Type 0 where
  pub frames : List FrameView
  pub below : BelowShown m f.func p frames
  pub shown : v ≡ spot_seen frames f spot

abbrev pub ShowsFrame : Module → Reading → FrameView → CutSpot → Inspection → Type 0
ShowsFrame m x f spot v = (p : State) → IsReading x p → FrameShown m p f spot v

-- nobody waits for the function
abbrev pub IsUnwaited : Module → Reading → ℕ → Type 0
IsUnwaited m x n = IsProgram m → (p : State) (cs : List Activation) (bs : List Kept) → IsReading x p → Waiting m n cs bs
    → IsBelow bs p → ⊥
