-- Laws of activations at cuts, which the contracts of public functions cite.
use Rattle.std.specs.Prelude.{◌≡◌, ℕ, suc, List, ◌++◌, reverse, Some, slice_get}
use Rattle.std.specs.List.{Contains}
use Rattle.mc_nbt.specs.declared.value.Value.{Value}
use Rattle.wm_ast.specs.declared.module.FuncType.{FuncType}
use Rattle.wm_ast.specs.declared.module.Module.{Module}
use Rattle.wm_flat.specs.Flat.{Activation}
use Rattle.wm_flat.specs.FlatTyping.{types_of}
use Rattle.wm_flat.specs.Operands.{operands}
use Rattle.wm_place.specs.Kinds.{Body, function_body}
use Rattle.wm_place.specs.Visit.{Visit, function_visits}
use Rattle.wm_view.specs.Seen.{constants, first_opcode, left_of}
use Rattle.cc_cut.specs.declared.table.Cut.{Cut}
use Rattle.cc_cut.specs.Cuts.{function_cuts}
use Rattle.cc_cut.specs.Piece.{Piece, function_pieces}
use Rattle.cc_move.specs.Calls.{with_results}
use Rattle.cc_move.specs.Standing.{StandsAt}
use Rattle.cc_body.specs.Behind.{call_before}
use Rattle.cc_spots.specs.Spot.{left_at, CutAt}

-- ---- there is one

-- an activation of this function stands at this visit, with these locals and operands
pub record Stood (m : Module) (n : ℕ) (v : Visit) (locals all : List Value) : Type 0 where
  pub activation : Activation
  pub stands : StandsAt m activation v
  pub func : activation.func ≡ n
  pub locals_are : activation.locals ≡ locals
  pub operands_are : operands activation ≡ all

-- for all locals and operands of the types that the place has
abbrev pub ActivationsStand : Type 0
ActivationsStand = (m : Module) (n : ℕ) (b : Body) → function_body m n ≡ Some b → (v : Visit)
    → Contains (function_visits m n) v → (locals all : List Value)
    → types_of locals ≡ b.scope.locals → types_of all ≡ reverse v.kinds → Stood m n v locals all

-- A caller of this function waits before this visit, with these locals and operands: with each results of these types
-- it stands there.
pub record Waited (m : Module) (n : ℕ) (v : Visit) (t : FuncType) (locals all : List Value) : Type 0 where
  pub caller : Activation
  pub stands : (us : List Value) → types_of us ≡ reverse t.results → StandsAt m (with_results caller us) v
  pub func : caller.func ≡ n
  pub locals_are : caller.locals ≡ locals
  pub operands_are : operands caller ≡ all

-- behind each call, for all locals and operands of the types that stay under its results
abbrev pub CallersStand : Type 0
CallersStand = (m : Module) (n : ℕ) (b : Body) → function_body m n ≡ Some b → (v : Visit)
    → Contains (function_visits m n) v → (t : FuncType) → call_before m v ≡ Some t → (locals all : List Value)
    → types_of locals ≡ b.scope.locals → reverse t.results ++ types_of all ≡ reverse v.kinds
    → Waited m n v t locals all

-- ---- for no other values

-- its place is one of its function's that are reached, and its locals and operands have the types of the place
pub record Fits (m : Module) (a : Activation) (v : Visit) (b : Body) : Type 0 where
  pub is_visit : Contains (function_visits m a.func) v
  pub locals : types_of a.locals ≡ b.scope.locals
  pub operands : types_of (operands a) ≡ reverse v.kinds

abbrev pub StandingsFit : Type 0
StandingsFit = (m : Module) (a : Activation) (v : Visit) → StandsAt m a v → (b : Body)
    → function_body m a.func ≡ Some b → Fits m a v b

-- ---- what it shows

-- an activation shows what is seen of its place
pub record ShowsPlace (a : Activation) (v : Visit) : Type 0 where
  pub next_constants : constants a.code ≡ constants v.rest
  pub next : first_opcode a.code ≡ first_opcode v.rest
  pub left : left_of a ≡ left_at v

abbrev pub StandingsAreSeen : Type 0
StandingsAreSeen = (m : Module) (a : Activation) (v : Visit) → StandsAt m a v → ShowsPlace a v

-- ---- there is no other cut

-- this cut is the one that was found, with its visit and its piece
pub record IsTold (m : Module) (n index : ℕ) (x : CutAt m n index) (c : Cut) : Type 0 where
  pub same : c ≡ x.cut
  pub visit : (v : Visit) → Contains (function_visits m n) v → v.path ≡ c.place → v ≡ x.piece.cut
  pub piece : (i : ℕ) (p : Piece) → c.index ≡ suc i → slice_get (function_pieces m n) i ≡ Some p → p ≡ x.piece

-- the index of a cut tells it
abbrev pub CutsAreTold : Type 0
CutsAreTold = (m : Module) (n index : ℕ) (x : CutAt m n index) (c : Cut)
    → Contains (function_cuts m n) c → c.index ≡ index → IsTold m n index x c
