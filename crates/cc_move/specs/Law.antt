-- Laws of moves and ways, which the contracts of public functions cite.
use Rattle.std.specs.Prelude.{◌≡◌, ◌≤◌, ℕ, ◌-◌, List, [], ◌∷◌, ◌++◌, length, take, drop, reverse, Option, Some, None}
use Rattle.std.specs.List.{Contains}
use Rattle.mc_nbt.specs.declared.value.Value.{Value}
use Rattle.wm_ast.specs.declared.module.Module.{Module}
use Rattle.wm_ast.specs.declared.module.ValType.{ValType}
use Rattle.wm_ast.specs.Code.{Op, block, loop, if_else, br, br_if, br_table, return, Code, nil, cons}
use Rattle.wm_ast.specs.Profile.{HasNoFloat}
use Rattle.wm_ast.specs.Step.{top}
use Rattle.wm_ast.specs.Store.{Store, Callee, callee_of}
use Rattle.wm_valid.specs.Valid.{Valid}
use Rattle.wm_valid.specs.Arrows.{Change, changed, change}
use Rattle.wm_flat.specs.Flat.{Activation, running, goes, past, inner, opened, handed, jump, move}
use Rattle.wm_flat.specs.FlatTyping.{types_of}
use Rattle.wm_flat.specs.Operands.{under, operands}
use Rattle.wm_flat.specs.Runs.{Leads}
use Rattle.wm_place.specs.Spot.{arity_of}
use Rattle.wm_place.specs.Kinds.{body_of}
use Rattle.wm_place.specs.Visit.{Around, Visit, function_visits}
use Rattle.cc_cut.specs.Way.{way, path_behind, block_path, labelled, landing}
use Rattle.cc_move.specs.Standing.{StandsAt, Comes, IsSameCall}
use Rattle.cc_move.specs.Calls.{CallsOpen, IndirectCallsOpen, CallersResume, ResultsHaveTypes, FunctionsStay}
use Rattle.cc_move.specs.Calls.{CalleesCome, TableStays}
pub use Rattle.cc_move.specs.Standing.{at}

-- ---- what a standing shows

-- the visit has the place, the code and the kinds of the activation, and is one of its function's
pub record Shown (m : Module) (a : Activation) (v : Visit) : Type 0 where
  pub path : v.path ≡ a.place
  pub rest : v.rest ≡ a.code
  pub kinds : v.kinds ≡ reverse (types_of (operands a))
  pub listed : Contains (function_visits m a.func) v

abbrev pub StandingsShow : Type 0
StandingsShow = (m : Module) (a : Activation) (v : Visit) → StandsAt m a v → Shown m a v

-- two visits of a function with the same path are one
abbrev pub PathsTellVisits : Type 0
PathsTellVisits = (m : Module) (n : ℕ) (v w : Visit) → Contains (function_visits m n) v
    → Contains (function_visits m n) w → v.path ≡ w.path → v ≡ w

-- ---- moves that go on

-- behind an instruction that is no jump
abbrev pub OnwardComes : Type 0
OnwardComes = (m : Module) (a : Activation) (v : Visit) (s : StandsAt m a v) (i : Op) (is : Code) (e : Change)
    (locals vs : List Value) → a.code ≡ cons i is → change i (body_of m s.func s.type).scope ≡ Some e
    → e.takes ≤ length a.values → types_of vs ≡ changed e (types_of a.values) → types_of locals ≡ types_of a.locals
    → Comes m (past a i is locals vs) (way (path_behind v.path) (changed e (types_of (operands a))))

-- into a block or a loop
abbrev pub BlockComes : Type 0
BlockComes = (m : Module) (a : Activation) (v : Visit) → StandsAt m a v → (ty : Option ValType) (body is : Code)
    → (a.code ≡ cons (block ty body) is
    → Comes m (inner a (block ty body) is a.values (0 ∷ []) body) (way (v.path ++ 0 ∷ []) (types_of (operands a))))
    × (a.code ≡ cons (loop ty body) is
    → Comes m (inner a (loop ty body) is a.values (0 ∷ []) body) (way (v.path ++ 0 ∷ []) (types_of (operands a))))

-- into an arm of an `if`, whose condition is gone
abbrev pub ArmComes : Type 0
ArmComes = (m : Module) (a : Activation) (v : Visit) → StandsAt m a v → (ty : Option ValType) (one other is : Code)
    (c : Value) (vs : List Value) → a.code ≡ cons (if_else ty one other) is → a.values ≡ c ∷ vs
    → Comes m (inner a (if_else ty one other) is vs (0 ∷ 0 ∷ []) one)
    (way (v.path ++ 0 ∷ 0 ∷ []) (drop 1 (types_of (operands a))))
    × Comes m (inner a (if_else ty one other) is vs (1 ∷ 0 ∷ []) other)
    (way (v.path ++ 1 ∷ 0 ∷ []) (drop 1 (types_of (operands a))))

-- ---- branches

-- the lowest so many of these, of which the last one stands first
abbrev pub lowest_values : ℕ → List Value → List Value
lowest_values n vs = drop (length vs - n) vs

-- A branch to a label, after n steps, over these operands of the innermost sequence. To a block's it comes by the
-- landing, after one move more where that is a loop; to the body's own the call ends with its results.
pub data Branched (m : Module) (s : Store) (cs : List Activation) (a : Activation) (v : Visit) (n l : ℕ)
    (vs : List Value) : Type 0 where
  to_block : (x : Around) (b d : Activation) (k : ℕ) → labelled v.blocks l ≡ Some x
      → jump m s cs a n l vs a.levels ≡ goes n s (running cs b) → Leads m k (at s cs b) (at s cs d) → IsSameCall a d
      → Comes m d (landing x.op (block_path v.path x) x.under (types_of (vs ++ under a.levels)))
      → operands d ≡ take (arity_of x.op) (vs ++ under a.levels) ++ lowest_values x.under (vs ++ under a.levels)
      → arity_of x.op ≤ length vs → x.under ≤ length (under a.levels) → Branched m s cs a v n l vs
  to_end : (b : Activation) (us : List Value) → labelled v.blocks l ≡ None
      → jump m s cs a n l vs a.levels ≡ goes n s (running cs b) → top a.results vs ≡ Some us
      → move m s (running cs b) ≡ handed s cs us → Branched m s cs a v n l vs

-- an instruction that may branch to a label, once so many operands are gone
pub data BranchesTo : Op → ℕ → ℕ → Type 0 where
  by_br : (l : ℕ) → BranchesTo (br l) l 0
  by_br_if : (l : ℕ) → BranchesTo (br_if l) l 1
  by_br_table : (ls : List ℕ) (last l : ℕ) → Contains (ls ++ last ∷ []) l → BranchesTo (br_table ls last) l 1

abbrev pub BranchesCome : Type 0
BranchesCome = (m : Module) → Valid m → (s : Store) (cs : List Activation) (a : Activation) (v : Visit) (n : ℕ)
    → StandsAt m a v → (i : Op) (is : Code) (l k : ℕ) → a.code ≡ cons i is → BranchesTo i l k
    → Branched m s cs a v n l (drop k a.values)

-- a `return` finds its results
abbrev pub ReturnsHaveResults : Type 0
ReturnsHaveResults = (m : Module) → Valid m → (a : Activation) (v : Visit) → StandsAt m a v → (is : Code)
    → a.code ≡ cons return is → (us : List Value) × (top a.results a.values ≡ Some us) × (length us ≡ a.results)

-- ---- the end of a sequence

-- behind the innermost block, whose results stay; or, where that is the body, the call ends with its results
pub data Left (m : Module) (s : Store) (cs : List Activation) (a : Activation) (v : Visit) : Type 0 where
  behind_block : (x : Around) (b : Activation) → labelled v.blocks 0 ≡ Some x
      → move m s (running cs a) ≡ goes 1 s (running cs b) → IsSameCall a b
      → Comes m b (way (path_behind (block_path v.path x)) (types_of (operands a))) → operands b ≡ operands a
      → Left m s cs a v
  out_of_body : (b : Activation) → labelled v.blocks 0 ≡ None → move m s (running cs a) ≡ goes 1 s (running cs b)
      → move m s (running cs b) ≡ handed s cs a.values → a.values ≡ operands a → length a.values ≡ a.results
      → Left m s cs a v

abbrev pub EndsLeave : Type 0
EndsLeave = (m : Module) → Valid m → (s : Store) (cs : List Activation) (a : Activation) (v : Visit)
    → StandsAt m a v → a.code ≡ nil → Left m s cs a v

-- ---- the beginning

-- A function's activation stands at the first place of its body. There are no zeros of floats, so no local may be one.
abbrev pub CallsCome : Type 0
CallsCome = (m : Module) → HasNoFloat m → (n : ℕ) (c : Callee) (us : List Value)
    → callee_of m n ≡ Some c → types_of us ≡ c.takes → Comes m (opened n c us) (way (0 ∷ []) [])

-- all of these laws, for those who prove above them
pub record MovesFollow : Type 0 where
  pub shown : StandingsShow
  pub one : PathsTellVisits
  pub onward : OnwardComes
  pub in_block : BlockComes
  pub in_arm : ArmComes
  pub branch : BranchesCome
  pub returns : ReturnsHaveResults
  pub leave : EndsLeave
  pub calls : CallsCome
  pub opens : CallsOpen
  pub opens_indirect : IndirectCallsOpen
  pub resumes : CallersResume
  pub results : ResultsHaveTypes
  pub functions : FunctionsStay
  pub callees : CalleesCome
  pub table : TableStays
