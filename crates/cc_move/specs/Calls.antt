-- Laws of calls and returns, which the contracts of public functions cite. In all lists of operands and of their types
-- the last operand stands first.
use Rattle.std.specs.Prelude.{◌≡◌, ◌≤◌, ◌<◌, ℕ, suc, ℤ, List, [], ◌∷◌, ◌++◌, length, reverse, Option, Some, None}
use Rattle.std.specs.Prelude.{option_and_then, slice_get}
use Rattle.mc_nbt.specs.declared.value.Value.{Value}
use Rattle.mc_nbt.specs.declared.value.Value.TheVariants.{I32}
use Rattle.wm_ast.specs.declared.answer.TrapKind.{TrapKind}
use Rattle.wm_ast.specs.declared.answer.TrapKind.TheVariants.{StackExhausted}
use Rattle.wm_ast.specs.declared.limit.TheConstants.{MAX_FRAMES}
use Rattle.wm_ast.specs.declared.module.Func.{Func}
use Rattle.wm_ast.specs.declared.module.FuncType.{FuncType}
use Rattle.wm_ast.specs.declared.module.Module.{Module}
use Rattle.wm_ast.specs.declared.module.ValType.{ValType}
use Rattle.wm_ast.specs.Code.{Op, call, call_indirect, Code, cons}
use Rattle.wm_ast.specs.Profile.{HasNoFloat}
use Rattle.wm_ast.specs.Step.{function, refused, target}
use Rattle.wm_ast.specs.Store.{Store, Callee, callee_of}
use Rattle.wm_ast.specs.Types.{run_types, function_type}
use Rattle.wm_valid.specs.Valid.{Valid}
use Rattle.wm_valid.specs.Arrows.{change}
use Rattle.wm_flat.specs.Flat.{Activation, Flat, running, Moved, goes, fails, past, opened, handed, move}
use Rattle.wm_flat.specs.FlatTyping.{types_of, Are, IsFunction, TypedState}
use Rattle.wm_flat.specs.Operands.{operands}
use Rattle.wm_flat.specs.Program.{IsProgram}
use Rattle.wm_valid.specs.InRange.{IsInRange}
use Rattle.wm_flat.specs.Runs.{State, Leads}
use Rattle.wm_place.specs.Kinds.{body_of}
use Rattle.wm_place.specs.Visit.{Visit}
use Rattle.cc_cut.specs.Way.{Way, way, path_behind, left_by, ways}
use Rattle.cc_move.specs.Standing.{at, StandsAt, Comes}

-- ---- what calls give

-- what a call of a function of this type gives, or nothing where there is none
abbrev pub gives_by : Option FuncType → List ValType
gives_by None = []
gives_by (Some t) = reverse t.results

-- what a call of the function of this index gives, or nothing where there is none
abbrev pub gives_of : Module → ℕ → List ValType
gives_of m n = gives_by (option_and_then (function_type m) (slice_get m.funcs n))

-- ---- calls

-- the arguments of a function of this type, over the operands that stay
pub record Arguments (t : FuncType) (vs : List Value) : Type 0 where
  pub args : List Value
  pub rest : List Value
  pub parts : vs ≡ args ++ rest
  pub are : Are (reverse t.params) args

-- A call over these arguments, where this is the first of the callers: the function's activation, after one step more
-- than n; or, where as many calls as may be haven't returned, the trap.
pub data Opens (n : ℕ) (st : Store) (cs : List Activation) (caller : Activation) (f : ℕ) (c : Callee)
    (us : List Value) (x : Moved) : Type 0 where
  into_body : suc (length cs) < MAX_FRAMES → x ≡ goes (suc n) st (running (caller ∷ cs) (opened f c us))
      → Opens n st cs caller f c us x
  too_deep : MAX_FRAMES ≤ suc (length cs) → x ≡ fails n StackExhausted → Opens n st cs caller f c us x

-- a call of the function of this index, which has this type
pub record Invoked (m : Module) (n : ℕ) (st : Store) (cs : List Activation) (caller : Activation) (f : ℕ)
    (t : FuncType) (us : List Value) (x : Moved) : Type 0 where
  pub func : Func
  pub is_function : IsFunction m f func t
  pub callee : Callee
  pub found : callee_of m f ≡ Some callee
  pub takes : types_of us ≡ callee.takes
  pub count : length us ≡ length callee.takes
  pub gives : gives_of m f ≡ reverse t.results
  pub opens : Opens n st cs caller f callee us x

-- the move of a `call`, behind which the caller waits over the operands that stay
pub record DirectCall (m : Module) (st : Store) (cs : List Activation) (a : Activation) (f : ℕ) (is : Code)
    : Type 0 where
  pub type : FuncType
  pub over : Arguments type a.values
  pub invoked : Invoked m 0 st cs (past a (call f) is a.locals over.rest) f type over.args (move m st (running cs a))

abbrev pub CallsOpen : Type 0
CallsOpen = (m : Module) → IsProgram m → (results : List ValType) (st : Store) (cs : List Activation) (a : Activation)
    → TypedState m results (at st cs a) → (f : ℕ) (is : Code) → a.code ≡ cons (call f) is → DirectCall m st cs a f is

-- what the element of this index leads to: a trap, or a call of the function there, which has the type of index n
pub data Reached (m : Module) (st : Store) (cs : List Activation) (a : Activation) (n : ℕ) (is : Code) (t : FuncType)
    (i : ℤ) (us rest : List Value) : Type 0 where
  refuses : (k : TrapKind) → target m st n i ≡ refused k → move m st (running cs a) ≡ fails 0 k
      → Reached m st cs a n is t i us rest
  invokes : (f : ℕ) → target m st n i ≡ function f → gives_of m f ≡ gives_by (slice_get m.types n)
      → Invoked m 1 st cs (past a (call_indirect n) is a.locals rest) f t us (move m st (running cs a))
      → Reached m st cs a n is t i us rest

-- the move of a `call_indirect`, whose last operand is the index of an element
pub record IndirectCall (m : Module) (st : Store) (cs : List Activation) (a : Activation) (n : ℕ) (is : Code)
    : Type 0 where
  pub type : FuncType
  pub named : slice_get m.types n ≡ Some type
  pub index : ℤ
  pub in_range : IsInRange (I32 index)
  pub values : List Value
  pub parts : a.values ≡ I32 index ∷ values
  pub over : Arguments type values
  pub reached : Reached m st cs a n is type index over.args over.rest

abbrev pub IndirectCallsOpen : Type 0
IndirectCallsOpen = (m : Module) → IsProgram m → (results : List ValType) (st : Store) (cs : List Activation)
    (a : Activation) → TypedState m results (at st cs a) → (n : ℕ) (is : Code) → a.code ≡ cons (call_indirect n) is
    → IndirectCall m st cs a n is

-- ---- the caller goes on

-- a caller with the results of the call
abbrev pub with_results : Activation → List Value → Activation
with_results c us = record c { values = us ++ c.values }

-- the way behind an instruction that is no jump
abbrev pub way_behind : (m : Module) (a : Activation) (v : Visit) → StandsAt m a v → Op → Way
way_behind m a v s i =
    way (path_behind v.path) (left_by (change i (body_of m s.func s.type).scope) (types_of (operands a)))

-- With these results the caller has come by the way behind its instruction, which is the only way on from there. The
-- results stand over the operands that it waited with.
pub record Resumed (m : Module) (a : Activation) (v : Visit) (s : StandsAt m a v) (i : Op) (is : Code)
    (rest us : List Value) : Type 0 where
  pub comes : Comes m (with_results (past a i is a.locals rest) us) (way_behind m a v s i)
  pub only : ways (body_of m s.func s.type).scope v ≡ way_behind m a v s i ∷ []
  pub kinds : (way_behind m a v s i).kinds ≡ types_of us ++ types_of (operands (past a i is a.locals rest))
  pub whole : operands (with_results (past a i is a.locals rest) us) ≡ us ++ operands (past a i is a.locals rest)

abbrev pub CallersResume : Type 0
CallersResume = (m : Module) → Valid m → (a : Activation) (v : Visit) (s : StandsAt m a v) (is : Code) (t : FuncType)
    (us : List Value)
    → ((f : ℕ) (g : Func) → a.code ≡ cons (call f) is → IsFunction m f g t → (o : Arguments t a.values)
    → types_of us ≡ gives_of m f → Resumed m a v s (call f) is o.rest us)
    × ((n : ℕ) (i : ℤ) (vs : List Value) → a.code ≡ cons (call_indirect n) is → slice_get m.types n ≡ Some t
    → a.values ≡ I32 i ∷ vs → (o : Arguments t vs) → types_of us ≡ gives_by (slice_get m.types n)
    → Resumed m a v s (call_indirect n) is o.rest us)

-- ---- results

-- results of a call of the function of this index
pub record Results (m : Module) (n : ℕ) (us : List Value) : Type 0 where
  pub are : Are (gives_of m n) us
  pub few : length us ≤ 1

-- however a call ends
abbrev pub ResultsHaveTypes : Type 0
ResultsHaveTypes = (m : Module) → IsProgram m → (results : List ValType) (st : Store) (cs : List Activation)
    (b : Activation) (us : List Value) → TypedState m results (at st cs b)
    → move m st (running cs b) ≡ handed st cs us → Results m b.func us

-- a move within a call stays in its function
abbrev pub FunctionsStay : Type 0
FunctionsStay = (m : Module) (st : Store) (cs : List Activation) (a : Activation) (n : ℕ) (after : Store)
    (b : Activation) → move m st (running cs a) ≡ goes n after (running cs b)
    → (b.func ≡ a.func) × (b.results ≡ a.results)

-- ---- the callee

-- A function's activation over its arguments stands at the first place of its body, over no operands, with the
-- arguments and zeros for locals.
pub record Begun (m : Module) (f : ℕ) (g : Func) (t : FuncType) (c : Callee) (us : List Value) : Type 0 where
  pub comes : Comes m (opened f c us) (way (0 ∷ []) [])
  pub takes : types_of us ≡ c.takes
  pub none : operands (opened f c us) ≡ []
  pub locals : (opened f c us).locals ≡ reverse us ++ c.zeros
  pub types : types_of (reverse us ++ c.zeros) ≡ t.params ++ run_types g.locals

abbrev pub CalleesCome : Type 0
CalleesCome = (m : Module) → HasNoFloat m → (f : ℕ) (g : Func) (t : FuncType) (c : Callee) (us : List Value)
    → IsFunction m f g t → callee_of m f ≡ Some c → types_of us ≡ reverse t.params → Begun m f g t c us

-- ---- the table

-- no move changes it
abbrev pub TableStays : Type 0
TableStays = ((m : Module) (s : Store) (c : Flat) (n : ℕ) (after : Store) (d : Flat)
    → move m s c ≡ goes n after d → after.table ≡ s.table)
    × ((m : Module) (n : ℕ) (c d : State) → Leads m n c d → d.store.table ≡ c.store.table)
