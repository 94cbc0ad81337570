-- The typing of function bodies: sections 3.3 and 3.4.1 of the WebAssembly Core Specification, edition 1.0.
--
-- A list of operand types has the last operand first: it is the one that an instruction takes first. So `Rule i C a b`
-- is the standard's `C ⊢ i : [a^rev] → [b^rev]`, where `a^rev` is `a` read from its end: in the context `C` the
-- instruction `i` takes operands of types `a` and gives operands of types `b`. The types of labels and of the results
-- of the body stand in the same order. The parameters and results of a `FuncType` stand as they are written, so a call
-- reverses them.
--
-- One rule of the standard (3.3.4), for a store of 64 bits, which takes an address and above it a value:
--
--     C.mems[0] = memtype     2^align ≤ 64/8
--     --------------------------------------
--     C ⊢ i64.store memarg : [i32 i64] → []
--
-- and here `Rule (store I64Store align offset) C a b`, which comes to
--
--     HasFirst C.scope.memories × (2 ^ align ≤ 8) × (a ≡ I64 ∷ I32 ∷ []) × (b ≡ [])
use Rattle.std.specs.Prelude.{◌≡◌, ℕ, ◌^◌, ◌≤◌, ◌<◌, Bool, true, List, [], ◌∷◌, ◌++◌, map, reverse, Option, Some}
use Rattle.std.specs.Prelude.{slice_get}
use Rattle.wm_ast.specs.declared.module.ValType.{ValType}
use Rattle.wm_ast.specs.declared.module.ValType.TheVariants.{I32}
use Rattle.wm_ast.specs.declared.module.FuncType.{FuncType}
use Rattle.wm_ast.specs.declared.module.Func.{Func}
use Rattle.wm_ast.specs.declared.module.Global.{Global}
use Rattle.wm_ast.specs.declared.module.Limits.{Limits}
use Rattle.wm_ast.specs.declared.module.Module.{Module}
use Rattle.wm_ast.specs.Code.{Op, unreachable, nop, block, loop, if_else, br, br_if, br_table, return, call}
use Rattle.wm_ast.specs.Code.{call_indirect, drop_one, select, local_get, local_set, local_tee, global_get}
use Rattle.wm_ast.specs.Code.{global_set, load, store, memory_size, memory_grow, memory_copy, memory_fill, const, num}
use Rattle.wm_ast.specs.Code.{float, mul64, Code, nil, cons}
use Rattle.wm_ast.specs.Operation.{num_type, load_type, load_width, store_type, store_width}
use Rattle.wm_ast.specs.Types.{results_of, const_type, run_types, function_type}
use Rattle.wm_ast.specs.View.{code_of}

-- the type of a global (2.3.7)
pub record GlobalType : Type 0 where
  pub holds : ValType
  pub mutable : Bool

-- What a whole body may name (3.1.1). A function whose type index names no type stands as `None`.
pub record Scope : Type 0 where
  pub types : List FuncType
  pub functions : List (Option FuncType)
  pub tables : List Limits
  pub memories : List Limits
  pub globals : List GlobalType
  pub locals : List ValType

-- What instructions may name, and the results of the body (3.1.1). The innermost label stands first.
pub record Context : Type 0 where
  pub scope : Scope
  pub labels : List (List ValType)
  pub results : List ValType

-- the context inside a block, whose label takes these types (3.3.5)
abbrev pub under_label : List ValType → Context → Context
under_label ts C = record C { labels = ts ∷ C.labels }

-- Index 0 names one. The instructions on memory need it of the memories (3.3.4), and an indirect call of the tables
-- (3.3.5).
abbrev pub HasFirst : {A : Type 0} → List A → Type 0
HasFirst [] = ⊥
HasFirst (x ∷ xs) = Unit {0}

-- these labels take these types
abbrev pub EachTakes : List ℕ → List (List ValType) → List ValType → Type 0
EachTakes [] labels ts = Unit {0}
EachTakes (l ∷ ls) labels ts = (slice_get labels l ≡ Some ts) × EachTakes ls labels ts

-- the instruction takes these operands and gives those
abbrev pub Just : List ValType → List ValType → List ValType → List ValType → Type 0
Just takes gives a b = (a ≡ takes) × (b ≡ gives)

-- the instruction takes the arguments of such a function and gives its results
abbrev pub Calls : FuncType → List ValType → List ValType → Type 0
Calls t a b = Just (reverse t.params) (reverse t.results) a b

abbrev mutual
  -- What an instruction takes and gives (3.3.1 to 3.3.5). Floats and `i64.mul` have no rule: the profile has none.
  pub Rule : Op → Context → List ValType → List ValType → Type 0
  -- what follows is typed from any operands
  Rule unreachable C a b = Unit {0}
  Rule nop C a b = Just [] [] a b
  Rule (block ty body) C a b =
      Just [] (results_of ty) a b
      × TypesCode body (under_label (results_of ty) C) [] (results_of ty)
  -- a branch to a loop begins it anew
  Rule (loop ty body) C a b =
      Just [] (results_of ty) a b
      × TypesCode body (under_label [] C) [] (results_of ty)
  Rule (if_else ty first second) C a b =
      Just (I32 ∷ []) (results_of ty) a b
      × TypesCode first (under_label (results_of ty) C) [] (results_of ty)
      × TypesCode second (under_label (results_of ty) C) [] (results_of ty)
  Rule (br l) C a b =
      (ts : List ValType) × (below : List ValType) × (slice_get C.labels l ≡ Some ts) × (a ≡ ts ++ below)
  -- where the branch isn't taken, its values stay
  Rule (br_if l) C a b = (ts : List ValType) × (slice_get C.labels l ≡ Some ts) × Just (I32 ∷ ts) ts a b
  Rule (br_table ls l) C a b =
      (ts : List ValType) × (below : List ValType) × (slice_get C.labels l ≡ Some ts) × EachTakes ls C.labels ts
      × (a ≡ I32 ∷ (ts ++ below))
  Rule return C a b = (below : List ValType) × (a ≡ C.results ++ below)
  Rule (call f) C a b = (t : FuncType) × (slice_get C.scope.functions f ≡ Some (Some t)) × Calls t a b
  -- the place in the table is the last operand
  Rule (call_indirect n) C a b =
      (t : FuncType) × HasFirst C.scope.tables × (slice_get C.scope.types n ≡ Some t)
      × Just (I32 ∷ reverse t.params) (reverse t.results) a b
  Rule drop_one C a b = (t : ValType) × Just (t ∷ []) [] a b
  Rule select C a b = (t : ValType) × Just (I32 ∷ t ∷ t ∷ []) (t ∷ []) a b
  Rule (local_get x) C a b = (t : ValType) × (slice_get C.scope.locals x ≡ Some t) × Just [] (t ∷ []) a b
  Rule (local_set x) C a b = (t : ValType) × (slice_get C.scope.locals x ≡ Some t) × Just (t ∷ []) [] a b
  Rule (local_tee x) C a b = (t : ValType) × (slice_get C.scope.locals x ≡ Some t) × Just (t ∷ []) (t ∷ []) a b
  Rule (global_get x) C a b = (g : GlobalType) × (slice_get C.scope.globals x ≡ Some g) × Just [] (g.holds ∷ []) a b
  Rule (global_set x) C a b =
      (g : GlobalType) × (slice_get C.scope.globals x ≡ Some g) × (g.mutable ≡ true) × Just (g.holds ∷ []) [] a b
  -- an alignment is an exponent of 2, and at most the width
  Rule (load op align offset) C a b =
      HasFirst C.scope.memories × (2 ^ align ≤ load_width op) × Just (I32 ∷ []) (load_type op ∷ []) a b
  Rule (store op align offset) C a b =
      HasFirst C.scope.memories × (2 ^ align ≤ store_width op) × Just (store_type op ∷ I32 ∷ []) [] a b
  Rule memory_size C a b = HasFirst C.scope.memories × Just [] (I32 ∷ []) a b
  Rule memory_grow C a b = HasFirst C.scope.memories × Just (I32 ∷ []) (I32 ∷ []) a b
  -- `memory.copy` and `memory.fill` are of edition 2.0 (3.3.7 there)
  Rule memory_copy C a b = HasFirst C.scope.memories × Just (I32 ∷ I32 ∷ I32 ∷ []) [] a b
  Rule memory_fill C a b = HasFirst C.scope.memories × Just (I32 ∷ I32 ∷ I32 ∷ []) [] a b
  Rule (const v) C a b = Just [] (const_type v ∷ []) a b
  Rule (num op) C a b = Just (num_type op).takes (num_type op).gives a b
  Rule (float opcode) C a b = ⊥
  Rule mul64 C a b = ⊥

  -- A sequence (3.3.6). Any types between the instructions that fit may be chosen, and each instruction may stand over
  -- further operands.
  pub TypesCode : Code → Context → List ValType → List ValType → Type 0
  TypesCode nil C a b = a ≡ b
  TypesCode (cons i is) C a b =
      (takes : List ValType) × (gives : List ValType) × (below : List ValType)
      × Rule i C takes gives × (a ≡ takes ++ below) × TypesCode is C (gives ++ below) b

-- the type of a global of the module
abbrev pub global_type : Global → GlobalType
global_type g = record { holds = g.ty; mutable = g.mutable }

-- the scope of a body with these locals; there are no imports
abbrev pub body_scope : Module → List ValType → Scope
body_scope m locals = record {
  types = m.types;
  functions = map (function_type m) m.funcs;
  tables = m.tables;
  memories = m.mems;
  globals = map global_type m.globals;
  locals = locals;
}

-- The context of the body of a function of this type (3.4.1). Its locals are the parameters and then its own.
abbrev pub body_context : Module → Func → FuncType → Context
body_context m f t = record {
  scope = body_scope m (t.params ++ run_types f.locals);
  labels = reverse t.results ∷ [];
  results = reverse t.results;
}

-- The function has a typing (3.4.1): its type index names a type, and its body gives the results of it.
abbrev pub HasTyping : Module → Func → Type 0
HasTyping m f =
    (t : FuncType) × (function_type m f ≡ Some t)
    × TypesCode (code_of f.body) (body_context m f t) [] (reverse t.results)

-- each function of the module has a typing
abbrev pub AllTyped : Module → Type 0
AllTyped m = (n : ℕ) (f : Func) → slice_get m.funcs n ≡ Some f → HasTyping m f

-- the first function of the module that has no typing
pub record IsFirstUntyped (m : Module) (n : ℕ) : Type 0 where
  pub function : Func
  pub there : slice_get m.funcs n ≡ Some function
  pub untyped : ¬ HasTyping m function
  pub before : (k : ℕ) (f : Func) → k < n → slice_get m.funcs k ≡ Some f → HasTyping m f
