-- Worked facts of the reduction.
use Rattle.std.proofs.Common.{◌≡◌, ℕ, suc, List, [], ◌∷◌, Bool, true, false, Option, Some, None, refl, pos, negsuc}
use Rattle.mc_nbt.specs.declared.value.Value.{Value}
use Rattle.mc_nbt.specs.declared.value.Value.TheVariants.{I32}
use Rattle.wm_ast.specs.declared.answer.TrapKind.{TrapKind}
use Rattle.wm_ast.specs.declared.answer.TrapKind.TheVariants.{Unreachable, DivideByZero, OutOfBounds}
use Rattle.wm_ast.specs.declared.answer.TrapKind.TheVariants.{UndefinedElement, UninitializedElement, TypeMismatch}
use Rattle.wm_ast.specs.declared.answer.TrapKind.TheVariants.{StackExhausted}
use Rattle.wm_ast.specs.declared.instruction.Instr.{Instr}
use Rattle.wm_ast.specs.declared.limit.TheConstants.{PAGES, MAX_FRAMES}
use Rattle.wm_ast.specs.declared.module.FuncType.{FuncType}
use Rattle.wm_ast.specs.declared.module.Limits.{Limits}
use Rattle.wm_ast.specs.declared.module.Module.{Module}
use Rattle.wm_ast.specs.declared.module.ValType.TheVariants as types
use Rattle.wm_ast.specs.declared.operation.LoadOp.TheVariants.{I32Load, I32Load8U}
use Rattle.wm_ast.specs.declared.operation.NumOp.TheVariants.{I32Eqz, I32Add, I32Sub, I32LtS, I32DivS}
use Rattle.wm_ast.specs.declared.operation.StoreOp.TheVariants.{I32Store}
use Rattle.wm_ast.specs.After.{after}
use Rattle.wm_ast.specs.Code.{Op, unreachable, nop, block, loop, if_else, br, br_if, br_table, return, call}
use Rattle.wm_ast.specs.Code.{local_get, local_set, load, store}
use Rattle.wm_ast.specs.Code.{memory_grow, memory_copy, memory_fill, const, num, Code, nil, cons}
use Rattle.wm_ast.specs.Configuration.{frame, empty, more, items_of, Config}
use Rattle.wm_ast.specs.Instance.{first_store, call_config}
use Rattle.wm_ast.specs.Simple.{done, simple}
use Rattle.wm_ast.specs.Step.{traps, op_step, Progress, Next, Ended, Trapped, Stuck, function, refused, target}
use Rattle.wm_ast.specs.Step.{step}
use Rattle.wm_ast.specs.Store.{Store}
use Rattle.wm_ast.specs.View.{code_of}

-- Programs.

abbrev code : List Op → Code
code [] = nil
code (i ∷ is) = cons i (code is)

abbrev int : ℕ → Value
int n = I32 (pos n)

abbrev push : ℕ → Op
push n = const (int n)

abbrev one_page : Limits
one_page = record { min = 1; max = None }

abbrev to_one : FuncType
to_one = record { params = types.I32 ∷ []; results = types.I32 ∷ [] }

abbrev to_none : FuncType
to_none = record { params = []; results = [] }

-- a module of one page with a function of the first type, of this body, and one of the second type
abbrev program : List Instr → Module
program body = record {
  types = to_one ∷ to_none ∷ to_one ∷ [];
  funcs = record { kind = 0; locals = []; body = body } ∷ record { kind = 1; locals = []; body = [] } ∷ [];
  tables = record { min = 3; max = None } ∷ [];
  mems = one_page ∷ [];
  globals = [];
  exports = [];
  start = None;
  elems = [];
  datas = [];
  imports = [];
}

-- a store with these bytes
abbrev bytes : List ℕ → Store
bytes memory = record { globals = []; memory = memory; table = Some 0 ∷ None ∷ Some 1 ∷ [] }

-- what these instructions come to after so many steps, in a frame with these locals and so many results
abbrev runs : List Instr → Store → ℕ → List Value → List Op → ℕ → Progress
runs body s count locals is n =
    after (program body) (record { store = s; term = more (frame count 0 locals (items_of (code is))) empty }) n

abbrev is_next : Progress → Bool
is_next (Next c) = true
is_next _ = false

abbrev results_of : Progress → Option (List Value)
results_of (Ended vs s) = Some vs
results_of _ = None

abbrev memory_of : Progress → Option (List ℕ)
memory_of (Ended vs s) = Some s.memory
memory_of (Trapped k s) = Some s.memory
memory_of _ = None

abbrev trap_of : Progress → Option TrapKind
trap_of (Trapped k s) = Some k
trap_of _ = None

module _ (body : List Instr) where
  -- Blocks and branches. A constant is no step, and the last two steps of a block are its end and that of the frame.

  -- what follows a branch isn't run
  behind_branch : results_of (runs body (bytes []) 1 [] (block None (code (br 0 ∷ unreachable ∷ [])) ∷ push 7 ∷ []) 3)
      ≡ Some (int 7 ∷ [])
  behind_branch = refl

  abbrev summing : List Op
  summing =
      block None (code (
      loop None (code (
      local_get 0 ∷ num I32Eqz ∷ br_if 1
      ∷ local_get 0 ∷ local_get 1 ∷ num I32Add ∷ local_set 1
      ∷ local_get 0 ∷ push 1 ∷ num I32Sub ∷ local_set 0 ∷ br 0 ∷ []))
      ∷ []))
      ∷ local_get 1 ∷ []

  -- 1 + 2 + 3: each turn of the loop takes 12 steps, the last one 5 with the way out
  sum_of_3 : results_of (runs body (bytes []) 1 (int 3 ∷ int 0 ∷ []) summing 44) ≡ Some (int 6 ∷ [])
  sum_of_3 = refl

  sum_goes_on : is_next (runs body (bytes []) 1 (int 3 ∷ int 0 ∷ []) summing 43) ≡ true
  sum_goes_on = refl

  -- the label of each index, and the default label past the last one
  abbrev choosing : List Op
  choosing =
      block None (code (
      block None (code (
      block None (code (local_get 0 ∷ br_table (0 ∷ 1 ∷ []) 2 ∷ []))
      ∷ push 10 ∷ return ∷ []))
      ∷ push 20 ∷ return ∷ []))
      ∷ push 30 ∷ []

  chooses_first : results_of (runs body (bytes []) 1 (int 0 ∷ []) choosing 9) ≡ Some (int 10 ∷ [])
  chooses_first = refl

  chooses_second : results_of (runs body (bytes []) 1 (int 1 ∷ []) choosing 9) ≡ Some (int 20 ∷ [])
  chooses_second = refl

  chooses_default : results_of (runs body (bytes []) 1 (int 2 ∷ []) choosing 9) ≡ Some (int 30 ∷ [])
  chooses_default = refl

  chooses_default_without_sign : results_of (runs body (bytes []) 1 (I32 (negsuc 0) ∷ []) choosing 9)
      ≡ Some (int 30 ∷ [])
  chooses_default_without_sign = refl

  -- no rule: a branch that leaves the frame
  abbrev alone : List Op → Config
  alone is = record { store = bytes []; term = more (frame 0 0 [] (items_of (code is))) empty }

  leaves_frame : step (program body) (alone (br 0 ∷ [])) ≡ Stuck
  leaves_frame = refl

  -- Traps. A trap is a step.

  reaches_unreachable : runs body (bytes (1 ∷ [])) 0 [] (nop ∷ unreachable ∷ []) 2
      ≡ Trapped Unreachable (bytes (1 ∷ []))
  reaches_unreachable = refl

  divides_by_zero : trap_of (runs body (bytes []) 1 [] (push 7 ∷ push 0 ∷ num I32DivS ∷ []) 1) ≡ Some DivideByZero
  divides_by_zero = refl

  -- Memory.

  abbrev five : Store
  five = bytes (0x61 ∷ 0x62 ∷ 0x63 ∷ 0x64 ∷ 0x65 ∷ [])

  -- what copies or fills leave after so many steps
  abbrev left : List Op → ℕ → Option (List ℕ)
  left is n = memory_of (runs body five 0 [] is n)

  -- each of four bytes is a step, and then the end of the copy and of the frame are two
  copies_up : left (push 1 ∷ push 0 ∷ push 4 ∷ memory_copy ∷ []) 6 ≡ Some (0x61 ∷ 0x61 ∷ 0x62 ∷ 0x63 ∷ 0x64 ∷ [])
  copies_up = refl

  copies_down : left (push 0 ∷ push 1 ∷ push 4 ∷ memory_copy ∷ []) 6 ≡ Some (0x62 ∷ 0x63 ∷ 0x64 ∷ 0x65 ∷ 0x65 ∷ [])
  copies_down = refl

  copy_goes_on : is_next (runs body five 0 [] (push 0 ∷ push 1 ∷ push 4 ∷ memory_copy ∷ []) 5) ≡ true
  copy_goes_on = refl

  fills : left (push 1 ∷ push 0x1AA ∷ push 3 ∷ memory_fill ∷ []) 5 ≡ Some (0x61 ∷ 0xAA ∷ 0xAA ∷ 0xAA ∷ 0x65 ∷ [])
  fills = refl

  -- a fill that reaches beyond the end traps at once and writes nothing; one of nothing at the end doesn't
  fill_beyond : runs body five 0 [] (push 1 ∷ push 0 ∷ push 5 ∷ memory_fill ∷ []) 1 ≡ Trapped OutOfBounds five
  fill_beyond = refl

  fill_nothing_at_end : left (push 5 ∷ push 0 ∷ push 0 ∷ memory_fill ∷ []) 2 ≡ Some five.memory
  fill_nothing_at_end = refl

  fill_nothing_beyond : runs body five 0 [] (push 6 ∷ push 0 ∷ push 0 ∷ memory_fill ∷ []) 1 ≡ Trapped OutOfBounds five
  fill_nothing_beyond = refl

  -- the lowest byte stands first
  loads : results_of (runs body five 1 [] (push 1 ∷ load I32Load 2 0 ∷ []) 2) ≡ Some (int 0x65646362 ∷ [])
  loads = refl

  -- the effective address doesn't wrap
  load_beyond : trap_of (runs body five 1 [] (const (I32 (negsuc 0)) ∷ load I32Load8U 0 1 ∷ []) 1) ≡ Some OutOfBounds
  load_beyond = refl

  stores : left (push 0 ∷ const (I32 (negsuc 1)) ∷ store I32Store 2 1 ∷ []) 2
      ≡ Some (0x61 ∷ 0xFE ∷ 0xFF ∷ 0xFF ∷ 0xFF ∷ [])
  stores = refl

  store_beyond : runs body five 0 [] (push 0 ∷ push 0 ∷ store I32Store 2 2 ∷ []) 1 ≡ Trapped OutOfBounds five
  store_beyond = refl

  -- more pages than there may be: nothing is changed
  grows_too_far : simple (program body) five [] memory_grow (I32 (negsuc 0) ∷ []) ≡ done five [] (I32 (negsuc 0) ∷ [])
  grows_too_far = refl

  grows_to_one_too_many : simple (program body) five [] memory_grow (int (suc PAGES) ∷ []) ≡ done five [] (I32 (negsuc 0) ∷ [])
  grows_to_one_too_many = refl

  -- Calls through the table: the index first, then the element, then the type as it is written.

  finds_function : target (program body) (bytes []) 2 (pos 0) ≡ function 0
  finds_function = refl

  no_element : target (program body) (bytes []) 0 (pos 3) ≡ refused UndefinedElement
  no_element = refl

  no_element_without_sign : target (program body) (bytes []) 0 (negsuc 0) ≡ refused UndefinedElement
  no_element_without_sign = refl

  empty_element : target (program body) (bytes []) 0 (pos 1) ≡ refused UninitializedElement
  empty_element = refl

  other_type : target (program body) (bytes []) 0 (pos 2) ≡ refused TypeMismatch
  other_type = refl

-- Calls.

abbrev fib : Code
fib = code (
    local_get 0 ∷ push 2 ∷ num I32LtS
    ∷ if_else (Some types.I32)
    (code (local_get 0 ∷ []))
    (code (
    local_get 0 ∷ push 1 ∷ num I32Sub ∷ call 0
    ∷ local_get 0 ∷ push 2 ∷ num I32Sub ∷ call 0
    ∷ num I32Add ∷ []))
    ∷ [])

abbrev calls : List Instr → ℕ → ℕ → Progress
calls body k n = after (program body) (call_config (bytes []) 0 (int k ∷ [])) n

-- the second number of Fibonacci takes 28 steps
fib_of_2 : (body : List Instr) → code_of body ≡ fib → results_of (calls body 2 28) ≡ Some (int 1 ∷ [])
fib_of_2 body e = rw (e, e, e) refl

fib_of_2_before : (body : List Instr) → code_of body ≡ fib → is_next (calls body 2 27) ≡ true
fib_of_2_before body e = rw (e, e, e) refl

-- no more calls than the limit are under way
too_deep : (body : List Instr) → op_step (program body) MAX_FRAMES (bytes []) [] (call 0) (int 0 ∷ []) ≡ traps StackExhausted
too_deep body = refl

-- Instantiation: a global, a data segment whose offset is without sign, and an element segment.

abbrev initial : List Instr → List Instr → Module
initial first second = record (program []) {
  tables = record { min = 4; max = None } ∷ [];
  mems = record { min = 0; max = None } ∷ [];
  globals = record { ty = types.I32; mutable = true; init = first } ∷ [];
  elems = record { table = 0; offset = second; funcs = 1 ∷ 0 ∷ [] } ∷ [];
  datas = record { memory = 0; offset = second; bytes = [] } ∷ [];
}

sets_first_store : (first second : List Instr) → code_of first ≡ code (push 7 ∷ [])
    → code_of second ≡ code (push 1 ∷ [])
    → first_store (initial first second)
    ≡ record { globals = int 7 ∷ []; memory = []; table = None ∷ Some 1 ∷ Some 0 ∷ None ∷ [] }
sets_first_store first second e h = rw (e, h) refl
