-- The workload: the module that a number and a size tell. The number begins a generator, whose draws choose what each
-- function does. It is made for measuring: its functions loop, store, load, call and divide, and `main` adds what all
-- of them give.
use Rattle.std.specs.Prelude.{ℕ, zero, suc, ◌+◌, ◌*◌, ◌/◌, ◌%◌, ◌^◌, pos, List, [], ◌∷◌, ◌++◌, None, codes}
use Rattle.mc_nbt.specs.declared.value.Value.TheVariants.{I32, I64}
use Rattle.wm_ast.specs.declared.module.ValType.TheVariants as types
use Rattle.wm_ast.specs.declared.module.FuncType.{FuncType}
use Rattle.wm_ast.specs.declared.module.Limits.{Limits}
use Rattle.wm_ast.specs.declared.module.Run.{Run}
use Rattle.wm_ast.specs.declared.module.Func.{Func}
use Rattle.wm_ast.specs.declared.module.Space.TheVariants as spaces
use Rattle.wm_ast.specs.declared.module.Export.{Export}
use Rattle.wm_ast.specs.declared.module.Module.{Module}
use Rattle.wm_ast.specs.declared.operation.LoadOp.TheVariants.{I64Load32U}
use Rattle.wm_ast.specs.declared.operation.NumOp.TheVariants.{I32Mul, I32Sub, I64Add, I64DivU, I64RemU, I64Xor}
use Rattle.wm_ast.specs.declared.operation.NumOp.TheVariants.{I64ExtendI32U}
use Rattle.wm_ast.specs.declared.operation.StoreOp.TheVariants.{I32Store}
use Rattle.wm_ast.specs.Code.{Op, loop, br_if, call, local_get, local_set, local_tee, load, store, const, num}
use Rattle.wm_ast.specs.View.{code_from, instrs_of}

-- ---- the draws

abbrev pub multiplier : ℕ
multiplier = 6364136223846793005

abbrev pub increment : ℕ
increment = 1442695040888963407

-- the generator after a draw
abbrev pub next : ℕ → ℕ
next x = (x * multiplier + increment) % 2 ^ 64

-- the generator after so many draws
abbrev pub after_draws : ℕ → ℕ → ℕ
after_draws number zero = number
after_draws number (suc n) = next (after_draws number n)

-- what the draw gives after which the generator stands so: the upper 31 bits
abbrev pub drawn : ℕ → ℕ
drawn x = x / 2 ^ 33

-- ---- what a function does

abbrev pub i32 : ℕ → Op
i32 n = const (I32 (pos n))

abbrev pub i64 : ℕ → Op
i64 n = const (I64 (pos n))

-- local 0 counts down, and the innermost loop begins anew as long as it isn't 0
abbrev pub count_down : List Op
count_down = local_get 0 ∷ i32 1 ∷ num I32Sub ∷ local_tee 0 ∷ br_if 0 ∷ []

-- Gives local 1, after a loop of so many turns.
abbrev pub counted : ℕ → List Op → List Op
counted turns turn = i32 turns ∷ local_set 0 ∷ loop None (code_from turn) ∷ local_get 1 ∷ []

-- in 16 to 31 turns
abbrev pub mixing_turn : List Op
mixing_turn =
    local_get 1 ∷ i64 multiplier ∷ num I64Xor ∷ local_get 0 ∷ num I64ExtendI32U ∷ num I64Add ∷ local_set 1 ∷ count_down

abbrev pub mixing : ℕ → List Op
mixing a = counted (16 + a % 16) mixing_turn

-- in 64 turns, each of which stores a word and loads it again
abbrev pub storing_turn : ℕ → ℕ → List Op
storing_turn a b =
    local_get 0 ∷ i32 4 ∷ num I32Mul ∷ local_get 0 ∷ i32 a ∷ num I32Mul ∷ store I32Store 2 (b % 1024)
    ∷ local_get 1 ∷ local_get 0 ∷ i32 4 ∷ num I32Mul ∷ load I64Load32U 2 (b % 1024) ∷ num I64Add ∷ local_set 1
    ∷ count_down

abbrev pub storing : ℕ → ℕ → List Op
storing a b = counted 64 (storing_turn a b)

-- calls a function
abbrev pub calling : ℕ → ℕ → List Op
calling f a = call f ∷ i64 a ∷ num I64Xor ∷ []

abbrev pub dividing : ℕ → ℕ → List Op
dividing a b =
    i64 (a * 2 ^ 31 + b) ∷ i64 (1 + b % 1000) ∷ num I64DivU ∷ i64 a ∷ i64 (1 + b % 1000) ∷ num I64RemU ∷ num I64Xor ∷ []

-- Which of these function `i` does, by the rest modulo 4 of what was drawn for it. It calls the function before it;
-- there is none before the first, which mixes.
abbrev pub form : ℕ → ℕ → ℕ → ℕ → List Op
form zero i a b = mixing a
form (suc zero) i a b = storing a b
form (suc (suc zero)) zero a b = mixing a
form (suc (suc zero)) (suc i) a b = calling i a
form (suc (suc (suc n))) i a b = dividing a b

-- what function `i` does, where the generator stands so before its three draws
abbrev pub body : ℕ → ℕ → List Op
body x i =
    let first : ℕ = next x in
    let second : ℕ = next first in
    let third : ℕ = next second in
    form (drawn first % 4) i (drawn second) (drawn third)

-- adds what so many functions give, from one on
abbrev pub sums : ℕ → ℕ → List Op
sums i zero = []
sums i (suc n) = call i ∷ num I64Add ∷ sums (suc i) n

-- ---- the module

-- the one type: nothing is taken, and an `i64` is given
abbrev pub to_i64 : FuncType
to_i64 = record { params = []; results = types.I64 ∷ [] }

-- local 0 is an `i32` and local 1 an `i64`
abbrev pub locals : List Run
locals = record { count = 1; ty = types.I32 } ∷ record { count = 1; ty = types.I64 } ∷ []

abbrev pub function : ℕ → ℕ → Func
function x i = record { kind = 0; locals = locals; body = instrs_of (code_from (body x i)) }

-- so many functions, for each of which three draws are made
abbrev pub functions : ℕ → ℕ → List Func
functions number zero = []
functions number (suc n) = functions number n ++ function (after_draws number (3 * n)) n ∷ []

-- stands after so many functions, and adds what they give
abbrev pub main : ℕ → Func
main size = record { kind = 0; locals = []; body = instrs_of (code_from (i64 0 ∷ sums 0 size)) }

abbrev pub one_page : Limits
one_page = record { min = 1; max = None }

-- the function after so many is exported
abbrev pub export_main : ℕ → Export
export_main size = record { name = codes "main"; space = spaces.Func; index = size }

-- the module of a number and of so many functions besides `main`
abbrev pub workload : ℕ → ℕ → Module
workload number size = record {
  types = to_i64 ∷ [];
  funcs = functions number size ++ main size ∷ [];
  tables = [];
  mems = one_page ∷ [];
  globals = [];
  exports = export_main size ∷ [];
  start = None;
  elems = [];
  datas = [];
  imports = [];
}
