-- What instructions add to a piece: the one table from which it follows where the weight of a piece asks for a cut.
-- No law rests on its numbers, but that none is above `most_cost` and that of a constant not above `constant_cost`.
use Rattle.std.specs.Prelude.{ℕ, ◌+◌, ◌*◌, length, Bool, true, false, if◌then◌else◌, nat_le}
use Rattle.mc_nbt.specs.declared.value.Kind.{Kind}
use Rattle.mc_nbt.specs.declared.value.Kind.TheVariants.{I32, I64}
use Rattle.wm_ast.specs.declared.operator.Operator.{Operator}
use Rattle.wm_ast.specs.declared.operator.Operator.TheVariants.{Test, Unary, Binary, Comparison, Wrap, ExtendS, ExtendU}
use Rattle.wm_ast.specs.declared.operator.UnaryOp.{UnaryOp}
use Rattle.wm_ast.specs.declared.operator.UnaryOp.TheVariants.{Clz, Ctz, Popcnt, Extend8S, Extend16S, Extend32S}
use Rattle.wm_ast.specs.declared.operator.BinaryOp.{BinaryOp}
use Rattle.wm_ast.specs.declared.operator.BinaryOp.TheVariants.{Add, Sub, Mul, DivS, DivU, RemS, RemU, And, Or, Xor}
use Rattle.wm_ast.specs.declared.operator.BinaryOp.TheVariants.{Shl, ShrS, ShrU, Rotl, Rotr}
use Rattle.wm_ast.specs.declared.operation.LoadOp.{LoadOp}
use Rattle.wm_ast.specs.declared.operation.LoadOp.TheVariants.{I64Load}
use Rattle.wm_ast.specs.declared.operation.StoreOp.{StoreOp}
use Rattle.wm_ast.specs.declared.operation.StoreOp.TheVariants.{I64Store}
use Rattle.wm_ast.specs.Operator.{operator_of, divides}
use Rattle.wm_ast.specs.Code.{Op, unreachable, nop, block, loop, if_else, br, br_if, br_table, return, call}
use Rattle.wm_ast.specs.Code.{call_indirect, drop_one, select, local_get, local_set, local_tee, global_get, global_set}
use Rattle.wm_ast.specs.Code.{load, store, memory_size, memory_grow, memory_copy, memory_fill, const, num}
use Rattle.wm_ast.specs.Code.{Code, nil, cons}

-- A piece is full at this weight. What ends it stands besides.
abbrev pub full : ℕ
full = 436

-- no instruction costs more
abbrev pub most_cost : ℕ
most_cost = 326

-- a call of a function: the places in use are saved, and arguments passed, at most so many of both
abbrev pub call_cost : ℕ
call_cost = 302

-- a br_table of up to so many labels is a chain of tests; a longer one looks its label up
abbrev pub most_tested : ℕ
most_tested = 17

-- a test and a way out for each label, or a look-up
abbrev pub table_cost : ℕ → ℕ
table_cost labels = if nat_le labels most_tested then 20 + 16 * labels else 48

-- a constant: a write for each place
abbrev pub constant_cost : ℕ
constant_cost = 2

-- an i64 has two places
abbrev pub places_of : Kind → ℕ
places_of I32 = 1
places_of I64 = 2

-- an operator with one operand, on one place
abbrev pub unary_cost : UnaryOp → ℕ
unary_cost Clz = 40
unary_cost Ctz = 40
unary_cost Popcnt = 40
unary_cost Extend8S = 12
unary_cost Extend16S = 12
unary_cost Extend32S = 12

-- an operator with two operands, on one place
abbrev pub binary_cost : BinaryOp → ℕ
binary_cost Add = 12
binary_cost Sub = 12
binary_cost Mul = 12
binary_cost DivS = 60
binary_cost DivU = 60
binary_cost RemS = 60
binary_cost RemU = 60
binary_cost And = 100
binary_cost Or = 100
binary_cost Xor = 100
binary_cost Shl = 40
binary_cost ShrS = 40
binary_cost ShrU = 40
binary_cost Rotl = 40
binary_cost Rotr = 40

-- a number operation
abbrev pub operator_cost : Operator → ℕ
operator_cost (Test k) = 12 * places_of k
operator_cost (Unary k op) = unary_cost op * places_of k
operator_cost (Binary k op) = binary_cost op * places_of k
operator_cost (Comparison k op) = 16 * places_of k
operator_cost Wrap = 12
operator_cost ExtendS = 12
operator_cost ExtendU = 12

-- an access to memory: one of up to four bytes, and one of eight, which is made of two
abbrev pub access_cost : ℕ
access_cost = 120

abbrev pub load_cost : LoadOp → ℕ
load_cost I64Load = 2 * access_cost
load_cost _ = access_cost

abbrev pub store_cost : StoreOp → ℕ
store_cost I64Store = 2 * access_cost
store_cost _ = access_cost

-- what an instruction adds to a piece at most, with its ways out
abbrev pub cost : Op → ℕ
cost unreachable = 2
cost nop = 0
cost (block ty body) = 0
cost (loop ty body) = 2
cost (if_else ty first second) = 10
cost (br l) = 12
cost (br_if l) = 20
cost (br_table ls l) = table_cost (length ls)
cost return = 12
-- how many arguments a call takes along isn't told by the instruction
cost (call f) = call_cost
cost (call_indirect n) = most_cost
cost drop_one = 0
cost select = 24
cost (local_get x) = 4
cost (local_set x) = 4
cost (local_tee x) = 4
cost (global_get x) = 8
cost (global_set x) = 8
cost (load op align offset) = load_cost op
cost (store op align offset) = store_cost op
cost memory_size = 12
cost memory_grow = 60
-- they have a piece of their own, which is run again until their bytes are written
cost memory_copy = most_cost
cost memory_fill = most_cost
cost (const v) = constant_cost
cost (num op) = operator_cost (operator_of op)
-- what the profile doesn't have
cost _ = most_cost

-- what stands next in a sequence; its end adds nothing
abbrev pub code_cost : Code → ℕ
code_cost nil = 0
code_cost (cons i is) = cost i

-- a routine of several pieces goes on in a piece behind it: the division of i64
abbrev pub goes_on_behind : Operator → Bool
goes_on_behind (Binary I64 op) = divides op
goes_on_behind _ = false

-- whether a piece begins behind the instruction in any case: behind a block, a call, and a routine of several pieces
abbrev pub ends_piece : Op → Bool
ends_piece (block ty body) = true
ends_piece (loop ty body) = true
ends_piece (if_else ty first second) = true
ends_piece (call f) = true
ends_piece (call_indirect n) = true
ends_piece memory_grow = true
ends_piece memory_copy = true
ends_piece memory_fill = true
ends_piece (num op) = goes_on_behind (operator_of op)
ends_piece _ = false

-- whether the instruction may stand again behind a step of it, over other operands: a piece begins at it in any
-- case, which is run again then
abbrev pub is_repeated : Op → Bool
is_repeated memory_copy = true
is_repeated memory_fill = true
is_repeated _ = false
