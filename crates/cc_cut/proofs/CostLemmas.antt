-- The costs of instructions are bounded.
use Rattle.std.proofs.Common.{◌≡◌, ℕ, ◌*◌, ◌≤◌, length, true, false, refl, arith}
use Rattle.mc_nbt.specs.declared.value.Kind.{Kind}
use Rattle.mc_nbt.specs.declared.value.Kind.TheVariants.{I32, I64}
use Rattle.wm_ast.specs.declared.operator.Operator.{Operator}
use Rattle.wm_ast.specs.declared.operator.Operator.TheVariants.{Test, Unary, Binary, Comparison, Wrap, ExtendS, ExtendU}
use Rattle.wm_ast.specs.declared.operator.UnaryOp.{UnaryOp}
use Rattle.wm_ast.specs.declared.operator.UnaryOp.TheVariants.{Clz, Ctz, Popcnt, Extend8S, Extend16S, Extend32S}
use Rattle.wm_ast.specs.declared.operator.BinaryOp.{BinaryOp}
use Rattle.wm_ast.specs.declared.operator.BinaryOp.TheVariants.{Add, Sub, Mul, DivS, DivU, RemS, RemU, And, Or, Xor, Shl, ShrS, ShrU, Rotl, Rotr}
use Rattle.wm_ast.specs.declared.operation.LoadOp.{LoadOp}
use Rattle.wm_ast.specs.declared.operation.LoadOp.TheVariants.{I64Load}
use Rattle.wm_ast.specs.declared.operation.StoreOp.{StoreOp}
use Rattle.wm_ast.specs.declared.operation.StoreOp.TheVariants.{I64Store}
use Rattle.wm_ast.specs.Operator.{operator_of}
use Rattle.wm_ast.specs.Code.{Op, unreachable, nop, block, loop, if_else, br, br_if, br_table, return, call, call_indirect, drop_one, select, local_get, local_set, local_tee, global_get, global_set, load, store, memory_size, memory_grow, memory_copy, memory_fill, const, num, float, mul64, Code, nil, cons}
use Rattle.wm_valid.specs.Place.{is_jump}
use Rattle.wm_place.specs.Visit.{Visit}
use Rattle.cc_cut.specs.Cost.{full, most_cost, table_cost, constant_cost, places_of, unary_cost, binary_cost, operator_cost, load_cost, store_cost, cost, code_cost, ends_piece}
use Rattle.cc_cut.specs.Piece.{place_cost}
use Rattle.cc_cut.specs.Law.{IsConstantAt, CostsAreBounded}

few_places : (k : Kind) → places_of k ≤ 2
few_places I32 = omega arith
few_places I64 = omega arith

unary_low : (op : UnaryOp) → unary_cost op ≤ 100
unary_low Clz = omega arith
unary_low Ctz = omega arith
unary_low Popcnt = omega arith
unary_low Extend8S = omega arith
unary_low Extend16S = omega arith
unary_low Extend32S = omega arith

binary_low : (op : BinaryOp) → binary_cost op ≤ 100
binary_low Add = omega arith
binary_low Sub = omega arith
binary_low Mul = omega arith
binary_low DivS = omega arith
binary_low DivU = omega arith
binary_low RemS = omega arith
binary_low RemU = omega arith
binary_low And = omega arith
binary_low Or = omega arith
binary_low Xor = omega arith
binary_low Shl = omega arith
binary_low ShrS = omega arith
binary_low ShrU = omega arith
binary_low Rotl = omega arith
binary_low Rotr = omega arith

both_words : (x : ℕ) (k : Kind) → x ≤ 100 → x * places_of k ≤ most_cost
both_words x I32 h = omega arith
both_words x I64 h = omega arith

load_low : (op : LoadOp) → load_cost op ≤ most_cost
load_low I64Load = omega arith
load_low _ = omega arith

store_low : (op : StoreOp) → store_cost op ≤ most_cost
store_low I64Store = omega arith
store_low _ = omega arith

operator_low : (o : Operator) → operator_cost o ≤ most_cost
operator_low (Test k) = both_words 12 k (omega arith)
operator_low (Unary k op) = both_words (unary_cost op) k (unary_low op)
operator_low (Binary k op) = both_words (binary_cost op) k (binary_low op)
operator_low (Comparison k op) = both_words 16 k (omega arith)
operator_low Wrap = omega arith
operator_low ExtendS = omega arith
operator_low ExtendU = omega arith

table_low : (labels : ℕ) → table_cost labels ≤ most_cost
table_low labels = grind arith

pub cost_low : (i : Op) → cost i ≤ most_cost
cost_low unreachable = omega arith
cost_low nop = omega arith
cost_low (block ty body) = omega arith
cost_low (loop ty body) = omega arith
cost_low (if_else ty first second) = omega arith
cost_low (br l) = omega arith
cost_low (br_if l) = omega arith
cost_low (br_table ls l) = table_low (length ls)
cost_low return = omega arith
cost_low (call f) = omega arith
cost_low (call_indirect n) = omega arith
cost_low drop_one = omega arith
cost_low select = omega arith
cost_low (local_get x) = omega arith
cost_low (local_set x) = omega arith
cost_low (local_tee x) = omega arith
cost_low (global_get x) = omega arith
cost_low (global_set x) = omega arith
cost_low (load op align offset) = load_low op
cost_low (store op align offset) = store_low op
cost_low memory_size = omega arith
cost_low memory_grow = omega arith
cost_low memory_copy = omega arith
cost_low memory_fill = omega arith
cost_low (const v) = omega arith
cost_low (num op) = operator_low (operator_of op)
cost_low (float opcode) = omega arith
cost_low mul64 = omega arith

code_low : (c : Code) → code_cost c ≤ most_cost
code_low nil = omega arith
code_low (cons i is) = cost_low i

-- no place alone is too much for a piece
place_low : (v : Visit) → place_cost v ≤ most_cost
place_low v = code_low v.rest

pub place_light : (v : Visit) → place_cost v ≤ full
place_light v = let low : place_cost v ≤ most_cost = place_low v in omega arith

pub constant_low : (c : Code) → IsConstantAt c → code_cost c ≤ constant_cost
constant_low nil h = absurd h
constant_low (cons (const v) is) h = omega arith
constant_low (cons _ is) h = absurd h

pub costs_bounded : CostsAreBounded
costs_bounded = record { all = cost_low; constants = λ i is h. constant_low (cons i is) h }

pub ends_no_jump : (i : Op) → ends_piece i ≡ true → is_jump i ≡ false
ends_no_jump unreachable e = absurd cc
ends_no_jump (br l) e = absurd cc
ends_no_jump (br_table ls l) e = absurd cc
ends_no_jump return e = absurd cc
ends_no_jump _ e = refl
