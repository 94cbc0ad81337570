-- The operations of numbers of 64 bits, and the beginnings of their divisions, have few ways out, name no score of the
-- scheduler, and are as light as the table of costs says.
use Rattle.std.proofs.Common.{◌≡◌, ℕ, suc, ◌+◌, ◌-◌, ◌≤◌, ◌<◌, List, [], ◌∷◌, ◌++◌, Bool, true, false, Option, Some, refl, arith}
use Rattle.std.specs.Prelude.{if◌then◌else◌, codes, ℤ, pos, negsuc}
use Rattle.std.specs.List.{list_all}
use Rattle.mc_nbt.specs.declared.value.Kind.TheVariants.{I32, I64}
use Rattle.mc_cmd.specs.Command.{less, less_equal, greater_equal, greater, up_to}
use Rattle.wm_ast.specs.declared.operation.NumOp.{NumOp}
use Rattle.wm_ast.specs.declared.operation.NumOp.TheVariants.{I32And, I32Or, I32Xor, I32Clz, I32Ctz, I64And, I64Or, I64Xor, I64Clz, I64Ctz, I64Popcnt, I64Shl, I64ShrS, I64ShrU, I64Rotl, I64Rotr}
use Rattle.wm_ast.specs.declared.operator.Operator.{Operator}
use Rattle.wm_ast.specs.declared.operator.Operator.TheVariants.{Test, Unary, Binary, Comparison, Wrap, ExtendS, ExtendU}
use Rattle.wm_ast.specs.declared.operator.UnaryOp.{UnaryOp}
use Rattle.wm_ast.specs.declared.operator.UnaryOp.TheVariants.{Clz, Ctz, Popcnt, Extend8S, Extend16S, Extend32S}
use Rattle.wm_ast.specs.declared.operator.BinaryOp.{BinaryOp}
use Rattle.wm_ast.specs.declared.operator.BinaryOp.TheVariants.{Add, Sub, Mul, DivS, DivU, RemS, RemU, And, Or, Xor, Shl, ShrS, ShrU, Rotl, Rotr}
use Rattle.wm_ast.specs.declared.operator.CompareOp.{CompareOp}
use Rattle.wm_ast.specs.declared.operator.CompareOp.TheVariants.{Eq, Ne, LtS, LtU, GtS, GtU, LeS, LeU, GeS, GeU}
use Rattle.wm_ast.specs.Operation.{num_type}
use Rattle.wm_ast.specs.Operator.{operator_of}
use Rattle.cc_line.specs.Place.{Spot}
use Rattle.cc_line.specs.Step.{set_place, in_range, holds, Step, run_act, when}
use Rattle.cc_line.specs.Core.{spot_of, fetch, bring_back, on_one}
use Rattle.cc_line.specs.Item.{join, steps_items}
use Rattle.cc_sched.specs.Charge.{spot_avoids_sched}
use Rattle.cc_cut.specs.Cost.{operator_cost}
use Rattle.cc_cut.specs.Law.{widths}
use Rattle.cc_bits.specs.Operation.{op_items as bit_items}
use Rattle.cc_i64.specs.Operation as pairs
use Rattle.cc_i64.specs.Pairs.{Core, sum, difference, agree, signed_order, unsigned_order, both_zero, signed_part, operands, on_spots, on_pairs, word_back, pair_back, sign_behind}
use Rattle.cc_bits64.specs.Operation as long_bits
use Rattle.cc_bits64.specs.Halves.{halves_items, choose_items, sum_items, whole_half, zeros_items}
use Rattle.cc_pieces.specs.Dividing.{divided_items}
use Rattle.cc_pieces.specs.Fetching.{fetch_from}
use Rattle.cc_pieces.specs.Restoring.{restore_by}
use Rattle.cc_pieces.proofs.Weights.{is_meek, Meek, steps_meek, join_meek, Sound, wider, meek_sound, none_meek}
use Rattle.cc_pieces.proofs.DividingWeights.{divided_weighs}
use Rattle.cc_pieces.proofs.Fits.{NamePlain}
use Rattle.cc_body.specs.Behind.{division_of}
use Rattle.cc_body.specs.Emit.{is_of_i32, short_below, long_items, num_below}
use Rattle.cc_body.proofs.NumberLines.{NumbersAreLines}
use Rattle.cc_body.proofs.OperationWeights.{both_meek, spot_avoids, fetch_meek, back_meek, two_meek, one_steps, bit_meek, place_is, short_sound}

-- ---- operations on pairs of places

operands_meek : (a : ℕ) → list_all is_meek (operands a) ≡ true
operands_meek a =
    both_meek (fetch a (codes "#a")) (fetch (suc a) (codes "#b") ++ (fetch (suc (suc a)) (codes "#c") ++ fetch (suc (suc (suc a))) (codes "#d"))) (fetch_meek a (codes "#a") refl)
    (both_meek (fetch (suc a) (codes "#b")) (fetch (suc (suc a)) (codes "#c") ++ fetch (suc (suc (suc a))) (codes "#d")) (fetch_meek (suc a) (codes "#b") refl)
    (both_meek (fetch (suc (suc a)) (codes "#c")) (fetch (suc (suc (suc a))) (codes "#d")) (fetch_meek (suc (suc a)) (codes "#c") refl) (fetch_meek (suc (suc (suc a))) (codes "#d") refl)))

module _ (a : ℕ) (core : Core) (after : List Step) where
  -- on the halves of two numbers
  pairs_meek : ((x y z w : Spot) → spot_avoids_sched x ≡ true → spot_avoids_sched y ≡ true → spot_avoids_sched z ≡ true → spot_avoids_sched w ≡ true → list_all is_meek (core x y z w) ≡ true)
      → list_all is_meek after ≡ true → Meek 0 (steps_items (on_pairs a core after))
  pairs_meek h k =
      let x : Spot = spot_of a (codes "#a") in
      let y : Spot = spot_of (suc a) (codes "#b") in
      let z : Spot = spot_of (suc (suc a)) (codes "#c") in
      let w : Spot = spot_of (suc (suc (suc a))) (codes "#d") in
      let inner : list_all is_meek (core x y z w ++ after) ≡ true =
      both_meek (core x y z w) after (h x y z w (spot_avoids a (codes "#a") refl) (spot_avoids (suc a) (codes "#b") refl) (spot_avoids (suc (suc a)) (codes "#c") refl) (spot_avoids (suc (suc (suc a))) (codes "#d") refl)) k in
      steps_meek (on_pairs a core after) (both_meek (operands a) (on_spots a core ++ after) (operands_meek a) inner)

word_meek : (a : ℕ) → list_all is_meek (word_back a) ≡ true
word_meek a = back_meek a (spot_of a (codes "#a")) (spot_avoids a (codes "#a") refl)

pair_meek : (a : ℕ) → list_all is_meek (pair_back a) ≡ true
pair_meek a = both_meek (word_back a) (bring_back (suc a) (spot_of (suc a) (codes "#b"))) (word_meek a) (back_meek (suc a) (spot_of (suc a) (codes "#b")) (spot_avoids (suc a) (codes "#b") refl))

-- the high half by the sign of the low one
sign_meek : (a : ℕ) → list_all is_meek (sign_behind a) ≡ true
sign_meek a =
    both_meek (fetch a (codes "#a")) (run_act (set_place (suc a) (pos 0)) ∷ (when (holds (in_range (spot_of a (codes "#a")) (up_to (negsuc 0))) ∷ []) (set_place (suc a) (negsuc 0)) ∷ [])) (fetch_meek a (codes "#a") refl)
    (by_spot (spot_of a (codes "#a")) (spot_avoids a (codes "#a") refl))
  where
    by_spot : (x : Spot) → spot_avoids_sched x ≡ true → list_all is_meek (run_act (set_place (suc a) (pos 0)) ∷ (when (holds (in_range x (up_to (negsuc 0))) ∷ []) (set_place (suc a) (negsuc 0)) ∷ [])) ≡ true
    by_spot x e = rw e refl

part_meek : (power half : ℤ) (a : ℕ) → Meek 0 (steps_items (on_one a a (signed_part power half) ++ sign_behind a))
part_meek power half a =
    steps_meek (on_one a a (signed_part power half) ++ sign_behind a)
    (both_meek (on_one a a (signed_part power half)) (sign_behind a) (one_steps (signed_part power half) a a (λ x e. rw e refl)) (sign_meek a))

extension_meek : (op : UnaryOp) (a : ℕ) → Meek 0 (pairs.unary_items op a)
extension_meek Clz a = none_meek 0
extension_meek Ctz a = none_meek 0
extension_meek Popcnt a = none_meek 0
extension_meek Extend8S a = part_meek (pos 256) (pos 128) a
extension_meek Extend16S a = part_meek (pos 65536) (pos 32768) a
extension_meek Extend32S a = steps_meek (sign_behind a) (sign_meek a)

sum_meek : (op : BinaryOp) (a : ℕ) → Meek 0 (pairs.binary_items op a)
sum_meek Add a = pairs_meek a sum (pair_back a) (λ x y z w d e f g. rw (d, e, f, g) refl) (pair_meek a)
sum_meek Sub a = pairs_meek a difference (pair_back a) (λ x y z w d e f g. rw (d, e, f, g) refl) (pair_meek a)
sum_meek Mul a = none_meek 0
sum_meek DivS a = none_meek 0
sum_meek DivU a = none_meek 0
sum_meek RemS a = none_meek 0
sum_meek RemU a = none_meek 0
sum_meek And a = none_meek 0
sum_meek Or a = none_meek 0
sum_meek Xor a = none_meek 0
sum_meek Shl a = none_meek 0
sum_meek ShrS a = none_meek 0
sum_meek ShrU a = none_meek 0
sum_meek Rotl a = none_meek 0
sum_meek Rotr a = none_meek 0

order_meek : (op : CompareOp) (a : ℕ) → Meek 0 (pairs.compare_items op a)
order_meek Eq a = pairs_meek a (agree (pos 1) (pos 0)) (word_back a) (λ x y z w d e f g. rw (d, e, f, g) refl) (word_meek a)
order_meek Ne a = pairs_meek a (agree (pos 0) (pos 1)) (word_back a) (λ x y z w d e f g. rw (d, e, f, g) refl) (word_meek a)
order_meek LtS a = pairs_meek a (signed_order less less) (word_back a) (λ x y z w d e f g. rw (d, e, f, g) refl) (word_meek a)
order_meek LtU a = pairs_meek a (unsigned_order less less) (word_back a) (λ x y z w d e f g. rw (d, e, f, g) refl) (word_meek a)
order_meek GtS a = pairs_meek a (signed_order greater greater) (word_back a) (λ x y z w d e f g. rw (d, e, f, g) refl) (word_meek a)
order_meek GtU a = pairs_meek a (unsigned_order greater greater) (word_back a) (λ x y z w d e f g. rw (d, e, f, g) refl) (word_meek a)
order_meek LeS a = pairs_meek a (signed_order less less_equal) (word_back a) (λ x y z w d e f g. rw (d, e, f, g) refl) (word_meek a)
order_meek LeU a = pairs_meek a (unsigned_order less less_equal) (word_back a) (λ x y z w d e f g. rw (d, e, f, g) refl) (word_meek a)
order_meek GeS a = pairs_meek a (signed_order greater greater_equal) (word_back a) (λ x y z w d e f g. rw (d, e, f, g) refl) (word_meek a)
order_meek GeU a = pairs_meek a (unsigned_order greater greater_equal) (word_back a) (λ x y z w d e f g. rw (d, e, f, g) refl) (word_meek a)

long_meek : (q : Operator) (a : ℕ) → Meek 0 (pairs.operator_items q a)
long_meek (Test I32) a = none_meek 0
long_meek (Test I64) a = two_meek both_zero a (suc a) a (λ x y e d. rw (e, d) refl)
long_meek (Unary I32 op) a = none_meek 0
long_meek (Unary I64 op) a = extension_meek op a
long_meek (Binary I32 op) a = none_meek 0
long_meek (Binary I64 op) a = sum_meek op a
long_meek (Comparison I32 op) a = none_meek 0
long_meek (Comparison I64 op) a = order_meek op a
long_meek Wrap a = none_meek 0
long_meek ExtendS a = steps_meek (sign_behind a) (sign_meek a)
long_meek ExtendU a = record { avoids = refl; few = omega arith }

extension_costs : (op : UnaryOp) → pairs.unary_most op + 0 ≤ operator_cost (Unary I64 op)
extension_costs Clz = omega arith
extension_costs Ctz = omega arith
extension_costs Popcnt = omega arith
extension_costs Extend8S = omega arith
extension_costs Extend16S = omega arith
extension_costs Extend32S = omega arith

sum_costs : (op : BinaryOp) → pairs.binary_most op + 0 ≤ operator_cost (Binary I64 op)
sum_costs Add = omega arith
sum_costs Sub = omega arith
sum_costs Mul = omega arith
sum_costs DivS = omega arith
sum_costs DivU = omega arith
sum_costs RemS = omega arith
sum_costs RemU = omega arith
sum_costs And = omega arith
sum_costs Or = omega arith
sum_costs Xor = omega arith
sum_costs Shl = omega arith
sum_costs ShrS = omega arith
sum_costs ShrU = omega arith
sum_costs Rotl = omega arith
sum_costs Rotr = omega arith

order_costs : (op : CompareOp) → pairs.compare_most op + 0 ≤ 32
order_costs Eq = omega arith
order_costs Ne = omega arith
order_costs LtS = omega arith
order_costs LtU = omega arith
order_costs GtS = omega arith
order_costs GtU = omega arith
order_costs LeS = omega arith
order_costs LeU = omega arith
order_costs GeS = omega arith
order_costs GeU = omega arith

pair_costs : (q : Operator) → pairs.operator_most q + 0 ≤ operator_cost q
pair_costs (Test I32) = omega arith
pair_costs (Test I64) = omega arith
pair_costs (Unary I32 op) = omega arith
pair_costs (Unary I64 op) = extension_costs op
pair_costs (Binary I32 op) = omega arith
pair_costs (Binary I64 op) = sum_costs op
pair_costs (Comparison I32 op) = omega arith
pair_costs (Comparison I64 op) = order_costs op
pair_costs Wrap = omega arith
pair_costs ExtendS = omega arith
pair_costs ExtendU = omega arith

-- ---- bits of pairs

zeros_meek : (op : NumOp) (a p q : ℕ) → Meek 0 (zeros_items op a p q)
zeros_meek op a p q =
    join_meek 0 0 (choose_items a p q) (join (bit_items op a a a) (sum_items a whole_half)) (record { avoids = refl; few = omega arith })
    (join_meek 0 0 (bit_items op a a a) (sum_items a whole_half) (bit_meek op a a a) (record { avoids = refl; few = omega arith }))

halves_meek : (op : NumOp) (a : ℕ) → Meek 0 (halves_items op a)
halves_meek op a =
    join_meek 0 0 (bit_items op a (suc (suc a)) a) (bit_items op (suc a) (suc (suc (suc a))) (suc a)) (bit_meek op a (suc (suc a)) a) (bit_meek op (suc a) (suc (suc (suc a))) (suc a))

long_bits_meek : (op : NumOp) (a : ℕ) → Meek 0 (long_bits.op_items op a)
long_bits_meek I64And a = halves_meek I32And a
long_bits_meek I64Or a = halves_meek I32Or a
long_bits_meek I64Xor a = halves_meek I32Xor a
long_bits_meek I64Clz a = zeros_meek I32Clz a (suc a) a
long_bits_meek I64Ctz a = zeros_meek I32Ctz a a (suc a)
long_bits_meek I64Popcnt a = record { avoids = refl; few = omega arith }
long_bits_meek I64Shl a = record { avoids = refl; few = omega arith }
long_bits_meek I64ShrS a = record { avoids = refl; few = omega arith }
long_bits_meek I64ShrU a = record { avoids = refl; few = omega arith }
long_bits_meek I64Rotl a = record { avoids = refl; few = omega arith }
long_bits_meek I64Rotr a = record { avoids = refl; few = omega arith }
long_bits_meek op a = none_meek 0

long_bits_costs : (op : NumOp) → long_bits.op_most op + 0 ≤ operator_cost (operator_of op)
long_bits_costs I64And = omega arith
long_bits_costs I64Or = omega arith
long_bits_costs I64Xor = omega arith
long_bits_costs I64Clz = omega arith
long_bits_costs I64Ctz = omega arith
long_bits_costs I64Popcnt = omega arith
long_bits_costs I64Shl = omega arith
long_bits_costs I64ShrS = omega arith
long_bits_costs I64ShrU = omega arith
long_bits_costs I64Rotl = omega arith
long_bits_costs I64Rotr = omega arith
long_bits_costs op = omega arith

-- ---- all operations

module _ (lines : NumbersAreLines) where
  long_sound : (op : NumOp) (a : ℕ) → a + 3 < 2147483648 → Sound (operator_cost (operator_of op)) (long_items op a)
  long_sound op a l = go (pairs.is_own (operator_of op))
    where
      go : (c : Bool) → Sound (operator_cost (operator_of op)) (if c then pairs.op_items op a else long_bits.op_items op a)
      go true =
          meek_sound 0 (pairs.op_most op) (operator_cost (operator_of op)) (pairs.op_items op a) (lines.pairs_fit op a (place_is (a + 3) l)) (long_meek (operator_of op) a) (lines.pairs_weigh op a)
          (pair_costs (operator_of op))
      go false =
          meek_sound 0 (long_bits.op_most op) (operator_cost (operator_of op)) (long_bits.op_items op a) (lines.bits_fit op a (place_is (a + 3) l)) (long_bits_meek op a) (lines.bits_weigh op a)
          (long_bits_costs op)

  -- on the operands below a place
  pub below_sound : (op : NumOp) (h : ℕ) → h ≤ 8000 → Sound (operator_cost (operator_of op)) (num_below op h)
  below_sound op h l = go (is_of_i32 op)
    where
      go : (c : Bool) → Sound (operator_cost (operator_of op)) (if c then short_below op h else long_items op (h - widths (num_type op).takes))
      go true = short_sound op h (omega arith)
      go false = long_sound op (h - widths (num_type op).takes) (omega arith)

-- ---- divisions

-- what costs as a division does
division_costs : (q : Operator) (d : BinaryOp) → division_of q ≡ Some d → 120 ≤ operator_cost q
division_costs (Test k) d e = absurd cc
division_costs (Unary k op) d e = absurd cc
division_costs (Binary I32 op) d e = absurd cc
division_costs (Binary I64 DivS) d e = omega arith
division_costs (Binary I64 DivU) d e = omega arith
division_costs (Binary I64 RemS) d e = omega arith
division_costs (Binary I64 RemU) d e = omega arith
division_costs (Binary I64 op) d e = absurd cc
division_costs (Comparison k op) d e = absurd cc
division_costs Wrap d e = absurd cc
division_costs ExtendS d e = absurd cc
division_costs ExtendU d e = absurd cc

pub divided_sound : (q : Operator) (d : BinaryOp) → division_of q ≡ Some d → (h func : ℕ) (o : Option ℕ) → h ≤ 8000 → NamePlain (fetch_from func o) → NamePlain (restore_by func o) → Sound (operator_cost q) (divided_items d h func o)
divided_sound q d e h func o l n k =
    let c : 120 ≤ operator_cost q = division_costs q d e in
    wider 93 (operator_cost q) (divided_items d h func o) (omega arith) (divided_weighs d h func o l n k)
