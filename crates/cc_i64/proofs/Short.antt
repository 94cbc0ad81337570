-- The items of operations are short.
use Rattle.std.proofs.Common.{◌≡◌, ℕ, suc, List, ◌++◌, true, refl}
use Rattle.std.specs.Prelude.{codes, pos}
use Rattle.mc_nbt.specs.declared.value.Kind.TheVariants as kinds
use Rattle.mc_cmd.specs.Command.{less, less_equal, greater_equal, greater}
use Rattle.wm_ast.specs.declared.operator.Operator.{Operator}
use Rattle.wm_ast.specs.declared.operator.Operator.TheVariants.{Test, Unary, Binary, Comparison, Wrap, ExtendS, ExtendU}
use Rattle.wm_ast.specs.declared.operator.UnaryOp.{UnaryOp}
use Rattle.wm_ast.specs.declared.operator.UnaryOp.TheVariants.{Clz, Ctz, Popcnt, Extend8S, Extend16S, Extend32S}
use Rattle.wm_ast.specs.declared.operator.BinaryOp.{BinaryOp}
use Rattle.wm_ast.specs.declared.operator.BinaryOp.TheVariants.{Add, Sub, Mul, DivS, DivU, RemS, RemU, And, Or, Xor, Shl, ShrS, ShrU, Rotl, Rotr}
use Rattle.wm_ast.specs.declared.operator.CompareOp.{CompareOp}
use Rattle.wm_ast.specs.declared.operator.CompareOp.TheVariants.{Eq, Ne, LtS, LtU, GtS, GtU, LeS, LeU, GeS, GeU}
use Rattle.cc_line.specs.Core.{spot_of, fetch, bring, bring_back, on_one}
use Rattle.cc_line.specs.Item.{steps_items}
use Rattle.cc_line.specs.Place.{Spot}
use Rattle.cc_text.specs.Short.{items_short, steps_short}
use Rattle.cc_line.specs.Step.{Step}
use Rattle.cc_text.proofs.ShortItems.{short_both, short_steps}
use Rattle.cc_text.proofs.ShortSpots.{back_short, bring_short, fetch_short, two_short}
use Rattle.cc_i64.specs.Operation.{binary_items, compare_items, operator_items, unary_items}
use Rattle.cc_i64.specs.Pairs.{agree, both_zero, Core, difference, on_pairs, on_spots, operands, pair_back, sign_behind, sign_lines, signed_order, signed_part}
use Rattle.cc_i64.specs.Pairs.{sum, unsigned_order, word_back}

operands_short : (a : ℕ) → steps_short (operands a) ≡ true
operands_short a =
    let second : List Step = fetch (suc a) (codes "#b") in
    let third : List Step = fetch (suc (suc a)) (codes "#c") in
    let fourth : List Step = fetch (suc (suc (suc a))) (codes "#d") in
    short_both (fetch a (codes "#a")) (second ++ (third ++ fourth)) (fetch_short a (codes "#a"))
    (short_both second (third ++ fourth) (fetch_short (suc a) (codes "#b"))
    (short_both third fourth (fetch_short (suc (suc a)) (codes "#c")) (fetch_short (suc (suc (suc a))) (codes "#d"))))

word_back_short : (a : ℕ) → steps_short (word_back a) ≡ true
word_back_short a = back_short a (spot_of a (codes "#a"))

pair_back_short : (a : ℕ) → steps_short (pair_back a) ≡ true
pair_back_short a =
    short_both (word_back a) (bring_back (suc a) (spot_of (suc a) (codes "#b"))) (word_back_short a) (back_short (suc a) (spot_of (suc a) (codes "#b")))

pairs_short : (core : Core) (a : ℕ) (after : List Step) → steps_short (on_spots a core) ≡ true → steps_short after ≡ true
    → items_short (steps_items (on_pairs a core after)) ≡ true
pairs_short core a after h g =
    short_steps (on_pairs a core after)
    (short_both (operands a) (on_spots a core ++ after) (operands_short a) (short_both (on_spots a core) after h g))

sign_short : (a : ℕ) → steps_short (sign_behind a) ≡ true
sign_short a = short_both (fetch a (codes "#a")) (sign_lines a) (fetch_short a (codes "#a")) refl

extension_short : (core : Spot → List Step) (a : ℕ) → ((x : Spot) → steps_short (core x) ≡ true)
    → items_short (steps_items (on_one a a core ++ sign_behind a)) ≡ true
extension_short core a h =
    let x : Spot = spot_of a (codes "#a") in
    short_steps (on_one a a core ++ sign_behind a)
    (short_both (on_one a a core) (sign_behind a)
    (short_both (bring a x) (core x ++ bring_back a x) (bring_short a x) (short_both (core x) (bring_back a x) (h x) (back_short a x))) (sign_short a))

unary_short : (op : UnaryOp) (a : ℕ) → items_short (unary_items op a) ≡ true
unary_short Clz a = refl
unary_short Ctz a = refl
unary_short Popcnt a = refl
unary_short Extend8S a = extension_short (signed_part (pos 256) (pos 128)) a (λ x. refl)
unary_short Extend16S a = extension_short (signed_part (pos 65536) (pos 32768)) a (λ x. refl)
unary_short Extend32S a = short_steps (sign_behind a) (sign_short a)

binary_short : (op : BinaryOp) (a : ℕ) → items_short (binary_items op a) ≡ true
binary_short Add a = pairs_short sum a (pair_back a) refl (pair_back_short a)
binary_short Sub a = pairs_short difference a (pair_back a) refl (pair_back_short a)
binary_short Mul a = refl
binary_short DivS a = refl
binary_short DivU a = refl
binary_short RemS a = refl
binary_short RemU a = refl
binary_short And a = refl
binary_short Or a = refl
binary_short Xor a = refl
binary_short Shl a = refl
binary_short ShrS a = refl
binary_short ShrU a = refl
binary_short Rotl a = refl
binary_short Rotr a = refl

compare_short : (op : CompareOp) (a : ℕ) → items_short (compare_items op a) ≡ true
compare_short Eq a = pairs_short (agree (pos 1) (pos 0)) a (word_back a) refl (word_back_short a)
compare_short Ne a = pairs_short (agree (pos 0) (pos 1)) a (word_back a) refl (word_back_short a)
compare_short LtS a = pairs_short (signed_order less less) a (word_back a) refl (word_back_short a)
compare_short LtU a = pairs_short (unsigned_order less less) a (word_back a) refl (word_back_short a)
compare_short GtS a = pairs_short (signed_order greater greater) a (word_back a) refl (word_back_short a)
compare_short GtU a = pairs_short (unsigned_order greater greater) a (word_back a) refl (word_back_short a)
compare_short LeS a = pairs_short (signed_order less less_equal) a (word_back a) refl (word_back_short a)
compare_short LeU a = pairs_short (unsigned_order less less_equal) a (word_back a) refl (word_back_short a)
compare_short GeS a = pairs_short (signed_order greater greater_equal) a (word_back a) refl (word_back_short a)
compare_short GeU a = pairs_short (unsigned_order greater greater_equal) a (word_back a) refl (word_back_short a)

pub operator_short : (q : Operator) (a : ℕ) → items_short (operator_items q a) ≡ true
operator_short (Test kinds.I32) a = refl
operator_short (Test kinds.I64) a = two_short both_zero a (suc a) a (λ x y. refl)
operator_short (Unary kinds.I32 op) a = refl
operator_short (Unary kinds.I64 op) a = unary_short op a
operator_short (Binary kinds.I32 op) a = refl
operator_short (Binary kinds.I64 op) a = binary_short op a
operator_short (Comparison kinds.I32 op) a = refl
operator_short (Comparison kinds.I64 op) a = compare_short op a
operator_short Wrap a = refl
operator_short ExtendS a = short_steps (sign_behind a) (sign_short a)
operator_short ExtendU a = refl
