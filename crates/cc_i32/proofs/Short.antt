-- The items of operations are short.
use Rattle.std.proofs.Common.{◌≡◌, ℕ, true, refl}
use Rattle.mc_nbt.specs.declared.value.Kind.TheVariants as kinds
use Rattle.mc_cmd.specs.Command.{less, less_equal, equal, greater_equal, greater}
use Rattle.wm_ast.specs.declared.operator.Operator.{Operator}
use Rattle.wm_ast.specs.declared.operator.Operator.TheVariants.{Test, Unary, Binary, Comparison, Wrap, ExtendS, ExtendU}
use Rattle.wm_ast.specs.declared.operator.BinaryOp.{BinaryOp}
use Rattle.wm_ast.specs.declared.operator.BinaryOp.TheVariants.{Add, Sub, Mul, DivS, DivU, RemS, RemU, And, Or, Xor, Shl, ShrS, ShrU, Rotl, Rotr}
use Rattle.wm_ast.specs.declared.operator.CompareOp.{CompareOp}
use Rattle.wm_ast.specs.declared.operator.CompareOp.TheVariants.{Eq, Ne, LtS, LtU, GtS, GtU, LeS, LeU, GeS, GeU}
use Rattle.cc_text.specs.Short.{items_short}
use Rattle.cc_text.proofs.ShortSpots.{two_short, one_short}
use Rattle.cc_i32.specs.Light.{sum, difference, product, is_zero as is_nothing, compares, differ, compares_unsigned}
use Rattle.cc_i32.specs.Operation.{binary_items, compare_items, operator_items}

binary_short : (op : BinaryOp) (a b r : ℕ) → items_short (binary_items op a b r) ≡ true
binary_short Add a b r = two_short sum a b r (λ x y. refl)
binary_short Sub a b r = two_short difference a b r (λ x y. refl)
binary_short Mul a b r = two_short product a b r (λ x y. refl)
binary_short DivS a b r = refl
binary_short DivU a b r = refl
binary_short RemS a b r = refl
binary_short RemU a b r = refl
binary_short And a b r = refl
binary_short Or a b r = refl
binary_short Xor a b r = refl
binary_short Shl a b r = refl
binary_short ShrS a b r = refl
binary_short ShrU a b r = refl
binary_short Rotl a b r = refl
binary_short Rotr a b r = refl

compare_short : (op : CompareOp) (a b r : ℕ) → items_short (compare_items op a b r) ≡ true
compare_short Eq a b r = two_short (compares equal) a b r (λ x y. refl)
compare_short Ne a b r = two_short differ a b r (λ x y. refl)
compare_short LtS a b r = two_short (compares less) a b r (λ x y. refl)
compare_short LtU a b r = two_short (compares_unsigned less) a b r (λ x y. refl)
compare_short GtS a b r = two_short (compares greater) a b r (λ x y. refl)
compare_short GtU a b r = two_short (compares_unsigned greater) a b r (λ x y. refl)
compare_short LeS a b r = two_short (compares less_equal) a b r (λ x y. refl)
compare_short LeU a b r = two_short (compares_unsigned less_equal) a b r (λ x y. refl)
compare_short GeS a b r = two_short (compares greater_equal) a b r (λ x y. refl)
compare_short GeU a b r = two_short (compares_unsigned greater_equal) a b r (λ x y. refl)

pub operator_short : (q : Operator) (a b r : ℕ) → items_short (operator_items q a b r) ≡ true
operator_short (Test kinds.I32) a b r = one_short is_nothing a r (λ x. refl)
operator_short (Test kinds.I64) a b r = refl
operator_short (Unary k op) a b r = refl
operator_short (Binary kinds.I32 op) a b r = binary_short op a b r
operator_short (Binary kinds.I64 op) a b r = refl
operator_short (Comparison kinds.I32 op) a b r = compare_short op a b r
operator_short (Comparison kinds.I64 op) a b r = refl
operator_short Wrap a b r = refl
operator_short ExtendS a b r = refl
operator_short ExtendU a b r = refl
