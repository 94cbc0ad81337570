-- The operations on numbers: those of i32 have operands of i32, and the items of each that isn't a division of i64 perform it.
use Rattle.std.proofs.Common.{◌≡◌, ℕ, suc, ◌-◌, ◌<◌, List, [], ◌∷◌, ◌++◌, length, reverse, Option, Some, None, Bool, true, false, refl, sym, ap, ◌∙◌, subst, arith, ℤ, All, ◌&&◌, ◌||◌, if◌then◌else◌, append_assoc, append-nil}
use Rattle.std.specs.List.{list_all}
use Rattle.std.proofs.lemmas.List.{reverse-append, reverse-reverse}
use Rattle.std.proofs.lemmas.List.Elements.{All-head, All-tail}
use Rattle.mc_nbt.specs.Value.{is_value}
use Rattle.mc_nbt.specs.Word.{is_int}
use Rattle.mc_nbt.specs.declared.value.Kind.TheVariants as kinds
use Rattle.mc_nbt.specs.declared.value.Value.{Value}
use Rattle.mc_nbt.specs.declared.value.Value.TheVariants as values
use Rattle.wm_ast.specs.declared.answer.Answer.{Answer}
use Rattle.wm_ast.specs.declared.operation.NumOp.{NumOp}
use Rattle.wm_ast.specs.declared.operation.NumOp.TheVariants.{I32And, I32Or, I32Xor, I32Shl, I32ShrS, I32ShrU, I32Rotl, I32Rotr, I32DivU, I32RemU, I32DivS, I32RemS, I32LtU, I32LeU, I32GtU, I32GeU}
use Rattle.wm_ast.specs.declared.operation.NumOp.TheVariants.{I64Clz, I64Ctz, I64Popcnt, I64And, I64Or, I64Xor, I64Shl, I64ShrS, I64ShrU, I64Rotl, I64Rotr}
use Rattle.wm_ast.specs.declared.operator.Operator.{Operator}
use Rattle.wm_ast.specs.declared.operator.Operator.TheVariants.{Test, Unary, Binary, Comparison}
use Rattle.wm_ast.specs.declared.operator.BinaryOp.TheVariants.{And, Or, Xor, Shl, ShrS, ShrU, Rotl, Rotr}
use Rattle.wm_ast.specs.Operator.{operator_of}
use Rattle.wm_ast.specs.Apply.{with_one, with_two, operate, apply}
use Rattle.wm_flat.specs.FlatTyping.{types_of}
use Rattle.wm_valid.specs.InRange.{IsInRange}
use Rattle.wm_flat.proofs.ValueLaws.{are_reverse, own_types}
use Rattle.cc_line.specs.Item.{Items}
use Rattle.cc_line.specs.Step.{Step}
use Rattle.cc_line.specs.Routine.{PerformsOne, PerformsTwoStanding, PerformsFromStanding, value_ints, values_ints}
use Rattle.cc_i32.specs.Operation.{takes_one, takes_two, is_own}
use Rattle.cc_i32.specs.Operation as arithmetic
use Rattle.cc_i32.proofs.OperationLemmas.{two_performs, one_performs}
use Rattle.cc_bits.specs.Operation.{unary_here, binary_here}
use Rattle.cc_bits.specs.Operation as bits
use Rattle.cc_bits.proofs.OperationLemmas.{unary_performs, binary_performs}
use Rattle.cc_i64.specs.Operation as pairs
use Rattle.cc_bits64.specs.Operation as long_bits
use Rattle.cc_known.specs.Operation.{known_core}
use Rattle.cc_known.proofs.Choices.{Chosen, by_first, by_second}
use Rattle.cc_body.specs.Behind.{division_of}
use Rattle.cc_body.specs.Emit.{is_of_i32, has_one_operand, num_items, short_below, long_items}
use Rattle.cc_simulate.specs.Frame.{stack_ints}
use Rattle.cc_simulate.proofs.NumbersWork.{NumbersWork}

-- ---- operands

-- operands that are answered
pub record OneI32 (vs : List Value) : Type 0 where
  pub first : ℤ
  pub operands : vs ≡ values.I32 first ∷ []

pub record TwoI32 (vs : List Value) : Type 0 where
  pub first : ℤ
  pub second : ℤ
  pub operands : vs ≡ values.I32 first ∷ (values.I32 second ∷ [])

one_i32 : (f : ℕ → Answer) (vs : List Value) (o : Answer) → with_one kinds.I32 f vs ≡ Some o → OneI32 vs
one_i32 f [] o e = absurd cc
one_i32 f (values.I32 x ∷ []) o e = record { first = x; operands = refl }
one_i32 f (values.I64 x ∷ []) o e = absurd cc
one_i32 f (v ∷ (w ∷ vs)) o e = absurd cc

two_i32 : (f : ℕ → ℕ → Answer) (vs : List Value) (o : Answer) → with_two kinds.I32 f vs ≡ Some o → TwoI32 vs
two_i32 f [] o e = absurd cc
two_i32 f (v ∷ []) o e = absurd cc
two_i32 f (values.I32 x ∷ (values.I32 y ∷ [])) o e = record { first = x; second = y; operands = refl }
two_i32 f (values.I32 x ∷ (values.I64 y ∷ [])) o e = absurd cc
two_i32 f (values.I64 x ∷ (w ∷ [])) o e = absurd cc
two_i32 f (v ∷ (w ∷ (u ∷ vs))) o e = absurd cc

pub arithmetic_two : (q : Operator) → takes_two q ≡ true → (vs : List Value) (o : Answer) → operate q vs ≡ Some o → TwoI32 vs
arithmetic_two (Binary kinds.I32 op) t vs o e = two_i32 _ vs o e
arithmetic_two (Comparison kinds.I32 op) t vs o e = two_i32 _ vs o e
arithmetic_two _ t vs o e = absurd cc

pub arithmetic_one : (q : Operator) → takes_one q ≡ true → (vs : List Value) (o : Answer) → operate q vs ≡ Some o → OneI32 vs
arithmetic_one (Test kinds.I32) t vs o e = one_i32 _ vs o e
arithmetic_one _ t vs o e = absurd cc

bits_two : (q : Operator) → binary_here q ≡ true → (vs : List Value) (o : Answer) → operate q vs ≡ Some o → TwoI32 vs
bits_two (Binary kinds.I32 op) t vs o e = two_i32 _ vs o e
bits_two _ t vs o e = absurd cc

bits_one : (q : Operator) → unary_here q ≡ true → (vs : List Value) (o : Answer) → operate q vs ≡ Some o → OneI32 vs
bits_one (Unary kinds.I32 op) t vs o e = one_i32 _ vs o e
bits_one _ t vs o e = absurd cc

-- ---- which items

two_apart : (q : Operator) → takes_two q ≡ true → takes_one q || unary_here q ≡ false
two_apart (Binary kinds.I32 op) t = refl
two_apart (Comparison kinds.I32 op) t = refl
two_apart _ t = absurd cc

one_own : (q : Operator) → takes_one q ≡ true → is_own q ≡ true
one_own (Test kinds.I32) t = refl
one_own _ t = absurd cc

unary_apart : (q : Operator) → unary_here q ≡ true → is_own q ≡ false
unary_apart (Unary k op) t = refl
unary_apart _ t = absurd cc

binary_apart : (q : Operator) → binary_here q ≡ true → (is_own q ≡ false) × (takes_one q || unary_here q ≡ false)
binary_apart (Binary kinds.I32 And) t = (refl, refl)
binary_apart (Binary kinds.I32 Or) t = (refl, refl)
binary_apart (Binary kinds.I32 Xor) t = (refl, refl)
binary_apart (Binary kinds.I32 Shl) t = (refl, refl)
binary_apart (Binary kinds.I32 ShrS) t = (refl, refl)
binary_apart (Binary kinds.I32 ShrU) t = (refl, refl)
binary_apart (Binary kinds.I32 Rotl) t = (refl, refl)
binary_apart (Binary kinds.I32 Rotr) t = (refl, refl)
binary_apart _ t = absurd cc

-- an operation of i32, of one operand or of two: its items below the place h, and what they do
pub data ShortOp (op : NumOp) : Type 0 where
  of_one : ((h : ℕ) → PerformsOne op (short_below op h) (h - 1) (h - 1)) → ((vs : List Value) (o : Answer) → apply op vs ≡ Some o → OneI32 vs) → ShortOp op
  of_two : ((h : ℕ) → PerformsTwoStanding op (short_below op h) (h - 2) (h - 1) (h - 2)) → ((vs : List Value) (o : Answer) → apply op vs ≡ Some o → TwoI32 vs) → ShortOp op

below_one : (op : NumOp) (h : ℕ) → has_one_operand op ≡ true → short_below op h ≡ num_items op (h - 1) (h - 1) (h - 1)
below_one op h e = ap (λ b. if b then num_items op (h - 1) (h - 1) (h - 1) else num_items op (h - 2) (h - 1) (h - 2)) e

below_two : (op : NumOp) (h : ℕ) → has_one_operand op ≡ false → short_below op h ≡ num_items op (h - 2) (h - 1) (h - 2)
below_two op h e = ap (λ b. if b then num_items op (h - 1) (h - 1) (h - 1) else num_items op (h - 2) (h - 1) (h - 2)) e

items_own : (op : NumOp) (a b r : ℕ) → is_own (operator_of op) ≡ true → num_items op a b r ≡ arithmetic.op_items op a b r
items_own op a b r e = ap (λ c. if c then arithmetic.op_items op a b r else bits.op_items op a b r) e

items_bits : (op : NumOp) (a b r : ℕ) → is_own (operator_of op) ≡ false → num_items op a b r ≡ bits.op_items op a b r
items_bits op a b r e = ap (λ c. if c then arithmetic.op_items op a b r else bits.op_items op a b r) e

or_true : (b c : Bool) → c ≡ true → b || c ≡ true
or_true false c e = e
or_true true c e = refl

true_or : (b c : Bool) → b ≡ true → b || c ≡ true
true_or true c e = refl
true_or false c e = absurd (let y : false ≡ true = e in cc)

own_two : (op : NumOp) → takes_two (operator_of op) ≡ true → ShortOp op
own_two op t =
    of_two
    (λ h. subst (λ xs. PerformsTwoStanding op xs (h - 2) (h - 1) (h - 2)) (sym (below_two op h (two_apart (operator_of op) t) ∙ items_own op (h - 2) (h - 1) (h - 2) (true_or _ _ t))) (λ s x y o stands. two_performs (operator_of op) t (h - 2) (h - 1) (h - 2) s x y o))
    (λ vs o e. arithmetic_two (operator_of op) t vs o e)

own_one : (op : NumOp) → takes_one (operator_of op) ≡ true → ShortOp op
own_one op t =
    of_one
    (λ h. subst (λ xs. PerformsOne op xs (h - 1) (h - 1)) (sym (below_one op h (true_or _ _ t) ∙ items_own op (h - 1) (h - 1) (h - 1) (one_own (operator_of op) t))) (one_performs (operator_of op) t (h - 1) (h - 1) (h - 1)))
    (λ vs o e. arithmetic_one (operator_of op) t vs o e)

bit_one : (op : NumOp) → unary_here (operator_of op) ≡ true → ShortOp op
bit_one op t =
    of_one
    (λ h. subst (λ xs. PerformsOne op xs (h - 1) (h - 1)) (sym (below_one op h (or_true (takes_one (operator_of op)) _ t) ∙ items_bits op (h - 1) (h - 1) (h - 1) (unary_apart (operator_of op) t))) (unary_performs op t (h - 1) (h - 1) (h - 1)))
    (λ vs o e. bits_one (operator_of op) t vs o e)

bit_two : (op : NumOp) → binary_here (operator_of op) ≡ true → ShortOp op
bit_two op t =
    let apart = binary_apart (operator_of op) t in
    of_two
    (λ h. subst (λ xs. PerformsTwoStanding op xs (h - 2) (h - 1) (h - 2)) (sym (below_two op h apart.1 ∙ items_bits op (h - 2) (h - 1) (h - 2) apart.0)) (binary_performs op t (h - 2) (h - 1) (h - 2)))
    (λ vs o e. bits_two (operator_of op) t vs o e)

pub short_op : (op : NumOp) → is_of_i32 op ≡ true → ShortOp op
short_op op e = go (takes_two (operator_of op)) refl (takes_one (operator_of op)) refl (unary_here (operator_of op)) refl (binary_here (operator_of op)) refl e
  where
    go : (p : Bool) → takes_two (operator_of op) ≡ p → (q : Bool) → takes_one (operator_of op) ≡ q → (r : Bool) → unary_here (operator_of op) ≡ r → (s : Bool) → binary_here (operator_of op) ≡ s → (p || q) || (r || s) ≡ true → ShortOp op
    go true f q g r h s k e = own_two op f
    go false f true g r h s k e = own_one op g
    go false f false g true h s k e = bit_one op h
    go false f false g false h true k e = bit_two op k
    go false f false g false h false k e = absurd (let y : false ≡ true = e in cc)

-- those with lines for a constant have two operands
pub known_two : (op : NumOp) (n : ℕ) (core : List Step) → known_core op n ≡ Some core → (vs : List Value) (o : Answer) → apply op vs ≡ Some o → TwoI32 vs
known_two I32And n core k vs o e = two_i32 _ vs o e
known_two I32Or n core k vs o e = two_i32 _ vs o e
known_two I32Xor n core k vs o e = two_i32 _ vs o e
known_two I32Shl n core k vs o e = two_i32 _ vs o e
known_two I32ShrS n core k vs o e = two_i32 _ vs o e
known_two I32ShrU n core k vs o e = two_i32 _ vs o e
known_two I32Rotl n core k vs o e = two_i32 _ vs o e
known_two I32Rotr n core k vs o e = two_i32 _ vs o e
known_two I32DivU n core k vs o e = two_i32 _ vs o e
known_two I32RemU n core k vs o e = two_i32 _ vs o e
known_two I32DivS n core k vs o e = two_i32 _ vs o e
known_two I32RemS n core k vs o e = two_i32 _ vs o e
known_two I32LtU n core k vs o e = two_i32 _ vs o e
known_two I32LeU n core k vs o e = two_i32 _ vs o e
known_two I32GtU n core k vs o e = two_i32 _ vs o e
known_two I32GeU n core k vs o e = two_i32 _ vs o e
known_two _ n core k vs o e = absurd cc

pub chosen_two : (op : NumOp) (first second : Option ℕ) (a b r : ℕ) (xs : Items) → Chosen op first second a b r xs → (vs : List Value) (o : Answer) → apply op vs ≡ Some o → TwoI32 vs
chosen_two op first second a b r xs (by_second d) vs o e = known_two op d.number d.core d.core_is vs o e
chosen_two op first second a b r xs (by_first q d) vs o e = known_two op d.number d.core d.core_is vs o e

-- ---- other operations

-- what is none of these and none of pairs of ints is on the bits of an i64
bits_are_left : (op : NumOp) → is_of_i32 op ≡ false → division_of (operator_of op) ≡ None → pairs.is_own (operator_of op) ≡ false → long_bits.is_own (operator_of op) ≡ true
bits_are_left I64Clz d n p = refl
bits_are_left I64Ctz d n p = refl
bits_are_left I64Popcnt d n p = refl
bits_are_left I64And d n p = refl
bits_are_left I64Or d n p = refl
bits_are_left I64Xor d n p = refl
bits_are_left I64Shl d n p = refl
bits_are_left I64ShrS d n p = refl
bits_are_left I64ShrU d n p = refl
bits_are_left I64Rotl d n p = refl
bits_are_left I64Rotr d n p = refl
bits_are_left _ d n p = absurd cc

-- the laws of numbers of 64 bits
module _ (numbers : NumbersWork) where
  -- one that is neither of i32 nor a division of i64
  pub long_performs : (op : NumOp) → is_of_i32 op ≡ false → division_of (operator_of op) ≡ None → (a : ℕ) → PerformsFromStanding op (long_items op a) a
  long_performs op d n a = go (pairs.is_own (operator_of op)) refl
    where
      go : (b : Bool) → pairs.is_own (operator_of op) ≡ b → PerformsFromStanding op (if b then pairs.op_items op a else long_bits.op_items op a) a
      go true p = λ s vs o stands. numbers.pairs op p a s vs o
      go false p = numbers.bits op (bits_are_left op d n p) a

-- ---- operands of which the last one stands first

pub turned : (us vs : List Value) → reverse us ≡ vs → us ≡ reverse vs
turned us vs e = sym (reverse-reverse us) ∙ ap (λ (l : List Value). reverse l) e

pub first_in_range : (x : ℤ) (us : List Value) → All IsInRange (values.I32 x ∷ us) → is_int x ≡ true
first_in_range x us r = r 0 (values.I32 x) (let h : 0 < suc (length us) = omega arith in h)

pub second_in_range : (y x : ℤ) (us : List Value) → All IsInRange (values.I32 y ∷ (values.I32 x ∷ us)) → is_int x ≡ true
second_in_range y x us r = r 1 (values.I32 x) (let h : 1 < suc (suc (length us)) = omega arith in h)

values_append : (us vs : List Value) → values_ints (us ++ vs) ≡ values_ints us ++ values_ints vs
values_append [] vs = refl
values_append (u ∷ us) vs = ap (λ l. value_ints u ++ l) (values_append us vs) ∙ sym (append_assoc (value_ints u) (values_ints us) (values_ints vs))

-- in their order
pub values_turned : (us : List Value) → stack_ints us ≡ values_ints (reverse us)
values_turned [] = refl
values_turned (u ∷ us) =
    ap (λ l. l ++ value_ints u) (values_turned us)
    ∙ (ap (λ l. values_ints (reverse us) ++ l) (sym (append-nil (value_ints u)))
    ∙ (sym (values_append (reverse us) (u ∷ [])) ∙ ap values_ints (sym (reverse-append (u ∷ []) us))))

in_range : (us : List Value) → All IsInRange us → list_all is_value us ≡ true
in_range [] r = refl
in_range (u ∷ us) r = ap (λ b. b && list_all is_value us) (All-head IsInRange u us r) ∙ in_range us (All-tail IsInRange u us r)

pub turned_in_range : (us : List Value) → All IsInRange us → list_all is_value (reverse us) ≡ true
turned_in_range us r = in_range (reverse us) (are_reverse (types_of us) us (own_types us r)).range
