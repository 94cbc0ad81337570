-- The beginning of each operation that divides; and the items are lines.
use Rattle.std.proofs.Common.{◌≡◌, ℕ, suc, ◌+◌, ◌<◌, ◌≤◌, [], ◌∷◌, ◌++◌, length, ℤ, Some, true, refl, sym, ap, ◌∙◌, subst, arith, codes}
use Rattle.std.specs.Int.{w32, w64, int_wrap, cast_unsigned}
use Rattle.std.proofs.lemmas.Bool.{ltb-true, lt-ltb}
use mir.ValLaws.{of_z_fits}
use Rattle.mc_nbt.proofs.TestLemmas.{some_same, and_both}
use Rattle.mc_nbt.specs.Word.{is_long}
use Rattle.mc_nbt.specs.declared.value.Kind.TheVariants as kinds
use Rattle.mc_nbt.specs.declared.value.Value.TheVariants as values
use Rattle.mc_cmd.specs.Form.{Text}
use Rattle.mc_cmd.specs.Pack.{high_half}
use Rattle.mc_cmd.specs.Word.{is_holder}
use Rattle.wm_ast.specs.Apply.{apply, operate, outcome, binary_op}
use Rattle.wm_ast.specs.Operator.{divides, operator_of}
use Rattle.wm_ast.specs.declared.answer.Answer.{Answer}
use Rattle.wm_ast.specs.declared.operation.NumOp.{NumOp}
use Rattle.wm_ast.specs.declared.operator.BinaryOp.{BinaryOp}
use Rattle.wm_ast.specs.declared.operator.BinaryOp.TheVariants.{DivS, DivU, RemS, RemU}
use Rattle.wm_ast.specs.declared.operator.Operator.TheVariants.{Binary}
use Rattle.cc_line.specs.Fit.{place_fits, scratch_fits}
use Rattle.cc_line.specs.Item.{Items, join, steps_items, items_fit}
use Rattle.cc_line.specs.Routine.{AreAt, value_ints}
use Rattle.cc_line.specs.State.{State, place_at}
use Rattle.cc_line.proofs.RunLemmas.{join_fits}
use Rattle.cc_div64.specs.Division.{load_steps, loaded_items, begin_items, turns_items, minus_dividend, is_negated, take_remainder, keep_steps, end_items}
use Rattle.cc_div64.specs.Law.{low_word, high_word, Begins}
use Rattle.cc_line.proofs.Longs.{by_long, long_fits}
use Rattle.cc_line.proofs.Longs as longs
use Rattle.cc_div64.proofs.BeginLemmas.{BeginsOn, div_s_any, div_u_any, rem_s_any, rem_u_any}

any_begins : (d : BinaryOp) → divides d ≡ true → BeginsOn d (binary_op d w64)
any_begins DivS k = div_s_any
any_begins DivU k = div_u_any
any_begins RemS k = rem_s_any
any_begins RemU k = rem_u_any
any_begins _ k = absurd cc

-- the halves of a long are its number's words
halves : (x : ℤ) → is_long x ≡ true → (int_wrap w32 x ≡ low_word (cast_unsigned w64 x)) × (high_half x ≡ high_word (cast_unsigned w64 x))
halves = by_long (λ n x. (int_wrap w32 x ≡ low_word n) × (high_half x ≡ high_word n)) (λ n h. (longs.low_word n h, longs.high_word n h))

long_below : (x : ℤ) → is_long x ≡ true → cast_unsigned w64 x < 18446744073709551616
long_below x k = (of_z_fits w64 x (long_fits x k)).fits

pub divisions_begin : (op : NumOp) (d : BinaryOp) → operator_of op ≡ Binary kinds.I64 d → divides d ≡ true → (a : ℕ) (s : State) (x y : ℤ) (o : Answer) → is_long x ≡ true → is_long y ≡ true
    → AreAt s a (value_ints (values.I64 x) ++ value_ints (values.I64 y)) → apply op (values.I64 x ∷ (values.I64 y ∷ [])) ≡ Some o → Begins d a s o
divisions_begin op d e k a s x y o kx ky at f =
    let i : ℕ = cast_unsigned w64 x in
    let j : ℕ = cast_unsigned w64 y in
    let hx = halves x kx in
    let hy = halves y ky in
    let one : suc a ≡ a + 1 = omega arith in
    let two : suc (suc a) ≡ a + 2 = omega arith in
    let three : suc (suc (suc a)) ≡ a + 3 = omega arith in
    let r : Some (outcome kinds.I64 (binary_op d w64 i j)) ≡ Some o = ap (λ q. operate q (values.I64 x ∷ (values.I64 y ∷ []))) (sym e) ∙ f in
    subst (Begins d a s) (some_same _ _ r)
    (any_begins d k a s at.0 (subst (λ m. m < length s.places) one at.2.0) (subst (λ m. m < length s.places) two at.2.2.0) (subst (λ m. m < length s.places) three at.2.2.2.0)
    i j (long_below x kx) (long_below y ky)
    (at.1 ∙ hx.0) (ap (place_at s) (sym one) ∙ at.2.1 ∙ hx.1) (ap (place_at s) (sym two) ∙ at.2.2.1 ∙ hy.0) (ap (place_at s) (sym three) ∙ at.2.2.2.1 ∙ hy.1))

-- ---- they are lines

lower_fits : (m n : ℕ) → m ≤ n → place_fits n ≡ true → place_fits m ≡ true
lower_fits m n l f = lt-ltb m 2147483648 (let h : n < 2147483648 = ltb-true n 2147483648 f in omega arith)

loads_fit : (a : ℕ) (xs : Items) → place_fits (a + 3) ≡ true → items_fit xs ≡ true → items_fit (join (steps_items (load_steps a)) xs) ≡ true
unfolding is_holder
loads_fit a xs f g =
    join_fits (steps_items (load_steps a)) xs
    (and_both _ _ (lower_fits a (a + 3) (omega arith) f) (and_both _ _ (lower_fits (a + 1) (a + 3) (omega arith) f) (and_both _ _ (lower_fits (a + 2) (a + 3) (omega arith) f) (and_both _ _ f refl)))) g

pub begin_fits : (d : BinaryOp) (a : ℕ) → place_fits (a + 3) ≡ true → items_fit (begin_items d a) ≡ true
unfolding is_holder
begin_fits DivS a f = loads_fit a (loaded_items DivS) f refl
begin_fits DivU a f = loads_fit a (loaded_items DivU) f refl
begin_fits RemS a f = loads_fit a (loaded_items RemS) f refl
begin_fits RemU a f = loads_fit a (loaded_items RemU) f refl
begin_fits _ a f = refl

pub turns_fit : items_fit turns_items ≡ true
unfolding is_holder
turns_fit = refl

keeps_fit : (a : ℕ) (l h : Text) → scratch_fits l ≡ true → scratch_fits h ≡ true → place_fits (a + 1) ≡ true → items_fit (steps_items (keep_steps a l h)) ≡ true
keeps_fit a l h fl fh f = and_both _ _ (and_both _ _ (lower_fits a (a + 1) (omega arith) f) fl) (and_both _ _ (and_both _ _ f fh) refl)

pub end_fits : (d : BinaryOp) (a : ℕ) → place_fits (a + 1) ≡ true → items_fit (end_items d a) ≡ true
unfolding is_holder
end_fits DivS a f = join_fits (minus_dividend is_negated) (steps_items (keep_steps a (codes "#d") (codes "#e"))) refl (keeps_fit a (codes "#d") (codes "#e") refl refl f)
end_fits DivU a f = keeps_fit a (codes "#d") (codes "#e") refl refl f
end_fits RemS a f = join_fits (join (steps_items take_remainder) (minus_dividend is_negated)) (steps_items (keep_steps a (codes "#d") (codes "#e"))) refl (keeps_fit a (codes "#d") (codes "#e") refl refl f)
end_fits RemU a f = keeps_fit a (codes "#p") (codes "#r") refl refl f
end_fits _ a f = refl
