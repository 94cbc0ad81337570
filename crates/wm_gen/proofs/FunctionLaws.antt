-- What is so of the functions of the workload, form by form.
use Rattle.std.proofs.Common.{◌≡◌, ℕ, zero, suc, ◌+◌, ◌*◌, ◌%◌, ◌^◌, ◌<◌, ◌≤◌, List, [], ◌∷◌, length, refl, sym, subst, false, Some, arith, lit<, ltb, true}
use Rattle.std.specs.Prelude.{slice_get, All}
use Rattle.std.proofs.lemmas.Bool.{lt-ltb}
use Rattle.std.proofs.lemmas.List.Elements.{All-nil, All-push}
use Rattle.std.proofs.lemmas.Option.{get_or_from_slice_get, slice_get_within}
use Rattle.wm_ast.specs.declared.module.Func.{Func}
use Rattle.wm_ast.specs.Code.{Op, Code}
use Rattle.wm_ast.specs.Instruction.{code_depth}
use Rattle.wm_ast.specs.Profile.{all_ops, function_code, has_float_code, has_mul64_code, code_labels}
use Rattle.wm_ast.specs.View.{code_from}
use Rattle.wm_ast.proofs.ViewLaws.{views_forth}
use Rattle.wm_valid.specs.InRange.{CodeInRange}
use Rattle.wm_gen.specs.Workload.{next, drawn, i64, form, mixing, storing, calling, dividing, body, sums, function, functions, main, after_draws, workload}
use Rattle.wm_gen.proofs.SpellingLaws.{CodeFits}

-- ---- lists of functions

-- the item at a place is as all items are
pub at_place : {A : Type 0} (P : A → Type 0) (xs : List A) (n : ℕ) (x : A) → All P xs → slice_get xs n ≡ Some x → P x
at_place P xs n x h e = subst P (get_or_from_slice_get xs n x x e) (h n x (slice_get_within xs n x e))

pub all_functions : (P : Func → Type 0) (number n : ℕ) → ((x i : ℕ) → i < n → P (function x i)) → All P (functions number n)
all_functions P number zero h = All-nil P
all_functions P number (suc n) h =
    All-push P (functions number n) (function (after_draws number (3 * n)) n) (all_functions P number n (λ x i l. h x i (omega arith))) (h (after_draws number (3 * n)) n (omega arith))

pub all_funcs : (P : Func → Type 0) (number size : ℕ) → ((x i : ℕ) → i < size → P (function x i)) → P (main size) → All P (workload number size).funcs
all_funcs P number size h last = All-push P (functions number size) (main size) (all_functions P number size h) last

-- ---- forms

-- what is so of each form is so of what a function does
pub of_form : (P : List Op → Type 0) (k i a b : ℕ) → P (mixing a) → P (storing a b) → ((j : ℕ) → suc j ≡ i → P (calling j a)) → P (dividing a b) → P (form k i a b)
of_form P zero i a b m s c d = m
of_form P (suc zero) i a b m s c d = s
of_form P (suc (suc zero)) zero a b m s c d = m
of_form P (suc (suc zero)) (suc i) a b m s c d = c i refl
of_form P (suc (suc (suc k))) i a b m s c d = d

-- a draw gives 31 bits
drawn_low : (x : ℕ) → drawn (next x) < 2 ^ 31
drawn_low x = omega arith

-- the same of a function, whose draws give numbers of 31 bits
pub of_body : (P : List Op → Type 0) (x i : ℕ) → ((a : ℕ) → a < 2 ^ 31 → P (mixing a)) → ((a b : ℕ) → a < 2 ^ 31 → P (storing a b))
    → ((j a : ℕ) → suc j ≡ i → a < 2 ^ 31 → P (calling j a)) → ((a b : ℕ) → a < 2 ^ 31 → b < 2 ^ 31 → P (dividing a b)) → P (body x i)
of_body P x i m s c d =
    let a : ℕ = drawn (next (next x)) in
    let b : ℕ = drawn (next (next (next x))) in
    let a_low : drawn (next (next x)) < 2 ^ 31 = drawn_low (next x) in
    let b_low : drawn (next (next (next x))) < 2 ^ 31 = drawn_low (next (next x)) in
    of_form P (drawn (next x) % 4) i a b (m a a_low) (s a b a_low) (λ j e. c j a e a_low) (d a b a_low b_low)

-- the same of a function's code
pub of_code : (P : Code → Type 0) (x i : ℕ) → ((a : ℕ) → a < 2 ^ 31 → P (code_from (mixing a))) → ((a b : ℕ) → a < 2 ^ 31 → P (code_from (storing a b)))
    → ((j a : ℕ) → suc j ≡ i → a < 2 ^ 31 → P (code_from (calling j a))) → ((a b : ℕ) → a < 2 ^ 31 → b < 2 ^ 31 → P (code_from (dividing a b)))
    → P (function_code (function x i))
of_code P x i m s c d = subst P (sym (views_forth (code_from (body x i)))) (of_body (λ l. P (code_from l)) x i m s c d)

pub of_main : (P : Code → Type 0) (size : ℕ) → P (code_from (i64 0 ∷ sums 0 size)) → P (function_code (main size))
of_main P size h = subst P (sym (views_forth (code_from (i64 0 ∷ sums 0 size)))) h

-- ---- no floats, no products, no tables of labels

pub no_float : (x i : ℕ) → has_float_code (function_code (function x i)) ≡ false
no_float x i = of_code (λ c. has_float_code c ≡ false) x i (λ a l. refl) (λ a b l. refl) (λ j a e l. refl) (λ a b l m. refl)

no_float_sums : (i n : ℕ) → has_float_code (code_from (sums i n)) ≡ false
no_float_sums i zero = refl
no_float_sums i (suc n) = no_float_sums (suc i) n

pub no_float_main : (size : ℕ) → has_float_code (function_code (main size)) ≡ false
no_float_main size = of_main (λ c. has_float_code c ≡ false) size (no_float_sums 0 size)

pub no_mul64 : (x i : ℕ) → has_mul64_code (function_code (function x i)) ≡ false
no_mul64 x i = of_code (λ c. has_mul64_code c ≡ false) x i (λ a l. refl) (λ a b l. refl) (λ j a e l. refl) (λ a b l m. refl)

no_mul64_sums : (i n : ℕ) → has_mul64_code (code_from (sums i n)) ≡ false
no_mul64_sums i zero = refl
no_mul64_sums i (suc n) = no_mul64_sums (suc i) n

pub no_mul64_main : (size : ℕ) → has_mul64_code (function_code (main size)) ≡ false
no_mul64_main size = of_main (λ c. has_mul64_code c ≡ false) size (no_mul64_sums 0 size)

pub no_labels : (x i : ℕ) → code_labels (function_code (function x i)) ≡ []
no_labels x i = of_code (λ c. code_labels c ≡ []) x i (λ a l. refl) (λ a b l. refl) (λ j a e l. refl) (λ a b l m. refl)

no_labels_sums : (i n : ℕ) → code_labels (code_from (sums i n)) ≡ []
no_labels_sums i zero = refl
no_labels_sums i (suc n) = no_labels_sums (suc i) n

pub no_labels_main : (size : ℕ) → code_labels (function_code (main size)) ≡ []
no_labels_main size = of_main (λ c. code_labels c ≡ []) size (no_labels_sums 0 size)

-- ---- sizes and depths

pub few_ops : (x i : ℕ) → length (all_ops (function_code (function x i))) ≤ 24
few_ops x i = of_code (λ c. length (all_ops c) ≤ 24) x i (λ a l. omega arith) (λ a b l. omega arith) (λ j a e l. omega arith) (λ a b l m. omega arith)

sums_ops : (i n : ℕ) → length (all_ops (code_from (sums i n))) ≡ 2 * n
sums_ops i zero = refl
sums_ops i (suc n) = let e : length (all_ops (code_from (sums (suc i) n))) ≡ 2 * n = sums_ops (suc i) n in omega arith

pub main_ops : (size : ℕ) → length (all_ops (function_code (main size))) ≡ 2 * size + 1
main_ops size = of_main (λ c. length (all_ops c) ≡ 2 * size + 1) size (let e : length (all_ops (code_from (sums 0 size))) ≡ 2 * size = sums_ops 0 size in omega arith)

pub shallow : (x i : ℕ) → code_depth (function_code (function x i)) ≤ 1024
shallow x i = of_code (λ c. code_depth c ≤ 1024) x i (λ a l. omega arith) (λ a b l. omega arith) (λ j a e l. omega arith) (λ a b l m. omega arith)

flat_sums : (i n : ℕ) → code_depth (code_from (sums i n)) ≡ 0
flat_sums i zero = refl
flat_sums i (suc n) = let e : code_depth (code_from (sums (suc i) n)) ≡ 0 = flat_sums (suc i) n in omega arith

pub shallow_main : (size : ℕ) → code_depth (function_code (main size)) ≤ 1024
shallow_main size = of_main (λ c. code_depth c ≤ 1024) size (let e : code_depth (code_from (sums 0 size)) ≡ 0 = flat_sums 0 size in omega arith)

-- ---- numbers in their ranges

pub in_range : (x i : ℕ) → CodeInRange (function_code (function x i))
in_range x i = of_code CodeInRange x i
    (λ a l. let m : ltb (16 + a % 16) (2 ^ 31) ≡ true = lt-ltb (16 + a % 16) (2 ^ 31) (omega arith) in (m, (tt, ((tt, (refl, (tt, (tt, (tt, (tt, (tt, (tt, (refl, (tt, (tt, (tt, tt)))))))))))), (tt, tt)))))
    (λ a b l. let m : ltb a (2 ^ 31) ≡ true = lt-ltb a (2 ^ 31) l in (refl, (tt, ((tt, (refl, (tt, (tt, (m, (tt, (tt, (tt, (tt, (refl, (tt, (tt, (tt, (tt, (tt, (refl, (tt, (tt, (tt, tt))))))))))))))))))), (tt, tt)))))
    (λ j a e l. let m : ltb a (2 ^ 63) ≡ true = lt-ltb a (2 ^ 63) (omega arith) in (tt, (m, (tt, tt))))
    (λ a b l k. let m : ltb a (2 ^ 63) ≡ true = lt-ltb a (2 ^ 63) (omega arith) in let n : ltb (a * 2 ^ 31 + b) (2 ^ 63) ≡ true = lt-ltb (a * 2 ^ 31 + b) (2 ^ 63) (omega arith) in let d : ltb (1 + b % 1000) (2 ^ 63) ≡ true = lt-ltb (1 + b % 1000) (2 ^ 63) (omega arith) in (n, (d, (tt, (m, (d, (tt, (tt, tt))))))))

sums_in_range : (i n : ℕ) → CodeInRange (code_from (sums i n))
sums_in_range i zero = tt
sums_in_range i (suc n) = (tt, (tt, sums_in_range (suc i) n))

pub main_in_range : (size : ℕ) → CodeInRange (function_code (main size))
main_in_range size = of_main CodeInRange size (refl, sums_in_range 0 size)

-- ---- numbers that have shortest spellings

pub fits : (x i : ℕ) → i < 2 ^ 32 → CodeFits (function_code (function x i))
fits x i few = of_code CodeFits x i
    (λ a l. (omega arith, (lit< tt, ((lit< tt, (lit< tt, (tt, (lit< tt, (tt, (tt, (lit< tt, (lit< tt, (lit< tt, (tt, (lit< tt, (lit< tt, tt)))))))))))), (lit< tt, tt)))))
    (λ a b l. let o : b % 1024 < 2 ^ 32 = omega arith in (lit< tt, (lit< tt, ((lit< tt, (lit< tt, (tt, (lit< tt, (l, (tt, ((lit< tt, o), (lit< tt, (lit< tt, (lit< tt, (tt, ((lit< tt, o), (tt, (lit< tt, (lit< tt, (lit< tt, (tt, (lit< tt, (lit< tt, tt))))))))))))))))))), (lit< tt, tt)))))
    (λ j a e l. (omega arith, (omega arith, (tt, tt))))
    (λ a b l k. (omega arith, (omega arith, (tt, (omega arith, (omega arith, (tt, (tt, tt))))))))

sums_fit : (i n : ℕ) → i + n < 2 ^ 32 → CodeFits (code_from (sums i n))
sums_fit i zero h = tt
sums_fit i (suc n) h = (omega arith, (tt, sums_fit (suc i) n (omega arith)))

pub main_fits : (size : ℕ) → size < 2 ^ 32 → CodeFits (function_code (main size))
main_fits size h = of_main CodeFits size (omega arith, sums_fit 0 size (omega arith))
