-- The search for the first item that isn't valid.
use Rattle.std.proofs.Common.{◌≡◌, ℕ, ◌<◌, ◌≤◌, ◌+◌, List, [], ◌∷◌, length, get_or, Some, ◌∙◌, ap, subst, below_more, arith}
use Rattle.std.specs.Prelude.{slice_get}
use Rattle.wm_ast.specs.declared.instruction.Instr.{Instr}
use Rattle.wm_ast.specs.declared.module.ValType.{ValType}
use Rattle.wm_ast.specs.View.{code_of}
use Rattle.wm_valid.specs.Valid.{IsConstantCode}
use Rattle.std.proofs.lemmas.Option.{slice_get_within, get_or_from_slice_get}

-- what holds of the elements before an index, and of that one, holds of those up to it
pub one_more : {A : Type 0} (xs items : List A) (P : ℕ → A → Type 0) (i : ℕ) (x : A) → items ≡ xs → x ≡ get_or items i x → P i x
    → ((n : ℕ) → n < i → (y : A) → slice_get xs n ≡ Some y → P n y) → (n : ℕ) → n < i + 1 → (y : A) → slice_get xs n ≡ Some y → P n y
one_more {A = A} xs items P i x same is here before = below_more (λ n. (y : A) → slice_get xs n ≡ Some y → P n y) i before (λ y at. subst (P i) (is ∙ (ap (λ l. get_or l i x) same ∙ get_or_from_slice_get xs i y x at)) here)

-- what holds of the elements before the end holds of all
pub at_end : {A : Type 0} (xs items : List A) (P : ℕ → A → Type 0) (i : ℕ) → items ≡ xs → length items ≤ i
    → ((n : ℕ) → n < i → (y : A) → slice_get xs n ≡ Some y → P n y) → (n : ℕ) (y : A) → slice_get xs n ≡ Some y → P n y
at_end xs items P i same past before n y at = let within : n < length xs = slice_get_within xs n y at in before n (omega (arith, ap length same)) y at

-- two instructions or more aren't one constant
pub no_constant : (t : ValType) (is : List Instr) → 2 ≤ length is → IsConstantCode t (code_of is) → ⊥
no_constant t [] long h = h
no_constant t (i ∷ []) long h = absurd (omega arith)
no_constant t (i ∷ j ∷ is) long h = h
