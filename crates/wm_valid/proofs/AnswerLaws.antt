-- No two answers are true of one module.
use Rattle.std.proofs.Common.{◌≡◌, ◌≢◌, ℕ, ◌<◌, ◌≤◌, ◌⊎◌, [], ◌∷◌, get_or, Some, Result, Ok, Err, refl, sym, ◌∙◌, ap, subst, inl, inr, arith}
use Rattle.std.specs.Prelude.{slice_get, IfErr}
use Rattle.std.proofs.lemmas.Bool.{cases_lt}
use mathlib.Core.Logic.{⊎_elim}
use Rattle.wm_ast.specs.declared.item.Item.{Item}
use Rattle.wm_ast.specs.declared.item.Item.TheVariants.{Types, Imports, Functions, Tables, Memories, Globals, Elements, Datas, Start, Exports}
use Rattle.wm_ast.specs.declared.module.Func.{Func}
use Rattle.wm_ast.specs.declared.module.Module.{Module}
use Rattle.wm_valid.specs.declared.valid_fault.ValidFault.{ValidFault}
use Rattle.wm_valid.specs.declared.valid_fault.ValidFault.TheVariants as faults
use Rattle.wm_valid.specs.Height.{IsLow, Low, IsHeight, IsFirstHigh}
use Rattle.wm_valid.specs.Typing.{IsFirstUntyped}
use Rattle.wm_valid.specs.Valid.{rank, IsValid, IsFirstInvalid, Valid}
use Rattle.wm_valid.specs.ValidFault.{IsCause, IsValidated}

-- which of two numbers is the lower, if any
order : (k n : ℕ) → (k < n) ⊎ ((n < k) ⊎ (k ≡ n))
order k n = ⊎_elim
    (λ (l : k < n). inl l)
    (λ (l : n ≤ k). inr (⊎_elim (λ (g : n < k). inl g) (λ (g : k ≤ n). inr (omega arith)) (cases_lt n k)))
    (cases_lt k n)

-- the kind of a rank
abbrev kind_of : ℕ → Item
kind_of n = get_or (Types ∷ Imports ∷ Functions ∷ Tables ∷ Memories ∷ Globals ∷ Elements ∷ Datas ∷ Start ∷ []) n Exports

kind_of_rank : (k : Item) → kind_of (rank k) ≡ k
kind_of_rank Types = refl
kind_of_rank Imports = refl
kind_of_rank Functions = refl
kind_of_rank Tables = refl
kind_of_rank Memories = refl
kind_of_rank Globals = refl
kind_of_rank Elements = refl
kind_of_rank Datas = refl
kind_of_rank Start = refl
kind_of_rank Exports = refl

-- the first invalid item is one
one_item : (m : Module) (j k : Item) (i n : ℕ) → IsFirstInvalid m (record { item = j; index = i }) → IsFirstInvalid m (record { item = k; index = n }) → (j ≡ k) × (i ≡ n)
one_item m j k i n x y = ⊎_elim
    (λ (l : rank j < rank k). absurd (x.invalid (y.kinds_before j i l)))
    (λ (r : (rank k < rank j) ⊎ (rank j ≡ rank k)). ⊎_elim
    (λ (l : rank k < rank j). absurd (y.invalid (x.kinds_before k n l)))
    (λ (e : rank j ≡ rank k).
    let same : j ≡ k = sym (kind_of_rank j) ∙ (ap kind_of e ∙ kind_of_rank k) in (
      same,
      ⊎_elim
          (λ (l : i < n). absurd (x.invalid (subst (λ (z : Item). IsValid m z i) (sym same) (y.before i l))))
          (λ (r : (n < i) ⊎ (i ≡ n)). ⊎_elim (λ (l : n < i). absurd (y.invalid (subst (λ (z : Item). IsValid m z n) same (x.before n l)))) (λ (e : i ≡ n). e) r)
          (order i n),
    ))
    r)
    (order (rank j) (rank k))

-- the first function without a typing is one
one_untyped : (m : Module) (i n : ℕ) → IsFirstUntyped m i → IsFirstUntyped m n → i ≡ n
one_untyped m i n x y = ⊎_elim
    (λ (l : i < n). absurd (x.untyped (y.before i x.function l x.there)))
    (λ (r : (n < i) ⊎ (i ≡ n)). ⊎_elim (λ (l : n < i). absurd (y.untyped (x.before n y.function l y.there))) (λ (e : i ≡ n). e) r)
    (order i n)

-- a low function isn't high
not_high : (m : Module) (f : Func) (height : ℕ) → IsLow m f → IsHeight m f height → 1024 < height → ⊥
not_high m f height low is high = let most : height ≤ 1024 = is.least 1024 low in omega arith

-- a function has one height
one_height : (m : Module) (f : Func) (h k : ℕ) → IsHeight m f h → IsHeight m f k → h ≡ k
one_height m f h k x y = let up : h ≤ k = x.least k y.none_higher in let down : k ≤ h = y.least h x.none_higher in omega arith

-- the first function that is too high is one, with its height
one_high : (m : Module) (i n h k : ℕ) → IsFirstHigh m i h → IsFirstHigh m n k → (i ≡ n) × (h ≡ k)
one_high m i n h k x y = ⊎_elim
    (λ (l : i < n). absurd (not_high m x.function h (y.before i x.function l x.there) x.is_height x.high))
    (λ (r : (n < i) ⊎ (i ≡ n)). ⊎_elim
    (λ (l : n < i). absurd (not_high m y.function k (x.before n y.function l y.there) y.is_height y.high))
    (λ (e : i ≡ n).
    let there : slice_get m.funcs i ≡ Some y.function = ap (λ (z : ℕ). slice_get m.funcs z) e ∙ y.there in
    let first : slice_get m.funcs i ≡ Some x.function = x.there in
    let same : x.function ≡ y.function = cc in
    (e, one_height m y.function h k (subst (λ (z : Func). IsHeight m z h) same x.is_height) y.is_height))
    r)
    (order i n)

-- no cause stands in a module that is valid and low
pub no_cause : (m : Module) (fault : ValidFault) → Valid m → Low m → IsCause fault m → fault ≡ faults.Memory
no_cause m (faults.Item kind index) v low x = absurd (x.invalid (v.items kind index))
no_cause m (faults.Body n) v low (items, x) = absurd (x.untyped (v.bodies n x.function x.there))
no_cause m (faults.Height n found) v low (valid, x) = absurd (not_high m x.function found (low n x.function x.there) x.is_height x.high)
no_cause m faults.Memory v low x = refl

one_cause : (m : Module) (e f : ValidFault) → IsCause e m → IsCause f m → e ≢ faults.Memory → f ≢ faults.Memory → e ≡ f
one_cause m faults.Memory f x y e_not f_not = absurd (e_not refl)
one_cause m e faults.Memory x y e_not f_not = absurd (f_not refl)
one_cause m (faults.Item j i) (faults.Item k n) x y e_not f_not =
    let (same, also) = one_item m j k i n x y in
    ap (λ (z : Item). faults.Item z i) same ∙ ap (λ (z : ℕ). faults.Item k z) also
one_cause m (faults.Item j i) (faults.Body n) x (items, y) e_not f_not = absurd (x.invalid (items j i))
one_cause m (faults.Item j i) (faults.Height n found) x (valid, y) e_not f_not = absurd (x.invalid (valid.items j i))
one_cause m (faults.Body n) (faults.Item j i) (items, x) y e_not f_not = absurd (y.invalid (items j i))
one_cause m (faults.Body i) (faults.Body n) (items, x) (also, y) e_not f_not = ap (λ (z : ℕ). faults.Body z) (one_untyped m i n x y)
one_cause m (faults.Body i) (faults.Height n found) (items, x) (valid, y) e_not f_not = absurd (x.untyped (valid.bodies i x.function x.there))
one_cause m (faults.Height n found) (faults.Item j i) (valid, x) y e_not f_not = absurd (y.invalid (valid.items j i))
one_cause m (faults.Height n found) (faults.Body i) (valid, x) (items, y) e_not f_not = absurd (y.untyped (valid.bodies i y.function y.there))
one_cause m (faults.Height i h) (faults.Height n k) (valid, x) (also, y) e_not f_not =
    let (same, alike) = one_high m i n h k x y in
    ap (λ (z : ℕ). faults.Height z h) same ∙ ap (λ (z : ℕ). faults.Height n z) alike

pub one_answer : (m : Module) (r s : Result Module (Module × ValidFault)) → IsValidated m r → IsValidated m s
    → IfErr r (λ e. e.1 ≢ faults.Memory) → IfErr s (λ e. e.1 ≢ faults.Memory) → r ≡ s
one_answer m (Ok n) (Ok k) (same, typed) (also, others) r_not s_not = ap (λ (z : Module). Ok z) (same ∙ sym also)
one_answer m (Ok n) (Err (k, f)) (same, typed) (also, y) r_not s_not = absurd (s_not (no_cause m f typed.valid typed.low y))
one_answer m (Err (n, e)) (Ok k) (same, x) (also, typed) r_not s_not = absurd (r_not (no_cause m e typed.valid typed.low x))
one_answer m (Err (n, e)) (Err (k, f)) (same, x) (also, y) r_not s_not =
    ap (λ (z : Module). Err (z, e)) (same ∙ sym also) ∙ ap (λ (z : ValidFault). Err (k, z)) (one_cause m e f x y r_not s_not)
