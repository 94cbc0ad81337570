-- The functions of exports have low indices.
use Rattle.std.proofs.Common.{◌≡◌, ℕ, suc, ◌≤◌, ◌<◌, List, [], ◌∷◌, length, Some, refl, arith}
use Rattle.std.specs.Prelude.{slice_get}
use Rattle.std.specs.List.{AllByRecursion}
use Rattle.std.proofs.lemmas.Option.{slice_get_within}
use Rattle.wm_ast.specs.declared.module.Module.{Module}
use Rattle.wm_ast.specs.Instance.{exported_functions}
use Rattle.wm_flat.specs.Program.{IsProgram}
use Rattle.wm_flat.proofs.Soundness.{exported}
use Rattle.pk_link.proofs.Counts.{functions_are_few}

all_of : {A : Type 0} (P : A → Type 0) (xs : List A) → ((k : ℕ) (x : A) → slice_get xs k ≡ Some x → P x) → AllByRecursion P xs
all_of P [] h = tt
all_of P (x ∷ xs) h = (h 0 x refl, all_of P xs (λ k y e. h (suc k) y e))

-- the functions of exports have low indices
pub exports_are_low : (m : Module) → IsProgram m → AllByRecursion (λ f. f < 2147483648) (exported_functions m)
exports_are_low m p =
    all_of (λ f. f < 2147483648) (exported_functions m)
    (λ k index e.
    let x = exported m k index p e in
    let a : index < length m.funcs = slice_get_within m.funcs index x.0 x.2.there in
    let b : length m.funcs ≤ 8192 = functions_are_few m p in
    omega arith)
