-- The modules by their numbers.
use Rattle.std.proofs.Common.{◌≡◌, ℕ, zero, suc, ◌+◌, ◌<◌, ◌≤◌, List, [], ◌∷◌, ◌++◌, length, get_or, map, All, Some, None, option_map, refl, sym, ap, ◌∙◌, arith}
use Rattle.std.specs.Prelude.{slice_get}
use Rattle.std.proofs.lemmas.List.{length-append, length-map}
use Rattle.std.proofs.lemmas.Option.{slice_get-map, slice_get-get_or, slice_get_past}
use Rattle.wm_ast.specs.declared.module.Module.{Module}
use Rattle.wm_ast.specs.declared.module.Space.{Space}
use Rattle.wm_match.specs.declared.library.Library.{Library}
use Rattle.wm_match.specs.Lists.{HasListsWithin}
use Rattle.wm_match.specs.Program.{modules_of, module_of}
use Rattle.wm_match.specs.Space.{own_count}
use Rattle.wm_match.specs.steps.Checking.{DefinesOneAtMost}
use Rattle.wm_match.proofs.OneLaws.{at_place, get_left}

-- how many there are
pub module_count : (libraries : List Library) (main : Module) → length (modules_of libraries main) ≡ length libraries + 1
module_count libraries main = length-append (map module_of libraries) (main ∷ []) ∙ ap (λ (n : ℕ). n + 1) (length-map libraries module_of)

pub library_module : (libraries : List Library) (main : Module) (k : ℕ) (l : Library) → k < length libraries → l ≡ get_or libraries k l
    → slice_get (modules_of libraries main) k ≡ Some l.module
library_module libraries main k l lt is =
    get_left (map module_of libraries) (main ∷ []) k l.module
    (slice_get-map module_of libraries k ∙ ap (option_map module_of) (slice_get-get_or libraries k l lt) ∙ ap (λ (z : Library). Some z.module) (sym is))

last_one : {A : Type 0} (xs : List A) (x : A) (k : ℕ) → k ≡ length xs → slice_get (xs ++ x ∷ []) k ≡ Some x
last_one [] x zero e = refl
last_one [] x (suc k) e = absurd (omega arith)
last_one (y ∷ xs) x zero e = absurd (omega arith)
last_one (y ∷ xs) x (suc k) e = last_one xs x k (omega arith)

pub main_module : (libraries : List Library) (main : Module) (k : ℕ) → k ≤ length libraries → length libraries ≤ k
    → slice_get (modules_of libraries main) k ≡ Some main
main_module libraries main k le ge = let n = length-map libraries module_of in last_one (map module_of libraries) main k (omega arith)

pub no_module : (libraries : List Library) (main : Module) (k : ℕ) → length libraries < k → slice_get (modules_of libraries main) k ≡ None
no_module libraries main k lt = let n = module_count libraries main in slice_get_past (modules_of libraries main) k (omega arith)

-- each of the modules has short lists where all have
pub short_module : (libraries : List Library) (main : Module) (k : ℕ) (m : Module) → All (HasListsWithin 1048576) (modules_of libraries main)
    → slice_get (modules_of libraries main) k ≡ Some m → HasListsWithin 1048576 m
short_module libraries main k m all at = at_place (HasListsWithin 1048576) (modules_of libraries main) k m all at

pub one_at_most : (libraries : List Library) (main : Module) (s : Space) (k : ℕ) (m : Module) → All (DefinesOneAtMost s) (modules_of libraries main)
    → slice_get (modules_of libraries main) k ≡ Some m → own_count s m ≤ 1
one_at_most libraries main s k m all at = at_place (DefinesOneAtMost s) (modules_of libraries main) k m all at
