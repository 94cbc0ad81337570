-- In a module of the profile the types of functions and the locals of these are no floats.
use Rattle.std.proofs.Common.{◌≡◌, ℕ, zero, suc, List, [], ◌∷◌, replicate, Some, Bool, false, ◌||◌, refl, ap, ◌∙◌}
use Rattle.std.specs.Prelude.{slice_get}
use Rattle.std.specs.List.{list_any}
use Rattle.wm_ast.specs.declared.module.Func.{Func}
use Rattle.wm_ast.specs.declared.module.FuncType.{FuncType}
use Rattle.wm_ast.specs.declared.module.Module.{Module}
use Rattle.wm_ast.specs.declared.module.Run.{Run}
use Rattle.wm_ast.specs.declared.module.ValType.{ValType}
use Rattle.wm_ast.specs.Profile.{is_float, is_float_run, has_float_type, has_float_code, has_float_function, function_code}
use Rattle.wm_ast.specs.Types.{run_types, function_type}
use Rattle.wm_flat.specs.Program.{IsProgram}
use Rattle.wm_place.proofs.IntLemmas.{NoFloats, or_false, none_of, none_append}

replicated : (n : ℕ) (t : ValType) → is_float t ≡ false → NoFloats (replicate n t)
replicated zero t e = refl
replicated (suc n) t e = ap (λ (b : Bool). b || list_any is_float (replicate n t)) e ∙ replicated n t e

runs_free : (rs : List Run) → list_any is_float_run rs ≡ false → NoFloats (run_types rs)
runs_free [] e = refl
runs_free (r ∷ rs) e =
    let w = or_false (is_float_run r) (list_any is_float_run rs) e in
    none_append is_float (replicate r.count r.ty) (run_types rs) (replicated r.count r.ty w.0) (runs_free rs w.1)

-- the locals that a function declares
pub locals_free : (m : Module) → IsProgram m → (n : ℕ) (f : Func) → slice_get m.funcs n ≡ Some f → NoFloats (run_types f.locals)
locals_free m program n f at =
    runs_free f.locals (or_false (list_any is_float_run f.locals) (has_float_code (function_code f)) (none_of has_float_function m.funcs n f program.profile.no_floats.functions at)).0

-- its results
pub results_free : (m : Module) → IsProgram m → (f : Func) (t : FuncType) → function_type m f ≡ Some t → NoFloats t.results
results_free m program f t named =
    (or_false (list_any is_float t.params) (list_any is_float t.results) (none_of has_float_type m.types f.kind t program.profile.no_floats.types named)).1
