-- There are values of the types that calls give, since these are no floats.
use Rattle.std.proofs.Common.{◌≡◌, ℕ, List, [], ◌∷◌, reverse, Option, Some, None, true, false, refl, ap, ◌∙◌, pos}
use Rattle.std.specs.Prelude.{slice_get, option_and_then}
use mathlib.Core.List.{reverse_aux}
use Rattle.mc_nbt.specs.declared.value.Value.{Value}
use Rattle.mc_nbt.specs.declared.value.Value.TheVariants as values
use Rattle.wm_ast.specs.declared.module.Func.{Func}
use Rattle.wm_ast.specs.declared.module.FuncType.{FuncType}
use Rattle.wm_ast.specs.declared.module.Module.{Module}
use Rattle.wm_ast.specs.declared.module.ValType.{ValType}
use Rattle.wm_ast.specs.declared.module.ValType.TheVariants.{I32, I64, F32, F64}
use Rattle.wm_ast.specs.Types.{function_type}
use Rattle.wm_flat.specs.FlatTyping.{types_of}
use Rattle.wm_flat.specs.Program.{IsProgram}
use Rattle.wm_place.proofs.IntLemmas.{NoFloats}
use Rattle.cc_move.specs.Calls.{gives_by, gives_of}
use Rattle.cc_simulate.proofs.FloatLemmas.{results_free}

values_there : (ts : List ValType) → NoFloats ts → (us : List Value) × (types_of us ≡ ts)
values_there [] h = ([], refl)
values_there (I32 ∷ ts) h = let r = values_there ts h in (values.I32 (pos 0) ∷ r.0, ap (λ (l : List ValType). I32 ∷ l) r.1)
values_there (I64 ∷ ts) h = let r = values_there ts h in (values.I64 (pos 0) ∷ r.0, ap (λ (l : List ValType). I64 ∷ l) r.1)
values_there (F32 ∷ ts) h = absurd (let e : true ≡ false = h in cc)
values_there (F64 ∷ ts) h = absurd (let e : true ≡ false = h in cc)

types_reverse : (us vs : List Value) → types_of (reverse_aux us vs) ≡ reverse_aux (types_of us) (types_of vs)
types_reverse [] vs = refl
types_reverse (u ∷ us) vs = types_reverse us (u ∷ vs)

by_type : (o : Option FuncType) → ((t : FuncType) → o ≡ Some t → NoFloats t.results) → (us : List Value) × (types_of us ≡ gives_by o)
by_type None h = ([], refl)
by_type (Some t) h = let r = values_there t.results (h t refl) in (reverse r.0, types_reverse r.0 [] ∙ ap reverse r.1)

pub results_there : (m : Module) → IsProgram m → (n : ℕ) → (us : List Value) × (types_of us ≡ gives_of m n)
results_there m program n = by_type (option_and_then (function_type m) (slice_get m.funcs n)) (by_function (slice_get m.funcs n))
  where
    by_function : (o : Option Func) → (t : FuncType) → option_and_then (function_type m) o ≡ Some t → NoFloats t.results
    by_function None t e = absurd cc
    by_function (Some f) t e = results_free m program f t e
