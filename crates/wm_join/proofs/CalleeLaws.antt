-- Functions and types of the modules are found in the joined module.
use Rattle.std.proofs.Common.{◌≡◌, ℕ, ◌+◌, map, Option, Some, None, option_map, refl, ap, ◌∙◌, arith}
use Rattle.std.specs.Prelude.{slice_get, option_and_then}
use Rattle.std.proofs.lemmas.List.{length-map}
use Rattle.std.proofs.lemmas.Option.{slice_get-map}
use Rattle.wm_ast.specs.declared.module.ValType.{ValType}
use Rattle.wm_ast.specs.declared.module.FuncType.{FuncType}
use Rattle.wm_ast.specs.declared.module.Func.{Func}
use Rattle.wm_ast.specs.declared.module.Module.{Module}
use Rattle.wm_ast.specs.declared.module.Space.TheVariants as spaces
use Rattle.wm_ast.specs.Code.{Code}
use Rattle.wm_ast.specs.Store.{Callee, callee, callee_of, one_result}
use Rattle.wm_ast.specs.Types.{function_type}
use Rattle.wm_match.specs.declared.library.Binding.{Binding}
use Rattle.wm_match.specs.Program.{Program, modules, module_at}
use Rattle.wm_match.specs.Space.{own_count}
use Rattle.wm_join.specs.Joined.{joined, item_number, type_number, type_count, renumbering, joined_function}
use Rattle.wm_join.specs.LinkedStore.{callee_of as linked_callee, type_at}
use Rattle.wm_join.specs.Renumbered.{renumbered}
use Rattle.wm_join.proofs.NumberingLaws.{made_get}
use Rattle.wm_join.proofs.RenumberedLaws.{code_is}

module _ (p : Program) where
  -- a function of the module of number k, for callers in the joined module
  abbrev pub image_callee : ℕ → Callee → Callee
  image_callee k c = record c { body = renumbered (renumbering p k) c.body }

  pub type_found : (k n : ℕ) → slice_get (joined p).types (type_number p k n) ≡ type_at p k n
  type_found k n =
      let e : 0 + k ≡ k = omega arith in
      made_get (λ (j : ℕ) (m : Module). m.types) (type_count p) (λ j m. refl) 0 (modules p) k n

  func_of : ℕ → ℕ → Module → Option Func
  func_of k n m = option_map (joined_function p k) (slice_get m.funcs n)

  pub function_found : (f : Binding) → slice_get (joined p).funcs (item_number p spaces.Func f) ≡ option_and_then (λ m. option_map (joined_function p f.module) (slice_get m.funcs f.index)) (module_at p f.module)
  function_found f =
      let e : 0 + f.module ≡ f.module = omega arith in
      made_get (λ (j : ℕ) (m : Module). map (joined_function p j) m.funcs) (own_count spaces.Func) (λ j m. length-map m.funcs (joined_function p j)) 0 (modules p) f.module f.index
      ∙ by_module (module_at p f.module)
    where
      by_module : (o : Option Module)
          → option_and_then (λ m. slice_get (map (joined_function p (0 + f.module)) m.funcs) f.index) o
          ≡ option_and_then (λ m. option_map (joined_function p f.module) (slice_get m.funcs f.index)) o
      by_module None = refl
      by_module (Some m) =
          let e : 0 + f.module ≡ f.module = omega arith in
          ap (λ (k : ℕ). slice_get (map (joined_function p k) m.funcs) f.index) e ∙ slice_get-map (joined_function p f.module) m.funcs f.index

  -- the type of a function
  pub function_type_found : (k : ℕ) (m : Module) (f : Func) → module_at p k ≡ Some m → function_type (joined p) (joined_function p k f) ≡ function_type m f
  function_type_found k m f e = type_found k f.kind ∙ ap (option_and_then (λ (n : Module). slice_get n.types f.kind)) e

  callee_is : (k : ℕ) (f : Func) (t : FuncType) (r : Option ValType) → callee (joined_function p k f) t r ≡ image_callee k (callee f t r)
  callee_is k f t r = ap (λ (c : Code). record (callee f t r) { body = c }) (code_is p k f.body)

  callee_typed : (k : ℕ) (f : Func) (o : Option FuncType)
      → option_and_then (λ t. option_map (callee (joined_function p k f) t) (one_result t.results)) o
      ≡ option_map (image_callee k) (option_and_then (λ t. option_map (callee f t) (one_result t.results)) o)
  callee_typed k f None = refl
  callee_typed k f (Some t) = by_result (one_result t.results)
    where
      by_result : (r : Option (Option ValType)) → option_map (callee (joined_function p k f) t) r ≡ option_map (image_callee k) (option_map (callee f t) r)
      by_result None = refl
      by_result (Some r) = ap Some (callee_is k f t r)

  pub callee_found : (f : Binding) → callee_of (joined p) (item_number p spaces.Func f) ≡ option_map (image_callee f.module) (linked_callee p f)
  callee_found f =
      ap (option_and_then (λ (g : Func). option_and_then (λ t. option_map (callee g t) (one_result t.results)) (function_type (joined p) g))) (function_found f)
      ∙ by_module (module_at p f.module) refl
    where
      by_function : (m : Module) → module_at p f.module ≡ Some m → (g : Option Func)
          → option_and_then (λ g. option_and_then (λ t. option_map (callee g t) (one_result t.results)) (function_type (joined p) g)) (option_map (joined_function p f.module) g)
          ≡ option_map (image_callee f.module) (option_and_then (λ g. option_and_then (λ t. option_map (callee g t) (one_result t.results)) (function_type m g)) g)
      by_function m e None = refl
      by_function m e (Some g) =
          ap (option_and_then (λ (t : FuncType). option_map (callee (joined_function p f.module g) t) (one_result t.results))) (function_type_found f.module m g e)
          ∙ callee_typed f.module g (function_type m g)

      by_module : (o : Option Module) → module_at p f.module ≡ o
          → option_and_then (λ g. option_and_then (λ t. option_map (callee g t) (one_result t.results)) (function_type (joined p) g)) (option_and_then (λ m. option_map (joined_function p f.module) (slice_get m.funcs f.index)) o)
          ≡ option_map (image_callee f.module) (option_and_then (λ m. callee_of m f.index) o)
      by_module None e = refl
      by_module (Some m) e = by_function m e (slice_get m.funcs f.index)
