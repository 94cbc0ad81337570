-- The functions of a valid module of the profile, for their callers.
use Rattle.std.proofs.Common.{◌≡◌, ℕ, zero, suc, ◌≤◌, List, [], ◌∷◌, length, replicate, reverse, false, Option, Some, None, option_map, option_and_then, refl, sym, ap, subst, ◌∙◌, arith}
use Rattle.std.specs.Prelude.{filter_map, pos}
use Rattle.std.specs.List.{list_any}
use Rattle.std.proofs.lemmas.List.Elements.{filter_map-append}
use Rattle.mc_nbt.specs.declared.value.Kind.TheVariants as kinds
use Rattle.mc_nbt.specs.declared.value.Value.{Value}
use Rattle.mc_nbt.specs.declared.value.Value.TheVariants as values
use Rattle.wm_ast.specs.declared.module.ValType.{ValType}
use Rattle.wm_ast.specs.declared.module.ValType.TheVariants.{I32, I64, F32, F64}
use Rattle.wm_ast.specs.declared.item.Item.TheVariants.{Types}
use Rattle.wm_ast.specs.declared.module.FuncType.{FuncType}
use Rattle.wm_ast.specs.declared.module.Run.{Run}
use Rattle.wm_ast.specs.declared.module.Func.{Func}
use Rattle.wm_ast.specs.declared.module.Module.{Module}
use Rattle.wm_ast.specs.Profile.{is_float, is_float_run, has_float_code, has_float_function, function_code}
use Rattle.wm_ast.specs.Step.{arity}
use Rattle.wm_ast.specs.Store.{callee_of, callee, one_result, zero_of}
use Rattle.wm_ast.specs.Types.{results_of, run_types, function_type}
use Rattle.wm_valid.specs.Typing.{TypesCode, body_context}
use Rattle.wm_flat.specs.FlatTyping.{Are, IsFunction}
use Rattle.wm_flat.specs.Program.{IsProgram}
use Rattle.wm_valid.specs.InRange.{CodeInRange}
use Rattle.wm_flat.proofs.ItemLaws.{neither, no_such}
use Rattle.wm_flat.proofs.ValueLaws.{are_none, are_more, are_join, value_is}

-- Locals begin with zeros.

zeros_of_type : (t : ValType) (n : ℕ) → is_float t ≡ false → Are (replicate n t) (filter_map zero_of (replicate n t))
zeros_of_type t zero h = are_none
zeros_of_type I32 (suc n) h = are_more I32 (replicate n I32) (values.I32 (pos 0)) (filter_map zero_of (replicate n I32)) (value_is kinds.I32 0) (zeros_of_type I32 n h)
zeros_of_type I64 (suc n) h = are_more I64 (replicate n I64) (values.I64 (pos 0)) (filter_map zero_of (replicate n I64)) (value_is kinds.I64 0) (zeros_of_type I64 n h)
zeros_of_type F32 (suc n) h = absurd cc
zeros_of_type F64 (suc n) h = absurd cc

zeros_of_runs : (rs : List Run) → list_any is_float_run rs ≡ false → Are (run_types rs) (filter_map zero_of (run_types rs))
zeros_of_runs [] h = are_none
zeros_of_runs (r ∷ rs) h =
    let n = neither (is_float_run r) (list_any is_float_run rs) h in
    subst (λ (l : List Value). Are (run_types (r ∷ rs)) l) (sym (filter_map-append zero_of (replicate r.count r.ty) (run_types rs)))
    (are_join (replicate r.count r.ty) (run_types rs) (filter_map zero_of (replicate r.count r.ty)) (filter_map zero_of (run_types rs)) (zeros_of_type r.ty r.count n.0) (zeros_of_runs rs n.1))

-- One result at most.

record OneResult (ts : List ValType) : Type 0 where
  result : Option ValType
  is : one_result ts ≡ Some result
  types : reverse ts ≡ results_of result

has_one : (ts : List ValType) → length ts ≤ 1 → OneResult ts
has_one [] h = record { result = None; is = refl; types = refl }
has_one (t ∷ []) h = record { result = Some t; is = refl; types = refl }
has_one (t ∷ u ∷ ts) h = absurd (omega arith)

pub arity_is : (ty : Option ValType) → length (results_of ty) ≡ arity ty
arity_is None = refl
arity_is (Some t) = refl

-- a function, as its callers have it
pub record Entry (m : Module) (n : ℕ) (f : Func) (t : FuncType) : Type 0 where
  pub result : Option ValType
  pub gives : reverse t.results ≡ results_of result
  pub found : callee_of m n ≡ Some (callee f t result)
  pub count : length t.results ≡ arity result
  pub body : TypesCode (function_code f) (body_context m f t) [] (reverse t.results)
  pub constants : CodeInRange (function_code f)
  pub zeros : Are (run_types f.locals) (filter_map zero_of (run_types f.locals))

count_of_one : (ts : List ValType) (r : Option ValType) → one_result ts ≡ Some r → length ts ≡ arity r
count_of_one [] r e = let w : None ≡ r = cc in ap arity w
count_of_one (t ∷ []) r e = let w : Some t ≡ r = cc in ap arity w
count_of_one (t ∷ u ∷ ts) r e = absurd cc

pub entry : (m : Module) (n : ℕ) (f : Func) (t : FuncType) → IsProgram m → IsFunction m n f t → Entry m n f t
entry m n f t p i =
    let one = has_one t.results (p.valid.items Types f.kind t i.has_type) in
    let typing = p.valid.bodies n f i.there in
    let same : typing.0 ≡ t = let a : Some typing.0 ≡ Some t = sym typing.1 ∙ i.has_type in cc in
    let plain = neither (list_any is_float_run f.locals) (has_float_code (function_code f)) (no_such has_float_function m.funcs n f p.profile.no_floats.functions i.there) in
    record {
      result = one.result;
      gives = one.types;
      found = ap (λ o. option_and_then (λ g. option_and_then (λ u. option_map (callee g u) (one_result u.results)) (function_type m g)) o) i.there
          ∙ ap (λ o. option_and_then (λ u. option_map (callee f u) (one_result u.results)) o) i.has_type
          ∙ ap (λ o. option_map (callee f t) o) one.is;
      count = count_of_one t.results one.result one.is;
      body = subst (λ (u : FuncType). TypesCode (function_code f) (body_context m f u) [] (reverse u.results)) same typing.2;
      constants = p.numbers.functions n f i.there;
      zeros = zeros_of_runs f.locals plain.0;
    }
