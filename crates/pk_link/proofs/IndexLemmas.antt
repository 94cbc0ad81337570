-- The index of a pack lists the exports of functions, and is small.
use Rattle.std.proofs.Common.{◌≡◌, ◌∙◌, ap, refl, sym, subst, ℕ, zero, suc, ◌+◌, ◌<◌, ◌≤◌, List, [], ◌∷◌, length, map, Bool, true, false, Option, Some, None, arith}
use Rattle.std.specs.Prelude.{filter, if◌then◌else◌, slice_get, sum}
use Rattle.std.specs.List.{list_any}
use Rattle.std.specs.Option.{option_to_list}
use Rattle.std.proofs.lemmas.List.{length-map}
use Rattle.std.proofs.lemmas.List.Sums.{sum_by-cons, sum-map}
use Rattle.wm_ast.specs.declared.item.Item.TheVariants.{Exports, Functions, Types}
use Rattle.wm_ast.specs.declared.module.Export.{Export}
use Rattle.wm_ast.specs.declared.module.Func.{Func}
use Rattle.wm_ast.specs.declared.module.FuncType.{FuncType}
use Rattle.wm_ast.specs.declared.module.Module.{Module}
use Rattle.wm_ast.specs.declared.module.Space.{Space}
use Rattle.wm_ast.specs.declared.module.Space.TheVariants as spaces
use Rattle.wm_ast.specs.declared.module.ValType.{ValType}
use Rattle.wm_ast.specs.declared.module.ValType.TheVariants.{I32, I64, F32, F64}
use Rattle.wm_ast.specs.Instance.{exported_functions, exported_index, is_function}
use Rattle.wm_ast.specs.Operation.{kind_type}
use Rattle.wm_ast.specs.Profile.{is_float, has_float_type, export_size, export_size_in, exported_params, params_count}
use Rattle.wm_ast.specs.Types.{function_type}
use Rattle.wm_valid.specs.Arrows.{◌>>=◌}
use Rattle.wm_valid.specs.Valid.{IsThere}
use Rattle.wm_place.proofs.IntLemmas.{NoFloats, none_of, or_false}
use Rattle.wm_flat.specs.Program.{IsProgram}
use Rattle.pk_agree.specs.Agree.{AreExports, function_exports, IsExport}
use Rattle.pk_link.specs.Functions.{export_entry, export_of, first_kind, int_kind, type_of}
use Rattle.mc_cmd.specs.Pack.{export_weight}
use Rattle.pk_link.proofs.Counts.{exports_are_few}

-- ---- kinds

-- of a type that is no float
kind_back : (t : ValType) → is_float t ≡ false → kind_type (int_kind t) ≡ t
kind_back I32 e = refl
kind_back I64 e = refl
kind_back F32 e = absurd cc
kind_back F64 e = absurd cc

kinds_back : (ts : List ValType) → NoFloats ts → map kind_type (map int_kind ts) ≡ ts
kinds_back [] a = refl
kinds_back (t ∷ ts) a =
    let w = or_false (is_float t) (list_any is_float ts) a in
    ap (λ (u : ValType). u ∷ map kind_type (map int_kind ts)) (kind_back t w.0) ∙ ap (λ (us : List ValType). t ∷ us) (kinds_back ts w.1)

result_back : (ts : List ValType) → length ts ≤ 1 → NoFloats ts → map kind_type (option_to_list (first_kind ts)) ≡ ts
result_back [] l a = refl
result_back (t ∷ []) l a = kinds_back (t ∷ []) a
result_back (t ∷ (u ∷ ts)) l a = absurd (let h : suc (suc (length ts)) ≤ 1 = l in let k : ⊥ = omega arith in k)

-- ---- exports

get_at : {A : Type 0} (xs : List A) (n : ℕ) → n < length xs → (x : A) × (slice_get xs n ≡ Some x)
get_at [] n h = absurd (omega arith)
get_at (y ∷ xs) zero h = (y, refl)
get_at (y ∷ xs) (suc n) h = get_at xs n (omega arith)

module _ (m : Module) (program : IsProgram m) where
  there_in : (s : Space) (n : ℕ) → is_function s ≡ true → IsThere m s n → n < length m.funcs
  there_in spaces.Func n e h = h
  there_in spaces.Table n e h = absurd cc
  there_in spaces.Memory n e h = absurd cc
  there_in spaces.Global n e h = absurd cc

  export_is : (k : ℕ) (e : Export) → slice_get m.exports k ≡ Some e → is_function e.space ≡ true → IsExport m e (export_of m e)
  export_is k e at is =
      let there : e.index < length m.funcs = there_in e.space e.index is (program.valid.items Exports k e at).there in
      let (f, stands) = get_at m.funcs e.index there in
      let named : f.kind < length m.types = program.valid.items Functions e.index f stands in
      let (t, typed) = get_at m.types f.kind named in
      let type : type_of m e.index ≡ Some t = ap (λ (o : Option Func). o >>= function_type m) stands ∙ typed in
      let ints : has_float_type t ≡ false = none_of has_float_type m.types f.kind t program.profile.no_floats.types typed in
      let kinds = or_false (list_any is_float t.params) (list_any is_float t.results) ints in
      record {
        func = f;
        type = t;
        is_function = record { there = stands; has_type = typed };
        name = ap (λ (o : Option FuncType). (export_entry e.name o).name) type;
        params = ap (λ (o : Option FuncType). map kind_type (export_entry e.name o).params) type ∙ kinds_back t.params kinds.0;
        result = ap (λ (o : Option FuncType). map kind_type (option_to_list (export_entry e.name o).result)) type ∙ result_back t.results (program.valid.items Types f.kind t typed) kinds.1;
      }

  abbrev Among : ℕ → List Export → Type 0
  Among k es = (i : ℕ) (e : Export) → slice_get es i ≡ Some e → slice_get m.exports (k + i) ≡ Some e

  exports_are : (k : ℕ) (es : List Export) → Among k es → AreExports m (filter (λ e. is_function e.space) es) (map (export_of m) (filter (λ e. is_function e.space) es))
  exports_are k [] h = tt
  exports_are k (e ∷ es) h =
      go (is_function e.space) refl (export_is k e (subst (λ j. slice_get m.exports j ≡ Some e) (same k) (h 0 e refl))) (exports_are (suc k) es (λ i d q. subst (λ j. slice_get m.exports j ≡ Some d) (more k i) (h (suc i) d q)))
    where
      same : (k : ℕ) → k + 0 ≡ k
      same k = omega arith

      more : (k i : ℕ) → k + suc i ≡ suc k + i
      more k i = omega arith

      rest : List Export
      rest = filter (λ e. is_function e.space) es

      go : (b : Bool) → is_function e.space ≡ b → (is_function e.space ≡ true → IsExport m e (export_of m e)) → AreExports m rest (map (export_of m) rest)
          → AreExports m (if b then e ∷ rest else rest) (map (export_of m) (if b then e ∷ rest else rest))
      go true q here others = (here q, others)
      go false q here others = others

  pub exports_listed : AreExports m (function_exports m) (map (export_of m) (function_exports m))
  exports_listed = exports_are 0 m.exports (λ i e q. subst (λ j. slice_get m.exports j ≡ Some e) (same i) q)
    where
      same : (i : ℕ) → i ≡ 0 + i
      same i = omega arith

  pub exports_few : length (map (export_of m) (function_exports m)) ≤ 4096
  exports_few =
      let a : length (map (export_of m) (function_exports m)) ≡ length (function_exports m) = length-map (function_exports m) (export_of m) in
      let b : length (exported_functions m) ≡ length (function_exports m) = length-map (function_exports m) exported_index in
      let c : length (exported_functions m) ≤ 4096 = exports_are_few m program in
      omega arith

  -- ---- their size

  sum_more : {A : Type 0} (f : A → ℕ) (x : A) (xs : List A) → sum (map f (x ∷ xs)) ≡ f x + sum (map f xs)
  sum_more f x xs = sum-map f (x ∷ xs) ∙ sum_by-cons f x xs ∙ ap (λ k. f x + k) (sym (sum-map f xs))

  weight_low : (e : Export) → is_function e.space ≡ true → export_weight (export_of m e) ≤ export_size m e
  weight_low e is = by_space e.space is
    where
      typed : (f : Func) (o : Option FuncType) → export_weight (export_entry e.name o) ≤ length e.name + params_count o
      typed f None = omega arith
      typed f (Some t) = let l : length (map int_kind t.params) ≡ length t.params = length-map t.params int_kind in omega arith

      by_func : (o : Option Func) → export_weight (export_entry e.name (o >>= function_type m)) ≤ length e.name + exported_params m o
      by_func None = omega arith
      by_func (Some f) = typed f (function_type m f)

      by_space : (s : Space) → is_function s ≡ true → export_weight (export_of m e) ≤ export_size_in m s e
      by_space spaces.Func q = by_func (slice_get m.funcs e.index)
      by_space spaces.Table q = absurd cc
      by_space spaces.Memory q = absurd cc
      by_space spaces.Global q = absurd cc

  weights_low : (es : List Export) → sum (map export_weight (map (export_of m) (filter (λ e. is_function e.space) es))) ≤ sum (map (export_size m) es)
  weights_low [] = omega arith
  weights_low (e ∷ es) = go (is_function e.space) refl (weights_low es)
    where
      rest : List Export
      rest = filter (λ e. is_function e.space) es

      go : (b : Bool) → is_function e.space ≡ b → sum (map export_weight (map (export_of m) rest)) ≤ sum (map (export_size m) es)
          → sum (map export_weight (map (export_of m) (if b then e ∷ rest else rest))) ≤ sum (map (export_size m) (e ∷ es))
      go true q h =
          let a : sum (map export_weight (export_of m e ∷ map (export_of m) rest)) ≡ export_weight (export_of m e) + sum (map export_weight (map (export_of m) rest)) = sum_more export_weight (export_of m e) (map (export_of m) rest) in
          let b : sum (map (export_size m) (e ∷ es)) ≡ export_size m e + sum (map (export_size m) es) = sum_more (export_size m) e es in
          let c : export_weight (export_of m e) ≤ export_size m e = weight_low e q in
          let d : sum (map export_weight (export_of m e ∷ map (export_of m) rest)) ≤ sum (map (export_size m) (e ∷ es)) = omega arith in
          d
      go false q h = let b : sum (map (export_size m) (e ∷ es)) ≡ export_size m e + sum (map (export_size m) es) = sum_more (export_size m) e es in omega arith

  pub exports_light : sum (map export_weight (map (export_of m) (function_exports m))) ≤ 2097152
  exports_light =
      let a : sum (map export_weight (map (export_of m) (function_exports m))) ≤ sum (map (export_size m) m.exports) = weights_low m.exports in
      let b : sum (map (export_size m) m.exports) ≤ 2097152 = program.profile.within_limits.export_sizes in
      omega arith
