-- The workload is spelled by its bytes, and is valid and in the profile.
use Rattle.std.proofs.Common.{◌≡◌, ℕ, ◌+◌, ◌*◌, ◌<◌, ◌≤◌, List, [], ◌∷◌, ◌++◌, length, map, refl, sym, ◌∙◌, ap, subst, false, Some, None, Option, lit≤, arith}
use Rattle.std.specs.Prelude.{slice_get, All, sum}
use Rattle.std.specs.List.{concat, list_any, sum_by}
use Rattle.std.proofs.lemmas.List.Elements.{All-nil, All-cons, All-head, All-tail, All-map, All-weaker}
use Rattle.std.proofs.lemmas.List.Folds.{list_any_none}
use Rattle.std.proofs.lemmas.List.Sums.{sum_by-le, sum_by_push, sum-map}
use Rattle.std.proofs.lemmas.Option.{slice_get_within}
use Rattle.wm_ast.specs.declared.item.Item.TheVariants.{Types, Imports, Functions, Tables, Memories, Globals, Elements, Datas, Start, Exports}
use Rattle.wm_ast.specs.declared.module.Func.{Func}
use Rattle.wm_ast.specs.declared.module.Export.{Export}
use Rattle.wm_ast.specs.declared.module.Module.{Module}
use Rattle.wm_ast.specs.Profile.{InProfile, HasNoFloat, HasNoMul64, WithinLimits, has_float_function, has_mul64_function, has_float_code, is_float_run, function_code, function_size, function_locals, params_count, exported_params, code_labels}
use Rattle.wm_valid.specs.Checked.{IsTyped}
use Rattle.wm_valid.specs.Height.{IsLow}
use Rattle.wm_valid.specs.InRange.{HasNumbersInRange, CodeInRange}
use Rattle.wm_valid.specs.Typing.{HasTyping}
use Rattle.wm_valid.specs.Valid.{Valid, AllItemsValid, IsThere, IsValidType, AreValidLimits, IsValidTable, IsValidGlobal, IsValidElement, IsValidData}
use Rattle.wm_gen.specs.Workload.{to_i64, function, functions, main, one_page, export_main, workload}
use Rattle.wm_gen.proofs.CodeLaws.{length_funcs, length_functions}
use Rattle.wm_gen.proofs.FunctionLaws.{at_place, all_functions, all_funcs, no_float, no_float_main, no_mul64, no_mul64_main, no_labels, no_labels_main, few_ops, main_ops, in_range, main_in_range}
use Rattle.wm_gen.proofs.TypingLaws.{kinds, all_typed, all_low}

module _ (number size : ℕ) where
  abbrev m : Module
  m = workload number size

  one : {A : Type 0} (P : A → Type 0) (x : A) → P x → All P (x ∷ [])
  one P x p = All-cons P x [] p (All-nil P)

  -- ---- items

  items : AllItemsValid m
  items Types n = λ t e. at_place IsValidType (to_i64 ∷ []) n t (one IsValidType to_i64 (lit≤ tt)) e
  items Imports n = tt
  items Functions n = λ f e. let z : f.kind ≡ 0 = at_place (λ (g : Func). g.kind ≡ 0) m.funcs n f (kinds number size) e in omega arith
  items Tables n = λ l e. at_place (IsValidTable n) [] n l (All-nil (IsValidTable n)) e
  items Memories n = λ l e.
      let within : n < 1 = slice_get_within (one_page ∷ []) n l e in
      (omega arith, at_place (AreValidLimits 65536) (one_page ∷ []) n l (one (AreValidLimits 65536) one_page (lit≤ tt, tt)) e)
  items Globals n = λ g e. at_place IsValidGlobal [] n g (All-nil IsValidGlobal) e
  items Elements n = λ x e. at_place (IsValidElement m) [] n x (All-nil (IsValidElement m)) e
  items Datas n = λ d e. at_place (IsValidData m) [] n d (All-nil (IsValidData m)) e
  items Start n = λ f z e. absurd cc
  items Exports n = λ x e.
      let within : n < 1 = slice_get_within (export_main size ∷ []) n x e in
      let count : length m.funcs ≡ size + 1 = length_funcs number size in
      let there : size < length m.funcs = omega arith in
      record {
        there = at_place (λ (y : Export). IsThere m y.space y.index) (export_main size ∷ []) n x (one (λ (y : Export). IsThere m y.space y.index) (export_main size) there) e;
        new = λ k earlier before at. absurd (omega arith);
      }

  valid : Valid m
  valid = record { items = items; bodies = λ n f e. at_place (HasTyping m) m.funcs n f (all_typed number size) e }

  -- ---- the profile

  plain : (f : Func) → has_float_code (function_code f) ≡ false → list_any is_float_run f.locals ≡ false → has_float_function f ≡ false
  plain f e r = rw (r, e) refl

  no_floats : HasNoFloat m
  no_floats = record {
    types = refl;
    imports = refl;
    globals = refl;
    elements = refl;
    datas = refl;
    functions = list_any_none has_float_function m.funcs
        (all_funcs (λ f. has_float_function f ≡ false) number size (λ x i h. plain (function x i) (no_float x i) refl) (plain (main size) (no_float_main size) refl));
  }

  no_products : HasNoMul64 m
  no_products = record {
    globals = refl;
    elements = refl;
    datas = refl;
    functions = list_any_none has_mul64_function m.funcs (all_funcs (λ f. has_mul64_function f ≡ false) number size (λ x i h. no_mul64 x i) (no_mul64_main size));
  }

  few_locals : All (λ f. function_locals m f ≤ 2) m.funcs
  few_locals = all_funcs (λ f. function_locals m f ≤ 2) number size (λ x i h. lit≤ tt) (lit≤ tt)

  sum_of_locals : sum (map (function_locals m) m.funcs) ≤ 2 * (size + 1)
  sum_of_locals =
      let count : length m.funcs ≡ size + 1 = length_funcs number size in
      let most : sum_by (function_locals m) m.funcs ≤ length m.funcs * 2 = sum_by-le (function_locals m) 2 m.funcs few_locals in
      let same : sum (map (function_locals m) m.funcs) ≡ sum_by (function_locals m) m.funcs = sum-map (function_locals m) m.funcs in
      omega arith

  sum_of_sizes : sum (map function_size m.funcs) ≤ 26 * size + 1
  sum_of_sizes =
      let count : length (functions number size) ≡ size = length_functions number size in
      let most : sum_by function_size (functions number size) ≤ length (functions number size) * 24 =
      sum_by-le function_size 24 (functions number size) (all_functions (λ f. function_size f ≤ 24) number size (λ x i h. few_ops x i)) in
      let last : function_size (main size) ≡ 2 * size + 1 = main_ops size in
      let all : sum_by function_size m.funcs ≡ sum_by function_size (functions number size) + function_size (main size) = sum_by_push function_size (functions number size) (main size) in
      let same : sum (map function_size m.funcs) ≡ sum_by function_size m.funcs = sum-map function_size m.funcs in
      omega arith

  none_labelled : (fs : List Func) → All (λ f. code_labels (function_code f) ≡ []) fs → concat (map code_labels (map function_code fs)) ≡ []
  none_labelled [] h = refl
  none_labelled (f ∷ fs) h =
      let P : Func → Type 0 = λ f. code_labels (function_code f) ≡ [] in
      ap (λ l. l ++ concat (map code_labels (map function_code fs))) (All-head P f fs h) ∙ none_labelled fs (All-tail P f fs h)

  labels : All (λ count. count ≤ 4096) (concat (map code_labels (map function_code m.funcs)))
  labels =
      let none : concat (map code_labels (map function_code m.funcs)) ≡ [] = none_labelled m.funcs (all_funcs (λ f. code_labels (function_code f) ≡ []) number size (λ x i h. no_labels x i) (no_labels_main size)) in
      subst (λ (l : List ℕ). All (λ count. count ≤ 4096) l) (sym none) (All-nil (λ (count : ℕ). count ≤ 4096))

  no_params : (o : Option Func) → ((f : Func) → o ≡ Some f → f.kind ≡ 0) → exported_params m o ≡ 0
  no_params None h = refl
  no_params (Some f) h = ap (λ k. params_count (slice_get (to_i64 ∷ []) k)) (h f refl)

  within_limits : size ≤ 1000 → WithinLimits m
  within_limits most =
      let count : length m.funcs ≡ size + 1 = length_funcs number size in
      let all_locals : sum (map (function_locals m) m.funcs) ≤ 2 * (size + 1) = sum_of_locals in
      let all_sizes : sum (map function_size m.funcs) ≤ 26 * size + 1 = sum_of_sizes in
      let none : exported_params m (slice_get m.funcs size) ≡ 0 = no_params (slice_get m.funcs size) (λ f e. at_place (λ (g : Func). g.kind ≡ 0) m.funcs size f (kinds number size) e) in
      record {
        types = lit≤ tt;
        functions = omega arith;
        locals = All-map (λ count. count ≤ 1024) (function_locals m) m.funcs (All-weaker (λ f. function_locals m f ≤ 2) (λ f. function_locals m f ≤ 1024) (λ f h. omega arith) m.funcs few_locals);
        all_locals = omega arith;
        instructions = omega arith;
        labels = labels;
        globals = lit≤ tt;
        tables = All-nil (λ (count : ℕ). count ≤ 16384);
        memories = one (λ (count : ℕ). count ≤ 256) 1 (lit≤ tt);
        exports = lit≤ tt;
        export_sizes = omega arith;
      }

  profile : size ≤ 1000 → InProfile m
  profile most = record {
    no_imports = refl;
    no_floats = no_floats;
    no_mul64 = no_products;
    within_limits = within_limits most;
    no_element_beyond = refl;
    no_data_beyond = refl;
  }

  numbers : HasNumbersInRange m
  numbers = record {
    functions = λ n f e. at_place (λ f. CodeInRange (function_code f)) m.funcs n f (all_funcs (λ f. CodeInRange (function_code f)) number size (λ x i h. in_range x i) (main_in_range size)) e;
    globals = λ n g e. absurd (cc);
    datas = λ n d e. absurd (cc);
  }

  pub is_typed : size ≤ 1000 → IsTyped m
  is_typed most = record {
    profile = profile most;
    valid = valid;
    low = λ n f e. at_place (IsLow m) m.funcs n f (all_low number size) e;
    numbers = numbers;
  }
