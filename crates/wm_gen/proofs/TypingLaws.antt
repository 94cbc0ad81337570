-- The typing of the functions of the workload, and their heights.
use Rattle.std.proofs.Common.{◌≡◌, ℕ, zero, suc, ◌+◌, ◌-◌, ◌<◌, ◌≤◌, List, [], ◌∷◌, length, map, max, get_or, refl, sym, ◌∙◌, ap, subst, Some, Option, lit≤, arith}
use Rattle.std.specs.Prelude.{slice_get, option_map, All}
use Rattle.std.proofs.lemmas.Option.{slice_get-map, slice_get-get_or}
use Rattle.std.proofs.lemmas.List.Elements.{All-get_or}
use Rattle.wm_ast.specs.declared.module.Func.{Func}
use Rattle.wm_ast.specs.declared.module.FuncType.{FuncType}
use Rattle.wm_ast.specs.declared.module.ValType.{ValType}
use Rattle.wm_ast.specs.declared.module.ValType.TheVariants.{I32, I64}
use Rattle.wm_ast.specs.declared.module.Module.{Module}
use Rattle.wm_ast.specs.declared.operation.NumOp.TheVariants.{I64Add, I64Xor}
use Rattle.wm_ast.specs.Code.{call, num, Code, nil, cons}
use Rattle.wm_ast.specs.Profile.{function_code}
use Rattle.wm_ast.specs.Types.{run_types, function_type}
use Rattle.wm_ast.specs.View.{code_from, code_of}
use Rattle.wm_valid.specs.Typing.{Context, Scope, TypesCode, body_context, body_scope, HasTyping}
use Rattle.wm_valid.specs.Height.{IsLow}
use Rattle.wm_valid.specs.Arrows.{◌>>=◌, by_arrow, call_type}
use Rattle.wm_valid.specs.Place.{LeadsTo}
use Rattle.wm_valid.specs.PlaceReading.{behind, code_height}
use Rattle.wm_valid.proofs.CheckLaws.{check_sound}
use Rattle.wm_valid.proofs.HeightLaws.{none_higher}
use Rattle.wm_gen.specs.Workload.{to_i64, i64, mixing, storing, dividing, sums, function, main, workload}
use Rattle.wm_gen.proofs.CodeLaws.{length_funcs}
use Rattle.wm_gen.proofs.FunctionLaws.{all_funcs, of_code, of_main}

module _ (number size : ℕ) where
  abbrev m : Module
  m = workload number size

  pub kinds : All (λ (f : Func). f.kind ≡ 0) m.funcs
  kinds = all_funcs (λ f. f.kind ≡ 0) number size (λ x i h. refl) refl

  pub type_of : (f : Func) → f.kind ≡ 0 → function_type m f ≡ Some to_i64
  type_of f e = ap (λ k. slice_get (to_i64 ∷ []) k) e

  -- the scope and the context of a body with these locals
  abbrev S : List ValType → Scope
  S ls = body_scope m ls

  abbrev C : List ValType → Context
  C ls = record { scope = S ls; labels = (I64 ∷ []) ∷ []; results = I64 ∷ [] }

  -- each function that is called is there, and gives an `i64`
  called : (k : ℕ) → k < size + 1 → slice_get (map (function_type m) m.funcs) k ≡ Some (Some to_i64)
  called k h =
      let d : Func = main size in
      let within : k < length m.funcs = let e : length m.funcs ≡ size + 1 = length_funcs number size in omega arith in
      slice_get-map (function_type m) m.funcs k
      ∙ ap (option_map (function_type m)) (slice_get-get_or m.funcs k d within)
      ∙ ap Some (type_of (get_or m.funcs k d) (All-get_or (λ (f : Func). f.kind ≡ 0) m.funcs k d within kinds))

  -- ---- typing

  typed : (x i : ℕ) → i < size → TypesCode (function_code (function x i)) (C (I32 ∷ I64 ∷ [])) [] (I64 ∷ [])
  typed x i h = of_code (λ c. TypesCode c (C (I32 ∷ I64 ∷ [])) [] (I64 ∷ [])) x i
      (λ a l. check_sound (code_from (mixing a)) (C (I32 ∷ I64 ∷ [])) (I64 ∷ []) tt refl)
      (λ a b l. check_sound (code_from (storing a b)) (C (I32 ∷ I64 ∷ [])) (I64 ∷ []) tt refl)
      (λ j a e l. (
        [],
        I64 ∷ [],
        [],
        (to_i64, called j (omega arith), (refl, refl)),
        refl,
        (
          [],
          I64 ∷ [],
          I64 ∷ [],
          (refl, refl),
          refl,
          (I64 ∷ I64 ∷ [], I64 ∷ [], [], (refl, refl), refl, refl),
        ),
      ))
      (λ a b l k. check_sound (code_from (dividing a b)) (C (I32 ∷ I64 ∷ [])) (I64 ∷ []) tt refl)

  sums_typed : (i n : ℕ) → i + n ≤ size → TypesCode (code_from (sums i n)) (C []) (I64 ∷ []) (I64 ∷ [])
  sums_typed i zero h = refl
  sums_typed i (suc n) h = (
    [],
    I64 ∷ [],
    I64 ∷ [],
    (to_i64, called i (omega arith), (refl, refl)),
    refl,
    (I64 ∷ I64 ∷ [], I64 ∷ [], [], (refl, refl), refl, sums_typed (suc i) n (omega arith)),
  )

  main_typed : TypesCode (function_code (main size)) (C []) [] (I64 ∷ [])
  main_typed = of_main (λ c. TypesCode c (C []) [] (I64 ∷ [])) size ([], I64 ∷ [], [], (refl, refl), refl, sums_typed 0 size (omega arith))

  pub all_typed : All (HasTyping m) m.funcs
  all_typed = all_funcs (HasTyping m) number size (λ x i h. (to_i64, refl, typed x i h)) (to_i64, refl, main_typed)

  -- ---- heights

  call_height : (j n : ℕ) (is : Code) (ls : List ValType) → j < size + 1 → code_height (cons (call j) is) (S ls) n ≡ max n (max 0 (code_height is (S ls) (1 + (n - 0))))
  call_height j n is ls h = ap (λ (o : Option (Option FuncType)). max n (max 0 (behind (option_map by_arrow (o >>= call_type)) n (λ k. code_height is (S ls) k)))) (called j h)

  low : (x i : ℕ) → i < size → code_height (function_code (function x i)) (S (I32 ∷ I64 ∷ [])) 0 ≤ 1024
  low x i h = of_code (λ c. code_height c (S (I32 ∷ I64 ∷ [])) 0 ≤ 1024) x i
      (λ a l. lit≤ tt) (λ a b l. lit≤ tt)
      (λ j a e l. subst (λ (k : ℕ). k ≤ 1024) (sym (call_height j 0 (cons (i64 a) (cons (num I64Xor) nil)) (I32 ∷ I64 ∷ []) (omega arith))) (lit≤ tt))
      (λ a b l k. lit≤ tt)

  sums_low : (i n : ℕ) → i + n ≤ size → code_height (code_from (sums i n)) (S []) 1 ≤ 2
  sums_low i zero h = lit≤ tt
  sums_low i (suc n) h =
      let e : code_height (code_from (sums i (suc n))) (S []) 1 ≡ max 1 (max 0 (code_height (cons (num I64Add) (code_from (sums (suc i) n))) (S []) 2)) = call_height i 1 (cons (num I64Add) (code_from (sums (suc i) n))) [] (omega arith) in
      let later : code_height (code_from (sums (suc i) n)) (S []) 1 ≤ 2 = sums_low (suc i) n (omega arith) in
      omega arith

  main_low : code_height (function_code (main size)) (S []) 0 ≤ 1024
  main_low = of_main (λ c. code_height c (S []) 0 ≤ 1024) size (let later : code_height (code_from (sums 0 size)) (S []) 1 ≤ 2 = sums_low 0 size (omega arith) in omega arith)

  low_by : (f : Func) → f.kind ≡ 0 → code_height (function_code f) (S (run_types f.locals)) 0 ≤ 1024 → IsLow m f
  low_by f z h count s =
      let (t, named, leads) = s.reached in
      let kind : function_type m f ≡ Some to_i64 = type_of f z in
      let same : t ≡ to_i64 = cc in
      let here : LeadsTo s.path (code_of f.body) (body_context m f to_i64) [] [] (cons s.instruction s.others) s.operands =
      subst (λ (u : FuncType). LeadsTo s.path (code_of f.body) (body_context m f u) [] [] (cons s.instruction s.others) s.operands) same leads in
      let top : length s.operands ≤ code_height (code_of f.body) (S (run_types f.locals)) 0 =
      none_higher s.path (code_of f.body) (body_context m f to_i64) [] [] s.instruction s.others s.operands here in
      let so_many : length s.operands ≡ count = s.so_many in
      omega arith

  pub all_low : All (IsLow m) m.funcs
  all_low = all_funcs (IsLow m) number size (λ x i h. low_by (function x i) refl (low x i h)) (low_by (main size) refl main_low)
