-- The calls of a body that are reached take no more arguments than it has instructions: each argument is an operand that an
-- instruction has put there, which puts one at most, and no two calls take the same.
use Rattle.std.proofs.Common.{◌≡◌, ℕ, suc, ◌+◌, ◌-◌, ◌≤◌, List, [], ◌∷◌, ◌++◌, length, map, drop, reverse, true, false, Option, Some, None, option_map, refl, sym, ap, ◌∙◌, subst, arith, length-append, append-nil}
use Rattle.std.specs.Prelude.{slice_get}
use Rattle.std.proofs.lemmas.Bool.{cases_Bool}
use Rattle.std.proofs.lemmas.List.{length-drop, length-reverse}
use Rattle.std.proofs.lemmas.Option.{slice_get-map}
use mathlib.Core.Logic.{⊎_elim}
use Rattle.wm_ast.specs.declared.item.Item.TheVariants.{Types}
use Rattle.wm_ast.specs.declared.module.Func.{Func}
use Rattle.wm_ast.specs.declared.module.FuncType.{FuncType}
use Rattle.wm_ast.specs.declared.module.Module.{Module}
use Rattle.wm_ast.specs.declared.module.ValType.{ValType}
use Rattle.wm_ast.specs.Code.{Op, block, loop, if_else, call, call_indirect, Code, nil, cons}
use Rattle.wm_ast.specs.Profile.{op_and_inside, all_ops, function_size}
use Rattle.wm_ast.specs.Types.{results_of, run_types, function_type}
use Rattle.wm_ast.specs.View.{code_of}
use Rattle.wm_valid.specs.Place.{is_jump}
use Rattle.wm_valid.specs.Typing.{Context, Rule, TypesCode, under_label, body_context, Scope, body_scope}
use Rattle.wm_valid.specs.Valid.{Valid}
use Rattle.wm_valid.specs.Arrows.{◌>>=◌, Change, changed, change}
use Rattle.wm_valid.proofs.ChangeLaws.{Stepped, step, stops, few}
use Rattle.wm_valid.proofs.OperandLaws.{bind_some, some_is}
use Rattle.wm_place.specs.Kinds.{body_of}
use Rattle.wm_place.specs.Spot.{followed_by}
use Rattle.wm_place.specs.Visit.{Around, Visit, visits}
use Rattle.wm_place.specs.steps.Walk.{behind, deeper, inside_visits, code_visits}
use Rattle.wm_place.proofs.WalkLemmas.{way_is}
use Rattle.cc_body.specs.Behind.{call_type, last_op, call_before}

pub last_followed : (c : Code) (i : Op) → last_op (followed_by c i) ≡ Some i
last_followed nil i = refl
last_followed (cons j nil) i = refl
last_followed (cons j (cons k is)) i = last_followed (cons k is) i

-- how many arguments a call of a function of this type takes
abbrev pub takes_of : Option FuncType → ℕ
takes_of None = 0
takes_of (Some t) = length t.params

joined : {A B : Type 0} (f : A → Option B) (o : Option A) (y : B) → option_map f o ≡ Some (Some y) → (o >>= f) ≡ Some y
joined f None y e = absurd cc
joined f (Some x) y e = some_is (f x) (Some y) e

module _ (m : Module) where
  -- those of the calls behind which these places stand
  abbrev pub arguments : List Visit → ℕ
  arguments [] = 0
  arguments (v ∷ vs) = takes_of (call_before m v) + arguments vs

  arguments_both : (vs ws : List Visit) → arguments (vs ++ ws) ≡ arguments vs + arguments ws
  arguments_both [] ws = let e : arguments ws ≡ 0 + arguments ws = omega arith in e
  arguments_both (v ∷ vs) ws = let e : arguments (vs ++ ws) ≡ arguments vs + arguments ws = arguments_both vs ws in omega arith

  module _ (valid : Valid m) (locals : List ValType) where
    abbrev InBody : Context → Type 0
    InBody D = D.scope ≡ body_scope m locals

    -- ---- an instruction

    few_results : (i : Op) (t : FuncType) → call_type m i ≡ Some t → length t.results ≤ 1
    few_results (call f) t e = let w = bind_some (slice_get m.funcs f) (function_type m) t e in valid.items Types w.0.kind t w.2
    few_results (call_indirect n) t e = valid.items Types n t e
    few_results _ t e = absurd cc

    called_type : (f : ℕ) (D : Context) (t : FuncType) → InBody D → slice_get D.scope.functions f ≡ Some (Some t) → call_type m (call f) ≡ Some t
    called_type f D t same e =
        let a : D.scope.functions ≡ map (function_type m) m.funcs = ap (λ (T : Scope). T.functions) same in
        joined (function_type m) (slice_get m.funcs f) t (sym (slice_get-map (function_type m) m.funcs f) ∙ (ap (λ (l : List (Option FuncType)). slice_get l f) (sym a) ∙ e))

    indirect_type : (n : ℕ) (D : Context) (t : FuncType) → InBody D → slice_get D.scope.types n ≡ Some t → call_type m (call_indirect n) ≡ Some t
    indirect_type n D t same e = ap (λ (l : List FuncType). slice_get l n) (sym (ap (λ (T : Scope). T.types) same)) ∙ e

    -- what a typed instruction leaves behind which something is reached
    left : (i : Op) (D : Context) (takes gives below own : List ValType) (e : Change) → InBody D → Rule i D takes gives → own ≡ takes ++ below → change i (body_scope m locals) ≡ Some e → changed e own ≡ gives ++ below
    left i D takes gives below own e same r k is =
        ⊎_elim
        (λ (j : is_jump i ≡ true). absurd (let none : None ≡ Some e = sym (stops i (body_scope m locals) j) ∙ is in cc))
        (λ (j : is_jump i ≡ false).
        let s : Stepped i D.scope own (gives ++ below) [] = step i D own takes gives below [] j r k in
        let made : s.made ≡ e = some_is s.made e (sym s.is ∙ (ap (λ (T : Scope). change i T) same ∙ is)) in
        ap (λ (x : Change). changed x own) (sym made) ∙ (ap (λ (l : List ValType). changed s.made l) (sym (append-nil own)) ∙ (s.leaves ∙ append-nil (gives ++ below))))
        (cases_Bool (is_jump i))

    -- a call takes its arguments away, and gives one result at most
    call_leaves : (i : Op) (t : FuncType) (takes gives below own after : List ValType) → call_type m i ≡ Some t → length t.params ≤ length takes → gives ≡ reverse t.results → own ≡ takes ++ below → after ≡ gives ++ below
        → takes_of (call_type m i) + length after ≤ length own + 1
    call_leaves i t takes gives below own after named many g k l =
        let a : takes_of (call_type m i) ≡ length t.params = ap takes_of named in
        let b : length t.results ≤ 1 = few_results i t named in
        let c : length gives ≡ length t.results = ap (λ (x : List ValType). length x) g ∙ length-reverse t.results in
        let d : length own ≡ length takes + length below = ap (λ (x : List ValType). length x) k ∙ length-append takes below in
        let e : length after ≡ length gives + length below = ap (λ (x : List ValType). length x) l ∙ length-append gives below in
        omega arith

    -- and each instruction leaves one operand more at most
    other_leaves : (i : Op) (own : List ValType) (e : Change) → change i (body_scope m locals) ≡ Some e → length (changed e own) ≤ length own + 1
    other_leaves i own e is =
        let a : length e.gives ≤ 1 = few m locals i e valid.items is in
        let b : length (e.gives ++ drop e.takes own) ≡ length e.gives + length (drop e.takes own) = length-append e.gives (drop e.takes own) in
        let c : length (drop e.takes own) ≡ length own - e.takes = length-drop e.takes own in
        let r : length (e.gives ++ drop e.takes own) ≤ length own + 1 = omega arith in
        r

    leaves : (i : Op) (D : Context) (takes gives below own : List ValType) (e : Change) → InBody D → Rule i D takes gives → own ≡ takes ++ below → change i (body_scope m locals) ≡ Some e
        → takes_of (call_type m i) + length (changed e own) ≤ length own + 1
    leaves (call f) D takes gives below own e same (t, named, j) k is =
        let a : length takes ≡ length t.params = ap (λ (x : List ValType). length x) j.0 ∙ length-reverse t.params in
        call_leaves (call f) t takes gives below own (changed e own) (called_type f D t same named) (omega arith) j.1 k (left (call f) D takes gives below own e same (t, named, j) k is)
    leaves (call_indirect n) D takes gives below own e same (t, first, named, j) k is =
        let a : length (reverse t.params) ≡ length t.params = length-reverse t.params in
        let b : length takes ≡ suc (length (reverse t.params)) = ap (λ (x : List ValType). length x) j.0 in
        call_leaves (call_indirect n) t takes gives below own (changed e own) (indirect_type n D t same named) (omega arith) j.1 k (left (call_indirect n) D takes gives below own e same (t, first, named, j) k is)
    leaves i D takes gives below own e same r k is = let h : length (changed e own) ≤ length own + 1 = other_leaves i own e is in omega arith

    -- what follows an instruction, where that is reached
    behind_few : (i : Op) (D : Context) (takes gives below own : List ValType) (more : ℕ) (rest : Change → List Visit) → InBody D → Rule i D takes gives → own ≡ takes ++ below
        → ((e : Change) → changed e own ≡ gives ++ below → arguments (rest e) ≤ takes_of (call_type m i) + length (changed e own) + more)
        → arguments (behind (change i (body_scope m locals)) rest) ≤ length own + 1 + more
    behind_few i D takes gives below own more rest same r k deeper = by_change (change i (body_scope m locals)) refl
      where
        by_change : (o : Option Change) → change i (body_scope m locals) ≡ o → arguments (behind o rest) ≤ length own + 1 + more
        by_change None is = omega arith
        by_change (Some e) is =
            let a : arguments (rest e) ≤ takes_of (call_type m i) + length (changed e own) + more = deeper e (left i D takes gives below own e same r k is) in
            let b : takes_of (call_type m i) + length (changed e own) ≤ length own + 1 = leaves i D takes gives below own e same r k is in
            omega arith

    -- ---- a sequence

    mutual
      inside_few : (i : Op) (D : Context) (lead : List ℕ) (up : List Around) (n : ℕ) (is : Code) (own below takes gives : List ValType) → InBody D → Rule i D takes gives
          → suc (arguments (inside_visits (body_scope m locals) lead up n i is own below)) ≤ length (op_and_inside i)
      inside_few (block ty c) D lead up n is own below takes gives same r =
          let h : arguments (code_visits (body_scope m locals) (lead ++ n ∷ []) (deeper lead up (block ty c) is (own ++ below)) 0 nil c [] (own ++ below)) ≤ 0 + 0 + length (all_ops c) =
          code_few c (under_label (results_of ty) D) (lead ++ n ∷ []) (deeper lead up (block ty c) is (own ++ below)) 0 nil [] (own ++ below) (results_of ty) same r.1 in
          let s : suc (arguments (code_visits (body_scope m locals) (lead ++ n ∷ []) (deeper lead up (block ty c) is (own ++ below)) 0 nil c [] (own ++ below))) ≤ suc (length (all_ops c)) = omega arith in
          s
      inside_few (loop ty c) D lead up n is own below takes gives same r =
          let h : arguments (code_visits (body_scope m locals) (lead ++ n ∷ []) (deeper lead up (loop ty c) is (own ++ below)) 0 nil c [] (own ++ below)) ≤ 0 + 0 + length (all_ops c) =
          code_few c (under_label [] D) (lead ++ n ∷ []) (deeper lead up (loop ty c) is (own ++ below)) 0 nil [] (own ++ below) (results_of ty) same r.1 in
          let s : suc (arguments (code_visits (body_scope m locals) (lead ++ n ∷ []) (deeper lead up (loop ty c) is (own ++ below)) 0 nil c [] (own ++ below))) ≤ suc (length (all_ops c)) = omega arith in
          s
      inside_few (if_else ty a b) D lead up n is own below takes gives same r =
          let us : List ValType = drop 1 own ++ below in
          let up' : List Around = deeper lead up (if_else ty a b) is (drop 1 own ++ below) in
          let first : List Visit = code_visits (body_scope m locals) (lead ++ n ∷ 0 ∷ []) up' 0 nil a [] us in
          let second : List Visit = code_visits (body_scope m locals) (lead ++ n ∷ 1 ∷ []) up' 0 nil b [] us in
          let h : arguments first ≤ 0 + 0 + length (all_ops a) = code_few a (under_label (results_of ty) D) (lead ++ n ∷ 0 ∷ []) up' 0 nil [] us (results_of ty) same r.1 in
          let k : arguments second ≤ 0 + 0 + length (all_ops b) = code_few b (under_label (results_of ty) D) (lead ++ n ∷ 1 ∷ []) up' 0 nil [] us (results_of ty) same r.2 in
          let x : arguments (first ++ second) ≡ arguments first + arguments second = arguments_both first second in
          let y : length (all_ops a ++ all_ops b) ≡ length (all_ops a) + length (all_ops b) = length-append (all_ops a) (all_ops b) in
          let s : suc (arguments (first ++ second)) ≤ suc (length (all_ops a ++ all_ops b)) = omega arith in
          s
      inside_few _ D lead up n is own below takes gives same r = omega arith

      -- the arguments of its calls were its operands at first, or were put there by an instruction
      code_few : (c : Code) (D : Context) (lead : List ℕ) (up : List Around) (n : ℕ) (before : Code) (own below ends : List ValType) → InBody D → TypesCode c D own ends
          → arguments (code_visits (body_scope m locals) lead up n before c own below) ≤ takes_of (last_op before >>= call_type m) + length own + length (all_ops c)
      code_few nil D lead up n before own below ends same t = omega arith
      code_few (cons i is) D lead up n before own below ends same (takes, gives, under, r, k, others) =
          let inside : List Visit = inside_visits (body_scope m locals) lead up n i is own below in
          let rest : Change → List Visit = λ e. code_visits (body_scope m locals) lead up (suc n) (followed_by before i) is (changed e own) below in
          let a : suc (arguments inside) ≤ length (op_and_inside i) = inside_few i D lead up n is own below takes gives same r in
          let b : arguments (behind (change i (body_scope m locals)) rest) ≤ length own + 1 + length (all_ops is) =
          behind_few i D takes gives under own (length (all_ops is)) rest same r k
          (λ e l.
          let h : arguments (code_visits (body_scope m locals) lead up (suc n) (followed_by before i) is (changed e own) below) ≤ takes_of (last_op (followed_by before i) >>= call_type m) + length (changed e own) + length (all_ops is) =
          code_few is D lead up (suc n) (followed_by before i) (changed e own) below ends same (subst (λ (x : List ValType). TypesCode is D x ends) (sym l) others) in
          subst (λ (o : Option Op). arguments (rest e) ≤ takes_of (o >>= call_type m) + length (changed e own) + length (all_ops is)) (last_followed before i) h) in
          let x : arguments (inside ++ behind (change i (body_scope m locals)) rest) ≡ arguments inside + arguments (behind (change i (body_scope m locals)) rest) = arguments_both inside (behind (change i (body_scope m locals)) rest) in
          let y : length (op_and_inside i ++ all_ops is) ≡ length (op_and_inside i) + length (all_ops is) = length-append (op_and_inside i) (all_ops is) in
          let s : takes_of (last_op before >>= call_type m) + arguments (inside ++ behind (change i (body_scope m locals)) rest) ≤ takes_of (last_op before >>= call_type m) + length own + length (op_and_inside i ++ all_ops is) = omega arith in
          s

  -- ---- a function

  pub arguments_few : Valid m → (n : ℕ) (f : Func) (t : FuncType) → slice_get m.funcs n ≡ Some f → function_type m f ≡ Some t
      → arguments (visits (body_of m f t).scope (body_of m f t).sequence) ≤ function_size f
  arguments_few valid n f t at named =
      let (u, also, typed) = valid.bodies n f at in
      let same : u ≡ t = some_is u t (sym also ∙ named) in
      let whole : TypesCode (code_of f.body) (body_context m f t) [] (reverse t.results) = subst (λ (y : FuncType). TypesCode (code_of f.body) (body_context m f y) [] (reverse y.results)) same typed in
      let way : List Visit = code_visits (body_scope m (t.params ++ run_types f.locals)) [] [] 0 nil (code_of f.body) [] [] in
      let e : arguments (visits (body_of m f t).scope (body_of m f t).sequence) ≡ arguments way = ap arguments (way_is (body_of m f t).scope (body_of m f t).sequence refl refl) in
      let h : arguments way ≤ 0 + 0 + length (all_ops (code_of f.body)) = code_few valid (t.params ++ run_types f.locals) (code_of f.body) (body_context m f t) [] [] 0 nil [] [] (reverse t.results) refl whole in
      omega arith
