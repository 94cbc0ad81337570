-- A configuration that has a typing has a move, and what this leads to has a typing.
use Rattle.std.proofs.Common.{◌≡◌, ℕ, zero, suc, List, [], ◌∷◌, ◌++◌, length, take, drop, reverse, map, Bool, true, false, cond, ltb, Option, Some, None, option_map, option_and_then, refl, sym, ap, subst, ◌∙◌, append_assoc, ℤ, pos, negsuc}
use Rattle.std.specs.Prelude.{◌&&◌, slice_get, All}
use Rattle.std.specs.Int.{w32, cast_unsigned}
use Rattle.std.proofs.lemmas.Bool.{eq-eqb}
use Rattle.std.proofs.lemmas.List.{append-nil, length-reverse, reverse-reverse}
use Rattle.std.proofs.lemmas.List.Elements.{All-nil, All-append}
use Rattle.mc_nbt.specs.declared.value.Value.{Value}
use Rattle.mc_nbt.specs.declared.value.Value.TheVariants as values
use Rattle.wm_ast.specs.declared.answer.TrapKind.TheVariants.{StackExhausted, TypeMismatch}
use Rattle.wm_ast.specs.declared.limit.TheConstants.{MAX_FRAMES}
use Rattle.wm_ast.specs.declared.module.ValType.{ValType}
use Rattle.wm_ast.specs.declared.module.ValType.TheVariants.{I32, I64, F32, F64}
use Rattle.wm_ast.specs.declared.module.FuncType.{FuncType}
use Rattle.wm_ast.specs.declared.module.Func.{Func}
use Rattle.wm_ast.specs.declared.module.Module.{Module}
use Rattle.wm_ast.specs.Code.{Op, unreachable, block, loop, if_else, br, br_if, br_table, return, call, call_indirect, const, Code, nil, cons}
use Rattle.wm_ast.specs.Simple.{Executed, done, repeats, fault, unfit, if_nonzero, simple}
use Rattle.wm_ast.specs.Step.{top, chosen, function, refused, of_type, checked, element, target_of, target}
use Rattle.wm_ast.specs.Store.{Store, Callee, callee_of, callee, one_result}
use Rattle.wm_ast.specs.Types.{results_of, const_type, run_types, function_type, same_type, same_types}
use Rattle.wm_valid.specs.Place.{is_jump}
use Rattle.wm_valid.specs.Typing.{Context, under_label, Rule, TypesCode, body_context}
use Rattle.wm_flat.specs.Flat.{count_of, again_of, with_op, resume_before, Level, Activation, Flat, starting, running, finished, Moved, goes, fails, none, join, past, carried, jump, handed, handed_some, opened, opens, calls, starts, leave, does, inside, calls_target, op_move, code_move, move}
use Rattle.wm_flat.specs.FlatTyping.{types_of, Are, TypedStore, with_labels, enters, branch_types, exits, IsBlock, After, TypedLevels, IsElement, IsFunction, Typed, TypedCallers, TypedFlat, TypedState, IsMoved}
use Rattle.wm_flat.specs.Program.{IsProgram}
use Rattle.wm_valid.specs.InRange.{IsInRange, OpInRange, CodeInRange}
use Rattle.wm_flat.specs.Runs.{State, Makes, Leads}
use Rattle.wm_flat.proofs.CalleeLaws.{Entry, entry}
use Rattle.wm_flat.proofs.CodeLaws.{weaken, join_typed, join_in_range, after_op, goes_on, count_is, again_typed, again_in_range, resumed_after, arm_typed, arm_in_range, chosen_at}
use Rattle.wm_flat.proofs.ItemLaws.{at_place}
use Rattle.wm_flat.proofs.SimpleTyping.{IsExecuted, IsSimple, simple_typed}
use Rattle.wm_flat.proofs.ValueLaws.{are_as, are_more, are_join, own_types, are_reverse, length_are, take_are, drop_are, top_is, first_i32}

-- Types by tests.

both_true : (a b : Bool) → (a && b) ≡ true → (a ≡ true) × (b ≡ true)
both_true true b e = (refl, e)
both_true false b e = absurd cc

type_equal : (a b : ValType) → same_type a b ≡ true → a ≡ b
type_equal I32 I32 e = refl
type_equal I64 I64 e = refl
type_equal F32 F32 e = refl
type_equal F64 F64 e = refl
type_equal _ _ e = absurd cc

types_equal : (xs ys : List ValType) → same_types xs ys ≡ true → xs ≡ ys
types_equal [] [] e = refl
types_equal (x ∷ xs) (y ∷ ys) e =
    let w = both_true (same_type x y) (same_types xs ys) e in
    ap (λ z. z ∷ xs) (type_equal x y w.0) ∙ ap (λ (l : List ValType). y ∷ l) (types_equal xs ys w.1)
types_equal _ _ e = absurd cc

-- the function of this index among those of the module
named : (m : Module) (fs : List Func) (n : ℕ) (t : FuncType) → slice_get (map (function_type m) fs) n ≡ Some (Some t) → (f : Func) × (slice_get fs n ≡ Some f) × (function_type m f ≡ Some t)
named m [] n t e = absurd cc
named m (f ∷ fs) zero t e = (f, refl, cc)
named m (f ∷ fs) (suc n) t e = named m fs n t e

-- what `callee_of` finds for a function that is there or not
abbrev callee_among : Module → Option Func → Option Callee
callee_among m o = option_and_then (λ f. option_and_then (λ t. option_map (callee f t) (one_result t.results)) (function_type m f)) o

-- Moves.

either_moved : (m : Module) (results : List ValType) (b : Bool) (x y : Moved) → (b ≡ true → IsMoved m results x) → (b ≡ false → IsMoved m results y) → IsMoved m results (cond b x y)
either_moved m results true x y p q = p refl
either_moved m results false x y p q = q refl

nonzero_moved : (m : Module) (results : List ValType) (n : ℤ) (x y : Moved) → IsMoved m results x → IsMoved m results y → IsMoved m results (if_nonzero n x y)
nonzero_moved m results (pos zero) x y p q = q
nonzero_moved m results (pos (suc n)) x y p q = p
nonzero_moved m results (negsuc n) x y p q = p

-- the values of a call go to its caller
handed_typed : (m : Module) (results : List ValType) (s : Store) (cs : List Activation) (us : List Value) (gives : List ValType) → TypedStore m s → Are gives us → TypedCallers m gives cs results → IsMoved m results (handed s cs us)
handed_typed m results s [] us gives st k t = record { store = st; flat = are_as gives results us t k }
handed_typed m results s (c ∷ cs) us gives st k t =
    let u = t.2 in
    let all : types_of (us ++ c.values) ≡ gives ++ types_of c.values = (are_join gives (types_of c.values) us c.values k (own_types c.values u.range)).types in
    record {
      store = st;
      flat = (
        t.0,
        t.1,
        record {
          labels = u.labels;
          gives = u.gives;
          is_function = u.is_function;
          results = u.results;
          locals = u.locals;
          levels = u.levels;
          constants = u.constants;
          range = All-append IsInRange us c.values k.range u.range;
          before = subst (λ (l : List ValType). After c.before (with_labels u.labels (body_context m t.0 t.1)) l) (sym all) u.before;
          code = subst (λ (l : List ValType). TypesCode c.code (with_labels u.labels (body_context m t.0 t.1)) l u.gives) (sym all) u.code;
        },
        t.3,
      );
    }

-- a function's activation over its arguments
opened_typed : (m : Module) (n : ℕ) (f : Func) (t : FuncType) (us : List Value) → IsFunction m n f t → (e : Entry m n f t) → Are (reverse t.params) us → Typed m [] f t (opened n (callee f t e.result) us)
opened_typed m n f t us i e k =
    let body : TypesCode (callee f t e.result).body (with_labels (results_of e.result ∷ []) (body_context m f t)) [] (results_of e.result) =
    subst (λ (l : List ValType). TypesCode (callee f t e.result).body (with_labels (l ∷ []) (body_context m f t)) [] l) e.gives e.body in
    record {
      labels = results_of e.result ∷ [];
      gives = results_of e.result;
      is_function = i;
      results = e.count;
      locals = are_join t.params (run_types f.locals) (reverse us) (callee f t e.result).zeros (are_as (reverse (reverse t.params)) t.params (reverse us) (reverse-reverse t.params) (are_reverse (reverse t.params) us k)) e.zeros;
      before = (tt, refl);
      code = body;
      range = All-nil IsInRange;
      constants = e.constants;
      levels = (
        [],
        results_of e.result,
        refl,
        refl,
        record { is_block = tt; rule = ((refl, refl), body); before = (tt, refl); rest = append-nil (results_of e.result); range = All-nil IsInRange; constants = (e.constants, tt) },
        (refl, sym e.gives),
      );
    }

-- an activation of a function, in the middle of a sequence
module _ (m : Module) (p : IsProgram m) (results : List ValType) (s : Store) (cs : List Activation) (a : Activation) (f : Func) (t : FuncType) (labels : List (List ValType)) (gives : List ValType)
    (store : TypedStore m s) (is_function : IsFunction m a.func f t) (count : length t.results ≡ a.results) (locals : Are (t.params ++ run_types f.locals) a.locals)
    (levels : TypedLevels a.levels (body_context m f t) labels gives) (callers : TypedCallers m (reverse t.results) cs results) where
  abbrev B : Context
  B = body_context m f t

  abbrev C : Context
  C = with_labels labels B

  over_below : (x y below : List ValType) → x ≡ y → x ++ below ≡ y ++ below
  over_below x y below e = ap (λ (l : List ValType). l ++ below) e

  leave_typed : (lvs : List Level) → TypedLevels lvs B labels gives → All IsInRange a.values → types_of a.values ≡ gives → IsMoved m results (leave m s cs a lvs)
  leave_typed [] y r k = handed_typed m results s cs a.values (reverse t.results) store (record { types = k ∙ y.1; range = r }) callers
  leave_typed (lv ∷ lvs) y r k =
      let v = y.4 in
      let D : Context = with_labels y.0 B in
      let all : Are (exits lv.block.op ++ types_of lv.values) (a.values ++ lv.values) = are_join (exits lv.block.op) (types_of lv.values) a.values lv.values (record { types = k ∙ y.3; range = r }) (own_types lv.values v.range) in
      record {
        store = store;
        flat = (
          f,
          t,
          record {
            labels = y.0;
            gives = y.1;
            is_function = is_function;
            results = count;
            locals = locals;
            levels = y.5;
            range = all.range;
            constants = v.constants.1;
            before = subst (λ (l : List ValType). After (with_op lv.block.before lv.block.op) D l) (sym all.types)
                (after_op lv.block.before lv.block.op D (enters lv.block.op) (exits lv.block.op) (types_of lv.values) (goes_on lv.block.op v.is_block) v.rule v.before);
            code = subst (λ (l : List ValType). TypesCode lv.block.rest D l y.1) (sym all.types) v.rest;
          },
          callers,
        );
      }

  jump_typed : (n : ℕ) (l : ℕ) (vs : List Value) (lvs : List Level) (ls : List (List ValType)) (us ts below : List ValType) → TypedLevels lvs B ls us → slice_get ls l ≡ Some ts → Are (ts ++ below) vs → IsMoved m results (jump m s cs a n l vs lvs)
  jump_typed n l vs [] ls us ts below y e k = absurd (let w : slice_get [] l ≡ Some ts = ap (λ (x : List (List ValType)). slice_get x l) (sym y.0) ∙ e in cc)
  jump_typed n zero vs (lv ∷ lvs) ls us ts below y e k =
      let v = y.4 in
      let i : Op = lv.block.op in
      let D : Context = with_labels y.0 B in
      let same : branch_types i ≡ ts = let w : slice_get (branch_types i ∷ y.0) 0 ≡ Some ts = ap (λ (x : List (List ValType)). slice_get x 0) (sym y.2) ∙ e in cc in
      let fit : Are (branch_types i ++ below) vs = are_as (ts ++ below) (branch_types i ++ below) vs (over_below ts (branch_types i) below (sym same)) k in
      let all : Are (branch_types i ++ types_of lv.values) (take (count_of i) vs ++ lv.values) =
      are_join (branch_types i) (types_of lv.values) (take (count_of i) vs) lv.values (take_are (count_of i) (branch_types i) below vs (count_is i) fit) (own_types lv.values v.range) in
      subst (λ (r : Option (List Value)). IsMoved m results (carried m s cs a n lv lvs r)) (sym (top_is (count_of i) (branch_types i) below vs (count_is i) fit))
      (record {
        store = store;
        flat = (
          f,
          t,
          record {
            labels = y.0;
            gives = y.1;
            is_function = is_function;
            results = count;
            locals = locals;
            levels = y.5;
            range = all.range;
            constants = join_in_range (again_of i) lv.block.rest (again_in_range i v.constants.0) v.constants.1;
            before = subst (λ (x : List ValType). After (resume_before i lv.block.before) D x) (sym all.types) (resumed_after i lv.block.before D (types_of lv.values) v.is_block v.rule v.before);
            code = subst (λ (x : List ValType). TypesCode (join (again_of i) lv.block.rest) D x y.1) (sym all.types)
                (join_typed (again_of i) lv.block.rest D (branch_types i ++ types_of lv.values) (exits i ++ types_of lv.values) y.1
                (weaken (again_of i) D (branch_types i) (exits i) (types_of lv.values) (again_typed i D v.rule v.is_block)) v.rest);
          },
          callers,
        );
      })
  jump_typed n (suc l) vs (lv ∷ lvs) ls us ts below y e k = jump_typed n l vs lvs y.0 y.1 ts below y.5 (ap (λ (x : List (List ValType)). slice_get x (suc l)) (sym y.2) ∙ e) k

  -- an instruction that takes ts and gives us, over below, and what stands behind it
  module _ (i : Op) (vs : List Value) (is : Code) (ts us below : List ValType) (r : Rule i C ts us) (k : Are (ts ++ below) vs) (z : After a.before C (ts ++ below)) (y : TypesCode is C (us ++ below) gives) (d : OpInRange i × CodeInRange is) where
    behind_typed : (own ws : List Value) → is_jump i ≡ false → Are (t.params ++ run_types f.locals) own → Are (us ++ below) ws → Typed m [] f t (past a i is own ws)
    behind_typed own ws g o w = record {
      labels = labels;
      gives = gives;
      is_function = is_function;
      results = count;
      locals = o;
      levels = levels;
      range = w.range;
      constants = d.1;
      before = subst (λ (l : List ValType). After (with_op a.before i) C l) (sym w.types) (after_op a.before i C ts us below g r z);
      code = subst (λ (l : List ValType). TypesCode is C l gives) (sym w.types) y;
    }

    does_typed : is_jump i ≡ false → (e : Executed) → IsExecuted m (t.params ++ run_types f.locals) (ts ++ below) (us ++ below) e → IsMoved m results (does m s cs a i is e)
    does_typed g (done s' own ws) h = record { store = h.0; flat = (f, t, behind_typed own ws g h.1 h.2, callers) }
    does_typed g (repeats s' ws) h = record {
      store = h.0;
      flat = (
        f,
        t,
        record {
          labels = labels;
          gives = gives;
          is_function = is_function;
          results = count;
          locals = locals;
          levels = levels;
          range = h.1.range;
          constants = d;
          before = subst (λ (l : List ValType). After a.before C l) (sym h.1.types) z;
          code = (ts, us, below, r, h.1.types, y);
        },
        callers,
      );
    }
    does_typed g (fault c) h = tt
    does_typed g unfit h = absurd h

    simple_moved : is_jump i ≡ false → IsSimple i → IsMoved m results (does m s cs a i is (simple m s a.locals i vs))
    simple_moved g w = does_typed g (simple m s a.locals i vs) (simple_typed m s f t a.locals labels store locals i ts us below vs w r k)

    inside_typed : (first : List ℕ) (body : Code) (ws : List Value) → IsBlock i → ts ≡ enters i → us ≡ exits i → Are below ws → CodeInRange body → TypesCode body (with_labels (branch_types i ∷ labels) B) [] (exits i) → IsMoved m results (inside m s cs a i is ws first body)
    inside_typed first body ws w e g h q b =
        record {
          store = store;
          flat = (
            f,
            t,
            record {
              labels = branch_types i ∷ labels;
              gives = exits i;
              is_function = is_function;
              results = count;
              locals = locals;
              range = All-nil IsInRange;
              constants = q;
              code = b;
              before = (tt, refl);
              levels = (
                labels,
                gives,
                refl,
                refl,
                record {
                  is_block = w;
                  range = h.range;
                  constants = d;
                  rule = subst (λ (l : List ValType). Rule i C l (exits i)) e (subst (λ (l : List ValType). Rule i C ts l) g r);
                  before = subst (λ (l : List ValType). After a.before C l) (over_below ts (enters i) below e ∙ ap (λ (l : List ValType). enters i ++ l) (sym h.types)) z;
                  rest = subst (λ (l : List ValType). TypesCode is C l gives) (over_below us (exits i) below g ∙ ap (λ (l : List ValType). exits i ++ l) (sym h.types)) y;
                },
                levels,
              );
            },
            callers,
          );
        }

    -- a call over these operands
    module _ (n : ℕ) (ws : List Value) (index : ℕ) (g : Func) (u : FuncType) (go : is_jump i ≡ false) (j : IsFunction m index g u) (arguments : Are (reverse u.params ++ below) ws) (gave : us ≡ reverse u.results) where
      opens_typed : (e : Entry m index g u) → IsMoved m results (opens n s (record (past a i is a.locals ws) { values = drop (length (reverse u.params)) ws } ∷ cs) index (callee g u e.result) (top (length (reverse u.params)) ws))
      opens_typed e =
          let left : Are below (drop (length (reverse u.params)) ws) = drop_are (length (reverse u.params)) (reverse u.params) below ws refl arguments in
          let q : us ++ below ≡ reverse u.results ++ types_of (drop (length (reverse u.params)) ws) = over_below us (reverse u.results) below gave ∙ ap (λ (l : List ValType). reverse u.results ++ l) (sym left.types) in
          subst (λ (o : Option (List Value)). IsMoved m results (opens n s (record (past a i is a.locals ws) { values = drop (length (reverse u.params)) ws } ∷ cs) index (callee g u e.result) o))
          (sym (top_is (length (reverse u.params)) (reverse u.params) below ws refl arguments))
          (record {
            store = store;
            flat = (
              g,
              u,
              opened_typed m index g u (take (length (reverse u.params)) ws) j e (take_are (length (reverse u.params)) (reverse u.params) below ws refl arguments),
              (
                f,
                t,
                record {
                  labels = labels;
                  gives = gives;
                  is_function = is_function;
                  results = count;
                  locals = locals;
                  levels = levels;
                  range = left.range;
                  constants = d.1;
                  before = subst (λ (l : List ValType). After (with_op a.before i) C l) q (after_op a.before i C ts us below go r z);
                  code = subst (λ (l : List ValType). TypesCode is C l gives) q y;
                },
                callers,
              ),
            );
          })

      calls_typed : IsMoved m results (calls n s cs (past a i is a.locals ws) index ws (callee_of m index))
      calls_typed =
          let e = entry m index g u p j in
          subst (λ (o : Option Callee). IsMoved m results (calls n s cs (past a i is a.locals ws) index ws o)) (sym e.found)
          (either_moved m results (ltb (suc (length cs)) MAX_FRAMES) _ (fails n StackExhausted) (λ w. opens_typed e) (λ w. tt))

    -- through the table
    module _ (ws : List Value) (u : FuncType) (go : is_jump i ≡ false) (arguments : Are (reverse u.params ++ below) ws) (gave : us ≡ reverse u.results) where
      by_type : (index : ℕ) (g : Func) (o : Option FuncType) → slice_get m.funcs index ≡ Some g → function_type m g ≡ o → IsMoved m results (calls_target m s cs a i is ws (of_type u index o))
      by_type index g None there e = absurd (let b = p.valid.bodies index g there in let w : None ≡ Some b.0 = sym e ∙ b.1 in cc)
      by_type index g (Some o) there e = by_test (same_types o.params u.params && same_types o.results u.results) refl
        where
          by_test : (b : Bool) → (same_types o.params u.params && same_types o.results u.results) ≡ b → IsMoved m results (calls_target m s cs a i is ws (cond b (function index) (refused TypeMismatch)))
          by_test false w = tt
          by_test true w =
              let x = both_true (same_types o.params u.params) (same_types o.results u.results) w in
              let ps : reverse u.params ≡ reverse o.params = ap (λ (l : List ValType). reverse l) (sym (types_equal o.params u.params x.0)) in
              let rs : reverse u.results ≡ reverse o.results = ap (λ (l : List ValType). reverse l) (sym (types_equal o.results u.results x.1)) in
              calls_typed 1 ws index g o go (record { there = there; has_type = e }) (are_as (reverse u.params ++ below) (reverse o.params ++ below) ws (over_below (reverse u.params) (reverse o.params) below ps) arguments) (gave ∙ rs)

      by_function : (index : ℕ) (o : Option Func) → slice_get m.funcs index ≡ o → (c : Callee) → callee_of m index ≡ Some c → IsMoved m results (calls_target m s cs a i is ws (checked m u index o))
      by_function index None e c found = absurd (let w : None ≡ Some c = sym (ap (λ o. callee_among m o) e) ∙ found in cc)
      by_function index (Some g) e c found = by_type index g (function_type m g) e refl

      by_element : (o : Option (Option ℕ)) → ((index : ℕ) → o ≡ Some (Some index) → IsElement m (Some index)) → IsMoved m results (calls_target m s cs a i is ws (element m u o))
      by_element None h = tt
      by_element (Some None) h = tt
      by_element (Some (Some index)) h = let c = h index refl in by_function index (slice_get m.funcs index) refl c.0 c.1

      table_typed : (n : ℕ) (x : ℤ) → slice_get m.types n ≡ Some u → IsMoved m results (calls_target m s cs a i is ws (target m s n x))
      table_typed n x e =
          subst (λ (o : Option FuncType). IsMoved m results (calls_target m s cs a i is ws (target_of m o (slice_get s.table (cast_unsigned w32 x))))) (sym e)
          (by_element (slice_get s.table (cast_unsigned w32 x)) (λ index w. at_place (IsElement m) s.table (cast_unsigned w32 x) (Some index) store.table.elements w))

  -- with an i32 as the first operand
  by_number : (i : Op) (is : Code) (below : List ValType) (vs : List Value) → Are (I32 ∷ below) vs → ((n : ℤ) (ws : List Value) → Are below ws → IsMoved m results (op_move m s cs a i (values.I32 n ∷ ws) is)) → IsMoved m results (op_move m s cs a i vs is)
  by_number i is below vs k h =
      let c = first_i32 below vs k in
      subst (λ (l : List Value). IsMoved m results (op_move m s cs a i l is)) (sym c.parts) (h c.number c.others c.rest)

  -- with the types that the rule tells
  takes : (ts takes' below : List ValType) (vs : List Value) → ts ≡ takes' → Are (ts ++ below) vs → Are (takes' ++ below) vs
  takes ts takes' below vs e k = are_as (ts ++ below) (takes' ++ below) vs (over_below ts takes' below e) k

  op_typed : (i : Op) (vs : List Value) (is : Code) (ts us below : List ValType) → Rule i C ts us → Are (ts ++ below) vs → After a.before C (ts ++ below) → TypesCode is C (us ++ below) gives → OpInRange i × CodeInRange is → IsMoved m results (op_move m s cs a i vs is)
  op_typed unreachable vs is ts us below r k z y d = tt
  op_typed (const v) vs is ts us below r k z y d =
      let w : Are (us ++ below) (v ∷ vs) = are_as (const_type v ∷ below) (us ++ below) (v ∷ vs) (sym (over_below us (const_type v ∷ []) below r.1))
      (are_more (const_type v) below v vs (record { type = refl; range = d.0 }) (takes ts [] below vs r.0 k)) in
      record { store = store; flat = (f, t, behind_typed (const v) vs is ts us below r k z y d a.locals (v ∷ vs) refl locals w, callers) }
  op_typed (block ty body) vs is ts us below r k z y d = inside_typed (block ty body) vs is ts us below r k z y d (0 ∷ []) body vs tt r.0.0 r.0.1 (takes ts [] below vs r.0.0 k) d.0 r.1
  op_typed (loop ty body) vs is ts us below r k z y d = inside_typed (loop ty body) vs is ts us below r k z y d (0 ∷ []) body vs tt r.0.0 r.0.1 (takes ts [] below vs r.0.0 k) d.0 r.1
  op_typed (if_else ty first second) vs is ts us below r k z y d =
      by_number (if_else ty first second) is below vs (takes ts (I32 ∷ []) below vs r.0.0 k)
      (λ n ws h. inside_typed (if_else ty first second) vs is ts us below r k z y d (if_nonzero n (0 ∷ 0 ∷ []) (1 ∷ 0 ∷ [])) (if_nonzero n first second) ws tt r.0.0 r.0.1 h
      (arm_in_range n first second d.0.0 d.0.1) (arm_typed n first second (under_label (results_of ty) C) [] (results_of ty) r.1 r.2))
  op_typed (br l) vs is ts us below r k z y d =
      jump_typed 1 l vs a.levels labels gives r.0 (r.1 ++ below) levels r.2 (are_as (ts ++ below) (r.0 ++ (r.1 ++ below)) vs (over_below ts (r.0 ++ r.1) below r.3 ∙ append_assoc r.0 r.1 below) k)
  op_typed (br_if l) vs is ts us below r k z y d =
      by_number (br_if l) is (r.0 ++ below) vs (takes ts (I32 ∷ r.0) below vs r.2.0 k)
      (λ n ws h. nonzero_moved m results n (jump m s cs a 2 l ws a.levels) (goes 1 s (running cs (past a (br_if l) is a.locals ws))) (jump_typed 2 l ws a.levels labels gives r.0 below levels r.1 h)
      (record { store = store; flat = (f, t, behind_typed (br_if l) vs is ts us below r k z y d a.locals ws refl locals (are_as (r.0 ++ below) (us ++ below) ws (over_below r.0 us below (sym r.2.1)) h), callers) }))
  op_typed (br_table ls l) vs is ts us below r k z y d =
      by_number (br_table ls l) is (r.0 ++ (r.1 ++ below)) vs (are_as (ts ++ below) (I32 ∷ (r.0 ++ (r.1 ++ below))) vs (over_below ts (I32 ∷ (r.0 ++ r.1)) below r.4 ∙ ap (λ (x : List ValType). I32 ∷ x) (append_assoc r.0 r.1 below)) k)
      (λ n ws h. jump_typed 2 (chosen ls l n) ws a.levels labels gives r.0 (r.1 ++ below) levels (chosen_at ls l n r.0 labels r.3 r.2) h)
  op_typed return vs is ts us below r k z y d =
      let fit : Are (reverse t.results ++ (r.0 ++ below)) vs = are_as (ts ++ below) (reverse t.results ++ (r.0 ++ below)) vs (over_below ts (reverse t.results ++ r.0) below r.1 ∙ append_assoc (reverse t.results) r.0 below) k in
      let many : length (reverse t.results) ≡ a.results = length-reverse t.results ∙ count in
      subst (λ (o : Option (List Value)). IsMoved m results (handed_some s cs o)) (sym (top_is a.results (reverse t.results) (r.0 ++ below) vs many fit))
      (handed_typed m results s cs (take a.results vs) (reverse t.results) store (take_are a.results (reverse t.results) (r.0 ++ below) vs many fit) callers)
  op_typed (call n) vs is ts us below r k z y d =
      let g = named m m.funcs n r.0 r.1 in
      calls_typed (call n) vs is ts us below r k z y d 0 vs n g.0 r.0 refl (record { there = g.1; has_type = g.2 }) (takes ts (reverse r.0.params) below vs r.2.0 k) r.2.1
  op_typed (call_indirect n) vs is ts us below r k z y d =
      by_number (call_indirect n) is (reverse r.0.params ++ below) vs (takes ts (I32 ∷ reverse r.0.params) below vs r.3.0 k)
      (λ x ws h. table_typed (call_indirect n) vs is ts us below r k z y d ws r.0 refl h r.3.1 n x r.2)
  op_typed i vs is ts us below r k z y d = simple_moved i vs is ts us below r k z y d refl tt

  code_typed : (is : Code) → After a.before C (types_of a.values) → TypesCode is C (types_of a.values) gives → All IsInRange a.values → CodeInRange is → IsMoved m results (code_move m s cs a is)
  code_typed nil z y k d = leave_typed a.levels levels k y
  code_typed (cons i is) z y k d =
      op_typed i a.values is y.0 y.1 y.2 y.3 (record { types = y.4; range = k }) (subst (λ (l : List ValType). After a.before C l) y.4 z) y.5 d

pub keeps : (m : Module) (results : List ValType) (s : Store) (c : Flat) → IsProgram m → TypedStore m s → TypedFlat m results c → IsMoved m results (move m s c)
keeps m results s (starting n vs) p st y =
    let e = entry m n y.0 y.1 p y.2 in
    subst (λ (o : Option Callee). IsMoved m results (starts s n vs o)) (sym e.found)
    (subst (λ (b : Bool). IsMoved m results (cond b (goes 1 s (running [] (opened n (callee y.0 y.1 e.result) vs))) none)) (sym (eq-eqb (length vs) (length (reverse y.1.params)) (length_are (reverse y.1.params) vs y.3)))
    (record { store = st; flat = (y.0, y.1, opened_typed m n y.0 y.1 vs y.2 e y.3, y.4) }))
keeps m results s (running cs a) p st y =
    let u = y.2 in
    code_typed m p results s cs a y.0 y.1 u.labels u.gives st u.is_function u.results u.locals u.levels y.3 a.code u.before u.code u.range u.constants
keeps m results s (finished vs) p st y = y

-- so does each state that it leads to
pub makes_typed : (m : Module) (results : List ValType) (k n : ℕ) (c d : State) → IsProgram m → TypedState m results c → Makes m k n c d → TypedState m results d
makes_typed m results zero n c d p t h = subst (TypedState m results) h.1 t
makes_typed m results (suc k) n c d p t h =
    let w : IsMoved m results (goes h.0 h.2.store h.2.flat) = subst (IsMoved m results) h.3 (keeps m results c.store c.flat p t.store t.flat) in
    makes_typed m results k h.1 h.2 d p w h.5

pub leads_typed : (m : Module) (results : List ValType) (n : ℕ) (c d : State) → IsProgram m → TypedState m results c → Leads m n c d → TypedState m results d
leads_typed m results n c d p t l = makes_typed m results l.moves n c d p t l.made
