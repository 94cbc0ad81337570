-- Calls open the functions that they name, over their arguments.
use Rattle.std.proofs.Common.{◌≡◌, ℕ, suc, List, ◌∷◌, ◌++◌, length, take, drop, reverse, Bool, true, false, cond, ltb, Option, Some, None, refl, sym, ap, ◌∙◌, subst, ℤ}
use Rattle.std.specs.Prelude.{◌&&◌, slice_get, All}
use Rattle.std.specs.Int.{w32, cast_unsigned}
use Rattle.std.proofs.lemmas.Bool.{ltb-true, ltb-false}
use Rattle.std.proofs.lemmas.List.{take-append-drop}
use Rattle.std.proofs.lemmas.Option.{slice_get-map}
use Rattle.mc_nbt.specs.declared.value.Value.{Value}
use Rattle.mc_nbt.proofs.TestLemmas.{and_first, and_second}
use Rattle.wm_ast.specs.declared.answer.TrapKind.TheVariants.{StackExhausted, TypeMismatch}
use Rattle.wm_ast.specs.declared.limit.TheConstants.{MAX_FRAMES}
use Rattle.wm_ast.specs.declared.module.ValType.{ValType}
use Rattle.wm_ast.specs.declared.module.ValType.TheVariants.{I32}
use Rattle.wm_ast.specs.declared.module.Func.{Func}
use Rattle.wm_ast.specs.declared.module.FuncType.{FuncType}
use Rattle.wm_ast.specs.declared.module.Module.{Module}
use Rattle.wm_ast.specs.Code.{Op, call, call_indirect, Code, cons}
use Rattle.wm_ast.specs.Step.{Target, function, refused, unknown, of_type, checked, element, target_of, target}
use Rattle.wm_ast.specs.Store.{Store, Callee, callee_of, callee}
use Rattle.wm_ast.specs.Types.{function_type, same_types}
use Rattle.wm_ast.proofs.TypeLaws.{same_types_is}
use Rattle.wm_valid.specs.Typing.{Context, TypesCode, body_context}
use Rattle.wm_flat.specs.Flat.{Activation, running, Moved, goes, fails, past, opened, opens, calls, calls_target, op_move, code_move, move}
use Rattle.wm_flat.specs.FlatTyping.{types_of, Are, TypedStore, with_labels, IsElement, IsFunction}
use Rattle.wm_flat.specs.Program.{IsProgram}
use Rattle.wm_valid.specs.InRange.{IsInRange}
use Rattle.wm_flat.proofs.CalleeLaws.{Entry, entry}
use Rattle.wm_flat.proofs.ItemLaws.{at_place}
use Rattle.wm_flat.proofs.ValueLaws.{length_are, take_are, top_is, FirstI32, first_i32}
use Rattle.wm_place.proofs.LevelLemmas.{map_some}
use Rattle.cc_move.specs.Calls.{gives_by, Arguments, Opens, into_body, too_deep, Invoked, DirectCall, CallsOpen, Reached, refuses, invokes, IndirectCall, IndirectCallsOpen}
use Rattle.cc_move.proofs.CallLemmas.{Called, called}
use Rattle.cc_move.proofs.CourseLemmas.{gives_is}

-- ---- a call over its arguments

-- the last operands
abbrev arguments : (t : FuncType) (below : List ValType) (vs : List Value) → Are (reverse t.params ++ below) vs → Arguments t vs
arguments t below vs k = record {
  args = take (length (reverse t.params)) vs;
  rest = drop (length (reverse t.params)) vs;
  parts = sym (take-append-drop (length (reverse t.params)) vs);
  are = take_are (length (reverse t.params)) (reverse t.params) below vs refl k;
}

module _ (m : Module) (p : IsProgram m) (st : Store) (cs : List Activation) (a : Activation) (i : Op) (is : Code) (n f : ℕ) (g : Func) (t : FuncType) (j : IsFunction m f g t)
    (below : List ValType) (vs : List Value) (k : Are (reverse t.params ++ below) vs) (x : Moved) (e : x ≡ calls n st cs (past a i is a.locals vs) f vs (callee_of m f)) where
  abbrev o : Arguments t vs
  o = arguments t below vs k

  -- with the function's activation over the arguments
  abbrev opened_so : Entry m f g t → Moved
  opened_so r = goes (suc n) st (running (past a i is a.locals o.rest ∷ cs) (opened f (callee g t r.result) o.args))

  by_entry : (r : Entry m f g t) → Opens n st cs (past a i is a.locals o.rest) f (callee g t r.result) o.args x
  by_entry r = by_test (ltb (suc (length cs)) MAX_FRAMES) refl
    where
      made : x ≡ cond (ltb (suc (length cs)) MAX_FRAMES) (opened_so r) (fails n StackExhausted)
      made =
          e
          ∙ (ap (calls n st cs (past a i is a.locals vs) f vs) r.found
          ∙ ap (λ (w : Option (List Value)). cond (ltb (suc (length cs)) MAX_FRAMES) (opens n st (past a i is a.locals o.rest ∷ cs) f (callee g t r.result) w) (fails n StackExhausted))
          (top_is (length (reverse t.params)) (reverse t.params) below vs refl k))

      by_test : (b : Bool) → ltb (suc (length cs)) MAX_FRAMES ≡ b → Opens n st cs (past a i is a.locals o.rest) f (callee g t r.result) o.args x
      by_test true w = into_body (ltb-true (suc (length cs)) MAX_FRAMES w) (made ∙ ap (λ b. cond b (opened_so r) (fails n StackExhausted)) w)
      by_test false w = too_deep (ltb-false (suc (length cs)) MAX_FRAMES w) (made ∙ ap (λ b. cond b (opened_so r) (fails n StackExhausted)) w)

  invoked : Invoked m n st cs (past a i is a.locals o.rest) f t o.args x
  invoked =
      let r : Entry m f g t = entry m f g t p j in
      record {
        func = g;
        is_function = j;
        callee = callee g t r.result;
        found = r.found;
        takes = o.are.types;
        count = length_are (reverse t.params) o.args o.are;
        gives = gives_is m f g t j;
        opens = by_entry r;
      }

-- ---- a call of a function

module _ (m : Module) (p : IsProgram m) (st : Store) (cs : List Activation) (a : Activation) (own : Func) (type : FuncType) (labels : List (List ValType)) (out : List ValType) (range : All IsInRange a.values) where
  abbrev C : Context
  C = with_labels labels (body_context m own type)

  direct : (f : ℕ) (is : Code) → a.code ≡ cons (call f) is → TypesCode (cons (call f) is) C (types_of a.values) out → DirectCall m st cs a f is
  direct f is h (takes, gives, below, (t, there, j), e, others) =
      let w = map_some (function_type m) (slice_get m.funcs f) (Some t) (sym (slice_get-map (function_type m) m.funcs f) ∙ there) in
      let k : Are (reverse t.params ++ below) a.values = record { types = e ∙ ap (λ (l : List ValType). l ++ below) j.0; range = range } in
      record {
        type = t;
        over = arguments t below a.values k;
        invoked = invoked m p st cs a (call f) is 0 f w.0 t (record { there = w.1; has_type = w.2 }) below a.values k (move m st (running cs a)) (ap (λ (x : Code). code_move m st cs a x) h);
      }

pub calls_open : CallsOpen
calls_open m p results st cs a s f is h =
    let y = s.flat.2 in
    direct m p st cs a s.flat.0 s.flat.1 y.labels y.gives y.range f is h
    (subst (λ (x : Code). TypesCode x (with_labels y.labels (body_context m s.flat.0 s.flat.1)) (types_of a.values) y.gives) h y.code)

-- ---- a call through the table

type_is : (u t : FuncType) → u.params ≡ t.params → u.results ≡ t.results → u ≡ t
type_is u t e g =
    ap (λ (l : List ValType). record u { params = l }) e ∙ ap (λ (l : List ValType). record t { results = l }) g

-- a function that is found is there with its type
abbrev IsFound : Module → FuncType → Target → Type 0
IsFound m t (function f) = (g : Func) × IsFunction m f g t
IsFound m t (refused k) = Unit {0}
IsFound m t unknown = ⊥

module _ (m : Module) (t : FuncType) where
  by_type : (f : ℕ) (g : Func) (u : FuncType) → IsFunction m f g u → IsFound m t (of_type t f (Some u))
  by_type f g u i = by_test (same_types u.params t.params && same_types u.results t.results) refl
    where
      by_test : (b : Bool) → (same_types u.params t.params && same_types u.results t.results) ≡ b → IsFound m t (cond b (function f) (refused TypeMismatch))
      by_test false w = tt
      by_test true w =
          let same : u ≡ t = type_is u t (same_types_is u.params t.params (and_first _ _ w)) (same_types_is u.results t.results (and_second _ _ w)) in
          (g, subst (λ (x : FuncType). IsFunction m f g x) same i)

  by_function : (f : ℕ) (c : Callee) → callee_of m f ≡ Some c → IsFound m t (checked m t f (slice_get m.funcs f))
  by_function f c e =
      let w : Called m f c = called m f c e in
      subst (λ (o : Option Func). IsFound m t (checked m t f o)) (sym w.is_function.there)
      (subst (λ (o : Option FuncType). IsFound m t (of_type t f o)) (sym w.is_function.has_type) (by_type f w.func w.type w.is_function))

  by_element : (o : Option (Option ℕ)) → ((f : ℕ) → o ≡ Some (Some f) → IsElement m (Some f)) → IsFound m t (element m t o)
  by_element None h = tt
  by_element (Some None) h = tt
  by_element (Some (Some f)) h = let c = h f refl in by_function f c.0 c.1

  target_found : (st : Store) (n : ℕ) (i : ℤ) → TypedStore m st → slice_get m.types n ≡ Some t → IsFound m t (target m st n i)
  target_found st n i s named =
      subst (λ (o : Option FuncType). IsFound m t (target_of m o (slice_get st.table (cast_unsigned w32 i)))) (sym named)
      (by_element (slice_get st.table (cast_unsigned w32 i)) (λ f w. at_place (IsElement m) st.table (cast_unsigned w32 i) (Some f) s.table.elements w))

module _ (m : Module) (p : IsProgram m) (st : Store) (cs : List Activation) (a : Activation) (store : TypedStore m st) (own : Func) (type : FuncType) (labels : List (List ValType)) (out : List ValType) (range : All IsInRange a.values) where
  abbrev D : Context
  D = with_labels labels (body_context m own type)

  reached : (n : ℕ) (is : Code) (t : FuncType) (i : ℤ) (below : List ValType) (vs : List Value) (k : Are (reverse t.params ++ below) vs) → slice_get m.types n ≡ Some t
      → move m st (running cs a) ≡ calls_target m st cs a (call_indirect n) is vs (target m st n i)
      → Reached m st cs a n is t i (arguments t below vs k).args (arguments t below vs k).rest
  reached n is t i below vs k named e = by_target (target m st n i) refl (target_found m t st n i store named)
    where
      by_target : (o : Target) → target m st n i ≡ o → IsFound m t o → Reached m st cs a n is t i (arguments t below vs k).args (arguments t below vs k).rest
      by_target (function f) w found =
          invokes f w (gives_is m f found.0 t found.1 ∙ ap gives_by (sym named))
          (invoked m p st cs a (call_indirect n) is 1 f found.0 t found.1 below vs k (move m st (running cs a)) (e ∙ ap (calls_target m st cs a (call_indirect n) is vs) w))
      by_target (refused c) w found = refuses c w (e ∙ ap (calls_target m st cs a (call_indirect n) is vs) w)
      by_target unknown w found = absurd found

  indirect : (n : ℕ) (is : Code) → a.code ≡ cons (call_indirect n) is → TypesCode (cons (call_indirect n) is) D (types_of a.values) out → IndirectCall m st cs a n is
  indirect n is h (takes, gives, below, (t, first, named, j), e, others) =
      let all : Are (I32 ∷ (reverse t.params ++ below)) a.values = record { types = e ∙ ap (λ (l : List ValType). l ++ below) j.0; range = range } in
      let x : FirstI32 (reverse t.params ++ below) a.values = first_i32 (reverse t.params ++ below) a.values all in
      record {
        type = t;
        named = named;
        index = x.number;
        in_range = x.range;
        values = x.others;
        parts = x.parts;
        over = arguments t below x.others x.rest;
        reached = reached n is t x.number below x.others x.rest named
            (ap (λ (c : Code). code_move m st cs a c) h ∙ ap (λ (vs : List Value). op_move m st cs a (call_indirect n) vs is) x.parts);
      }

pub indirect_calls_open : IndirectCallsOpen
indirect_calls_open m p results st cs a s n is h =
    let y = s.flat.2 in
    indirect m p st cs a s.store s.flat.0 s.flat.1 y.labels y.gives y.range n is h
    (subst (λ (x : Code). TypesCode x (with_labels y.labels (body_context m s.flat.0 s.flat.1)) (types_of a.values) y.gives) h y.code)
