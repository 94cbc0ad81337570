-- The activation of a function stands at the first place of its body.
use Rattle.std.proofs.Common.{◌≡◌, ℕ, zero, suc, List, [], ◌∷◌, ◌++◌, replicate, reverse, false, Option, Some, None, option_map, option_and_then, refl, sym, ap, ◌∙◌, subst}
use Rattle.std.specs.Prelude.{filter_map, slice_get}
use Rattle.std.specs.List.{list_any}
use Rattle.std.proofs.lemmas.List.{reverse-reverse}
use Rattle.std.proofs.lemmas.List.Elements.{filter_map-append}
use mathlib.Core.List.{reverse_aux}
use Rattle.mc_nbt.specs.declared.value.Value.{Value}
use Rattle.wm_ast.specs.declared.module.ValType.{ValType}
use Rattle.wm_ast.specs.declared.module.ValType.TheVariants.{I32, I64, F32, F64}
use Rattle.wm_ast.specs.declared.module.Func.{Func}
use Rattle.wm_ast.specs.declared.module.FuncType.{FuncType}
use Rattle.wm_ast.specs.declared.module.Module.{Module}
use Rattle.wm_ast.specs.declared.module.Run.{Run}
use Rattle.wm_ast.specs.Code.{nil}
use Rattle.wm_ast.specs.Profile.{HasNoFloat, is_float, is_float_run, has_float_code, has_float_function, function_code}
use Rattle.wm_ast.specs.Store.{Callee, callee_of, callee, one_result, zero_of}
use Rattle.wm_ast.specs.Types.{run_types, function_type}
use Rattle.wm_ast.specs.View.{code_of}
use Rattle.wm_flat.specs.Flat.{opened}
use Rattle.wm_flat.specs.FlatTyping.{types_of, IsFunction}
use Rattle.wm_flat.proofs.ItemLaws.{neither, no_such}
use Rattle.wm_place.specs.Place.{first_place}
use Rattle.wm_place.specs.Spot.{level, spot}
use Rattle.wm_ast.specs.Code.{block}
use Rattle.wm_place.specs.Kinds.{first_of}
use Rattle.wm_place.proofs.LevelLemmas.{some_of, map_some}
use Rattle.cc_cut.specs.Way.{way}
use Rattle.cc_move.specs.Standing.{Comes}
use Rattle.cc_move.specs.Law.{CallsCome}
use Rattle.cc_move.specs.Calls.{CalleesCome}
use Rattle.cc_move.proofs.StandLemmas.{types_append, comes}

-- ---- the locals begin with zeros

zeros_of_type : (t : ValType) (n : ℕ) → is_float t ≡ false → types_of (filter_map zero_of (replicate n t)) ≡ replicate n t
zeros_of_type t zero h = refl
zeros_of_type I32 (suc n) h = ap (λ (l : List ValType). I32 ∷ l) (zeros_of_type I32 n h)
zeros_of_type I64 (suc n) h = ap (λ (l : List ValType). I64 ∷ l) (zeros_of_type I64 n h)
zeros_of_type F32 (suc n) h = absurd cc
zeros_of_type F64 (suc n) h = absurd cc

zeros_of_runs : (rs : List Run) → list_any is_float_run rs ≡ false → types_of (filter_map zero_of (run_types rs)) ≡ run_types rs
zeros_of_runs [] h = refl
zeros_of_runs (r ∷ rs) h =
    let n = neither (is_float_run r) (list_any is_float_run rs) h in
    ap (λ (l : List Value). types_of l) (filter_map-append zero_of (replicate r.count r.ty) (run_types rs))
    ∙ (types_append (filter_map zero_of (replicate r.count r.ty)) (filter_map zero_of (run_types rs))
    ∙ (ap (λ (l : List ValType). l ++ types_of (filter_map zero_of (run_types rs))) (zeros_of_type r.ty r.count n.0)
    ∙ ap (λ (l : List ValType). replicate r.count r.ty ++ l) (zeros_of_runs rs n.1)))

-- and with the arguments, the first one first
types_reverse_aux : (us vs : List Value) → types_of (reverse_aux us vs) ≡ reverse_aux (types_of us) (types_of vs)
types_reverse_aux [] vs = refl
types_reverse_aux (u ∷ us) vs = types_reverse_aux us (u ∷ vs)

types_reverse : (us : List Value) → types_of (reverse us) ≡ reverse (types_of us)
types_reverse us = types_reverse_aux us []

-- ---- a function, as its callers have it

first_is : (ts : List ValType) (r : Option ValType) → one_result ts ≡ Some r → r ≡ first_of ts
first_is [] r e = sym (some_of None r e)
first_is (t ∷ []) r e = sym (some_of (Some t) r e)
first_is (t ∷ u ∷ ts) r e = absurd cc

pub record Called (m : Module) (n : ℕ) (c : Callee) : Type 0 where
  pub func : Func
  pub type : FuncType
  pub is_function : IsFunction m n func type
  pub is : c ≡ callee func type (first_of type.results)

pub called : (m : Module) (n : ℕ) (c : Callee) → callee_of m n ≡ Some c → Called m n c
called m n c e = by_function (slice_get m.funcs n) refl e
  where
    by_type : (f : Func) (o : Option FuncType) → slice_get m.funcs n ≡ Some f → function_type m f ≡ o → option_and_then (λ t. option_map (callee f t) (one_result t.results)) o ≡ Some c → Called m n c
    by_type f None there named e = absurd cc
    by_type f (Some t) there named e =
        let w = map_some (callee f t) (one_result t.results) c e in
        record {
          func = f;
          type = t;
          is_function = record { there = there; has_type = named };
          is = sym w.2 ∙ ap (callee f t) (first_is t.results w.0 w.1);
        }

    by_function : (o : Option Func) → slice_get m.funcs n ≡ o
        → option_and_then (λ f. option_and_then (λ t. option_map (callee f t) (one_result t.results)) (function_type m f)) o ≡ Some c → Called m n c
    by_function None there e = absurd cc
    by_function (Some f) there e = by_type f (function_type m f) there refl e

-- the locals with which a function begins
locals_are : (m : Module) → HasNoFloat m → (n : ℕ) (f : Func) (t : FuncType) (us : List Value) → IsFunction m n f t → types_of us ≡ reverse t.params
    → types_of (reverse us ++ filter_map zero_of (run_types f.locals)) ≡ t.params ++ run_types f.locals
locals_are m free n f t us i types =
    let whole = no_such has_float_function m.funcs n f free.functions i.there in
    let plain = neither (list_any is_float_run f.locals) (has_float_code (function_code f)) whole in
    types_append (reverse us) (filter_map zero_of (run_types f.locals))
    ∙ (ap (λ (l : List ValType). l ++ types_of (filter_map zero_of (run_types f.locals))) (types_reverse us ∙ (ap (λ (l : List ValType). reverse l) types ∙ reverse-reverse t.params))
    ∙ ap (λ (l : List ValType). t.params ++ l) (zeros_of_runs f.locals plain.0))

opens : (m : Module) → HasNoFloat m → (n : ℕ) (f : Func) (t : FuncType) (us : List Value) → IsFunction m n f t → types_of us ≡ reverse t.params
    → Comes m (opened n (callee f t (first_of t.results)) us) (way (0 ∷ []) [])
opens m free n f t us i types =
    comes m f t (opened n (callee f t (first_of t.results)) us) first_place (spot (level None nil (block (first_of t.results) (code_of f.body)) nil ∷ []) nil (code_of f.body)) (way (0 ∷ []) [])
    (record {
      is_function = i;
      there = refl;
      path = refl;
      before = refl;
      code = refl;
      levels = (record { place = refl; before = refl; op = refl; rest = refl; kinds = refl }, tt);
      kinds = refl;
      locals = locals_are m free n f t us i types;
      results = refl;
    })
    refl refl

pub calls_come : CallsCome
calls_come m free n c us found types =
    let w : Called m n c = called m n c found in
    subst (λ (x : Callee). Comes m (opened n x us) (way (0 ∷ []) [])) (sym w.is)
    (opens m free n w.func w.type us w.is_function (types ∙ ap (λ (x : Callee). x.takes) w.is))

-- the same function, where it is known
callee_is : (m : Module) (n : ℕ) (f : Func) (t : FuncType) (c : Callee) → IsFunction m n f t → callee_of m n ≡ Some c → c ≡ callee f t (first_of t.results)
callee_is m n f t c i e =
    let w = map_some (callee f t) (one_result t.results) c
    (sym (ap (λ (o : Option Func). option_and_then (λ g. option_and_then (λ u. option_map (callee g u) (one_result u.results)) (function_type m g)) o) i.there
    ∙ ap (λ (o : Option FuncType). option_and_then (λ u. option_map (callee f u) (one_result u.results)) o) i.has_type)
    ∙ e) in
    sym w.2 ∙ ap (callee f t) (first_is t.results w.0 w.1)

pub callees_come : CalleesCome
callees_come m free n f t c us i found types =
    let same : c ≡ callee f t (first_of t.results) = callee_is m n f t c i found in
    let takes : types_of us ≡ c.takes = types ∙ ap (λ (x : Callee). x.takes) (sym same) in
    record {
      comes = calls_come m free n c us found takes;
      takes = takes;
      none = refl;
      locals = refl;
      types = ap (λ (x : Callee). types_of (reverse us ++ x.zeros)) same ∙ locals_are m free n f t us i types;
    }
