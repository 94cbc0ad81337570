-- A caller goes on behind its instruction, with the results of the call.
use Rattle.std.proofs.Common.{◌≡◌, ◌≤◌, ℕ, List, [], ◌∷◌, ◌++◌, length, drop, reverse, true, cond, Option, Some, None, option_map, refl, sym, ap, ◌∙◌, subst, append_assoc, arith, ℤ}
use Rattle.std.specs.Prelude.{slice_get}
use Rattle.std.proofs.Math.Seq.{drop-append_seam}
use Rattle.std.proofs.lemmas.List.{length-append, length-map, reverse-reverse}
use Rattle.std.proofs.lemmas.Option.{slice_get-map}
use Rattle.mc_nbt.specs.declared.value.Value.{Value}
use Rattle.mc_nbt.specs.declared.value.Value.TheVariants as values
use Rattle.wm_ast.specs.declared.module.ValType.{ValType}
use Rattle.wm_ast.specs.declared.module.ValType.TheVariants.{I32}
use Rattle.wm_ast.specs.declared.module.Func.{Func}
use Rattle.wm_ast.specs.declared.module.FuncType.{FuncType}
use Rattle.wm_ast.specs.declared.module.Module.{Module}
use Rattle.wm_ast.specs.Code.{Op, call, call_indirect, Code, cons}
use Rattle.wm_ast.specs.Types.{const_type, function_type}
use Rattle.wm_valid.specs.Valid.{Valid}
use Rattle.wm_valid.specs.Typing.{Scope}
use Rattle.wm_valid.specs.Arrows.{◌>>=◌, has_first, call_type, placed, Change, changes, changed, by_arrow, change}
use Rattle.wm_valid.proofs.ArrowLaws.{first_complete, call_arrow}
use Rattle.wm_flat.specs.Flat.{Activation, past}
use Rattle.wm_flat.specs.FlatTyping.{types_of, IsFunction}
use Rattle.wm_flat.specs.Operands.{under, operands}
use Rattle.wm_place.specs.Visit.{Visit}
use Rattle.cc_cut.specs.Way.{Way, way, path_behind, left_by, op_ways, code_ways}
use Rattle.cc_move.specs.Standing.{StandsAt, Comes}
use Rattle.cc_move.specs.Law.{Shown}
use Rattle.cc_move.specs.Calls.{gives_by, gives_of, Arguments, way_behind, Resumed, CallersResume}
use Rattle.cc_move.proofs.CourseLemmas.{gives_is}
use Rattle.cc_move.proofs.LevelLemmas.{typed_here}
use Rattle.cc_move.proofs.MoveLemmas.{onward_comes}
use Rattle.cc_move.proofs.StandLemmas.{types_append, scope_at, is_shown}

-- what stands under the operands that a call takes
taken_away : (front rest : List Value) (ts : List ValType) → types_of front ≡ ts → drop (length ts) (types_of (front ++ rest)) ≡ types_of rest
taken_away front rest ts e =
    ap (λ (l : List ValType). drop (length ts) l) (types_append front rest ∙ ap (λ (l : List ValType). l ++ types_of rest) e)
    ∙ drop-append_seam ts (types_of rest)

-- an instruction that takes these operands and gives operands of the types gs
module _ (m : Module) (a : Activation) (v : Visit) (s : StandsAt m a v) (i : Op) (is : Code) (front rest us : List Value) (ts gs : List ValType) (h : a.code ≡ cons i is)
    (made : change i (scope_at m a v s) ≡ Some (changes (length ts) gs)) (parts : a.values ≡ front ++ rest) (fit : types_of front ≡ ts) (given : types_of us ≡ gs) where
  abbrev e : Change
  e = changes (length ts) gs

  leaves : (low : List Value) → changed e (types_of ((front ++ rest) ++ low)) ≡ types_of us ++ types_of (rest ++ low)
  leaves low =
      ap (λ (l : List ValType). gs ++ l)
      (ap (λ (l : List Value). drop (length ts) (types_of l)) (append_assoc front rest low) ∙ taken_away front (rest ++ low) ts fit)
      ∙ ap (λ (l : List ValType). l ++ types_of (rest ++ low)) (sym given)

  way_is : way_behind m a v s i ≡ way (path_behind v.path) (changed e (types_of (operands a)))
  way_is = ap (λ (o : Option Change). way (path_behind v.path) (left_by o (types_of (operands a)))) made

  resumes_over : ((ts : List ValType) → op_ways (scope_at m a v s) i v.path v.blocks ts ≡ way (path_behind v.path) (left_by (change i (scope_at m a v s)) ts) ∷ []) → Resumed m a v s i is rest us
  resumes_over on =
      let few : length ts ≤ length a.values =
      omega
      (arith, length-append front rest, length-map front const_type, ap (λ (l : List Value). length l) parts, ap (λ (l : List ValType). length l) fit) in
      let types : types_of (us ++ rest) ≡ changed e (types_of a.values) =
      types_append us rest
      ∙ (ap (λ (l : List ValType). l ++ types_of rest) given
      ∙ ap (λ (l : List ValType). gs ++ l) (sym (ap (λ (l : List Value). drop (length ts) (types_of l)) parts ∙ taken_away front rest ts fit))) in
      let shown : Shown m a v = is_shown m a v s in
      let back : reverse v.kinds ≡ types_of (operands a) = ap (λ (l : List ValType). reverse l) shown.kinds ∙ reverse-reverse (types_of (operands a)) in
      record {
        comes = subst (λ (w : Way). Comes m (past a i is a.locals (us ++ rest)) w) (sym way_is) (onward_comes m a v s i is e a.locals (us ++ rest) h made few types refl);
        only =
            ap (λ (c : Code). code_ways (scope_at m a v s) c v.path v.blocks (reverse v.kinds)) (shown.rest ∙ h)
            ∙ (on (reverse v.kinds) ∙ ap (λ (ts : List ValType). way (path_behind v.path) (left_by (change i (scope_at m a v s)) ts) ∷ []) back);
        kinds = ap (λ (w : Way). w.kinds) way_is ∙ (ap (λ (l : List Value). changed e (types_of (l ++ under a.levels))) parts ∙ leaves (under a.levels));
        whole = append_assoc us rest (under a.levels);
      }

module _ (m : Module) (valid : Valid m) (a : Activation) (v : Visit) (s : StandsAt m a v) (is : Code) (t : FuncType) (us : List Value) where
  abbrev S : Scope
  S = scope_at m a v s

  direct : (f : ℕ) (g : Func) → a.code ≡ cons (call f) is → IsFunction m f g t → (o : Arguments t a.values) → types_of us ≡ gives_of m f → Resumed m a v s (call f) is o.rest us
  direct f g h j o given =
      let named : slice_get S.functions f ≡ Some (Some t) = slice_get-map (function_type m) m.funcs f ∙ (ap (option_map (function_type m)) j.there ∙ ap Some j.has_type) in
      let made : change (call f) S ≡ Some (by_arrow (call_arrow t)) = ap (λ x. option_map by_arrow (x >>= call_type)) named in
      resumes_over m a v s (call f) is o.args o.rest us (reverse t.params) (reverse t.results) h made o.parts o.are.types (given ∙ gives_is m f g t j) (λ ts. refl)

  indirect : (n : ℕ) (i : ℤ) (vs : List Value) → a.code ≡ cons (call_indirect n) is → slice_get m.types n ≡ Some t → a.values ≡ values.I32 i ∷ vs → (o : Arguments t vs)
      → types_of us ≡ gives_by (slice_get m.types n) → Resumed m a v s (call_indirect n) is o.rest us
  indirect n i vs h named parts o given =
      let (takes, gives, below, (u, first, at, j), k, others) = typed_here m valid a v s (cons (call_indirect n) is) h in
      let table : has_first m.tables ≡ true = first_complete m.tables first in
      let made : change (call_indirect n) S ≡ Some (by_arrow (placed (call_arrow t))) =
      ap (λ b. option_map (λ g. by_arrow (placed g)) (cond b (call_type (slice_get m.types n)) None)) table
      ∙ ap (λ x. option_map (λ g. by_arrow (placed g)) (call_type x)) named in
      resumes_over m a v s (call_indirect n) is (values.I32 i ∷ o.args) o.rest us (I32 ∷ reverse t.params) (reverse t.results) h made
      (parts ∙ ap (λ (l : List Value). values.I32 i ∷ l) o.parts) (ap (λ (l : List ValType). I32 ∷ l) o.are.types) (given ∙ ap gives_by named) (λ ts. refl)

pub callers_resume : CallersResume
callers_resume m valid a v s is t us = (direct m valid a v s is t us, indirect m valid a v s is t us)
