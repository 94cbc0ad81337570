-- Behind each call a caller waits for all values of the types that stay under its results.
use Rattle.std.proofs.Common.{◌≡◌, ℕ, List, [], ◌++◌, map, drop, reverse, Bool, true, false, Option, Some, None, option_map, sym, ap, ◌∙◌}
use Rattle.std.specs.Prelude.{slice_get, if◌then◌else◌}
use Rattle.std.proofs.lemmas.Option.{slice_get-map}
use Rattle.wm_ast.specs.declared.module.FuncType.{FuncType}
use Rattle.wm_ast.specs.declared.module.Module.{Module}
use Rattle.wm_ast.specs.declared.module.ValType.{ValType}
use Rattle.wm_ast.specs.Code.{Op, call, call_indirect, Code, nil, cons}
use Rattle.wm_ast.specs.Operation.{Arrow}
use Rattle.wm_ast.specs.Types.{function_type}
use Rattle.wm_valid.specs.Typing.{Scope, body_scope}
use Rattle.wm_valid.specs.Arrows.{◌>>=◌, has_first, call_type as arrow_of_type, placed, Change, changed, by_arrow, change}
use Rattle.wm_valid.specs.PlaceReading.{run}
use Rattle.wm_valid.proofs.OperandLaws.{bind_some}
use Rattle.wm_place.specs.Kinds.{under as kinds_under, own_kinds, Body, body_of}
use Rattle.wm_place.specs.Visit.{Visit}
use Rattle.wm_place.proofs.HeldLemmas.{Over}
use Rattle.wm_place.proofs.LevelLemmas.{some_of}
use Rattle.cc_cut.proofs.VisitLemmas.{Visited}
use Rattle.cc_body.specs.Behind.{call_type, last_op}
use Rattle.cc_spots.specs.Law.{CallersStand}
use Rattle.cc_spots.proofs.StandingLaws.{own_over, waited, Owner, owner, visited_in}

-- ---- what an instruction leaves

-- operands behind an instruction: those that it gives, and others
record Left (S : Scope) (i : Op) (own : List ValType) : Type 0 where
  made : Change
  is_change : change i S ≡ Some made
  others : List ValType
  both : own ≡ made.gives ++ others

last_left : (S : Scope) (c : Code) (i : Op) (ts own : List ValType) → last_op c ≡ Some i → run c S ts ≡ Some own → Left S i own
last_left S nil i ts own l r = absurd cc
last_left S (cons j nil) i ts own l r =
    let w = bind_some (change j S) (λ e. run nil S (changed e ts)) own r in
    let same : j ≡ i = some_of j i l in
    record {
      made = w.0;
      is_change = ap (λ (k : Op). change k S) (sym same) ∙ w.1;
      others = drop w.0.takes ts;
      both = sym (some_of (changed w.0 ts) own w.2);
    }
last_left S (cons j (cons k ks)) i ts own l r =
    let w = bind_some (change j S) (λ e. run (cons k ks) S (changed e ts)) own r in
    last_left S (cons k ks) i (changed w.0 ts) own l w.2

-- ---- calls give results

module _ (m : Module) (locals : List ValType) (t : FuncType) where
  direct_gives : (f : ℕ) (e : Change) → call_type m (call f) ≡ Some t → change (call f) (body_scope m locals) ≡ Some e → e.gives ≡ reverse t.results
  direct_gives f e h k =
      let w = bind_some (slice_get m.funcs f) (function_type m) t h in
      let named : slice_get (map (function_type m) m.funcs) f ≡ Some (Some t) =
      slice_get-map (function_type m) m.funcs f ∙ (ap (option_map (function_type m)) w.1 ∙ ap Some w.2) in
      let made : change (call f) (body_scope m locals) ≡ Some (by_arrow (record { takes = reverse t.params; gives = reverse t.results })) =
      ap (λ (o : Option (Option FuncType)). option_map by_arrow (o >>= arrow_of_type)) named in
      ap (λ (x : Change). x.gives) (some_of e (by_arrow (record { takes = reverse t.params; gives = reverse t.results })) (sym k ∙ made))

  by_table : (b : Bool) (o : Option Arrow) (e : Change) → o ≡ Some (record { takes = reverse t.params; gives = reverse t.results })
      → option_map (λ g. by_arrow (placed g)) (if b then o else None) ≡ Some e → e.gives ≡ reverse t.results
  by_table false o e h k = absurd cc
  by_table true o e h k =
      let g : Arrow = record { takes = reverse t.params; gives = reverse t.results } in
      ap (λ (x : Change). x.gives) (some_of e (by_arrow (placed g)) (sym k ∙ ap (option_map (λ g. by_arrow (placed g))) h))

  call_gives : (i : Op) (e : Change) → call_type m i ≡ Some t → change i (body_scope m locals) ≡ Some e → e.gives ≡ reverse t.results
  call_gives (call f) e h k = direct_gives f e h k
  call_gives (call_indirect n) e h k = by_table (has_first m.tables) (arrow_of_type (slice_get m.types n)) e (ap arrow_of_type h) k
  call_gives _ e h k = absurd cc

-- ---- a caller

named : (own us ts others : List ValType) → own ≡ us ++ others → us ≡ ts → own ≡ ts ++ others
named own us ts others e k = e ∙ ap (λ (l : List ValType). l ++ others) k

pub callers_stand : CallersStand
callers_stand m n b e v h t before locals all local_types types =
    let f : Owner m n b = owner m n b e in
    let w : Visited (body_of m f.function f.type).scope (body_of m f.function f.type).sequence v = visited_in m n b e f v h in
    let S : Scope = (body_of m f.function f.type).scope in
    let o : Over (own_kinds S w.spot) (kinds_under S w.spot.levels) w.kinds = own_over m n f.function f.type f.is_function v w in
    let i = bind_some (last_op v.before) (call_type m) t before in
    let last : last_op w.spot.before ≡ Some i.0 = ap (λ (y : Visit). last_op y.before) w.is ∙ i.1 in
    let l : Left S i.0 o.own_kinds = last_left S w.spot.before i.0 [] o.own_kinds last o.own_is in
    let gives : l.made.gives ≡ reverse t.results = call_gives m S.locals t i.0 l.made i.2 l.is_change in
    waited m n f.function f.type f.is_function v w t l.others (named o.own_kinds l.made.gives (reverse t.results) l.others l.both gives) locals all
    (local_types ∙ ap (λ (x : Body). x.scope.locals) (sym f.is)) types
