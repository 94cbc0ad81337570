-- A call at a place that is reached has few arguments: they are among the operands there.
use Rattle.std.proofs.Common.{◌≡◌, ℕ, zero, suc, ◌+◌, ◌*◌, ◌/◌, ◌≤◌, inl, List, [], ◌++◌, length, reverse, Bool, true, false, Option, Some, None, refl, sym, ap, ◌∙◌, subst, arith, length-append}
use Rattle.std.specs.Prelude.{slice_get, if◌then◌else◌}
use Rattle.std.proofs.lemmas.List.{length-reverse}
use Rattle.wm_ast.specs.declared.module.Func.{Func}
use Rattle.wm_ast.specs.declared.module.FuncType.{FuncType}
use Rattle.wm_ast.specs.declared.module.Module.{Module}
use Rattle.wm_ast.specs.declared.module.ValType.{ValType}
use Rattle.wm_ast.specs.Code.{Op, call, call_indirect, Code, nil, cons}
use Rattle.wm_ast.specs.Types.{run_types, function_type}
use Rattle.wm_ast.specs.View.{code_of}
use Rattle.wm_valid.specs.Height.{IsLow, Low}
use Rattle.wm_valid.specs.Place.{front, after_front, LeadsTo}
use Rattle.wm_valid.specs.Typing.{Context, TypesCode, Scope}
use Rattle.wm_valid.specs.Arrows.{◌>>=◌, Change, changed, change}
use Rattle.wm_valid.specs.PlaceReading.{run}
use Rattle.wm_valid.proofs.OperandLaws.{bind_some}
use Rattle.wm_flat.specs.Program.{IsProgram}
use Rattle.wm_place.specs.Kinds.{Body, first_of, function_body, own_kinds, under, spot_kinds}
use Rattle.wm_place.specs.Place.{Place, place, path_of}
use Rattle.wm_place.specs.Spot.{Level, Sequence, Spot, spot, spot_at}
use Rattle.wm_place.specs.Visit.{Visit, visits, body_visits}
use Rattle.wm_place.proofs.HeldLemmas.{Over, over_some, over_is, Kept}
use Rattle.wm_place.proofs.KindLemmas.{Typed, context_of, scope_in, body_in, place_kept}
use Rattle.wm_place.proofs.PlaceLemmas.{stands}
use Rattle.wm_place.proofs.SpotLemmas.{found}
use Rattle.cc_cut.specs.Law.{widths}
use Rattle.cc_cut.specs.Piece.{Piece, function_pieces, pieces}
use Rattle.cc_cut.proofs.CutLemmas.{Has, has, all_visits}
use Rattle.cc_cut.proofs.ListLemmas.{In, some_of, in_get}
use Rattle.cc_cut.proofs.VisitLemmas.{Visited, visited}
use Rattle.cc_pieces.specs.Fetching.{are_many, fetches}
use Rattle.cc_body.specs.Behind.{call_type, last_op, call_before}
use Rattle.cc_body.specs.Law.{FetchesAreFew}
use Rattle.cc_body.proofs.Bounds.{locals_few, places_among}
use Rattle.cc_body.proofs.PlaceWeights.{all_narrow}

-- ---- sequences

-- the last of so many first instructions stands behind one fewer
last_front : (n : ℕ) (c rest : Code) (i : Op) → after_front n c ≡ Some rest → last_op (front n c) ≡ Some i → (k : ℕ) × (n ≡ suc k) × (after_front k c ≡ Some (cons i rest))
last_front zero c rest i e h = absurd cc
last_front (suc n) nil rest i e h = absurd cc
last_front (suc zero) (cons j js) rest i e h = (0, refl, let a : j ≡ i = some_of j i h in let b : js ≡ rest = some_of js rest e in cc)
last_front (suc (suc n)) (cons j nil) rest i e h = absurd cc
last_front (suc (suc n)) (cons j (cons l ls)) rest i e h = let w = last_front (suc n) (cons l ls) rest i e h in (suc w.0, ap suc w.1, w.2)

-- where operands stand behind so many instructions, such stand behind one fewer
run_front : (k : ℕ) (c : Code) (S : Scope) (ts us : List ValType) → run (front (suc k) c) S ts ≡ Some us → (vs : List ValType) × (run (front k c) S ts ≡ Some vs)
run_front zero c S ts us e = (ts, refl)
run_front (suc k) nil S ts us e = (ts, refl)
run_front (suc k) (cons i is) S ts us e =
    let w = bind_some (change i S) (λ d. run (front (suc k) is) S (changed d ts)) us e in
    let r = run_front k is S (changed w.0 ts) us w.2 in
    (r.0, ap (λ (o : Option Change). o >>= λ d. run (front k is) S (changed d ts)) w.1 ∙ r.1)

-- ---- places

module _ (m : Module) (program : IsProgram m) (low : Low m) (n : ℕ) (f : Func) (at : slice_get m.funcs n ≡ Some f) (t : Typed m n f) where
  abbrev S : Scope
  S = scope_in m n f t

  abbrev root : Sequence
  root = body_in m n f t

  abbrev KeptAt : Place → Spot → List ValType → Type 0
  KeptAt p x ts = Kept (context_of m n f t) (code_of f.body) (first_of t.type.results) t.whole t.labels_are p x ts

  -- a place behind an instruction: that of this instruction, with its operands
  record Before (i : Op) : Type 0 where
    place : Place
    spot : Spot
    kinds : List ValType
    kept : KeptAt place spot kinds
    rest : Code
    code : spot.code ≡ cons i rest

  before : (v : Visit) → In v (all_visits m n f t) → (i : Op) → last_op v.before ≡ Some i → Before i
  before v h i e =
      let a : Visited S root v = visited S root v h in
      let q = found root a.place a.spot a.there in
      let c : Code = q.sequence.code in
      let last : last_op (front a.place.position c) ≡ Some i = ap last_op q.part.front ∙ (ap (λ (y : Visit). last_op y.before) a.is ∙ e) in
      let w = last_front a.place.position c a.spot.code i q.part.after last in
      let o : Over (own_kinds S a.spot) (under S a.spot.levels) a.kinds = over_some (own_kinds S a.spot) (under S a.spot.levels) a.kinds a.reached in
      let whole : run (front (suc w.0) c) S [] ≡ Some o.own_kinds = ap (λ (k : ℕ). run (front k c) S []) (sym w.1) ∙ (ap (λ (d : Code). run d S []) q.part.front ∙ o.own_is) in
      let r = run_front w.0 c S [] o.own_kinds whole in
      let p : Place = place a.place.steps w.0 in
      let x : Spot = spot q.sequence.levels (front w.0 c) (cons i a.spot.code) in
      let there : spot_at root p ≡ Some x = stands root a.place.steps w.0 q.sequence (cons i a.spot.code) q.there w.2 in
      let kinds : spot_kinds S x ≡ Some (r.0 ++ o.below_kinds) = over_is (run (front w.0 c) S []) (under S q.sequence.levels) r.0 o.below_kinds r.1 (ap (λ (l : List Level). under S l) q.part.levels ∙ o.below_is) in
      record { place = p; spot = x; kinds = r.0 ++ o.below_kinds; kept = place_kept m n f t p x (r.0 ++ o.below_kinds) there kinds; rest = a.spot.code; code = refl {a = cons i a.spot.code} }

  -- a call through the table stands over its arguments and its index
  indirect_few : (v : Visit) → In v (all_visits m n f t) → (j : ℕ) (u : FuncType) → last_op v.before ≡ Some (call_indirect j) → slice_get m.types j ≡ Some u → length u.params ≤ 1024
  indirect_few v h j u e g =
      let b : Before (call_indirect j) = before v h (call_indirect j) e in
      let k : KeptAt b.place b.spot b.kinds = b.kept in
      let is_low : IsLow m f = low n f at in
      let leads = subst (λ (c : Code). LeadsTo (path_of b.place) (code_of f.body) (context_of m n f t) [] [] c b.kinds) b.code k.leads in
      let few : length b.kinds ≤ 1024 = is_low (length b.kinds) (record { path = path_of b.place; instruction = call_indirect j; others = b.rest; operands = b.kinds; reached = (t.type, t.named, leads); so_many = refl }) in
      let (takes, gives, below, rule, own, others) = subst (λ (c : Code). TypesCode c k.context k.own k.ends) b.code k.typed in
      let types : slice_get k.context.scope.types j ≡ Some u = ap (λ (D : Context). slice_get D.scope.types j) k.is ∙ g in
      let same : rule.0 ≡ u = some_of rule.0 u (sym rule.2 ∙ types) in
      let params : length rule.0.params ≡ length u.params = ap (λ (y : FuncType). length y.params) same in
      let back : length (reverse rule.0.params) ≡ length rule.0.params = length-reverse rule.0.params in
      let taken : length takes ≡ suc (length (reverse rule.0.params)) = ap length rule.3.0 in
      let over : length k.own ≡ length takes + length below = ap length own ∙ length-append takes below in
      let all : length b.kinds ≡ length k.own + length k.below = ap length k.both ∙ length-append k.own k.below in
      omega arith

  few_arguments : (v : Visit) → In v (all_visits m n f t) → (u : FuncType) → call_before m v ≡ Some u → length u.params ≤ 1024
  few_arguments v h u e = let w = bind_some (last_op v.before) (call_type m) u e in by_op w.0 w.1 w.2
    where
      by_op : (i : Op) → last_op v.before ≡ Some i → call_type m i ≡ Some u → length u.params ≤ 1024
      by_op (call g) e k =
          let w = bind_some (slice_get m.funcs g) (function_type m) u k in
          let a : length (u.params ++ run_types w.0.locals) ≤ 1024 = locals_few m g w.0 u program.profile w.1 w.2 in
          let b : length (u.params ++ run_types w.0.locals) ≡ length u.params + length (run_types w.0.locals) = length-append u.params (run_types w.0.locals) in
          omega arith
      by_op (call_indirect j) e k = indirect_few v h j u e k
      by_op _ e k = absurd cc

-- ---- pieces

module _ (m : Module) (program : IsProgram m) (low : Low m) (n position : ℕ) (q : Piece) (t : FuncType) (behind : call_before m q.cut ≡ Some t) where
  of_body : (b : Body) → function_body m n ≡ Some b → slice_get (pieces (visits b.scope b.sequence)) position ≡ Some q → widths t.params ≤ 2048
  of_body b e =
      let x : Has m n b = has m program.valid n b e in
      subst (λ (y : Body). slice_get (pieces (visits y.scope y.sequence)) position ≡ Some q → widths t.params ≤ 2048) x.is
      (λ k.
      let vs : List Visit = all_visits m n x.function x.typed in
      let there : In q.cut vs = places_among vs 0 q q.cut (in_get (pieces vs) position q k) (inl refl) in
      let few : length t.params ≤ 1024 = few_arguments m program low n x.function x.at x.typed q.cut there t behind in
      let narrow : widths t.params ≤ 2 * length t.params = all_narrow t.params in
      omega arith)

  by_body : (o : Option Body) → function_body m n ≡ o → slice_get (pieces (body_visits o)) position ≡ Some q → widths t.params ≤ 2048
  by_body None e h = absurd cc
  by_body (Some b) e h = of_body b e h

  pub arguments_low : slice_get (function_pieces m n) position ≡ Some q → widths t.params ≤ 2048
  arguments_low h = by_body (function_body m n) refl h

fetches_low : (w : ℕ) → w ≤ 2048 → fetches w ≤ 8
fetches_low w h = go (are_many w)
  where
    go : (b : Bool) → (if b then (w + 303) / 304 else 0) ≤ 8
    go true = omega arith
    go false = omega arith

pub fetches_few : FetchesAreFew
fetches_few m program low n position q t at behind = fetches_low (widths t.params) (arguments_low m program low n position q t behind at)
