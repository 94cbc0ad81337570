-- The kinds that are computed at a place are those that the typing determines.
use Rattle.std.proofs.Common.{◌≡◌, ℕ, ◌≤◌, max, false, List, [], ◌∷◌, ◌++◌, length, drop, Option, Some, None, option_map, reverse, refl, sym, ap, ◌∙◌, subst, arith, append-nil}
use Rattle.std.specs.Prelude.{slice_get}
use Rattle.std.proofs.lemmas.List.{reverse-reverse}
use Rattle.wm_ast.specs.declared.module.ValType.{ValType}
use Rattle.wm_ast.specs.declared.module.FuncType.{FuncType}
use Rattle.wm_ast.specs.declared.module.Func.{Func}
use Rattle.wm_ast.specs.declared.module.Module.{Module}
use Rattle.wm_ast.specs.declared.item.Item.TheVariants.{Types}
use Rattle.wm_ast.specs.Code.{Op, block, loop, if_else, Code, cons}
use Rattle.wm_ast.specs.View.{code_of}
use Rattle.wm_ast.specs.Types.{results_of, function_type}
use Rattle.wm_valid.specs.Typing.{Context, TypesCode, under_label, body_context, Scope}
use Rattle.wm_valid.specs.Height.{IsHeight}
use Rattle.wm_valid.specs.Valid.{Valid}
use Rattle.wm_valid.specs.Place.{front, after_front, TypesFront, arm, Inside, LeadsTo, OperandsAt, AreKinds}
use Rattle.wm_valid.specs.Arrows.{◌>>=◌}
use Rattle.wm_valid.specs.PlaceReading.{run}
use Rattle.wm_valid.proofs.OperandLaws.{bind_some}
use Rattle.wm_valid.proofs.PlaceLaws.{runs}
use Rattle.wm_place.specs.Place.{Step, in_block, in_arm, Place, place, path_of, into_code, place_from, place_of}
use Rattle.wm_place.specs.Spot.{Sequence, Spot, spot, sequence_at, spot_at, labels_at, ends_at}
use Rattle.wm_place.specs.SpotTyping.{with_labels, IsTypedSpot}
use Rattle.wm_place.specs.Kinds.{stays_under, under, spot_kinds, kinds_at, Body, first_of, body_of, function_body, function_kinds, path_kinds, IsPlaceOf}
use Rattle.wm_place.proofs.LevelLemmas.{some_of, map_some}
use Rattle.wm_place.proofs.PlaceLemmas.{stands, held_by, into_step}
use Rattle.wm_place.proofs.PathLemmas.{told, tells}
use Rattle.wm_place.proofs.HeldLemmas.{over_is, Kept, kept, room}
use Rattle.wm_place.proofs.IntLemmas.{or_false, none_of, scope_free, free_code, spot_free}
use Rattle.wm_ast.specs.Profile.{HasNoFloat, NoItem, is_float, is_float_run, has_float_code, has_float_function}
use Rattle.std.specs.List.{list_any}

-- the place that a path tells which is reached, and its operands
record Told (body : Sequence) (S : Scope) (steps : List Step) (path : List ℕ) (c rest : Code) (ts : List ValType) : Type 0 where
  pub place : Place
  pub tells : place_from steps path c ≡ Some place
  pub spot : Spot
  pub there : spot_at body place ≡ Some spot
  pub kinds : spot_kinds S spot ≡ Some ts
  pub follows : spot.code ≡ rest

-- the operands of a sequence, from a typed front on
front_runs : (n : ℕ) (c : Code) (D : Context) (S : Scope) (own : List ValType) (rest : Code) → D.scope ≡ S → TypesFront n c D [] own rest → run (front n c) S [] ≡ Some own
front_runs n c D S own rest same l =
    ap (λ (T : Scope). run (front n c) T []) (sym same) ∙ (runs (front n c) D [] own l.no_jump l.typed [] ∙ ap (λ (us : List ValType). Some us) (append-nil own))

module _ (body : Sequence) (S : Scope) where
  -- a place that is inside an instruction
  in_body : (steps : List Step) (n k : ℕ) (path : List ℕ) (q : Sequence) (i : Op) (d is rest : Code) (ts : List ValType) → after_front n q.code ≡ Some (cons i is)
      → ((f : Code → Option Place) (g : Code → Option Place) → into_code (cons i is) k f g ≡ f d)
      → Told body S (in_block n ∷ steps) (k ∷ path) d rest ts → Told body S steps (n ∷ k ∷ path) q.code rest ts
  in_body steps n k path q i d is rest ts f into w = record {
    place = w.place;
    tells = ap (λ (o : Option Code). o >>= λ r. into_code r k (λ x. place_from (in_block n ∷ steps) (k ∷ path) x) (λ x. place_from (in_arm n k ∷ steps) path x)) f
        ∙ (into (λ x. place_from (in_block n ∷ steps) (k ∷ path) x) (λ x. place_from (in_arm n k ∷ steps) path x) ∙ w.tells);
    spot = w.spot;
    there = w.there;
    kinds = w.kinds;
    follows = w.follows;
  }

  in_chosen : (steps : List Step) (n k : ℕ) (path : List ℕ) (q : Sequence) (ty : Option ValType) (a b d is rest : Code) (ts : List ValType) → after_front n q.code ≡ Some (cons (if_else ty a b) is)
      → arm k a b ≡ Some d → Told body S (in_arm n k ∷ steps) path d rest ts → Told body S steps (n ∷ k ∷ path) q.code rest ts
  in_chosen steps n k path q ty a b d is rest ts f chosen w = record {
    place = w.place;
    tells = ap (λ (o : Option Code). o >>= λ r. into_code r k (λ x. place_from (in_block n ∷ steps) (k ∷ path) x) (λ x. place_from (in_arm n k ∷ steps) path x)) f
        ∙ (ap (λ (o : Option Code). o >>= λ x. place_from (in_arm n k ∷ steps) path x) chosen ∙ w.tells);
    spot = w.spot;
    there = w.there;
    kinds = w.kinds;
    follows = w.follows;
  }

  -- the operands under a block
  under_is : (steps : List Step) (n : ℕ) (q : Sequence) (i : Op) (is d : Code) (own stay below : List ValType) → run (front n q.code) S [] ≡ Some own → stays_under i own ≡ stay → under S q.levels ≡ Some below
      → under S (held_by steps n q i is d).levels ≡ Some (stay ++ below)
  under_is steps n q i is d own stay below ran k u =
      over_is (option_map (stays_under i) (run (front n q.code) S [])) (under S q.levels) stay below
      (ap (λ (o : Option (List ValType)). option_map (stays_under i) o) ran ∙ ap (λ (l : List ValType). Some l) k) u

  inside_told : (steps : List Step) (n k : ℕ) (path : List ℕ) (q : Sequence) (i : Op) (is rest : Code) (own below ts : List ValType) (D : Context) → D.scope ≡ S → sequence_at body steps ≡ Some q → under S q.levels ≡ Some below
      → after_front n q.code ≡ Some (cons i is) → run (front n q.code) S [] ≡ Some own
      → ((t : Sequence) (E : Context) (us : List ValType) → E.scope ≡ S → sequence_at body (in_block n ∷ steps) ≡ Some t → under S t.levels ≡ Some us → LeadsTo (k ∷ path) t.code E [] us rest ts
      → Told body S (in_block n ∷ steps) (k ∷ path) t.code rest ts)
      → ((t : Sequence) (E : Context) (us : List ValType) → E.scope ≡ S → sequence_at body (in_arm n k ∷ steps) ≡ Some t → under S t.levels ≡ Some us → LeadsTo path t.code E [] us rest ts
      → Told body S (in_arm n k ∷ steps) path t.code rest ts)
      → Inside i k D own below (λ c E us. LeadsTo (k ∷ path) c E [] us rest ts) (λ c E us. LeadsTo path c E [] us rest ts) → Told body S steps (n ∷ k ∷ path) q.code rest ts
  inside_told steps n k path q (block ty c) is rest own below ts D same e u f ran of_body of_arms h =
      in_body steps n k path q (block ty c) c is rest ts f (λ x y. refl)
      (of_body (held_by steps n q (block ty c) is c) (under_label (results_of ty) D) (own ++ below) same (into_step body (in_block n) steps q (block ty c) is c e f refl)
      (under_is steps n q (block ty c) is c own own below ran refl u) h)
  inside_told steps n k path q (loop ty c) is rest own below ts D same e u f ran of_body of_arms h =
      in_body steps n k path q (loop ty c) c is rest ts f (λ x y. refl)
      (of_body (held_by steps n q (loop ty c) is c) (under_label [] D) (own ++ below) same (into_step body (in_block n) steps q (loop ty c) is c e f refl)
      (under_is steps n q (loop ty c) is c own own below ran refl u) h)
  inside_told steps n k path q (if_else ty a b) is rest own below ts D same e u f ran of_body of_arms (stay, d, whole, chosen, h) =
      in_chosen steps n k path q ty a b d is rest ts f chosen
      (of_arms (held_by steps n q (if_else ty a b) is d) (under_label (results_of ty) D) (stay ++ below) same (into_step body (in_arm n k) steps q (if_else ty a b) is d e f chosen)
      (under_is steps n q (if_else ty a b) is d own stay below ran (ap (λ (l : List ValType). drop 1 l) whole) u) h)
  inside_told steps n k path q _ is rest own below ts D same e u f ran of_body of_arms h = absurd h

  path_told : (path : List ℕ) (steps : List Step) (q : Sequence) (D : Context) (below : List ValType) (rest : Code) (ts : List ValType) → D.scope ≡ S → sequence_at body steps ≡ Some q → under S q.levels ≡ Some below
      → LeadsTo path q.code D [] below rest ts → Told body S steps path q.code rest ts
  path_told [] steps q D below rest ts same e u h = absurd h
  path_told (n ∷ []) steps q D below rest ts same e u (own, leads, is) = record {
    place = place steps n;
    tells = ap (option_map (λ follows. place steps n)) leads.follows;
    spot = spot q.levels (front n q.code) rest;
    there = stands body steps n q rest e leads.follows;
    kinds = over_is (run (front n q.code) S []) (under S q.levels) own below (front_runs n q.code D S own rest same leads) u ∙ ap (λ (l : List ValType). Some l) (sym is);
    follows = refl;
  }
  path_told (n ∷ k ∷ path) steps q D below rest ts same e u (own, i, is, leads, inside) =
      inside_told steps n k path q i is rest own below ts D same e u leads.follows (front_runs n q.code D S own (cons i is) same leads)
      (λ t E us s a b h. path_told (k ∷ path) (in_block n ∷ steps) t E us rest ts s a b h)
      (λ t E us s a b h. path_told path (in_arm n k ∷ steps) t E us rest ts s a b h)
      inside

-- ---- of a module

-- a function of a valid module
pub record Typed (m : Module) (n : ℕ) (f : Func) : Type 0 where
  pub type : FuncType
  pub named : function_type m f ≡ Some type
  pub whole : TypesCode (code_of f.body) (body_context m f type) [] (results_of (first_of type.results))
  pub labels_are : (body_context m f type).labels ≡ results_of (first_of type.results) ∷ []
  pub body : function_body m n ≡ Some (body_of m f type)

-- a function's results, of which there is at most one
results_are : (ts : List ValType) → length ts ≤ 1 → reverse ts ≡ results_of (first_of ts)
results_are [] h = refl
results_are (t ∷ []) h = refl
results_are (t ∷ u ∷ ts) h = absurd (omega arith)

pub typed_function : (m : Module) (n : ℕ) (f : Func) → Valid m → slice_get m.funcs n ≡ Some f → Typed m n f
typed_function m n f v at =
    let (t, named, whole) = v.bodies n f at in
    let same : reverse t.results ≡ results_of (first_of t.results) = results_are t.results (v.items Types f.kind t named) in
    record {
      type = t;
      named = named;
      whole = subst (λ (l : List ValType). TypesCode (code_of f.body) (body_context m f t) [] l) same whole;
      labels_are = ap (λ (l : List ValType). l ∷ []) same;
      body = ap (λ (o : Option Func). o >>= λ g. option_map (body_of m g) (function_type m g)) at ∙ ap (λ (o : Option FuncType). option_map (body_of m f) o) named;
    }

-- the operands of a function's place
module _ (m : Module) (n : ℕ) (f : Func) (t : Typed m n f) where
  abbrev pub context_of : Context
  context_of = body_context m f t.type

  abbrev pub scope_in : Scope
  scope_in = (body_of m f t.type).scope

  abbrev pub body_in : Sequence
  body_in = (body_of m f t.type).sequence

  -- what is found by a path
  abbrev pub by_path : List ℕ → Option (List ValType)
  by_path path = place_of body_in.code path >>= λ p. option_map reverse (kinds_at scope_in body_in p)

  pub by_path_is : (path : List ℕ) → path_kinds m n path ≡ by_path path
  by_path_is path = ap (λ (o : Option Body). o >>= λ b. place_of b.sequence.code path >>= λ p. option_map reverse (kinds_at b.scope b.sequence p)) t.body

  pub place_kept : (p : Place) (x : Spot) (ts : List ValType) → spot_at body_in p ≡ Some x → spot_kinds scope_in x ≡ Some ts
      → Kept context_of (code_of f.body) (first_of t.type.results) t.whole t.labels_are p x ts
  place_kept p x ts e u = kept context_of (code_of f.body) (first_of t.type.results) t.whole t.labels_are p x ts e u

  pub leads_there : (path : List ℕ) (rest : Code) (ts : List ValType) → LeadsTo path (code_of f.body) context_of [] [] rest ts → by_path path ≡ Some (reverse ts)
  leads_there path rest ts l =
      let w : Told body_in scope_in [] path (code_of f.body) rest ts = path_told body_in scope_in path [] body_in context_of [] rest ts refl refl refl l in
      ap (λ (o : Option Place). o >>= λ p. option_map reverse (kinds_at scope_in body_in p)) w.tells
      ∙ (ap (λ (o : Option Spot). option_map (reverse {A = ValType}) (o >>= spot_kinds scope_in)) w.there ∙ ap (option_map reverse) w.kinds)

  -- what is found stands there
  pub found_there : (path : List ℕ) (kinds : List ValType) → by_path path ≡ Some kinds → OperandsAt m f path (reverse kinds)
  found_there path kinds e =
      let a = bind_some (place_of body_in.code path) (λ p. option_map reverse (kinds_at scope_in body_in p)) kinds e in
      let p : Place = a.0 in
      let b = map_some reverse (kinds_at scope_in body_in p) kinds a.2 in
      let ts : List ValType = b.0 in
      let d = bind_some (spot_at body_in p) (spot_kinds scope_in) ts b.1 in
      let x : Spot = d.0 in
      let same : path_of p ≡ path = (tells body_in path p a.1).leads in
      let back : ts ≡ reverse kinds = sym (reverse-reverse ts) ∙ ap reverse b.2 in
      let k = place_kept p x ts d.1 d.2 in
      let leads : LeadsTo path (code_of f.body) context_of [] [] x.code (reverse kinds) =
      subst (λ (us : List ValType). LeadsTo path (code_of f.body) context_of [] [] x.code us) back (subst (λ (y : List ℕ). LeadsTo y (code_of f.body) context_of [] [] x.code ts) same k.leads) in
      (x.code, (t.type, t.named, leads))

  -- what stands there is found
  pub stands_there : (path : List ℕ) (ts : List ValType) → OperandsAt m f path ts → by_path path ≡ Some (reverse ts)
  stands_there path ts (rest, (u, named, leads)) =
      let also : function_type m f ≡ Some t.type = t.named in
      let same : u ≡ t.type = some_of u t.type (sym named ∙ also) in
      leads_there path rest ts (subst (λ (y : FuncType). LeadsTo path (code_of f.body) (body_context m f y) [] [] rest ts) same leads)

nothing : (m : Module) (n : ℕ) (path : List ℕ) → slice_get m.funcs n ≡ None → path_kinds m n path ≡ None
nothing m n path e = ap (λ (o : Option Func). (o >>= λ f. option_map (body_of m f) (function_type m f)) >>= λ b. place_of b.sequence.code path >>= λ p. option_map reverse (kinds_at b.scope b.sequence p)) e

pub kinds_by_path : (m : Module) → Valid m → (n : ℕ) (path : List ℕ) → AreKinds m n path (path_kinds m n path)
kinds_by_path m v n path = by_function (slice_get m.funcs n) refl
  where
    by_found : (f : Func) → slice_get m.funcs n ≡ Some f → (t : Typed m n f) (found : Option (List ValType)) → by_path m n f t path ≡ found → AreKinds m n path found
    by_found f at t (Some kinds) e = (f, at, found_there m n f t path kinds e)
    by_found f at t None e = λ g ts at' there.
        let same : g ≡ f = some_of g f (sym at' ∙ at) in
        let some : by_path m n f t path ≡ Some (reverse ts) = stands_there m n f t path ts (subst (λ (h : Func). OperandsAt m h path ts) same there) in
        absurd (let w : None ≡ Some (reverse ts) = sym e ∙ some in cc)

    by_function : (o : Option Func) → slice_get m.funcs n ≡ o → AreKinds m n path (path_kinds m n path)
    by_function None e = subst (λ (o : Option (List ValType)). AreKinds m n path o) (sym (nothing m n path e)) (λ g ts at there. absurd (let w : None ≡ Some g = sym e ∙ at in cc))
    by_function (Some f) e =
        let t : Typed m n f = typed_function m n f v e in
        subst (λ (o : Option (List ValType)). AreKinds m n path o) (sym (by_path_is m n f t path)) (by_found f e t (by_path m n f t path) refl)

pub kinds_determined : (m : Module) → Valid m → (n : ℕ) (path : List ℕ) (found : Option (List ValType)) → AreKinds m n path found → found ≡ path_kinds m n path
kinds_determined m v n path (Some kinds) (f, at, there) =
    let t : Typed m n f = typed_function m n f v at in
    ap (λ (l : List ValType). Some l) (sym (reverse-reverse kinds)) ∙ sym (by_path_is m n f t path ∙ stands_there m n f t path (reverse kinds) there)
kinds_determined m v n path None h = by_found (path_kinds m n path) refl
  where
    by_found : (o : Option (List ValType)) → path_kinds m n path ≡ o → None ≡ path_kinds m n path
    by_found None e = sym e
    by_found (Some kinds) e =
        let (f, at, there) = subst (λ (o : Option (List ValType)). AreKinds m n path o) e (kinds_by_path m v n path) in
        absurd (h f (reverse kinds) at there)

pub kinds_by_place : (m : Module) → Valid m → (n : ℕ) (p : Place) → IsPlaceOf m n p → AreKinds m n (path_of p) (option_map reverse (function_kinds m n p))
kinds_by_place m v n p (b, body, x, there) =
    let one : path_kinds m n (path_of p) ≡ option_map reverse (kinds_at b.scope b.sequence p) =
    ap (λ (o : Option Body). o >>= λ c. place_of c.sequence.code (path_of p) >>= λ r. option_map reverse (kinds_at c.scope c.sequence r)) body
    ∙ ap (λ (o : Option Place). o >>= λ r. option_map reverse (kinds_at b.scope b.sequence r)) (told b.sequence p x there) in
    let two : option_map reverse (function_kinds m n p) ≡ option_map reverse (kinds_at b.scope b.sequence p) = ap (λ (o : Option Body). option_map (reverse {A = ValType}) (o >>= λ c. kinds_at c.scope c.sequence p)) body in
    subst (λ (o : Option (List ValType)). AreKinds m n (path_of p) o) (one ∙ sym two) (kinds_by_path m v n (path_of p))

-- a place of a typed function at which these operands stand
pub record Standing (m : Module) (n : ℕ) (f : Func) (t : Typed m n f) (p : Place) (ts : List ValType) : Type 0 where
  pub spot : Spot
  pub there : spot_at (body_in m n f t) p ≡ Some spot
  pub kinds : spot_kinds (scope_in m n f t) spot ≡ Some ts

pub standing : (m : Module) (n : ℕ) (f : Func) (t : Typed m n f) (p : Place) (ts : List ValType) → function_kinds m n p ≡ Some ts → Standing m n f t p ts
standing m n f t p ts e =
    let here : kinds_at (scope_in m n f t) (body_in m n f t) p ≡ Some ts = sym (ap (λ (o : Option Body). o >>= λ c. kinds_at c.scope c.sequence p) t.body) ∙ e in
    let w = bind_some (spot_at (body_in m n f t) p) (spot_kinds (scope_in m n f t)) ts here in
    record { spot = w.0; there = w.1; kinds = w.2 }

pub room_at : (m : Module) → Valid m → (n : ℕ) (f : Func) (h : ℕ) → slice_get m.funcs n ≡ Some f → IsHeight m f h → (p : Place) (ts : List ValType) → function_kinds m n p ≡ Some ts → length ts ≤ max h 1
room_at m v n f h at height p ts e =
    let t : Typed m n f = typed_function m n f v at in
    let s : Standing m n f t p ts = standing m n f t p ts e in
    room (context_of m n f t) (code_of f.body) (first_of t.type.results) t.whole t.labels_are p s.spot ts (place_kept m n f t p s.spot ts s.there s.kinds) h
    (λ path i is us l. height.none_higher (length us) (record { path = path; instruction = i; others = is; operands = us; reached = (t.type, t.named, l); so_many = refl }))

pub no_float_at : (m : Module) → Valid m → HasNoFloat m → (n : ℕ) (p : Place) (ts : List ValType) → function_kinds m n p ≡ Some ts → NoItem is_float ts
no_float_at m v free n p ts e = by_function (slice_get m.funcs n) refl
  where
    by_function : (o : Option Func) → slice_get m.funcs n ≡ o → NoItem is_float ts
    by_function None at =
        let none : function_kinds m n p ≡ None = ap (λ (o : Option Func). (o >>= λ f. option_map (body_of m f) (function_type m f)) >>= λ b. kinds_at b.scope b.sequence p) at in
        absurd (let w : None ≡ Some ts = sym none ∙ e in cc)
    by_function (Some f) at =
        let t : Typed m n f = typed_function m n f v at in
        let s : Standing m n f t p ts = standing m n f t p ts e in
        let own : has_float_function f ≡ false = none_of has_float_function m.funcs n f free.functions at in
        let code : has_float_code (code_of f.body) ≡ false = (or_false (list_any is_float_run f.locals) (has_float_code (code_of f.body)) own).1 in
        spot_free (scope_in m n f t) (scope_free m n f t.type free at t.named) (first_of t.type.results) (code_of f.body) (free_code (code_of f.body) code) p s.spot ts s.there s.kinds

pub spot_typed : (m : Module) → Valid m → (n : ℕ) (f : Func) (t : FuncType) → slice_get m.funcs n ≡ Some f → function_type m f ≡ Some t
    → (p : Place) (x : Spot) (ts : List ValType) → spot_at (body_of m f t).sequence p ≡ Some x → spot_kinds (body_of m f t).scope x ≡ Some ts → IsTypedSpot (body_context m f t) x
spot_typed m v n f t at named p x ts e u =
    let w : Typed m n f = typed_function m n f v at in
    let also : function_type m f ≡ Some w.type = w.named in
    let same : w.type ≡ t = some_of w.type t (sym also ∙ named) in
    let k = place_kept m n f w p x ts (subst (λ (y : FuncType). spot_at (body_of m f y).sequence p ≡ Some x) (sym same) e) (subst (λ (y : FuncType). spot_kinds (body_of m f y).scope x ≡ Some ts) (sym same) u) in
    let typed : TypesCode x.code (with_labels (labels_at x.levels) (body_context m f w.type)) k.own (ends_at x.levels) =
    subst (λ (D : Context). TypesCode x.code D k.own (ends_at x.levels)) k.is (subst (λ (l : List ValType). TypesCode x.code k.context k.own l) k.ends_are k.typed) in
    let here : IsTypedSpot (body_context m f w.type) x = record { own = k.own; kinds = k.own_is; typed = typed } in
    subst (λ (y : FuncType). IsTypedSpot (body_context m f y) x) same here
