-- The cuts that a function has in any case.
use Rattle.std.proofs.Common.{◌≡◌, ℕ, suc, List, [], ◌∷◌, ◌++◌, drop, reverse, true, Option, Some, option_map, refl, sym, ap, ◌∙◌, subst}
use Rattle.std.specs.Prelude.{slice_get}
use Rattle.std.specs.List.{Contains}
use Rattle.wm_ast.specs.declared.module.ValType.{ValType}
use Rattle.wm_ast.specs.declared.module.Func.{Func}
use Rattle.wm_ast.specs.declared.module.FuncType.{FuncType}
use Rattle.wm_ast.specs.declared.module.Module.{Module}
use Rattle.wm_ast.specs.Code.{Op, block, loop, if_else, Code, nil, cons}
use Rattle.wm_ast.specs.Types.{results_of, function_type}
use Rattle.wm_ast.specs.View.{code_of}
use Rattle.wm_valid.specs.Place.{arm, Inside, LeadsTo, IsReached}
use Rattle.wm_valid.specs.Typing.{Context, TypesCode, under_label, body_context, Scope}
use Rattle.wm_valid.specs.Valid.{Valid}
use Rattle.wm_valid.specs.Arrows.{changed, change}
use Rattle.wm_valid.specs.PlaceReading.{run}
use Rattle.wm_valid.proofs.OperandLaws.{bind_some}
use Rattle.wm_place.specs.Place.{Place, path_of, place_of}
use Rattle.wm_place.specs.Spot.{Level, level, Sequence, Spot, spot, spot_at}
use Rattle.wm_place.specs.Kinds.{stays_under, under, spot_kinds, kinds_at}
use Rattle.wm_place.specs.Visit.{Visit, visit}
use Rattle.wm_place.specs.steps.Walk.{behind, inside_visits, code_visits}
use Rattle.wm_place.proofs.HeldLemmas.{over_is}
use Rattle.wm_place.proofs.KindLemmas.{Typed, typed_function, context_of, scope_in, body_in, place_kept, leads_there}
use Rattle.wm_place.proofs.LevelLemmas.{map_some}
use Rattle.wm_place.proofs.PathLemmas.{tells}
use Rattle.wm_place.proofs.SpotLemmas.{cons_of}
use Rattle.wm_place.proofs.WalkLemmas.{way_is}
use Rattle.cc_cut.specs.declared.table.Cut.{Cut}
use Rattle.cc_cut.specs.Cost.{ends_piece, is_repeated}
use Rattle.cc_cut.specs.Way.{Way, way, path_behind, left_by}
use Rattle.cc_cut.specs.Piece.{Piece, pieces}
use Rattle.cc_cut.specs.Cuts.{cut_for, cuts_in, body_cuts, function_cuts}
use Rattle.cc_cut.specs.Law.{HasCutAt, HasRules}
use Rattle.cc_cut.proofs.ListLemmas.{In, contains, some_of, get_in, in_get}
use Rattle.cc_cut.proofs.WayLemmas.{Begun, loop_begun, arm_begun, ends_begun, here_begun}
use Rattle.cc_cut.proofs.PieceLemmas.{piece_at}
use Rattle.cc_cut.proofs.CostLemmas.{ends_no_jump}
use Rattle.cc_cut.proofs.CutLemmas.{cut_get, all_visits, all_pieces, Target, begun_target}

-- ---- what follows at a place that a path tells

same_arm : (k : ℕ) (a b x y : Code) → arm k a b ≡ Some x → arm k a b ≡ Some y → x ≡ y
same_arm k a b x y e g = some_of x y (sym e ∙ g)

one_follows : (path : List ℕ) (c : Code) (C D : Context) (a b below low : List ValType) (rest others : Code) (ts us : List ValType) → LeadsTo path c C a below rest ts → LeadsTo path c D b low others us → rest ≡ others
one_follows [] c C D a b below low rest others ts us h g = absurd h
one_follows (n ∷ []) c C D a b below low rest others ts us (own, l, e) (mine, r, k) = some_of rest others (sym l.follows ∙ r.follows)
one_follows (n ∷ k ∷ path) c C D a b below low rest others ts us (own, i, is, l, h) (mine, j, js, r, g) =
    let same = cons_of i j is js (some_of (cons i is) (cons j js) (sym l.follows ∙ r.follows)) in
    by_op i h (subst (λ (o : Op). Inside o k D mine low (λ d E x. LeadsTo (k ∷ path) d E [] x others us) (λ d E x. LeadsTo path d E [] x others us)) (sym same.0) g)
    (λ d E F x y. one_follows (k ∷ path) d E F [] [] x y rest others ts us)
    (λ d E F x y. one_follows path d E F [] [] x y rest others ts us)
  where
    by_op : (i : Op) → Inside i k C own below (λ d E x. LeadsTo (k ∷ path) d E [] x rest ts) (λ d E x. LeadsTo path d E [] x rest ts)
        → Inside i k D mine low (λ d E x. LeadsTo (k ∷ path) d E [] x others us) (λ d E x. LeadsTo path d E [] x others us)
        → ((d : Code) (E F : Context) (x y : List ValType) → LeadsTo (k ∷ path) d E [] x rest ts → LeadsTo (k ∷ path) d F [] y others us → rest ≡ others)
        → ((d : Code) (E F : Context) (x y : List ValType) → LeadsTo path d E [] x rest ts → LeadsTo path d F [] y others us → rest ≡ others)
        → rest ≡ others
    by_op (block ty d) h g of_body of_arm = of_body d (under_label (results_of ty) C) (under_label (results_of ty) D) (own ++ below) (mine ++ low) h g
    by_op (loop ty d) h g of_body of_arm = of_body d (under_label [] C) (under_label [] D) (own ++ below) (mine ++ low) h g
    by_op (if_else ty x y) (kept, d, e, chosen, h) (kept2, d2, e2, chosen2, g) of_body of_arm =
        of_arm d (under_label (results_of ty) C) (under_label (results_of ty) D) (kept ++ below) (kept2 ++ low) h
        (subst (λ (z : Code). LeadsTo path z (under_label (results_of ty) D) [] (kept2 ++ low) others us) (same_arm k x y d2 d chosen2 chosen) g)
    by_op _ h g of_body of_arm = absurd h

-- ---- a function of a valid module

module _ (m : Module) (n : ℕ) (f : Func) (t : Typed m n f) where
  abbrev S : Scope
  S = scope_in m n f t

  abbrev root : Sequence
  root = body_in m n f t

  -- a place that is reached, at which this stands
  record At (path : List ℕ) (rest : Code) : Type 0 where
    pub place : Place
    pub lvs : List Level
    pub before : Code
    pub own : List ValType
    pub below : List ValType
    pub ends : List ValType
    pub context : Context
    pub same : context.scope ≡ S
    pub path_is : path_of place ≡ path
    pub there : spot_at root place ≡ Some (spot lvs before rest)
    pub ran : run before S [] ≡ Some own
    pub below_is : under S lvs ≡ Some below
    pub typed : TypesCode rest context own ends

  at : (path : List ℕ) (rest : Code) (ts : List ValType) → IsReached m f path rest ts → At path rest
  at path rest ts (u, named, leads) =
      let also : function_type m f ≡ Some t.type = t.named in
      let same : u ≡ t.type = some_of u t.type (sym named ∙ also) in
      let here : LeadsTo path (code_of f.body) (context_of m n f t) [] [] rest ts = subst (λ (y : FuncType). LeadsTo path (code_of f.body) (body_context m f y) [] [] rest ts) same leads in
      let a = bind_some (place_of root.code path) (λ p. option_map reverse (kinds_at S root p)) (reverse ts) (leads_there m n f t path rest ts here) in
      let p : Place = a.0 in
      let b = map_some reverse (kinds_at S root p) (reverse ts) a.2 in
      let d = bind_some (spot_at root p) (spot_kinds S) b.0 b.1 in
      let x : Spot = d.0 in
      let path_is : path_of p ≡ path = (tells root path p a.1).leads in
      let k = place_kept m n f t p x b.0 d.1 d.2 in
      let found : LeadsTo path (code_of f.body) (context_of m n f t) [] [] x.code b.0 = subst (λ (q : List ℕ). LeadsTo q (code_of f.body) (context_of m n f t) [] [] x.code b.0) path_is k.leads in
      let code : x.code ≡ rest = one_follows path (code_of f.body) (context_of m n f t) (context_of m n f t) [] [] [] [] x.code rest b.0 ts found here in
      record {
        place = p;
        lvs = x.levels;
        before = x.before;
        own = k.own;
        below = k.below;
        ends = k.ends;
        context = k.context;
        same = ap (λ (D : Context). D.scope) k.is;
        path_is = path_is;
        there = d.1 ∙ ap (λ (c : Code). Some (spot x.levels x.before c)) code;
        ran = k.own_is;
        below_is = k.below_is;
        typed = subst (λ (c : Code). TypesCode c k.context k.own k.ends) code k.typed;
      }

  -- a place at which a piece begins is a cut
  cut_at : (w : Way) (path : List ℕ) → Begun m n f t w → w.to ≡ path → HasCutAt m n path
  cut_at w path b e =
      let a : Target m n f t w = begun_target m n f t w b in
      let ps : List Piece = all_pieces m n f t in
      let i = get_in ps a.piece a.there in
      let c : Cut = cut_for n S ps (suc i.0) a.piece in
      let there : In c (cuts_in n S (all_visits m n f t)) = in_get (cuts_in n S (all_visits m n f t)) i.0 c (cut_get n S ps i.0 ∙ ap (option_map (cut_for n S ps (suc i.0))) i.1) in
      (c, subst (λ (cs : List Cut). Contains cs c) (sym (ap (body_cuts n) t.body)) (contains (cuts_in n S (all_visits m n f t)) c there), a.path ∙ e)

  under_at : (path : List ℕ) (i : Op) (is : Code) (a : At path (cons i is)) → under S (level (Some a.place) a.before i is ∷ a.lvs) ≡ Some (stays_under i a.own ++ a.below)
  under_at path i is a =
      over_is (option_map (stays_under i) (run a.before S [])) (under S a.lvs) (stays_under i a.own) a.below (ap (λ (o : Option (List ValType)). option_map (stays_under i) o) a.ran) a.below_is

  loop_cut : (path : List ℕ) (ty : Option ValType) (body is : Code) (ts : List ValType) → IsReached m f path (cons (loop ty body) is) ts → HasCutAt m n (path ++ 0 ∷ [])
  loop_cut path ty body is ts r =
      let a : At path (cons (loop ty body) is) = at path (cons (loop ty body) is) ts r in
      let w : Way = way (path ++ 0 ∷ []) (a.own ++ a.below) in
      cut_at w (path ++ 0 ∷ []) (loop_begun m n f t a.place a.before ty body is a.lvs (a.own ++ a.below) w a.there (under_at path (loop ty body) is a) (ap (λ (q : List ℕ). q ++ 0 ∷ []) (sym a.path_is)) refl) refl

  arm_cut : (path : List ℕ) (ty : Option ValType) (one other is : Code) (ts : List ValType) → IsReached m f path (cons (if_else ty one other) is) ts → HasCutAt m n (path ++ 1 ∷ 0 ∷ [])
  arm_cut path ty one other is ts r =
      let a : At path (cons (if_else ty one other) is) = at path (cons (if_else ty one other) is) ts r in
      let w : Way = way (path ++ 1 ∷ 0 ∷ []) (drop 1 a.own ++ a.below) in
      cut_at w (path ++ 1 ∷ 0 ∷ [])
      (arm_begun m n f t a.place a.before ty one other is a.lvs (drop 1 a.own ++ a.below) w a.there (under_at path (if_else ty one other) is a) (ap (λ (q : List ℕ). q ++ 1 ∷ 0 ∷ []) (sym a.path_is)) refl) refl

  end_cut : (path : List ℕ) (i : Op) (is : Code) (ts : List ValType) → IsReached m f path (cons i is) ts → ends_piece i ≡ true → HasCutAt m n (path_behind path)
  end_cut path i is ts r ends =
      let a : At path (cons i is) = at path (cons i is) ts r in
      let (takes, gives, b, rule, k, others) = a.typed in
      let w : Way = way (path_behind (path_of a.place)) (left_by (change i S) (a.own ++ a.below)) in
      cut_at w (path_behind path) (ends_begun m n f t a.place a.lvs a.before i is a.own a.below a.context takes gives b a.same a.there a.ran a.below_is (ends_no_jump i ends) rule k ends)
      (ap path_behind a.path_is)

  here_cut : (path : List ℕ) (i : Op) (is : Code) (ts : List ValType) → IsReached m f path (cons i is) ts → is_repeated i ≡ true → HasCutAt m n path
  here_cut path i is ts r again =
      let a : At path (cons i is) = at path (cons i is) ts r in
      cut_at (way (path_of a.place) (a.own ++ a.below)) path (here_begun m n f t a.place a.lvs a.before i is a.own a.below a.there a.ran a.below_is again) a.path_is

  -- the body's first place
  first_piece : (c : Code) → (p : Piece) × (slice_get (pieces (code_visits S [] [] 0 nil c [] [])) 0 ≡ Some p) × (p.cut.path ≡ 0 ∷ [])
  first_piece nil = (piece_at (visit (0 ∷ []) [] [] nil nil) [], refl, refl)
  first_piece (cons i is) =
      (piece_at (visit (0 ∷ []) [] [] nil (cons i is)) (inside_visits S [] [] 0 i is [] [] ++ behind (change i S) (λ e. code_visits S [] [] 1 (cons i nil) is (changed e []) [])), refl, refl)

  first_cut : (c : Cut) × (slice_get (function_cuts m n) 0 ≡ Some c) × (c.place ≡ 0 ∷ []) × (c.index ≡ 1)
  first_cut =
      let ps : List Piece = all_pieces m n f t in
      let w = first_piece root.code in
      let there : slice_get ps 0 ≡ Some w.0 = ap (λ (vs : List Visit). slice_get (pieces vs) 0) (way_is S root refl refl) ∙ w.1 in
      (cut_for n S ps 1 w.0, ap (λ (cs : List Cut). slice_get cs 0) (ap (body_cuts n) t.body) ∙ (cut_get n S ps 0 ∙ ap (option_map (cut_for n S ps 1)) there), w.2, refl)

  pub rules_of : HasRules m n f
  rules_of = record { first = first_cut; loops = loop_cut; second_arms = arm_cut; ends = end_cut; here = here_cut }

pub cuts_have_rules : (m : Module) → Valid m → (n : ℕ) (f : Func) → slice_get m.funcs n ≡ Some f → HasRules m n f
cuts_have_rules m valid n f e = rules_of m n f (typed_function m n f valid e)
