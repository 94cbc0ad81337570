-- Where the ways on from the places of a piece lead: to cuts that are found by their paths, or to the next place.
use Rattle.std.proofs.Common.{◌≡◌, ℕ, suc, ◌+◌, ◌≤◌, ◌<◌, ◌⊎◌, inl, inr, List, [], ◌∷◌, ◌++◌, drop, true, Option, Some, None, option_map, refl, sym, ap, ◌∙◌, subst, arith}
use Rattle.std.specs.Prelude.{slice_get, option_to_list}
use Rattle.std.specs.List.{Contains}
use mathlib.Core.Logic.{⊎_elim}
use Rattle.wm_ast.specs.declared.module.ValType.{ValType}
use Rattle.wm_ast.specs.declared.module.Func.{Func}
use Rattle.wm_ast.specs.declared.module.Module.{Module}
use Rattle.wm_ast.specs.Code.{Op, loop, if_else, const, Code, nil, cons}
use Rattle.wm_ast.specs.Types.{const_type}
use Rattle.wm_valid.specs.Height.{Low}
use Rattle.wm_valid.specs.Typing.{Context, EachTakes, TypesCode, Scope}
use Rattle.wm_valid.specs.Valid.{Valid}
use Rattle.wm_flat.specs.Program.{IsProgram}
use Rattle.wm_valid.specs.Arrows.{arrow, by_arrow, change}
use Rattle.wm_valid.specs.PlaceReading.{run}
use Rattle.wm_place.specs.Place.{next, path_of, place_of}
use Rattle.wm_place.specs.Spot.{level, Sequence, Spot, spot, followed_by, labels_at, spot_at}
use Rattle.wm_place.specs.Kinds.{stays_under, under, Body, body_of, function_body}
use Rattle.wm_place.specs.Visit.{Around, blocks_of, Visit, body_visits, function_visits}
use Rattle.wm_place.proofs.HeldLemmas.{over_is}
use Rattle.wm_place.proofs.KindLemmas.{Typed, scope_in, body_in, place_kept}
use Rattle.wm_place.proofs.PathLemmas.{told}
use Rattle.wm_place.proofs.SpotLemmas.{find_next}
use Rattle.cc_cut.specs.declared.table.Cut.{Cut}
use Rattle.cc_cut.specs.Cost.{ends_piece, is_repeated}
use Rattle.cc_cut.specs.Way.{Way, way, path_behind, block_path, landing, labelled, branch, left_by, ways, all_ways}
use Rattle.cc_cut.specs.Piece.{place_cost, is_cut, Piece, places_in, up_to_cut, pieces_from, pieces, function_pieces, index_of}
use Rattle.cc_cut.specs.Cuts.{exits_from, cut_for, body_cuts, function_cuts}
use Rattle.cc_cut.specs.Law.{IsExit, IsNext, AllLead, IsConstantAt, AreConstant, top_rank, rank}
use Rattle.cc_cut.proofs.ListLemmas.{In, in_left, in_right, contains, among, some_of, in_get, get_in}
use Rattle.cc_cut.proofs.VisitLemmas.{Visited, visited}
use Rattle.cc_cut.proofs.ChainLemmas.{CodeFollows, Follows, Chain}
use Rattle.cc_cut.proofs.CostLemmas.{ends_no_jump}
use Rattle.cc_cut.proofs.WayLemmas.{next_path, Begun, branch_begun, arm_begun, ends_begun, here_begun}
use Rattle.cc_cut.proofs.PieceLemmas.{by_bool, piece_at, by_cut, cut_among}
use Rattle.cc_cut.proofs.IndexLemmas.{Rises, visits_rise, other_path, Named, index_tells, index_found}
use Rattle.cc_cut.proofs.CutLemmas.{all_visits, all_pieces, in_chain, Target, begun_target, pieces_lead_on}
use Rattle.cc_cut.proofs.LawLemmas.{cuts_are_of_pieces, places_tell}
use Rattle.cc_cut.proofs.RankLemmas.{ranks_rise, ranks_low}
use Rattle.cc_move.specs.Law.{BranchesTo, by_br, by_br_if, by_br_table}
use Rattle.cc_pieces.specs.Fetching.{most_fetches}
use Rattle.cc_body.specs.Behind.{last_op}
use Rattle.cc_simulate.specs.Callers.{IsPieceOf}
use Rattle.cc_simulate.specs.Law.{CutsHavePieces}

-- ---- each cut has its piece

pub cuts_have_pieces : CutsHavePieces
cuts_have_pieces m n c h = by_found (function_body m n) refl
  where
    by_found : (o : Option Body) → function_body m n ≡ o → (q : Piece) × IsPieceOf m n c q
    by_found None e = absurd (among [] c (subst (λ (cs : List Cut). Contains cs c) (ap (body_cuts n) e) h))
    by_found (Some b) e =
        let i = get_in (function_cuts m n) c (among (function_cuts m n) c h) in
        let w = (cuts_are_of_pieces m n b e i.0).1 c i.1 in
        (w.0, record { position = i.0; is_index = ap (λ (x : Cut). x.index) w.2; is_piece = w.1 })

-- a cut is where its piece begins
pub record Begins (m : Module) (n : ℕ) (b : Body) (c : Cut) (q : Piece) : Type 0 where
  pub place : c.place ≡ q.cut.path
  pub piece : Contains (function_pieces m n) q

pub begins : (m : Module) (n : ℕ) (b : Body) → function_body m n ≡ Some b → (c : Cut) → Contains (function_cuts m n) c → (q : Piece) → IsPieceOf m n c q → Begins m n b c q
begins m n b e c h q k =
    let i = get_in (function_cuts m n) c (among (function_cuts m n) c h) in
    let w = (cuts_are_of_pieces m n b e i.0).1 c i.1 in
    let index : suc i.0 ≡ suc k.position = ap (λ (x : Cut). x.index) (sym w.2) ∙ k.is_index in
    let same : i.0 ≡ k.position = omega arith in
    let piece : w.0 ≡ q = some_of w.0 q (sym w.1 ∙ (ap (slice_get (function_pieces m n)) same ∙ k.is_piece)) in
    record {
      place = ap (λ (x : Cut). x.place) w.2 ∙ ap (λ (p : Piece). p.cut.path) piece;
      piece = contains (function_pieces m n) q (in_get (function_pieces m n) k.position q k.is_piece);
    }

-- ---- what follows a constant in a piece

-- the next place stands behind it
abbrev pub Behind : Visit → List Visit → Type 0
Behind v [] = Unit {0}
Behind v (x ∷ xs) = IsConstantAt v.rest → x.path ≡ path_behind v.path

abbrev pub Constants : List Visit → Type 0
Constants [] = Unit {0}
Constants (v ∷ vs) = Behind v vs × Constants vs

constant_behind : (S : Scope) (v x : Visit) (xs : List Visit) → Follows S v (x ∷ xs) → IsConstantAt v.rest → x.path ≡ path_behind v.path
constant_behind S v x xs follows c = by_code v.rest follows c
  where
    by_code : (d : Code) → CodeFollows S d v (x ∷ xs) → IsConstantAt d → x.path ≡ path_behind v.path
    by_code nil h c = absurd c
    by_code (cons (const z) is) h c = (h (by_arrow (arrow [] (const_type z ∷ []))) refl).0
    by_code (cons _ is) h c = absurd c

constants_up : (S : Scope) (vs : List Visit) (spent : ℕ) (v : Visit) → Chain S (v ∷ vs) → Constants (v ∷ up_to_cut spent vs)
constants_up S [] spent v h = (tt, tt)
constants_up S (x ∷ xs) spent v h =
    by_bool (is_cut spent x) [] (x ∷ up_to_cut (spent + place_cost x) xs) (λ ys. Constants (v ∷ ys)) (λ c. (tt, tt))
    (λ c. ((λ d. constant_behind S v x xs h.0 d), constants_up S xs (spent + place_cost x) x h.1))

up_within : (vs : List Visit) (spent : ℕ) (x : Visit) → In x (up_to_cut spent vs) → In x vs
up_within [] spent x h = absurd h
up_within (v ∷ vs) spent x h =
    by_bool (is_cut spent v) [] (v ∷ up_to_cut (spent + place_cost v) vs) (λ ys. In x ys → In x (v ∷ vs)) (λ c g. absurd g)
    (λ c g. ⊎_elim (λ (e : v ≡ x). inl e) (λ (i : In x (up_to_cut (spent + place_cost v) vs)). inr (up_within vs (spent + place_cost v) x i)) g) h

-- the places of a piece are places of the body
abbrev pub Within : List Visit → List Visit → Type 0
Within vs all = (x : Visit) → In x vs → In x all

piece_within : (v : Visit) (vs : List Visit) → Within (places_in (piece_at v vs)) (v ∷ vs)
piece_within v vs x (inl e) = inl e
piece_within v vs x (inr i) = inr (up_within vs (place_cost v) x i)

later : (v : Visit) (ys vs : List Visit) → Within ys vs → Within ys (v ∷ vs)
later v ys vs h x i = inr (h x i)

places_are : (S : Scope) (vs : List Visit) (spent : ℕ) (p : Piece) → In p (pieces_from spent vs) → Chain S vs → Within (places_in p) vs × Constants (places_in p)
places_are S [] spent p h c = absurd h
places_are S (v ∷ vs) spent p h c =
    by_cut spent v vs (λ ps. In p ps → Within (places_in p) (v ∷ vs) × Constants (places_in p))
    (λ d g. ⊎_elim
    (λ (e : piece_at v vs ≡ p). subst (λ (q : Piece). Within (places_in q) (v ∷ vs) × Constants (places_in q)) e (piece_within v vs, constants_up S vs (place_cost v) v c))
    (λ (i : In p (pieces_from (place_cost v) vs)). let w = places_are S vs (place_cost v) p i c.1 in (later v (places_in p) vs w.0, w.1)) g)
    (λ d g. let w = places_are S vs (spent + place_cost v) p g c.1 in (later v (places_in p) vs w.0, w.1)) h

-- ---- labels

pub each_at : (ls : List ℕ) (last l : ℕ) (labels : List (List ValType)) (ts : List ValType) → EachTakes ls labels ts → slice_get labels last ≡ Some ts → In l (ls ++ last ∷ []) → slice_get labels l ≡ Some ts
each_at [] last l labels ts e k (inl s) = subst (λ (x : ℕ). slice_get labels x ≡ Some ts) s k
each_at [] last l labels ts e k (inr h) = absurd h
each_at (x ∷ ls) last l labels ts e k (inl s) = subst (λ (y : ℕ). slice_get labels y ≡ Some ts) s e.0
each_at (x ∷ ls) last l labels ts e k (inr h) = each_at ls last l labels ts e.1 k h

-- the label of a branch
label_at : (i : Op) (is : Code) (l k : ℕ) (D : Context) (own ends : List ValType) → BranchesTo i l k → TypesCode (cons i is) D own ends
    → (label : List ValType) × (slice_get D.labels l ≡ Some label)
label_at i is l k D own ends (by_br x) (takes, gives, b, (label, z, at, e), g, others) = (label, at)
label_at i is l k D own ends (by_br_if x) (takes, gives, b, (label, at, e), g, others) = (label, at)
label_at i is l k D own ends (by_br_table ls last x h) (takes, gives, b, (label, z, at, each, e), g, others) =
    (label, each_at ls last x D.labels label each at (among (ls ++ last ∷ []) x h))

landing_to : (op : Op) (path : List ℕ) (k : ℕ) (ts us : List ValType) → (landing op path k ts).to ≡ (landing op path k us).to
landing_to (loop ty body) path k ts us = refl
landing_to _ path k ts us = refl

-- the last instruction of a sequence and one more
last_ends : (c : Code) (i : Op) → last_op (followed_by c i) ≡ Some i
last_ends nil i = refl
last_ends (cons j nil) i = refl
last_ends (cons j (cons k ks)) i = last_ends (cons k ks) i

-- ---- cuts by their paths

-- the cut of an index, at a path, and its piece
pub record CutAt (m : Module) (n j : ℕ) (path : List ℕ) : Type 0 where
  pub cut : Cut
  pub is_cut : Contains (function_cuts m n) cut
  pub place : cut.place ≡ path
  pub index : cut.index ≡ j
  pub piece : Piece
  pub is_piece : In piece (function_pieces m n)
  pub begins : piece.cut.path ≡ path

-- a path at which a piece begins
abbrev pub HasIndex : Module → ℕ → List ℕ → Type 0
HasIndex m n path = (j : ℕ) × (index_of (function_pieces m n) path ≡ Some j)

module _ (m : Module) (n : ℕ) (f : Func) (t : Typed m n f) where
  abbrev S : Scope
  S = scope_in m n f t

  abbrev all : List Visit
  all = all_visits m n f t

  pub visits_are : function_visits m n ≡ all_visits m n f t
  visits_are = ap body_visits t.body

  pub pieces_are : function_pieces m n ≡ all_pieces m n f t
  pieces_are = ap pieces visits_are

  -- a piece's cut is a place of the body
  pub cut_listed : (q : Piece) → In q (function_pieces m n) → In q.cut (all_visits m n f t)
  cut_listed q h = cut_among (all_visits m n f t) 0 q (subst (λ (ps : List Piece). In q ps) pieces_are h)

  pub cut_at : (j : ℕ) (path : List ℕ) → index_of (function_pieces m n) path ≡ Some j → CutAt m n j path
  cut_at j path e =
      let q : Named (function_pieces m n) 1 path j = index_tells (function_pieces m n) 1 path j e in
      let b : Body = body_of m f t.type in
      let c : Cut = cut_for n b.scope (function_pieces m n) (suc q.at) q.piece in
      let at : slice_get (function_cuts m n) q.at ≡ Some c = (cuts_are_of_pieces m n b t.body q.at).0 q.piece q.there in
      let is : j ≡ 1 + q.at = q.is in
      let index : suc q.at ≡ j = omega arith in
      record {
        cut = c;
        is_cut = contains (function_cuts m n) c (in_get (function_cuts m n) q.at c at);
        place = q.same;
        index = index;
        piece = q.piece;
        is_piece = in_get (function_pieces m n) q.at q.piece q.there;
        begins = q.same;
      }

  pub no_cut_at : (path : List ℕ) → index_of (function_pieces m n) path ≡ None → (c : Cut) → Contains (function_cuts m n) c → c.place ≡ path → ⊥
  no_cut_at path e c h k =
      let i = get_in (function_cuts m n) c (among (function_cuts m n) c h) in
      let found : index_of (function_pieces m n) c.place ≡ Some (suc i.0) = places_tell m n i.0 c i.1 in
      let none : index_of (function_pieces m n) c.place ≡ None = ap (index_of (function_pieces m n)) k ∙ e in
      let w : None ≡ Some (suc i.0) = sym none ∙ found in
      cc

  no_piece_at : (path : List ℕ) → index_of (function_pieces m n) path ≡ None → (p : Piece) → Contains (function_pieces m n) p → p.cut.path ≡ path → ⊥
  no_piece_at path e p h k =
      let i = index_found (function_pieces m n) 1 path p (among (function_pieces m n) p h) k in
      let w : None ≡ Some i.0 = sym e ∙ i.1 in
      cc

  -- ---- where a piece begins in any case

  begun_index : (w : Way) → Begun m n f t w → HasIndex m n w.to
  begun_index w b =
      let a : Target m n f t w = begun_target m n f t w b in
      subst (λ (ps : List Piece). (j : ℕ) × (index_of ps w.to ≡ Some j)) (sym pieces_are) (index_found (all_pieces m n f t) 1 w.to a.piece a.there a.path)

  -- a branch lands where a piece begins
  pub branch_index : (v : Visit) → In v (all_visits m n f t) → (i : Op) (is : Code) (l k : ℕ) (x : Around) (ts : List ValType) → v.rest ≡ cons i is → BranchesTo i l k → labelled v.blocks l ≡ Some x
      → HasIndex m n (landing x.op (block_path v.path x) x.under ts).to
  branch_index v h i is l k x ts e by at =
      let a : Visited S (body_in m n f t) v = visited S (body_in m n f t) v h in
      let y : Spot = a.spot in
      let kept = place_kept m n f t a.place y a.kinds a.there a.reached in
      let code : y.code ≡ cons i is = ap (λ (z : Visit). z.rest) a.is ∙ e in
      let typed : TypesCode (cons i is) kept.context kept.own kept.ends = subst (λ (c : Code). TypesCode c kept.context kept.own kept.ends) code kept.typed in
      let label = label_at i is l k kept.context kept.own kept.ends by typed in
      let labels : kept.context.labels ≡ labels_at y.levels = ap (λ (D : Context). D.labels) kept.is in
      let here : slice_get (labels_at y.levels) l ≡ Some label.0 = ap (λ (ls : List (List ValType)). slice_get ls l) (sym labels) ∙ label.1 in
      let round : labelled (blocks_of S y.levels) l ≡ Some x = ap (λ (z : Visit). labelled z.blocks l) a.is ∙ at in
      let us : List ValType = (label.0 ++ []) ++ kept.below in
      let w : Way = landing x.op (block_path (path_of a.place) x) x.under us in
      let among_them : In w (branch (path_of a.place) (blocks_of S y.levels) us l) =
      subst (λ (o : Option Around). In w (option_to_list (option_map (λ b. landing b.op (block_path (path_of a.place) b) b.under us) o))) (sym round) (inl refl) in
      let begun : Begun m n f t w = branch_begun m n f t a.place y label.0 us [] kept.below l a.there kept.below_is here refl w among_them in
      let same : w.to ≡ (landing x.op (block_path v.path x) x.under ts).to =
      ap (λ (z : Visit). (landing x.op (block_path z.path x) x.under us).to) a.is ∙ landing_to x.op (block_path v.path x) x.under us ts in
      subst (λ (q : List ℕ). HasIndex m n q) same (begun_index w begun)

  -- so does the second arm of an `if`
  pub arm_index : (v : Visit) → In v (all_visits m n f t) → (ty : Option ValType) (one other is : Code) → v.rest ≡ cons (if_else ty one other) is → HasIndex m n (v.path ++ 1 ∷ 0 ∷ [])
  arm_index v h ty one other is e =
      let a : Visited S (body_in m n f t) v = visited S (body_in m n f t) v h in
      let y : Spot = a.spot in
      let kept = place_kept m n f t a.place y a.kinds a.there a.reached in
      let code : y.code ≡ cons (if_else ty one other) is = ap (λ (z : Visit). z.rest) a.is ∙ e in
      let there : spot_at (body_in m n f t) a.place ≡ Some (spot y.levels y.before (cons (if_else ty one other) is)) = a.there ∙ ap (λ (c : Code). Some (spot y.levels y.before c)) code in
      let low : List ValType = drop 1 kept.own ++ kept.below in
      let below : under S (level (Some a.place) y.before (if_else ty one other) is ∷ y.levels) ≡ Some low =
      over_is (option_map (stays_under (if_else ty one other)) (run y.before S [])) (under S y.levels) (drop 1 kept.own) kept.below (ap (option_map (stays_under (if_else ty one other))) kept.own_is) kept.below_is in
      let w : Way = way (path_of a.place ++ 1 ∷ 0 ∷ []) low in
      let begun : Begun m n f t w = arm_begun m n f t a.place y.before ty one other is y.levels low w there below refl refl in
      subst (λ (q : List ℕ). HasIndex m n q) (ap (λ (z : Visit). z.path ++ 1 ∷ 0 ∷ []) a.is) (begun_index w begun)

  -- so does an instruction that may be repeated
  pub here_index : (v : Visit) → In v (all_visits m n f t) → (i : Op) (is : Code) → v.rest ≡ cons i is → is_repeated i ≡ true → HasIndex m n v.path
  here_index v h i is e again =
      let a : Visited S (body_in m n f t) v = visited S (body_in m n f t) v h in
      let y : Spot = a.spot in
      let kept = place_kept m n f t a.place y a.kinds a.there a.reached in
      let code : y.code ≡ cons i is = ap (λ (z : Visit). z.rest) a.is ∙ e in
      let there : spot_at (body_in m n f t) a.place ≡ Some (spot y.levels y.before (cons i is)) = a.there ∙ ap (λ (c : Code). Some (spot y.levels y.before c)) code in
      let w : Way = way (path_of a.place) (kept.own ++ kept.below) in
      let begun : Begun m n f t w = here_begun m n f t a.place y.levels y.before i is kept.own kept.below there kept.own_is kept.below_is again in
      subst (λ (q : List ℕ). HasIndex m n q) (ap (λ (z : Visit). z.path) a.is) (begun_index w begun)

  -- so does what stands behind an instruction that ends a piece
  pub record Next (v : Visit) (i : Op) : Type 0 where
    pub index : ℕ
    pub found : index_of (function_pieces m n) (path_behind v.path) ≡ Some index
    pub before : (x : Visit) → In x (all_visits m n f t) → x.path ≡ path_behind v.path → last_op x.before ≡ Some i

  pub behind_index : (v : Visit) → In v (all_visits m n f t) → (i : Op) (is : Code) → v.rest ≡ cons i is → ends_piece i ≡ true → Next v i
  behind_index v h i is e ends =
      let root : Sequence = body_in m n f t in
      let a : Visited S root v = visited S root v h in
      let y : Spot = a.spot in
      let kept = place_kept m n f t a.place y a.kinds a.there a.reached in
      let code : y.code ≡ cons i is = ap (λ (z : Visit). z.rest) a.is ∙ e in
      let there : spot_at root a.place ≡ Some (spot y.levels y.before (cons i is)) = a.there ∙ ap (λ (c : Code). Some (spot y.levels y.before c)) code in
      let path : path_of a.place ≡ v.path = ap (λ (z : Visit). z.path) a.is in
      let typed : TypesCode (cons i is) kept.context kept.own kept.ends = subst (λ (c : Code). TypesCode c kept.context kept.own kept.ends) code kept.typed in
      let (takes, gives, b, rule, parts, others) = typed in
      let w : Way = way (path_behind (path_of a.place)) (left_by (change i S) (kept.own ++ kept.below)) in
      let begun : Begun m n f t w = ends_begun m n f t a.place y.levels y.before i is kept.own kept.below kept.context takes gives b (ap (λ (D : Context). D.scope) kept.is) there kept.own_is kept.below_is (ends_no_jump i ends) rule parts ends in
      let found : HasIndex m n (path_behind v.path) = subst (λ (q : List ℕ). HasIndex m n (path_behind q)) path (begun_index w begun) in
      record {
        index = found.0;
        found = found.1;
        before = λ x j same.
            let z : Visited S root x = visited S root x j in
            let on : spot_at root (next a.place) ≡ Some (spot y.levels (followed_by y.before i) is) = find_next root a.place y.levels y.before i is there in
            let paths : path_of z.place ≡ path_of (next a.place) = ap (λ (u : Visit). u.path) z.is ∙ (same ∙ (ap path_behind (sym path) ∙ sym (next_path a.place))) in
            let place : z.place ≡ next a.place =
            some_of z.place (next a.place) (sym (told root z.place z.spot z.there) ∙ (ap (place_of root.code) paths ∙ told root (next a.place) (spot y.levels (followed_by y.before i) is) on)) in
            let spot_is : z.spot ≡ spot y.levels (followed_by y.before i) is = some_of z.spot (spot y.levels (followed_by y.before i) is) (sym z.there ∙ (ap (spot_at root) place ∙ on)) in
            ap (λ (u : Visit). last_op u.before) (sym z.is) ∙ (ap (λ (u : Spot). last_op u.before) spot_is ∙ last_ends y.before i);
      }

  -- ---- what is left of a piece

  -- those behind the first are no cuts
  abbrev pub Inner : List Visit → Type 0
  Inner [] = Unit {0}
  Inner (v ∷ vs) = (x : Visit) → In x vs → index_of (function_pieces m n) x.path ≡ None

  -- So much of a rank is owed yet: none, or that of the piece's cut, which lies behind the pieces that fetch arguments,
  -- where only constants were passed.
  abbrev pub Owed : Piece → ℕ → List Visit → Type 0
  Owed q d vs =
      (d ≡ 0)
      ⊎ ((d ≡ suc (most_fetches + suc (rank q.cut))) × (AreConstant vs → AreConstant (places_in q)) × ((w : Way) → In w (all_ways (scope_in m n f t) vs) → In w (all_ways (scope_in m n f t) (places_in q))))

  pub record Rest (q : Piece) (d : ℕ) (vs : List Visit) : Type 0 where
    pub lead : AllLead m n (scope_in m n f t) (exits_from (scope_in m n f t) (function_pieces m n) (places_in q)) vs
    pub within : Within vs (all_visits m n f t)
    pub constants : Constants vs
    pub inner : Inner vs
    pub low : d ≤ 16
    pub heights : Low m
    pub owed : Owed q d vs

  -- no index, where no piece has its cut
  none_found : (path : List ℕ) → ((p : Piece) → In p (all_pieces m n f t) → path ≡ p.cut.path → ⊥) → index_of (function_pieces m n) path ≡ None
  none_found path apart = by_index (index_of (function_pieces m n) path) refl
    where
      by_index : (o : Option ℕ) → index_of (function_pieces m n) path ≡ o → index_of (function_pieces m n) path ≡ None
      by_index None e = e
      by_index (Some j) e =
          let q : Named (function_pieces m n) 1 path j = index_tells (function_pieces m n) 1 path j e in
          absurd (apart q.piece (subst (λ (ps : List Piece). In q.piece ps) pieces_are (in_get (function_pieces m n) q.at q.piece q.there)) (sym q.same))

  pub whole : (program : IsProgram m) → Low m → (q : Piece) → Contains (function_pieces m n) q → Rest q (suc (most_fetches + suc (rank q.cut))) (places_in q)
  whole program low q h =
      let b : Body = body_of m f t.type in
      let there : In q (all_pieces m n f t) = among (all_pieces m n f t) q (subst (λ (ps : List Piece). Contains ps q) pieces_are h) in
      let w = places_are S all 0 q there (in_chain m n f t) in
      let rises : Rises all = visits_rise S (body_in m n f t) in
      let listed : Contains (function_visits m n) q.cut = subst (λ (vs : List Visit). Contains vs q.cut) (sym visits_are) (contains all q.cut (w.0 q.cut (inl refl))) in
      let few : rank q.cut ≤ top_rank = ranks_low m program.valid low n q.cut listed in
      record {
        lead = pieces_lead_on m program.valid n b t.body q h;
        within = w.0;
        constants = w.1;
        inner = λ x j. none_found x.path (λ p k e. other_path all 0 rises q there x j p k e);
        low = omega arith;
        heights = low;
        owed = inr (refl, (λ a. a), (λ y a. a));
      }

  inner_on : (v : Visit) (vs : List Visit) → Inner (v ∷ vs) → Inner vs
  inner_on v [] h = tt
  inner_on v (x ∷ xs) h = λ y i. h y (inr i)

  -- behind a step nothing is owed
  pub rest_on : (q : Piece) (d : ℕ) (v : Visit) (vs : List Visit) → Rest q d (v ∷ vs) → Rest q 0 vs
  rest_on q d v vs l = record {
    lead = l.lead.1;
    within = λ x i. l.within x (inr i);
    constants = l.constants.1;
    inner = inner_on v vs l.inner;
    low = omega arith;
    heights = l.heights;
    owed = inl refl;
  }

  pub rest_constant : (q : Piece) (d : ℕ) (v : Visit) (vs : List Visit) → IsConstantAt v.rest → Rest q d (v ∷ vs) → Rest q d vs
  rest_constant q d v vs c l = record {
    lead = l.lead.1;
    within = λ x i. l.within x (inr i);
    constants = l.constants.1;
    inner = inner_on v vs l.inner;
    low = l.low;
    heights = l.heights;
    owed = ⊎_elim (λ (e : d ≡ 0). inl e)
        (λ (o : (d ≡ suc (most_fetches + suc (rank q.cut))) × (AreConstant (v ∷ vs) → AreConstant (places_in q)) × ((w : Way) → In w (all_ways S (v ∷ vs)) → In w (all_ways S (places_in q)))).
        inr (o.0, (λ a. o.1 (c, a)), (λ w i. o.2 w (in_right w (ways S v) (all_ways S vs) i)))) l.owed;
  }

  -- a way to no cut leads to the next place
  pub to_next : (q : Piece) (d : ℕ) (v : Visit) (vs : List Visit) → Rest q d (v ∷ vs) → (w : Way) → In w (ways (scope_in m n f t) v) → index_of (function_pieces m n) w.to ≡ None → IsNext vs w
  to_next q d v vs l w h e =
      ⊎_elim (λ (x : IsExit m n (exits_from S (function_pieces m n) (places_in q)) w). absurd (no_cut_at w.to e x.cut x.is_cut x.there)) (λ (i : IsNext vs w). i)
      (l.lead.0 w (contains (ways S v) w h))

  -- a constant leads to a piece of as high a rank as is owed
  pub risen : Valid m → (q : Piece) → Contains (function_pieces m n) q → (d : ℕ) (v : Visit) (vs : List Visit) → IsConstantAt v.rest → Rest q d (v ∷ vs) → (w : Way) → In w (ways (scope_in m n f t) v) → w.to ≡ path_behind v.path
      → (p : Piece) → Contains (function_pieces m n) p → p.cut.path ≡ w.to → d ≤ most_fetches + suc (rank p.cut)
  risen valid q g d v [] a l w h to p i e =
      ⊎_elim (λ (z : d ≡ 0). let r : d ≤ most_fetches + suc (rank p.cut) = omega arith in r)
      (λ (o : (d ≡ suc (most_fetches + suc (rank q.cut))) × (AreConstant (v ∷ []) → AreConstant (places_in q)) × ((y : Way) → In y (all_ways S (v ∷ [])) → In y (all_ways S (places_in q)))).
      let is : d ≡ suc (most_fetches + suc (rank q.cut)) = o.0 in
      let there : In w (all_ways S (places_in q)) = o.2 w (in_left w (ways S v) [] h) in
      let up : rank q.cut < rank p.cut =
      ranks_rise m valid l.heights n (body_of m f t.type) t.body q g (o.1 (a, tt)) w (contains (all_ways S (places_in q)) w there) p i e in
      let r : d ≤ most_fetches + suc (rank p.cut) = omega arith in r) l.owed
  risen valid q g d v (x ∷ xs) a l w h to p i e =
      let none : index_of (function_pieces m n) x.path ≡ None = l.inner x (inl refl) in
      absurd (no_piece_at x.path none p i (e ∙ (to ∙ sym (l.constants.0 a))))
