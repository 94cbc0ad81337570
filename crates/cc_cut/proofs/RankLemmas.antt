-- Ranks, and the room in frames.
use Rattle.std.proofs.Common.{◌≡◌, ℕ, suc, ◌+◌, ◌*◌, ◌/◌, ◌≤◌, ◌<◌, inl, inr, max, List, [], ◌∷◌, ◌++◌, length, reverse, Bool, true, false, Option, Some, None, refl, sym, ap, ◌∙◌, subst, arith}
use Rattle.std.specs.Prelude.{slice_get, ◌||◌, nat_lt}
use Rattle.std.specs.List.{Contains}
use Rattle.std.proofs.Math.Nat.{le-max_right}
use Rattle.std.proofs.lemmas.Bool.{ltb-true}
use Rattle.std.proofs.lemmas.List.{length-reverse}
use mathlib.Core.Logic.{⊎_elim}
use Rattle.wm_ast.specs.declared.module.ValType.{ValType}
use Rattle.wm_ast.specs.declared.module.ValType.TheVariants.{I32, I64, F32, F64}
use Rattle.wm_ast.specs.declared.module.Func.{Func}
use Rattle.wm_ast.specs.declared.module.FuncType.{FuncType}
use Rattle.wm_ast.specs.declared.module.Module.{Module}
use Rattle.wm_ast.specs.Code.{const, Code, nil, cons}
use Rattle.wm_ast.specs.Types.{const_type, run_types, function_type}
use Rattle.wm_valid.specs.Height.{IsHeight, Low, IsLow}
use Rattle.wm_valid.specs.Valid.{Valid}
use Rattle.wm_valid.specs.Typing.{Scope}
use Rattle.wm_valid.specs.Arrows.{◌>>=◌, arrow, by_arrow}
use Rattle.wm_place.specs.Spot.{Spot, followed_by}
use Rattle.wm_place.specs.Kinds.{Body, first_of, spot_kinds, kinds_at, function_body, function_kinds}
use Rattle.wm_place.specs.Visit.{Visit, visits, body_visits, function_visits}
use Rattle.wm_place.proofs.HeldLemmas.{room}
use Rattle.wm_place.proofs.KindLemmas.{Typed, typed_function, context_of, scope_in, body_in, place_kept, room_at}
use Rattle.wm_ast.specs.View.{code_of}
use Rattle.cc_line.specs.Place.{score_places}
use Rattle.cc_cut.specs.Cost.{full, constant_cost}
use Rattle.cc_cut.specs.Way.{Way, way, path_behind, code_ways, ways, all_ways}
use Rattle.cc_cut.specs.Piece.{begins_at, begins_before, place_cost, is_cut, Piece, places_in, up_to_cut, pieces_from, pieces, function_pieces}
use Rattle.cc_cut.specs.Law.{IsNext, IsConstantAt, AreConstant, rank_height, top_rank, rank_by, rank, width, widths, frame_places}
use Rattle.cc_cut.proofs.ListLemmas.{In, in_either, among}
use Rattle.cc_cut.proofs.VisitLemmas.{Visited, visited, same_visit}
use Rattle.cc_cut.proofs.ChainLemmas.{Chain, Follows, CodeFollows, HeadBehind}
use Rattle.cc_cut.proofs.BlockLemmas.{begins_next}
use Rattle.cc_cut.proofs.WayLemmas.{Begun, next_is, ways_lead}
use Rattle.cc_cut.proofs.PieceLemmas.{by_bool, piece_at, by_cut, cut_among}
use Rattle.cc_cut.proofs.IndexLemmas.{Rises, visits_rise, other_path}
use Rattle.cc_cut.proofs.CostLemmas.{constant_low}
use Rattle.cc_cut.proofs.CutLemmas.{Has, has, all_visits, in_chain}

-- ---- behind a constant

-- it is the next place, one operand more stands there, and a piece begins there only before what may be repeated
abbrev pub OneMore : Visit → List Visit → Type 0
OneMore v [] = ⊥
OneMore v (x ∷ xs) = (x.path ≡ path_behind v.path) × (length x.kinds ≡ suc (length v.kinds)) × (begins_at x.before x.path x.blocks ≡ false)

module _ (m : Module) (n : ℕ) (f : Func) (t : Typed m n f) where
  abbrev S : Scope
  S = scope_in m n f t

  abbrev all : List Visit
  all = all_visits m n f t

  constant_next : (v : Visit) → In v all → (vs : List Visit) → ((x : Visit) → In x vs → In x all) → Follows S v vs → IsConstantAt v.rest → OneMore v vs
  constant_next v h vs within follows c = by_code v.rest refl vs within follows c
    where
      more : (ty : ValType) (ks xs : List ValType) → xs ≡ reverse (ty ∷ reverse ks) → length xs ≡ suc (length ks)
      more ty ks xs e =
          let a : length (reverse (ty ∷ reverse ks)) ≡ length (ty ∷ reverse ks) = length-reverse (ty ∷ reverse ks) in
          let b : length (reverse ks) ≡ length ks = length-reverse ks in
          ap length e ∙ (a ∙ ap suc b)

      by_code : (d : Code) → v.rest ≡ d → (vs : List Visit) → ((x : Visit) → In x vs → In x all) → CodeFollows S d v vs → IsConstantAt d → OneMore v vs
      by_code nil e vs within follows c = absurd c
      by_code (cons (const z) is) e [] within follows c = absurd (follows (by_arrow (arrow [] (const_type z ∷ []))) refl)
      by_code (cons (const z) is) e (x ∷ xs) within follows c =
          let beh : HeadBehind (x ∷ xs) (path_behind v.path) (followed_by v.before (const z)) = follows (by_arrow (arrow [] (const_type z ∷ []))) refl in
          let w : Way = way (path_behind v.path) (const_type z ∷ reverse v.kinds) in
          let among_ways : In w (ways S v) = subst (λ (d : Code). In w (code_ways S d v.path v.blocks (reverse v.kinds))) (sym e) (inl refl) in
          let follows_v : Follows S v (x ∷ xs) = subst (λ (d : Code). CodeFollows S d v (x ∷ xs)) (sym e) follows in
          let next : IsNext (x ∷ xs) w =
          ⊎_elim (λ (b : Begun m n f t w). next_is m n f t (x ∷ xs) within w b.met beh.0) (λ (i : IsNext (x ∷ xs) w). i)
          (ways_lead m n f t v h (x ∷ xs) within follows_v w among_ways) in
          (beh.0, more (const_type z) v.kinds x.kinds next.1, ap (λ (d : Code). begins_at d x.path x.blocks) beh.1 ∙ begins_next v.before (const z) x.path x.blocks)
      by_code (cons _ is) e vs within follows c = absurd c

  -- a constant leads to the next place alone
  constant_way : (v : Visit) → IsConstantAt v.rest → (w : Way) → In w (ways S v) → path_behind v.path ≡ w.to
  constant_way v c w h = by_code v.rest c h
    where
      by_code : (d : Code) → IsConstantAt d → In w (code_ways S d v.path v.blocks (reverse v.kinds)) → path_behind v.path ≡ w.to
      by_code nil c h = absurd c
      by_code (cons (const z) is) c (inl e) = ap (λ (y : Way). y.to) e
      by_code (cons (const z) is) c (inr h) = absurd h
      by_code (cons _ is) c h = absurd c

  by_weight : (a b c : Bool) → a ≡ false → b ≡ false → ((a || b) || c) ≡ true → c ≡ true
  by_weight true b c s r e = absurd cc
  by_weight false true c s r e = absurd cc
  by_weight false false c s r e = e

  -- no constant is repeated
  constant_once : (d : Code) → IsConstantAt d → begins_before d ≡ false
  constant_once nil h = absurd h
  constant_once (cons (const z) is) h = refl
  constant_once (cons _ is) h = absurd h

  -- Places of constants alone lead to a cut that begins with none, or is over many more operands: k of them come to this
  -- weight at most.
  climbs : (vs : List Visit) (v : Visit) (spent k : ℕ) → In v all → ((x : Visit) → In x vs → In x all) → Chain S (v ∷ vs) → spent ≤ constant_cost * k → AreConstant (v ∷ up_to_cut spent vs)
      → (y : Visit) → In y all → ((x : Visit) → In x (up_to_cut spent vs) → x.path ≡ y.path → ⊥) → (w : Way) → In w (all_ways S (v ∷ up_to_cut spent vs)) → y.path ≡ w.to
      → IsConstantAt y.rest → length v.kinds + suc rank_height ≤ length y.kinds + k
  climbs [] v spent k h within chain light c y i other w g e again = absurd (constant_next v h [] within chain.0 c.0)
  climbs (x ∷ xs) v spent k h within chain light c y i other w g e again =
      let next : OneMore v (x ∷ xs) = constant_next v h (x ∷ xs) within chain.0 c.0 in
      let one : length x.kinds ≡ suc (length v.kinds) = next.1 in
      let here : In w (ways S v) → x.path ≡ y.path = λ a. next.0 ∙ (constant_way v c.0 w a ∙ sym e) in
      by_bool (is_cut spent x) [] (x ∷ up_to_cut (spent + place_cost x) xs)
      (λ ys. AreConstant (v ∷ ys) → ((z : Visit) → In z ys → z.path ≡ y.path → ⊥) → In w (all_ways S (v ∷ ys)) → length v.kinds + suc rank_height ≤ length y.kinds + k)
      (λ cut d apart g.
      let there : In w (ways S v) = ⊎_elim (λ (a : In w (ways S v)). a) (λ (a : ⊥). absurd a) (in_either w (ways S v) [] g) in
      let same : x ≡ y = same_visit S (body_in m n f t) x y (within x (inl refl)) i (here there) in
      let once : begins_before x.rest ≡ false = ap (λ (z : Visit). begins_before z.rest) same ∙ constant_once y.rest again in
      let heavy : full < spent + place_cost x = ltb-true full (spent + place_cost x) (by_weight (begins_at x.before x.path x.blocks) (begins_before x.rest) (nat_lt full (spent + place_cost x)) next.2 once cut) in
      let low : place_cost y ≤ constant_cost = constant_low y.rest again in
      let as_heavy : place_cost x ≡ place_cost y = ap place_cost same in
      let so_many : length x.kinds ≡ length y.kinds = ap (λ (z : Visit). length z.kinds) same in
      omega arith)
      (λ same d apart g.
      let cheap : place_cost x ≤ constant_cost = constant_low x.rest d.1.0 in
      let later : In w (all_ways S (x ∷ up_to_cut (spent + place_cost x) xs)) =
      ⊎_elim (λ (a : In w (ways S v)). absurd (apart x (inl refl) (here a))) (λ (a : In w (all_ways S (x ∷ up_to_cut (spent + place_cost x) xs))). a)
      (in_either w (ways S v) (all_ways S (x ∷ up_to_cut (spent + place_cost x) xs)) g) in
      let deeper : length x.kinds + suc rank_height ≤ length y.kinds + suc k =
      climbs xs x (spent + place_cost x) (suc k) (within x (inl refl)) (λ z j. within z (inr j)) chain.1 (omega arith) d.1 y i (λ z j. apart z (inr j)) w later e again in
      omega arith)
      c other g

  -- so does a piece of them
  piece_climbs : (vs : List Visit) (spent : ℕ) → ((x : Visit) → In x vs → In x all) → Chain S vs → (p : Piece) → In p (pieces_from spent vs) → AreConstant (places_in p)
      → (y : Visit) → In y all → ((x : Visit) → In x p.others → x.path ≡ y.path → ⊥) → (w : Way) → In w (all_ways S (places_in p)) → y.path ≡ w.to → IsConstantAt y.rest → length p.cut.kinds + rank_height ≤ length y.kinds
  piece_climbs [] spent within chain p g c y i other w a e again = absurd g
  piece_climbs (v ∷ vs) spent within chain p g c y i other w a e again =
      by_cut spent v vs (λ ps. In p ps → length p.cut.kinds + rank_height ≤ length y.kinds)
      (λ cut g. ⊎_elim
      (λ (same : piece_at v vs ≡ p). subst
      (λ (q : Piece). AreConstant (places_in q) → ((x : Visit) → In x q.others → x.path ≡ y.path → ⊥) → In w (all_ways S (places_in q)) → length q.cut.kinds + rank_height ≤ length y.kinds) same
      (λ c other a.
      let cheap : place_cost v ≤ constant_cost = constant_low v.rest c.0 in
      let up : length v.kinds + suc rank_height ≤ length y.kinds + 1 = climbs vs v (place_cost v) 1 (within v (inl refl)) (λ z j. within z (inr j)) chain (omega arith) c y i other w a e again in
      omega arith) c other a)
      (λ (g : In p (pieces_from (place_cost v) vs)). piece_climbs vs (place_cost v) (λ z j. within z (inr j)) chain.1 p g c y i other w a e again) g)
      (λ cut g. piece_climbs vs (spent + place_cost v) (λ z j. within z (inr j)) chain.1 p g c y i other w a e again) g

-- ---- heights

-- a place of a low module has few operands
pub few_at : (m : Module) → Low m → (n : ℕ) (f : Func) → slice_get m.funcs n ≡ Some f → (t : Typed m n f) (v : Visit) → In v (all_visits m n f t) → length v.kinds ≤ 1024
few_at m low n f at t v h =
    let a : Visited (scope_in m n f t) (body_in m n f t) v = visited (scope_in m n f t) (body_in m n f t) v h in
    let is_low : IsLow m f = low n f at in
    let few : length a.kinds ≤ max 1024 1 =
    room (context_of m n f t) (code_of f.body) (first_of t.type.results) t.whole t.labels_are a.place a.spot a.kinds (place_kept m n f t a.place a.spot a.kinds a.there a.reached) 1024
    (λ path i is us l. is_low (length us) (record { path = path; instruction = i; others = is; operands = us; reached = (t.type, t.named, l); so_many = refl })) in
    let same : length (reverse a.kinds) ≡ length v.kinds = ap (λ (y : Visit). length y.kinds) a.is in
    let back : length (reverse a.kinds) ≡ length a.kinds = length-reverse a.kinds in
    omega arith

-- ---- ranks

rank_up : (h k : ℕ) → h + rank_height ≤ k → h / rank_height < k / rank_height
rank_up h k e = omega arith

rank_down : (h : ℕ) → h ≤ 1024 → h / rank_height < top_rank
rank_down h e = omega arith

rank_by_low : (c : Code) (h : ℕ) → h ≤ 1024 → rank_by c h ≤ top_rank
rank_by_low nil h few = omega arith
rank_by_low (cons (const z) is) h few = let down : h / rank_height < top_rank = rank_down h few in omega arith
rank_by_low (cons _ is) h few = omega arith

-- behind a constant the rank is higher where no constant stands, or over many more operands
rank_by_up : (c d : Code) (h k : ℕ) → IsConstantAt c → h ≤ 1024 → (IsConstantAt d → h + rank_height ≤ k) → rank_by c h < rank_by d k
rank_by_up nil d h k constant few up = absurd constant
rank_by_up (cons (const z) is) nil h k constant few up = rank_down h few
rank_by_up (cons (const z) is) (cons (const y) js) h k constant few up = rank_up h k (up tt)
rank_by_up (cons (const z) is) (cons _ js) h k constant few up = rank_down h few
rank_by_up (cons _ is) d h k constant few up = absurd constant

pub ranks_rise : (m : Module) → Valid m → Low m → (n : ℕ) (b : Body) → function_body m n ≡ Some b → (p : Piece) → Contains (function_pieces m n) p → AreConstant (places_in p) → (w : Way)
    → Contains (all_ways b.scope (places_in p)) w → (q : Piece) → Contains (function_pieces m n) q → q.cut.path ≡ w.to → rank p.cut < rank q.cut
ranks_rise m valid low n b is p g constant w a q h to =
    let x : Has m n b = has m valid n b is in
    subst (λ (y : Body). function_body m n ≡ Some y → Contains (all_ways y.scope (places_in p)) w → rank p.cut < rank q.cut) x.is
    (λ found a.
    let f : Func = x.function in
    let t : Typed m n f = x.typed in
    let vs : List Visit = all_visits m n f t in
    let rises : Rises vs = visits_rise (scope_in m n f t) (body_in m n f t) in
    let piece_in : (r : Piece) → Contains (function_pieces m n) r → In r (pieces vs) = λ r i. among (pieces vs) r (subst (λ (us : List Visit). Contains (pieces us) r) (ap body_visits found) i) in
    let from : In p (pieces vs) = piece_in p g in
    let there : In q (pieces vs) = piece_in q h in
    let few : length p.cut.kinds ≤ 1024 = few_at m low n f x.at t p.cut (cut_among vs 0 p from) in
    rank_by_up p.cut.rest q.cut.rest (length p.cut.kinds) (length q.cut.kinds) constant.0 few
    (piece_climbs m n f t vs 0 (λ y i. i) (in_chain m n f t) p from constant q.cut (cut_among vs 0 q there) (λ y i. other_path vs 0 rises p from y i q there) w
    (among (all_ways (scope_in m n f t) (places_in p)) w a) to))
    is a

pub ranks_low : (m : Module) → Valid m → Low m → (n : ℕ) (v : Visit) → Contains (function_visits m n) v → rank v ≤ top_rank
ranks_low m valid low n v h = by_found (function_body m n) refl h
  where
    by_found : (o : Option Body) → function_body m n ≡ o → Contains (body_visits o) v → rank v ≤ top_rank
    by_found None e h = absurd (among [] v h)
    by_found (Some b) e h =
        let x : Has m n b = has m valid n b e in
        let there : In v (all_visits m n x.function x.typed) = subst (λ (y : Body). In v (visits y.scope y.sequence)) (sym x.is) (among (visits b.scope b.sequence) v h) in
        rank_by_low v.rest (length v.kinds) (few_at m low n x.function x.at x.typed v there)

-- ---- room

narrow : (t : ValType) → width t ≤ 2
narrow I32 = omega arith
narrow I64 = omega arith
narrow F32 = omega arith
narrow F64 = omega arith

all_narrow : (ts : List ValType) → widths ts ≤ 2 * length ts
all_narrow [] = omega arith
all_narrow (t ∷ ts) = let a : width t ≤ 2 = narrow t in let b : widths ts ≤ 2 * length ts = all_narrow ts in omega arith

pub frames_have_room : (m : Module) → Valid m → (n : ℕ) (f : Func) (t : FuncType) (height : ℕ) → slice_get m.funcs n ≡ Some f → function_type m f ≡ Some t → IsHeight m f height → (v : Visit)
    → Contains (function_visits m n) v → widths (t.params ++ run_types f.locals) + widths v.kinds ≤ frame_places (length (t.params ++ run_types f.locals)) (max height 1)
frames_have_room m valid n f t height at named is_height v h =
    let w : Typed m n f = typed_function m n f valid at in
    let same : function_visits m n ≡ all_visits m n f w = ap body_visits w.body in
    let there : In v (all_visits m n f w) = among (all_visits m n f w) v (subst (λ (vs : List Visit). Contains vs v) same h) in
    let a : Visited (scope_in m n f w) (body_in m n f w) v = visited (scope_in m n f w) (body_in m n f w) v there in
    let kinds : function_kinds m n a.place ≡ Some a.kinds =
    ap (λ (o : Option Body). o >>= λ y. kinds_at y.scope y.sequence a.place) w.body ∙ (ap (λ (o : Option Spot). o >>= spot_kinds (scope_in m n f w)) a.there ∙ a.reached) in
    let few : length a.kinds ≤ max height 1 = room_at m valid n f height at is_height a.place a.kinds kinds in
    let long : length v.kinds ≡ length a.kinds = ap (λ (y : Visit). length y.kinds) (sym a.is) ∙ length-reverse a.kinds in
    let locals : widths (t.params ++ run_types f.locals) ≤ 2 * length (t.params ++ run_types f.locals) = all_narrow (t.params ++ run_types f.locals) in
    let operands : widths v.kinds ≤ 2 * length v.kinds = all_narrow v.kinds in
    let most : 2 * length (t.params ++ run_types f.locals) + 2 * max height 1 ≤ frame_places (length (t.params ++ run_types f.locals)) (max height 1) =
    le-max_right score_places (2 * length (t.params ++ run_types f.locals) + 2 * max height 1) in
    omega arith
