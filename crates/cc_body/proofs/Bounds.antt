-- The numbers of a module of the profile are small: those of locals and operands, the sizes of frames, and the indices of
-- cuts. At each place stands code with its constants in their ranges.
use Rattle.std.proofs.Common.{◌≡◌, ℕ, zero, suc, ◌+◌, ◌*◌, ◌≤◌, ◌<◌, inl, inr, List, [], ◌∷◌, ◌++◌, length, map, replicate, Option, Some, None, refl, sym, ap, ◌∙◌, subst, arith, length-append}
use Rattle.std.specs.Prelude.{slice_get, option_map}
use Rattle.std.specs.List.{Contains, filter_map, cons_option}
use Rattle.std.proofs.Math.Nat.{max-le, le_trans, le-max_left, le-max_right}
use Rattle.std.proofs.lemmas.List.{length-replicate}
use Rattle.std.proofs.lemmas.List.Elements.{Contains-get_or}
use Rattle.std.proofs.lemmas.Option.{get_or_from_slice_get, slice_get_within, slice_get-map}
use mathlib.Core.Logic.{⊎_elim}
use Rattle.wm_ast.specs.declared.module.Func.{Func}
use Rattle.wm_ast.specs.declared.module.FuncType.{FuncType}
use Rattle.wm_ast.specs.declared.module.Module.{Module}
use Rattle.wm_ast.specs.declared.module.Run.{Run}
use Rattle.wm_ast.specs.declared.module.ValType.{ValType}
use Rattle.wm_ast.specs.declared.item.Item.TheVariants.{Types}
use Rattle.wm_ast.specs.Code.{Op, block, loop, if_else, call, call_indirect, Code, nil, cons}
use Rattle.wm_ast.specs.Part.{locals_count}
use Rattle.wm_ast.specs.Profile.{op_and_inside, all_ops, params_count, function_locals, InProfile}
use Rattle.wm_ast.specs.Types.{results_of, run_types, function_type}
use Rattle.wm_ast.specs.View.{code_of}
use Rattle.wm_valid.specs.Height.{Low}
use Rattle.wm_valid.specs.Place.{after_front}
use Rattle.wm_valid.specs.Arrows.{◌>>=◌}
use Rattle.wm_valid.proofs.OperandLaws.{bind_some}
use Rattle.wm_valid.proofs.PlaceLaws.{of_arm}
use Rattle.wm_valid.proofs.ProfileLaws.{is_short}
use Rattle.wm_flat.specs.Program.{IsProgram}
use Rattle.wm_valid.specs.InRange.{CodeInRange}
use Rattle.wm_flat.proofs.ItemLaws.{at_place}
use Rattle.wm_place.specs.Kinds.{Body, body_of, first_of}
use Rattle.wm_place.specs.Place.{Step, in_block, in_arm, Place, places_inside, places_from, places}
use Rattle.wm_place.specs.Spot.{Sequence, body_sequence, Spot, position_of, sequence_at, spot_at}
use Rattle.wm_place.specs.Visit.{Visit, visit_of, body_visits}
use Rattle.wm_place.proofs.KindLemmas.{Typed, typed_function, scope_in, body_in}
use Rattle.wm_place.proofs.LevelLemmas.{some_of, IsInner, last_step}
use Rattle.wm_place.proofs.SpotLemmas.{found}
use Rattle.cc_line.specs.Place.{score_places}
use Rattle.cc_cut.specs.Law.{widths}
use Rattle.cc_cut.specs.Piece.{place_cost, Piece, places_in, pieces_from, pieces, function_pieces, index_of}
use Rattle.cc_cut.proofs.ListLemmas.{In}
use Rattle.cc_cut.proofs.CutLemmas.{all_visits}
use Rattle.cc_cut.proofs.IndexLemmas.{up_among, Named, index_tells}
use Rattle.cc_cut.proofs.PieceLemmas.{piece_at, by_cut}
use Rattle.cc_cut.proofs.RankLemmas.{few_at}
use Rattle.cc_cut.proofs.VisitLemmas.{Visited, visited}
use Rattle.cc_body.specs.Behind.{call_type, last_op, call_before}
use Rattle.cc_body.specs.Layout.{top_place, most_places, body_size, frame_size}
use Rattle.cc_body.proofs.LowGlobals.{LowGlobals, globals_behind, globals_inner, globals_low}
use Rattle.cc_body.proofs.TableLabels.{FewLabels, labels_behind, labels_inner, labels_few}
use Rattle.cc_body.proofs.PlaceWeights.{all_narrow}

-- ---- code at a place

module _ (P : Code → Type 0) (behind : (i : Op) (is : Code) → P (cons i is) → P is) (inner : (s : Step) (i : Op) (is d : Code) → IsInner s i d → P (cons i is) → P d) where
  after : (n : ℕ) (c d : Code) → after_front n c ≡ Some d → P c → P d
  after zero c d e h = subst P (some_of c d e) h
  after (suc n) nil d e h = absurd cc
  after (suc n) (cons i is) d e h = after n is d e (behind i is h)

  sequence_has : (gives : Option ValType) (c : Code) → P c → (steps : List Step) (q : Sequence) → sequence_at (body_sequence gives c) steps ≡ Some q → P q.code
  sequence_has gives c h [] q e = subst (λ (y : Sequence). P y.code) (some_of (body_sequence gives c) q e) h
  sequence_has gives c h (s ∷ steps) q e =
      let w = last_step (body_sequence gives c) s steps q e in
      let o : Sequence = w.sequence.sequence in
      let outer : P o.code = sequence_has gives c h steps o w.sequence.there in
      let rest : P (cons w.entered.op w.entered.rest) = after (position_of s) o.code (cons w.entered.op w.entered.rest) (w.sequence.part.after ∙ ap (λ (x : Code). Some x) w.entered.is_code) outer in
      inner s w.entered.op w.entered.rest q.code w.entered.inner rest

  pub spot_has : (gives : Option ValType) (c : Code) → P c → (p : Place) (x : Spot) → spot_at (body_sequence gives c) p ≡ Some x → P x.code
  spot_has gives c h p x e =
      let f = found (body_sequence gives c) p x e in
      after p.position f.sequence.code x.code f.part.after (sequence_has gives c h p.steps f.sequence f.there)

-- code with its constants in their ranges
range_behind : (i : Op) (is : Code) → CodeInRange (cons i is) → CodeInRange is
range_behind i is h = h.1

range_inner : (s : Step) (i : Op) (is d : Code) → IsInner s i d → CodeInRange (cons i is) → CodeInRange d
range_inner (in_block n) (block ty c) is d e h = subst CodeInRange e h.0
range_inner (in_block n) (loop ty c) is d e h = subst CodeInRange e h.0
range_inner (in_block n) _ is d e h = absurd e
range_inner (in_arm n k) (if_else ty a b) is d e h = of_arm k a b d CodeInRange e h.0.0 h.0.1
range_inner (in_arm n k) _ is d e h = absurd e

-- ---- locals

runs_length : (rs : List Run) → length (run_types rs) ≡ locals_count rs
runs_length [] = refl
runs_length (r ∷ rs) =
    let a : length (replicate r.count r.ty ++ run_types rs) ≡ length (replicate r.count r.ty) + length (run_types rs) = length-append (replicate r.count r.ty) (run_types rs) in
    let b : length (replicate r.count r.ty) ≡ r.count = length-replicate r.count r.ty in
    let c : length (run_types rs) ≡ locals_count rs = runs_length rs in
    let d : length (replicate r.count r.ty ++ run_types rs) ≡ r.count + locals_count rs = omega arith in
    d

pub locals_few : (m : Module) (n : ℕ) (f : Func) (t : FuncType) → InProfile m → slice_get m.funcs n ≡ Some f → function_type m f ≡ Some t → length (t.params ++ run_types f.locals) ≤ 1024
locals_few m n f t p at named =
    let all : function_locals m f ≤ 1024 = at_place (λ k. k ≤ 1024) (map (function_locals m) m.funcs) n (function_locals m f) p.within_limits.locals
    (slice_get-map (function_locals m) m.funcs n ∙ ap (option_map (function_locals m)) at) in
    let params : params_count (slice_get m.types f.kind) ≡ length t.params = ap params_count named in
    let same : params_count (slice_get m.types f.kind) + locals_count f.locals ≤ 1024 = all in
    let a : length (t.params ++ run_types f.locals) ≡ length t.params + length (run_types f.locals) = length-append t.params (run_types f.locals) in
    let c : length (run_types f.locals) ≡ locals_count f.locals = runs_length f.locals in
    omega arith

pub locals_narrow : (m : Module) (n : ℕ) (f : Func) (t : FuncType) → InProfile m → slice_get m.funcs n ≡ Some f → function_type m f ≡ Some t → widths (t.params ++ run_types f.locals) ≤ 2048
locals_narrow m n f t p at named =
    let a : length (t.params ++ run_types f.locals) ≤ 1024 = locals_few m n f t p at named in
    let b : widths (t.params ++ run_types f.locals) ≤ 2 * length (t.params ++ run_types f.locals) = all_narrow (t.params ++ run_types f.locals) in
    omega arith

-- ---- places

mutual
  inside_short : (steps : List Step) (n : ℕ) (i : Op) → length (places_inside steps n i) + 1 ≤ 3 * length (op_and_inside i)
  inside_short steps n (block ty c) =
      let h : length (places_from (in_block n ∷ steps) 0 c) ≤ 3 * length (all_ops c) + 1 = places_short (in_block n ∷ steps) 0 c in
      let r : length (places_from (in_block n ∷ steps) 0 c) + 1 ≤ 3 * suc (length (all_ops c)) = omega arith in
      r
  inside_short steps n (loop ty c) =
      let h : length (places_from (in_block n ∷ steps) 0 c) ≤ 3 * length (all_ops c) + 1 = places_short (in_block n ∷ steps) 0 c in
      let r : length (places_from (in_block n ∷ steps) 0 c) + 1 ≤ 3 * suc (length (all_ops c)) = omega arith in
      r
  inside_short steps n (if_else ty a b) =
      let h : length (places_from (in_arm n 0 ∷ steps) 0 a) ≤ 3 * length (all_ops a) + 1 = places_short (in_arm n 0 ∷ steps) 0 a in
      let k : length (places_from (in_arm n 1 ∷ steps) 0 b) ≤ 3 * length (all_ops b) + 1 = places_short (in_arm n 1 ∷ steps) 0 b in
      let x : length (places_from (in_arm n 0 ∷ steps) 0 a ++ places_from (in_arm n 1 ∷ steps) 0 b) ≡ length (places_from (in_arm n 0 ∷ steps) 0 a) + length (places_from (in_arm n 1 ∷ steps) 0 b) = length-append (places_from (in_arm n 0 ∷ steps) 0 a) (places_from (in_arm n 1 ∷ steps) 0 b) in
      let y : length (all_ops a ++ all_ops b) ≡ length (all_ops a) + length (all_ops b) = length-append (all_ops a) (all_ops b) in
      let r : length (places_from (in_arm n 0 ∷ steps) 0 a ++ places_from (in_arm n 1 ∷ steps) 0 b) + 1 ≤ 3 * suc (length (all_ops a ++ all_ops b)) = omega arith in
      r
  inside_short steps n i = omega arith

  places_short : (steps : List Step) (n : ℕ) (c : Code) → length (places_from steps n c) ≤ 3 * length (all_ops c) + 1
  places_short steps n nil = omega arith
  places_short steps n (cons i is) =
      let h : length (places_inside steps n i) + 1 ≤ 3 * length (op_and_inside i) = inside_short steps n i in
      let k : length (places_from steps (suc n) is) ≤ 3 * length (all_ops is) + 1 = places_short steps (suc n) is in
      let x : length (places_inside steps n i ++ places_from steps (suc n) is) ≡ length (places_inside steps n i) + length (places_from steps (suc n) is) = length-append (places_inside steps n i) (places_from steps (suc n) is) in
      let y : length (op_and_inside i ++ all_ops is) ≡ length (op_and_inside i) + length (all_ops is) = length-append (op_and_inside i) (all_ops is) in
      let r : suc (length (places_inside steps n i ++ places_from steps (suc n) is)) ≤ 3 * length (op_and_inside i ++ all_ops is) + 1 = omega arith in
      r

filter_short : {A B : Type 0} (f : A → Option B) (xs : List A) → length (filter_map f xs) ≤ length xs
filter_short f [] = omega arith
filter_short {B = B} f (x ∷ xs) = go (f x) (filter_short f xs)
  where
    go : (o : Option B) → length (filter_map f xs) ≤ length xs → length (cons_option o (filter_map f xs)) ≤ suc (length xs)
    go None h = omega arith
    go (Some y) h = let r : suc (length (filter_map f xs)) ≤ suc (length xs) = omega arith in r

pieces_short : (vs : List Visit) (spent : ℕ) → length (pieces_from spent vs) ≤ length vs
pieces_short [] spent = omega arith
pieces_short (v ∷ vs) spent =
    let a : length (pieces_from (place_cost v) vs) ≤ length vs = pieces_short vs (place_cost v) in
    let b : length (pieces_from (spent + place_cost v) vs) ≤ length vs = pieces_short vs (spent + place_cost v) in
    by_cut spent v vs (λ ps. length ps ≤ suc (length vs))
    (λ c. let r : suc (length (pieces_from (place_cost v) vs)) ≤ suc (length vs) = omega arith in r)
    (λ c. omega arith)

-- the places of pieces are places of the body
piece_among : (v : Visit) (vs : List Visit) (x : Visit) → In x (places_in (piece_at v vs)) → In x (v ∷ vs)
piece_among v vs x (inl e) = inl e
piece_among v vs x (inr i) = inr (up_among vs (place_cost v) x i)

pub places_among : (vs : List Visit) (spent : ℕ) (p : Piece) (x : Visit) → In p (pieces_from spent vs) → In x (places_in p) → In x vs
places_among [] spent p x h i = absurd h
places_among (v ∷ vs) spent p x h i =
    by_cut spent v vs (λ ps. In p ps → In x (v ∷ vs))
    (λ c g. ⊎_elim (λ (e : piece_at v vs ≡ p). piece_among v vs x (subst (λ (q : Piece). In x (places_in q)) (sym e) i))
    (λ (j : In p (pieces_from (place_cost v) vs)). inr (places_among vs (place_cost v) p x j i)) g)
    (λ c g. inr (places_among vs (spent + place_cost v) p x g i)) h

-- ---- a function

module _ (m : Module) (program : IsProgram m) (n : ℕ) (f : Func) (at : slice_get m.funcs n ≡ Some f) (t : Typed m n f) where
  abbrev locals : List ValType
  locals = t.type.params ++ run_types f.locals

  -- how many pieces it has, and the index of a cut
  pub pieces_low : length (pieces (all_visits m n f t)) ≤ 900000
  pieces_low =
      let vs : List Visit = all_visits m n f t in
      let b : length (pieces (all_visits m n f t)) ≤ length vs = pieces_short vs 0 in
      let c : length vs ≤ length (places (code_of f.body)) = filter_short (visit_of (scope_in m n f t) (body_in m n f t)) (places (code_of f.body)) in
      let d : length (places (code_of f.body)) ≤ 3 * length (all_ops (code_of f.body)) + 1 = places_short [] 0 (code_of f.body) in
      let g : length (all_ops (code_of f.body)) ≤ 262144 = is_short m n f program.profile at in
      omega arith

  pub index_low : (path : List ℕ) (j : ℕ) → index_of (pieces (all_visits m n f t)) path ≡ Some j → j ≤ 1000000
  index_low path j e =
      let vs : List Visit = all_visits m n f t in
      let w : Named (pieces vs) 1 path j = index_tells (pieces vs) 1 path j e in
      let is : j ≡ 1 + w.at = w.is in
      let a : w.at < length (pieces vs) = slice_get_within (pieces vs) w.at w.piece w.there in
      let b : length (pieces (all_visits m n f t)) ≤ 900000 = pieces_low in
      omega arith

  module _ (low : Low m) where
    -- little lies above the locals
    pub top_low : (v : Visit) → In v (all_visits m n f t) → top_place locals v ≤ 4096
    top_low v h =
        let a : length v.kinds ≤ 1024 = few_at m low n f at t v h in
        let b : widths v.kinds ≤ 2 * length v.kinds = all_narrow v.kinds in
        let c : widths locals ≤ 2048 = locals_narrow m n f t.type program.profile at t.named in
        let r : widths locals + widths v.kinds ≤ 4096 = omega arith in
        r

    -- so frames are small
    most_low : (vs : List Visit) → ((v : Visit) → In v vs → In v (all_visits m n f t)) → most_places locals vs ≤ 4096
    most_low [] within = let c : widths locals ≤ 2048 = locals_narrow m n f t.type program.profile at t.named in omega arith
    most_low (v ∷ vs) within = max-le (top_low v (within v (inl refl))) (most_low vs (λ w i. within w (inr i)))

    pub size_low : frame_size m n ≤ 4096
    size_low =
        subst (λ (o : Option Body). body_size o ≤ 4096) (sym t.body)
        (let s : score_places ≤ 4096 = omega arith in max-le s (most_low (all_visits m n f t) (λ v i. i)))

  -- the locals have room in the frame
  locals_in : (ts : List ValType) (vs : List Visit) → widths ts ≤ most_places ts vs
  locals_in ts [] = omega arith
  locals_in ts (v ∷ vs) = let h : widths ts ≤ most_places ts vs = locals_in ts vs in le_trans h (le-max_right (top_place ts v) (most_places ts vs))

  pub locals_room : widths locals ≤ frame_size m n
  locals_room =
      subst (λ (o : Option Body). widths locals ≤ body_size o) (sym t.body)
      (le_trans (locals_in locals (all_visits m n f t)) (le-max_right score_places (most_places locals (all_visits m n f t))))

  pub scores_room : score_places ≤ frame_size m n
  scores_room = subst (λ (o : Option Body). score_places ≤ body_size o) (sym t.body) (le-max_left score_places (most_places locals (all_visits m n f t)))

  -- what stands at a place
  pub range_at : (v : Visit) → In v (all_visits m n f t) → CodeInRange v.rest
  range_at v h =
      let a : Visited (scope_in m n f t) (body_in m n f t) v = visited (scope_in m n f t) (body_in m n f t) v h in
      subst (λ (y : Visit). CodeInRange y.rest) a.is
      (spot_has CodeInRange range_behind range_inner (first_of t.type.results) (code_of f.body) (program.numbers.functions n f at) a.place a.spot a.there)

  -- a `br_table` there has few labels
  pub labels_at : (v : Visit) → In v (all_visits m n f t) → FewLabels v.rest
  labels_at v h =
      let a : Visited (scope_in m n f t) (body_in m n f t) v = visited (scope_in m n f t) (body_in m n f t) v h in
      subst (λ (y : Visit). FewLabels y.rest) a.is
      (spot_has FewLabels labels_behind labels_inner (first_of t.type.results) (code_of f.body) (labels_few m n f program.profile at) a.place a.spot a.there)

  -- an instruction there names few globals
  pub globals_at : (v : Visit) → In v (all_visits m n f t) → LowGlobals v.rest
  globals_at v h =
      let a : Visited (scope_in m n f t) (body_in m n f t) v = visited (scope_in m n f t) (body_in m n f t) v h in
      subst (λ (y : Visit). LowGlobals y.rest) a.is
      (spot_has LowGlobals globals_behind globals_inner (first_of t.type.results) (code_of f.body)
      (globals_low m f t.type (results_of (first_of t.type.results)) program.profile t.whole) a.place a.spot a.there)

-- ---- a module

-- frames are small, whatever the index
pub frames_low : (m : Module) → IsProgram m → Low m → (n : ℕ) → frame_size m n ≤ 4096
frames_low m program low n = by_function (slice_get m.funcs n) refl
  where
    by_function : (o : Option Func) → slice_get m.funcs n ≡ o → frame_size m n ≤ 4096
    by_function None e = subst (λ (o : Option Func). body_size (o >>= λ f. option_map (body_of m f) (function_type m f)) ≤ 4096) (sym e) (omega arith)
    by_function (Some f) e = size_low m program n f e (typed_function m n f program.valid e) low

pub sizes_low : (m : Module) → IsProgram m → Low m → (n : ℕ) → frame_size m n ≤ 8000
sizes_low m program low n = let h : frame_size m n ≤ 4096 = frames_low m program low n in omega arith

pub functions_are_few : (m : Module) → IsProgram m → length m.funcs ≤ 8192
functions_are_few m program = program.profile.within_limits.functions

pub types_are_few : (m : Module) → IsProgram m → length m.types ≤ 4096
types_are_few m program = program.profile.within_limits.types

-- a function has few pieces
pub pieces_few : (m : Module) → IsProgram m → (n : ℕ) → length (function_pieces m n) ≤ 900000
pieces_few m program n = by_function (slice_get m.funcs n) refl
  where
    by_function : (o : Option Func) → slice_get m.funcs n ≡ o → length (function_pieces m n) ≤ 900000
    by_function None e = subst (λ (o : Option Func). length (pieces (body_visits (o >>= λ f. option_map (body_of m f) (function_type m f)))) ≤ 900000) (sym e) (omega arith)
    by_function (Some f) e =
        let t : Typed m n f = typed_function m n f program.valid e in
        let l : length (pieces (all_visits m n f t)) ≤ 900000 = pieces_low m program n f e t in
        subst (λ (o : Option Body). length (pieces (body_visits o)) ≤ 900000) (sym t.body) l

pub contained : {A : Type 0} (xs : List A) (k : ℕ) (x : A) → slice_get xs k ≡ Some x → Contains xs x
contained xs k x e = subst (Contains xs) (get_or_from_slice_get xs k x x e) (Contains-get_or xs k x (slice_get_within xs k x e))

-- a function has at most one result
pub one_result : (m : Module) → IsProgram m → (f : Func) (t : FuncType) → function_type m f ≡ Some t → widths t.results ≤ 2
one_result m program f t e =
    let a : length t.results ≤ 1 = program.valid.items Types f.kind t e in
    let b : widths t.results ≤ 2 * length t.results = all_narrow t.results in
    omega arith

-- so has the type of a call
pub call_narrow : (m : Module) → IsProgram m → (i : Op) (t : FuncType) → call_type m i ≡ Some t → widths t.results ≤ 2
call_narrow m program (call f) t e = let w = bind_some (slice_get m.funcs f) (function_type m) t e in one_result m program w.0 t w.2
call_narrow m program (call_indirect n) t e =
    let a : length t.results ≤ 1 = program.valid.items Types n t e in
    let b : widths t.results ≤ 2 * length t.results = all_narrow t.results in
    omega arith
call_narrow m program _ t e = absurd cc

pub before_narrow : (m : Module) → IsProgram m → (v : Visit) (t : FuncType) → call_before m v ≡ Some t → widths t.results ≤ 2
before_narrow m program v t e = let w = bind_some (last_op v.before) (call_type m) t e in call_narrow m program w.0 t w.2
