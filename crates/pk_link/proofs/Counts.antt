-- How many pieces a module of the profile has, and how many exports: fewer than a pack can hold.
use Rattle.std.proofs.Common.{◌≡◌, ℕ, zero, suc, ◌+◌, ◌*◌, ◌/◌, ◌≤◌, ◌<◌, List, [], ◌∷◌, ◌++◌, length, map, Option, Some, None, Bool, true, false, refl, sym, ap, ◌∙◌, subst, arith, length-append}
use Rattle.std.specs.Prelude.{slice_get, option_map, sum, filter, reverse, if◌then◌else◌}
use Rattle.std.specs.List.{filter_map, cons_option, sum_by}
use Rattle.std.proofs.Math.Nat.{max-le}
use Rattle.std.proofs.lemmas.Bool.{ltb-true}
use Rattle.std.proofs.lemmas.List.{length-map}
use Rattle.std.proofs.lemmas.List.Sums.{sum-map, sum_by-cons}
use Rattle.std.proofs.lemmas.Option.{slice_get-map}
use Rattle.wm_ast.specs.declared.module.Export.{Export}
use Rattle.wm_ast.specs.declared.module.Func.{Func}
use Rattle.wm_ast.specs.declared.module.FuncType.{FuncType}
use Rattle.wm_ast.specs.declared.module.Limits.{Limits}
use Rattle.wm_ast.specs.declared.module.Module.{Module}
use Rattle.wm_ast.specs.declared.module.ValType.{ValType}
use Rattle.wm_ast.specs.declared.operator.BinaryOp.{BinaryOp}
use Rattle.wm_ast.specs.Code.{Op, block, loop, if_else, Code, nil, cons}
use Rattle.wm_ast.specs.Instance.{is_function, exported_index, exported_functions}
use Rattle.wm_ast.specs.Profile.{op_and_inside, all_ops, params_count, function_size, function_locals, pages, InProfile}
use Rattle.wm_ast.specs.Types.{function_type}
use Rattle.wm_ast.specs.declared.limit.TheConstants.{PAGES}
use Rattle.wm_valid.specs.Height.{Low}
use Rattle.wm_valid.specs.Valid.{Valid}
use Rattle.wm_valid.specs.Typing.{Scope}
use Rattle.wm_valid.specs.Arrows.{◌>>=◌}
use Rattle.wm_flat.specs.FlatTyping.{least_pages}
use Rattle.wm_flat.specs.Program.{IsProgram}
use Rattle.wm_flat.proofs.ItemLaws.{at_place}
use Rattle.wm_place.specs.Kinds.{Body, body_of, spot_kinds}
use Rattle.wm_place.specs.Place.{Step, in_block, in_arm, Place, place, path_of, places_inside, places_from, places}
use Rattle.wm_place.specs.Spot.{Level, level, Sequence, Spot, spot, followed_by, spot_at}
use Rattle.wm_place.specs.Visit.{Visit, visit, blocks_of, visit_spot, visit_of, visits, body_visits}
use Rattle.wm_place.proofs.SpotLemmas.{find_next, find_block, find_loop, find_first_arm, find_second_arm}
use Rattle.cc_line.specs.Key.{body_piece}
use Rattle.cc_cut.specs.Law.{widths}
use Rattle.cc_cut.specs.Piece.{place_cost, is_cut, Piece, piece, up_to_cut, pieces_from, pieces, function_pieces}
use Rattle.cc_body.specs.Behind.{call_type, last_op, call_before}
use Rattle.cc_body.specs.Behind.{op_division, division_before}
use Rattle.cc_pieces.specs.Fetching.{are_many, args_of_fetch, fetches}
use Rattle.cc_body.specs.Pieces.{cut_items}
use Rattle.cc_pieces.specs.Parts.{Part, part, taker_parts, placer_parts, done_parts, grower_parts}
use Rattle.cc_body.specs.Parts.{fetch_parts, division_parts, restore_parts, cut_parts, parts_of_type, function_parts, parts_by, takers_of, most_takers_of, shared_parts, module_parts}
use Rattle.cc_body.specs.Placers.{most_placers_of}
pub use Rattle.cc_body.proofs.Bounds.{contained, functions_are_few, pieces_few, types_are_few}
use Rattle.cc_body.proofs.LightPieces.{placers_few}
use Rattle.cc_body.proofs.PlaceWeights.{all_narrow}
use Rattle.cc_init.specs.Init.{global_pieces, later_pieces, init_parts}
use Rattle.pk_link.proofs.Arguments.{last_followed, takes_of, arguments, arguments_few}

-- ---- calls

-- the pieces that fetch the arguments of a call
abbrev fetched : Option FuncType → ℕ
fetched None = 0
fetched (Some t) = fetches (widths t.params)

-- a piece fetches many places
fetches_few : (w : ℕ) → 18 * fetches w ≤ w
fetches_few w = by_many (are_many w) refl
  where
    by_many : (b : Bool) → are_many w ≡ b → 18 * (if b then (w + 303) / args_of_fetch else 0) ≤ w
    by_many false e = omega arith
    by_many true e = let many : 17 < w = ltb-true 17 w e in omega arith

fetched_few : (o : Option FuncType) → 9 * fetched o ≤ takes_of o
fetched_few None = omega arith
fetched_few (Some t) =
    let a : 18 * fetches (widths t.params) ≤ widths t.params = fetches_few (widths t.params) in
    let b : widths t.params ≤ 2 * length t.params = all_narrow t.params in
    let r : 9 * fetches (widths t.params) ≤ length t.params = omega arith in
    r

-- how many pieces stand before a cut behind a call besides those that fetch arguments, or behind a division
abbrev pieces_before : Option FuncType → Option BinaryOp → ℕ
pieces_before (Some t) d = 1
pieces_before None (Some op) = 2
pieces_before None None = 0

before_low : (o : Option FuncType) (d : Option BinaryOp) → pieces_before o d ≤ 2
before_low (Some t) d = omega arith
before_low None (Some op) = omega arith
before_low None None = omega arith

module _ (m : Module) where
  -- how many stand before what follows an instruction, and such code
  abbrev waits_op : Op → ℕ
  waits_op i = pieces_before (call_type m i) (op_division i)

  abbrev behind_op : Option Op → ℕ
  behind_op o = pieces_before (o >>= call_type m) (o >>= op_division)

  abbrev behind : Code → ℕ
  behind c = behind_op (last_op c)

  behind_followed : (c : Code) (i : Op) → behind (followed_by c i) ≡ waits_op i
  behind_followed c i = ap behind_op (last_followed c i)

  -- ---- places

  abbrev behind_at : Option Spot → ℕ
  behind_at None = 0
  behind_at (Some x) = behind x.before

  module _ (body : Sequence) where
    -- these places, with the pieces that stand before them
    abbrev weigh : List Place → ℕ
    weigh [] = 0
    weigh (p ∷ ps) = suc (behind_at (spot_at body p)) + weigh ps

    weigh_both : (ps qs : List Place) → weigh (ps ++ qs) ≡ weigh ps + weigh qs
    weigh_both [] qs = let e : weigh qs ≡ 0 + weigh qs = omega arith in e
    weigh_both (p ∷ ps) qs = let e : weigh (ps ++ qs) ≡ weigh ps + weigh qs = weigh_both ps qs in omega arith

    mutual
      -- each instruction has a place and what stands behind it, and each sequence one at its end
      inside_few : (steps : List Step) (n : ℕ) (lvs : List Level) (before : Code) (i : Op) (is : Code) → spot_at body (place steps n) ≡ Some (spot lvs before (cons i is))
          → weigh (places_inside steps n i) + 1 + waits_op i ≤ 3 * length (op_and_inside i)
      inside_few steps n lvs before (block ty c) is e =
          let h : weigh (places_from (in_block n ∷ steps) 0 c) ≤ 3 * length (all_ops c) + 1 + 0 = places_few (in_block n ∷ steps) 0 (level (Some (place steps n)) before (block ty c) is ∷ lvs) nil c (find_block body (place steps n) lvs before ty c is e) in
          let r : weigh (places_from (in_block n ∷ steps) 0 c) + 1 + 0 ≤ 3 * suc (length (all_ops c)) = omega arith in
          r
      inside_few steps n lvs before (loop ty c) is e =
          let h : weigh (places_from (in_block n ∷ steps) 0 c) ≤ 3 * length (all_ops c) + 1 + 0 = places_few (in_block n ∷ steps) 0 (level (Some (place steps n)) before (loop ty c) is ∷ lvs) nil c (find_loop body (place steps n) lvs before ty c is e) in
          let r : weigh (places_from (in_block n ∷ steps) 0 c) + 1 + 0 ≤ 3 * suc (length (all_ops c)) = omega arith in
          r
      inside_few steps n lvs before (if_else ty a b) is e =
          let h : weigh (places_from (in_arm n 0 ∷ steps) 0 a) ≤ 3 * length (all_ops a) + 1 + 0 = places_few (in_arm n 0 ∷ steps) 0 (level (Some (place steps n)) before (if_else ty a b) is ∷ lvs) nil a (find_first_arm body (place steps n) lvs before ty a b is e) in
          let k : weigh (places_from (in_arm n 1 ∷ steps) 0 b) ≤ 3 * length (all_ops b) + 1 + 0 = places_few (in_arm n 1 ∷ steps) 0 (level (Some (place steps n)) before (if_else ty a b) is ∷ lvs) nil b (find_second_arm body (place steps n) lvs before ty a b is e) in
          let x : weigh (places_from (in_arm n 0 ∷ steps) 0 a ++ places_from (in_arm n 1 ∷ steps) 0 b) ≡ weigh (places_from (in_arm n 0 ∷ steps) 0 a) + weigh (places_from (in_arm n 1 ∷ steps) 0 b) = weigh_both (places_from (in_arm n 0 ∷ steps) 0 a) (places_from (in_arm n 1 ∷ steps) 0 b) in
          let y : length (all_ops a ++ all_ops b) ≡ length (all_ops a) + length (all_ops b) = length-append (all_ops a) (all_ops b) in
          let r : weigh (places_from (in_arm n 0 ∷ steps) 0 a ++ places_from (in_arm n 1 ∷ steps) 0 b) + 1 + 0 ≤ 3 * suc (length (all_ops a ++ all_ops b)) = omega arith in
          r
      inside_few steps n lvs before i is e = let w : waits_op i ≤ 2 = before_low (call_type m i) (op_division i) in omega arith

      places_few : (steps : List Step) (n : ℕ) (lvs : List Level) (before c : Code) → spot_at body (place steps n) ≡ Some (spot lvs before c)
          → weigh (places_from steps n c) ≤ 3 * length (all_ops c) + 1 + behind before
      places_few steps n lvs before nil e = let a : behind_at (spot_at body (place steps n)) ≡ behind before = ap behind_at e in omega arith
      places_few steps n lvs before (cons i is) e =
          let a : behind_at (spot_at body (place steps n)) ≡ behind before = ap behind_at e in
          let h : weigh (places_inside steps n i) + 1 + waits_op i ≤ 3 * length (op_and_inside i) = inside_few steps n lvs before i is e in
          let k : weigh (places_from steps (suc n) is) ≤ 3 * length (all_ops is) + 1 + behind (followed_by before i) = places_few steps (suc n) lvs (followed_by before i) is (find_next body (place steps n) lvs before i is e) in
          let f : behind (followed_by before i) ≡ waits_op i = behind_followed before i in
          let x : weigh (places_inside steps n i ++ places_from steps (suc n) is) ≡ weigh (places_inside steps n i) + weigh (places_from steps (suc n) is) = weigh_both (places_inside steps n i) (places_from steps (suc n) is) in
          let y : length (op_and_inside i ++ all_ops is) ≡ length (op_and_inside i) + length (all_ops is) = length-append (op_and_inside i) (all_ops is) in
          let r : suc (behind_at (spot_at body (place steps n))) + weigh (places_inside steps n i ++ places_from steps (suc n) is) ≤ 3 * length (op_and_inside i ++ all_ops is) + 1 + behind before = omega arith in
          r

    -- ---- visits

    -- these visits, with the pieces that stand before them
    abbrev weigh_visits : List Visit → ℕ
    weigh_visits [] = 0
    weigh_visits (v ∷ vs) = suc (behind v.before) + weigh_visits vs

    visits_few : (S : Scope) (ps : List Place) → weigh_visits (filter_map (visit_of S body) ps) ≤ weigh ps
    visits_few S [] = omega arith
    visits_few S (p ∷ ps) = by_spot (spot_at body p) (visits_few S ps)
      where
        by_kinds : (x : Spot) (k : Option (List ValType)) → weigh_visits (filter_map (visit_of S body) ps) ≤ weigh ps
            → weigh_visits (cons_option (option_map (λ ts. visit (path_of p) (reverse ts) (blocks_of S x.levels) x.before x.code) k) (filter_map (visit_of S body) ps)) ≤ suc (behind x.before) + weigh ps
        by_kinds x None h = omega arith
        by_kinds x (Some ts) h = let r : suc (behind x.before) + weigh_visits (filter_map (visit_of S body) ps) ≤ suc (behind x.before) + weigh ps = omega arith in r

        by_spot : (o : Option Spot) → weigh_visits (filter_map (visit_of S body) ps) ≤ weigh ps
            → weigh_visits (cons_option (o >>= visit_spot S p) (filter_map (visit_of S body) ps)) ≤ suc (behind_at o) + weigh ps
        by_spot None h = omega arith
        by_spot (Some x) h = by_kinds x (spot_kinds S x) h

  -- the pieces that fetch the arguments of the calls behind which these places stand
  abbrev all_fetched : List Visit → ℕ
  all_fetched [] = 0
  all_fetched (v ∷ vs) = fetched (call_before m v) + all_fetched vs

  all_fetched_few : (vs : List Visit) → 9 * all_fetched vs ≤ arguments m vs
  all_fetched_few [] = omega arith
  all_fetched_few (v ∷ vs) =
      let a : 9 * fetched (call_before m v) ≤ takes_of (call_before m v) = fetched_few (call_before m v) in
      let b : 9 * all_fetched vs ≤ arguments m vs = all_fetched_few vs in
      let r : 9 * (fetched (call_before m v) + all_fetched vs) ≤ takes_of (call_before m v) + arguments m vs = omega arith in
      r

-- ---- pieces

-- what the two ways of a test share
pub by_test : (b : Bool) {A : Type 0} (x y : A) (P : A → Type 0) → P x → P y → P (if b then x else y)
by_test true x y P f g = f
by_test false x y P f g = g

module _ (m : Module) (n : ℕ) where
  fetches_long : (index : ℕ) (p : Piece) (t : FuncType) (k : ℕ) → length (fetch_parts m n index p t k) ≡ k
  fetches_long index p t zero = refl
  fetches_long index p t (suc k) =
      let e : length (fetch_parts m n index p t k) ≡ k = fetches_long index p t k in
      let x : length (fetch_parts m n index p t (suc k)) ≡ length (fetch_parts m n index p t k) + 1 = length-append (fetch_parts m n index p t k) _ in
      omega arith

  divisions_long : (index : ℕ) (p : Piece) (d : Option BinaryOp) → length (division_parts m n index p d) ≡ pieces_before None d
  divisions_long index p None = refl
  divisions_long index p (Some op) = refl

  restores_long : (index : ℕ) (p : Piece) (o : Option FuncType) → length (restore_parts m n index p o) ≡ pieces_before o (division_before p.cut) + fetched o
  restores_long index p None = let e : length (division_parts m n index p (division_before p.cut)) ≡ pieces_before None (division_before p.cut) = divisions_long index p (division_before p.cut) in omega arith
  restores_long index p (Some t) =
      let e : length (fetch_parts m n index p t (fetches (widths t.params))) ≡ fetches (widths t.params) = fetches_long index p t (fetches (widths t.params)) in
      let r : suc (length (fetch_parts m n index p t (fetches (widths t.params)))) ≡ 1 + fetches (widths t.params) = omega arith in
      r

  cut_long : (index : ℕ) (p : Piece) (ps : List Piece) → length (cut_parts m n index (p ∷ ps)) ≡ length (restore_parts m n index p (call_before m p.cut)) + suc (length (cut_parts m n (suc index) ps))
  cut_long index p ps = length-append (restore_parts m n index p (call_before m p.cut)) (part (body_piece n index) (cut_items m n p) ∷ cut_parts m n (suc index) ps)

  -- the pieces that begin at these visits, and those of the calls behind which they stand, are no more than these count
  cuts_few : (body : Sequence) (index spent : ℕ) (vs : List Visit) → length (cut_parts m n index (pieces_from spent vs)) ≤ weigh_visits m body vs + all_fetched m vs
  cuts_few body index spent [] = omega arith
  cuts_few body index spent (v ∷ vs) =
      let b : length (cut_parts m n index (pieces_from (spent + place_cost v) vs)) ≤ weigh_visits m body vs + all_fetched m vs = cuts_few body index (spent + place_cost v) vs in
      by_test (is_cut spent v) (piece v (up_to_cut (place_cost v) vs) ∷ pieces_from (place_cost v) vs) (pieces_from (spent + place_cost v) vs) (λ ps. length (cut_parts m n index ps) ≤ (suc (behind m v.before) + weigh_visits m body vs) + (fetched (call_before m v) + all_fetched m vs))
      (begun (piece v (up_to_cut (place_cost v) vs)) (pieces_from (place_cost v) vs) (cuts_few body (suc index) (place_cost v) vs))
      (omega arith)
    where
      begun : (p : Piece) (ps : List Piece) → length (cut_parts m n (suc index) ps) ≤ weigh_visits m body vs + all_fetched m vs → length (cut_parts m n index (p ∷ ps)) ≤ (suc (behind m p.cut.before) + weigh_visits m body vs) + (fetched (call_before m p.cut) + all_fetched m vs)
      begun p ps h =
          let e : length (restore_parts m n index p (call_before m p.cut)) ≡ behind m p.cut.before + fetched (call_before m p.cut) = restores_long index p (call_before m p.cut) in
          let x : length (cut_parts m n index (p ∷ ps)) ≡ length (restore_parts m n index p (call_before m p.cut)) + suc (length (cut_parts m n (suc index) ps)) = cut_long index p ps in
          omega arith

  body_few : (b : Body) → (spot_at b.sequence (place [] 0) ≡ Some (spot b.sequence.levels nil b.sequence.code)) → arguments m (visits b.scope b.sequence) ≤ length (all_ops b.sequence.code)
      → 9 * length (cut_parts m n 1 (pieces (visits b.scope b.sequence))) ≤ 28 * length (all_ops b.sequence.code) + 9
  body_few b e few =
      let p : length (cut_parts m n 1 (pieces (visits b.scope b.sequence))) ≤ weigh_visits m b.sequence (visits b.scope b.sequence) + all_fetched m (visits b.scope b.sequence) = cuts_few b.sequence 1 0 (visits b.scope b.sequence) in
      let v : weigh_visits m b.sequence (visits b.scope b.sequence) ≤ weigh m b.sequence (places b.sequence.code) = visits_few m b.sequence b.scope (places b.sequence.code) in
      let c : weigh m b.sequence (places b.sequence.code) ≤ 3 * length (all_ops b.sequence.code) + 1 + 0 = places_few m b.sequence [] 0 b.sequence.levels nil b.sequence.code e in
      let a : 9 * all_fetched m (visits b.scope b.sequence) ≤ arguments m (visits b.scope b.sequence) = all_fetched_few m (visits b.scope b.sequence) in
      omega arith

  -- A function has no more pieces of its body, and pieces that restore its frame or divide, than places and calls. Those that fetch
  -- the arguments of its calls are a ninth of its instructions at most.
  pub body_parts_few : Valid m → (f : Func) → slice_get m.funcs n ≡ Some f → 9 * length (cut_parts m n 1 (function_pieces m n)) ≤ 28 * function_size f + 9
  body_parts_few valid f at =
      subst (λ (o : Option Func). 9 * length (cut_parts m n 1 (pieces (body_visits (o >>= λ g. option_map (body_of m g) (function_type m g))))) ≤ 28 * function_size f + 9) (sym at) (go (function_type m f) refl)
    where
      go : (o : Option FuncType) → function_type m f ≡ o → 9 * length (cut_parts m n 1 (pieces (body_visits (option_map (body_of m f) o)))) ≤ 28 * function_size f + 9
      go None e = omega arith
      go (Some t) e = body_few (body_of m f t) refl (arguments_few m valid n f t at e)

  -- ---- parts

  function_parts_few : Valid m → (f : Func) → slice_get m.funcs n ≡ Some f → 9 * length (function_parts m n f) ≤ 28 * function_size f + 27
  function_parts_few valid f at = go (function_type m f)
    where
      go : (o : Option FuncType) → 9 * length (parts_of_type m n f o) ≤ 28 * function_size f + 27
      go None = omega arith
      go (Some t) =
          let h : 9 * length (cut_parts m n 1 (function_pieces m n)) ≤ 28 * function_size f + 9 = body_parts_few valid f at in
          let r : 9 * suc (suc (length (cut_parts m n 1 (function_pieces m n)))) ≤ 28 * function_size f + 27 = omega arith in
          r

-- the sum of the sizes of functions
abbrev sizes : List Func → ℕ
sizes [] = 0
sizes (f ∷ fs) = function_size f + sizes fs

-- these stand in a list, from this index on
abbrev pub FollowIn : {A : Type 0} → List A → ℕ → List A → Type 0
FollowIn {A = A} all n xs = (i : ℕ) (x : A) → slice_get xs i ≡ Some x → slice_get all (n + i) ≡ Some x

pub first_in : {A : Type 0} (all : List A) (n : ℕ) (x : A) (xs : List A) → FollowIn all n (x ∷ xs) → slice_get all n ≡ Some x
first_in all n x xs h = subst (λ k. slice_get all k ≡ Some x) (let e : n + 0 ≡ n = omega arith in e) (h 0 x refl)

pub others_in : {A : Type 0} (all : List A) (n : ℕ) (x : A) (xs : List A) → FollowIn all n (x ∷ xs) → FollowIn all (suc n) xs
others_in all n x xs h i y e = subst (λ k. slice_get all k ≡ Some y) (let d : n + suc i ≡ suc n + i = omega arith in d) (h (suc i) y e)

pub all_in : {A : Type 0} (all : List A) → FollowIn all 0 all
all_in all i x e = subst (λ k. slice_get all k ≡ Some x) (let d : i ≡ 0 + i = omega arith in d) e

functions_few : (m : Module) → Valid m → (n : ℕ) (fs : List Func) → FollowIn m.funcs n fs → 9 * length (parts_by m n fs) ≤ 28 * sizes fs + 27 * length fs
functions_few m valid n [] h = omega arith
functions_few m valid n (f ∷ fs) h =
    let a : 9 * length (function_parts m n f) ≤ 28 * function_size f + 27 = function_parts_few m n valid f (first_in m.funcs n f fs h) in
    let b : 9 * length (parts_by m (suc n) fs) ≤ 28 * sizes fs + 27 * length fs = functions_few m valid (suc n) fs (others_in m.funcs n f fs h) in
    let e : length (function_parts m n f ++ parts_by m (suc n) fs) ≡ length (function_parts m n f) + length (parts_by m (suc n) fs) = length-append (function_parts m n f) (parts_by m (suc n) fs) in
    let r : 9 * length (function_parts m n f ++ parts_by m (suc n) fs) ≤ 28 * (function_size f + sizes fs) + 27 * suc (length fs) = omega arith in
    r

-- ---- takers

pub takers_low : (m : Module) (n : ℕ) (f : Func) → InProfile m → slice_get m.funcs n ≡ Some f → takers_of (function_type m f) ≤ 11
takers_low m n f p at = go (function_type m f) refl
  where
    all : function_locals m f ≤ 1024
    all = at_place (λ k. k ≤ 1024) (map (function_locals m) m.funcs) n (function_locals m f) p.within_limits.locals (slice_get-map (function_locals m) m.funcs n ∙ ap (option_map (function_locals m)) at)

    go : (o : Option FuncType) → function_type m f ≡ o → takers_of o ≤ 11
    go None e = omega arith
    go (Some t) e =
        let a : params_count (slice_get m.types f.kind) ≡ length t.params = ap params_count e in
        let b : widths t.params ≤ 2 * length t.params = all_narrow t.params in
        let c : function_locals m f ≤ 1024 = all in
        let d : widths t.params ≤ 2048 = omega arith in
        let r : widths t.params / 192 ≤ 11 = omega arith in
        r

most_low : (m : Module) (n : ℕ) (fs : List Func) → InProfile m → FollowIn m.funcs n fs → most_takers_of m fs ≤ 11
most_low m n [] p h = omega arith
most_low m n (f ∷ fs) p h = max-le (takers_low m n f p (first_in m.funcs n f fs h)) (most_low m (suc n) fs p (others_in m.funcs n f fs h))

pub takers_are_few : (m : Module) → IsProgram m → most_takers_of m m.funcs ≤ 11
takers_are_few m p = most_low m 0 m.funcs p.profile (all_in m.funcs)

takers_long : (k : ℕ) → length (taker_parts k) ≡ k
takers_long zero = refl
takers_long (suc k) =
    let e : length (taker_parts k) ≡ k = takers_long k in
    let x : length (taker_parts (suc k)) ≡ length (taker_parts k) + 1 = length-append (taker_parts k) _ in
    omega arith

-- ---- placers

placers_low : (m : Module) → IsProgram m → Low m → (n : ℕ) (fs : List Func) → most_placers_of m n fs ≤ 4096
placers_low m p low n [] = omega arith
placers_low m p low n (f ∷ fs) = max-le (placers_few m p low n) (placers_low m p low (n + 1) fs)

pub placers_are_few : (m : Module) → IsProgram m → Low m → most_placers_of m 0 m.funcs ≤ 4096
placers_are_few m p low = placers_low m p low 0 m.funcs

placers_long : (ints k : ℕ) → length (placer_parts ints k) ≡ k
placers_long ints zero = refl
placers_long ints (suc k) =
    let e : length (placer_parts ints k) ≡ k = placers_long ints k in
    let x : length (placer_parts ints (suc k)) ≡ length (placer_parts ints k) + 1 = length-append (placer_parts ints k) _ in
    omega arith

-- ---- a module

sizes_by : (fs : List Func) → sizes fs ≡ sum_by function_size fs
sizes_by [] = refl
sizes_by (f ∷ fs) = ap (λ k. function_size f + k) (sizes_by fs) ∙ sym (sum_by-cons function_size f fs)

sizes_are : (fs : List Func) → sizes fs ≡ sum (map function_size fs)
sizes_are fs = sizes_by fs ∙ sym (sum-map function_size fs)

growers_few : (o : Option Limits) → length (grower_parts o) ≤ 1
growers_few None = omega arith
growers_few (Some l) = omega arith

shared_few : (m : Module) → IsProgram m → Low m → length (shared_parts m) ≤ 8207
shared_few m p low =
    let takers : List Part = taker_parts (most_takers_of m m.funcs) in
    let ones : List Part = placer_parts 1 (most_placers_of m 0 m.funcs) in
    let pairs : List Part = placer_parts 2 (most_placers_of m 0 m.funcs) in
    let a : most_takers_of m m.funcs ≤ 11 = takers_are_few m p in
    let b : length (taker_parts (most_takers_of m m.funcs)) ≡ most_takers_of m m.funcs = takers_long (most_takers_of m m.funcs) in
    let c : most_placers_of m 0 m.funcs ≤ 4096 = placers_are_few m p low in
    let d : length (placer_parts 1 (most_placers_of m 0 m.funcs)) ≡ most_placers_of m 0 m.funcs = placers_long 1 (most_placers_of m 0 m.funcs) in
    let i : length (placer_parts 2 (most_placers_of m 0 m.funcs)) ≡ most_placers_of m 0 m.funcs = placers_long 2 (most_placers_of m 0 m.funcs) in
    let growers : List Part = grower_parts (slice_get m.mems 0) in
    let g : length (grower_parts (slice_get m.mems 0)) ≤ 1 = growers_few (slice_get m.mems 0) in
    let h : length (pairs ++ growers) ≡ length pairs + length growers = length-append pairs growers in
    let j : length (ones ++ (pairs ++ growers)) ≡ length ones + length (pairs ++ growers) = length-append ones (pairs ++ growers) in
    let e : length (done_parts ++ (ones ++ (pairs ++ growers))) ≡ 3 + length (ones ++ (pairs ++ growers)) = length-append done_parts (ones ++ (pairs ++ growers)) in
    let f : length (takers ++ (done_parts ++ (ones ++ (pairs ++ growers)))) ≡ length takers + length (done_parts ++ (ones ++ (pairs ++ growers))) = length-append takers (done_parts ++ (ones ++ (pairs ++ growers))) in
    let r : length (takers ++ (done_parts ++ (ones ++ (pairs ++ growers)))) ≤ 8207 = omega arith in
    r

-- a module has at most so many pieces
pub parts_are_few : (m : Module) → IsProgram m → Low m → length (module_parts m) ≤ 900000
parts_are_few m p low =
    let a : 9 * length (parts_by m 0 m.funcs) ≤ 28 * sizes m.funcs + 27 * length m.funcs = functions_few m p.valid 0 m.funcs (all_in m.funcs) in
    let b : sizes m.funcs ≡ sum (map function_size m.funcs) = sizes_are m.funcs in
    let c : sum (map function_size m.funcs) ≤ 262144 = p.profile.within_limits.instructions in
    let d : length m.funcs ≤ 8192 = functions_are_few m p in
    let e : length (shared_parts m) ≤ 8207 = shared_few m p low in
    let f : length (parts_by m 0 m.funcs ++ shared_parts m) ≡ length (parts_by m 0 m.funcs) + length (shared_parts m) = length-append (parts_by m 0 m.funcs) (shared_parts m) in
    let g : length (parts_by m 0 m.funcs ++ shared_parts m) ≤ 900000 = omega arith in
    g

-- ---- instantiation

pub globals_are_few : (m : Module) → IsProgram m → length m.globals ≤ 4096
globals_are_few m p = p.profile.within_limits.globals

global_pieces_few : (m : Module) → IsProgram m → global_pieces m ≤ 30
global_pieces_few m p = let h : length m.globals ≤ 4096 = globals_are_few m p in let r : (length m.globals + 139) / 140 ≤ 30 = omega arith in r

-- a memory begins with few pages
pages_few : (m : Module) → IsProgram m → least_pages (slice_get m.mems 0) ≤ PAGES
pages_few m p = go (slice_get m.mems 0) refl
  where
    go : (o : Option Limits) → slice_get m.mems 0 ≡ o → least_pages o ≤ PAGES
    go None e = omega arith
    go (Some l) e = at_place (λ n. n ≤ PAGES) (map pages m.mems) 0 (pages l) p.profile.within_limits.memories (slice_get-map pages m.mems 0 ∙ ap (option_map pages) e)

pub later_pieces_few : (m : Module) → IsProgram m → later_pieces m ≤ 30 + PAGES
later_pieces_few m p =
    let a : global_pieces m ≤ 30 = global_pieces_few m p in
    let b : least_pages (slice_get m.mems 0) ≤ PAGES = pages_few m p in
    omega arith

pub inits_long : (m : Module) (k : ℕ) → length (init_parts m k) ≡ k
inits_long m zero = refl
inits_long m (suc k) =
    let e : length (init_parts m k) ≡ k = inits_long m k in
    let x : length (init_parts m (suc k)) ≡ length (init_parts m k) + 1 = length-append (init_parts m k) _ in
    omega arith

filtered_few : (test : Export → Bool) (es : List Export) → length (filter test es) ≤ length es
filtered_few test [] = omega arith
filtered_few test (e ∷ es) = go (test e) (filtered_few test es)
  where
    go : (b : Bool) → length (filter test es) ≤ length es → length (if b then e ∷ filter test es else filter test es) ≤ suc (length es)
    go true h = let r : suc (length (filter test es)) ≤ suc (length es) = omega arith in r
    go false h = omega arith

-- a module has at most so many exports
pub exports_are_few : (m : Module) → IsProgram m → length (exported_functions m) ≤ 4096
exports_are_few m p =
    let a : length (exported_functions m) ≡ length (filter (λ e. is_function e.space) m.exports) = length-map (filter (λ e. is_function e.space) m.exports) exported_index in
    let b : length (filter (λ e. is_function e.space) m.exports) ≤ length m.exports = filtered_few (λ e. is_function e.space) m.exports in
    let c : length m.exports ≤ 4096 = p.profile.within_limits.exports in
    omega arith
