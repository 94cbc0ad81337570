-- All pieces of bodies are light.
use Rattle.std.proofs.Common.{◌≡◌, ℕ, suc, ◌+◌, ◌-◌, ◌/◌, ◌≤◌, ◌<◌, inl, inr, List, [], ◌∷◌, ◌++◌, length, Bool, true, false, Option, Some, None, refl, subst, arith}
use Rattle.std.specs.Prelude.{slice_get, if◌then◌else◌}
use Rattle.std.specs.List.{Contains}
use Rattle.std.proofs.lemmas.Option.{slice_get_within}
use Rattle.wm_ast.specs.declared.operator.BinaryOp.{BinaryOp}
use Rattle.wm_ast.specs.declared.module.Func.{Func}
use Rattle.wm_ast.specs.declared.module.FuncType.{FuncType}
use Rattle.wm_ast.specs.declared.module.Module.{Module}
use Rattle.wm_ast.specs.declared.module.ValType.{ValType}
use Rattle.wm_ast.specs.Types.{run_types}
use Rattle.wm_valid.specs.Height.{Low}
use Rattle.wm_flat.specs.FlatTyping.{IsFunction}
use Rattle.wm_flat.specs.Program.{IsProgram}
use Rattle.wm_place.specs.Spot.{ends_at}
use Rattle.wm_place.specs.Kinds.{Body, first_of, body_of, function_body}
use Rattle.wm_place.specs.Visit.{Visit, visits, body_visits}
use Rattle.wm_place.proofs.KindLemmas.{Typed}
use Rattle.cc_line.specs.Item.{Items}
use Rattle.cc_line.specs.Key.{body_piece}
use Rattle.cc_cut.specs.Law.{widths, weight_of}
use Rattle.cc_cut.specs.Piece.{Piece, places_in, function_pieces, pieces}
use Rattle.cc_cut.proofs.CutLemmas.{Has, has, all_visits}
use Rattle.cc_cut.proofs.LawLemmas.{all_fit}
use Rattle.cc_cut.proofs.ListLemmas.{In, among}
use Rattle.cc_call.specs.Frames.{restore_acts}
use Rattle.cc_pieces.specs.Fetching.{fetches, opened_acts}
use Rattle.cc_pieces.specs.Entry.{entry_acts}
use Rattle.cc_pieces.specs.Law.{IsLight}
use Rattle.cc_pieces.proofs.DividingWeights.{turning_light, answering_light}
use Rattle.cc_pieces.proofs.Weights.{Sound, wider, sound_light}
use Rattle.cc_pieces.proofs.Fits.{body_plain}
use Rattle.cc_pieces.proofs.CallWeights.{restore_sound, restore_length}
use Rattle.cc_pieces.proofs.FetchWeights.{fetching_light, opened_sound, opened_length}
use Rattle.cc_pieces.proofs.LightPieces.{acts_light, entry_length, entry_sound}
use Rattle.cc_body.specs.KnownConstants.{nothing_known}
use Rattle.cc_body.specs.Behind.{call_before}
use Rattle.cc_body.specs.Layout.{top_place, frame_size}
use Rattle.cc_body.specs.Emit.{piece_items}
use Rattle.cc_body.specs.Placers.{some_place, body_placers}
use Rattle.cc_body.specs.Pieces.{opening_items, body_results, items_in, plain_items, lean_cut, run_on, restore_in, fetch_in, answer_in, function_entry}
use Rattle.cc_body.specs.Law.{PiecesAreLight, PlacersAreFew, TakersAreFew}
use Rattle.cc_body.proofs.LeanPieces.{lean_light, run_on_light}
use Rattle.cc_body.proofs.NumberLines.{NumbersAreLines}
use Rattle.cc_body.proofs.Arguments.{fetches_few}
use Rattle.cc_body.proofs.PlaceWeights.{result_arity, Known, AllKnown, places_sound}
use Rattle.cc_body.proofs.Bounds.{places_among, index_low, top_low, range_at, labels_at, globals_at, frames_low, sizes_low, functions_are_few, types_are_few, pieces_few, contained, one_result, before_narrow, locals_narrow}
use Rattle.cc_body.proofs.WidthLemmas.{widths_both}

-- ---- the pieces of bodies

all_known : (m : Module) (locals : List ValType) (vs : List Visit) → ((v : Visit) → In v vs → Known m locals v) → AllKnown m locals vs
all_known m locals [] h = tt
all_known m locals (v ∷ vs) h = (h v (inl refl), all_known m locals vs (λ w i. h w (inr i)))

module _ (lines : NumbersAreLines) (m : Module) (program : IsProgram m) (low : Low m) (n : ℕ) (named : n < 2147483648) (q : Piece) where
  -- the piece of a body, as it is emitted, and the one that restores the frame before it
  of_body : weight_of (places_in q) ≤ 436 → (b : Body) → function_body m n ≡ Some b → Contains (pieces (visits b.scope b.sequence)) q
      → IsLight (piece_items m n (body_results b) b.scope.locals (pieces (visits b.scope b.sequence)) q)
  of_body light b e h =
      let x : Has m n b = has m program.valid n b e in
      subst (λ (y : Body). Contains (pieces (visits y.scope y.sequence)) q → IsLight (piece_items m n (body_results y) y.scope.locals (pieces (visits y.scope y.sequence)) q)) x.is
      (λ h.
      let f : Func = x.function in
      let t : Typed m n f = x.typed in
      let vs : List Visit = all_visits m n f t in
      let locals : List ValType = t.type.params ++ run_types f.locals in
      let there : In q (pieces vs) = among (pieces vs) q h in
      let known : AllKnown m locals (places_in q) =
      all_known m locals (places_in q)
      (λ v i.
      let w : In v vs = places_among vs 0 q v there i in
      let g = range_at m program n f x.at t v w in
      let room : top_place locals v ≤ 4096 = top_low m program n f x.at t low v w in
      record { range = g; labels = labels_at m program n f x.at t v w; globals = globals_at m program n f x.at t v w; room = omega arith }) in
      let s : Sound (weight_of (places_in q) + 6) (piece_items m n (body_results (body_of m f t.type)) locals (pieces vs) q) =
      places_sound m n (body_results (body_of m f t.type)) locals (pieces vs) named (result_arity (first_of t.type.results)) (index_low m program n f x.at t) (sizes_low m program low) (functions_are_few m program) (types_are_few m program) program lines nothing_known None (places_in q) known in
      sound_light (piece_items m n (body_results (body_of m f t.type)) locals (pieces vs) q) (wider (weight_of (places_in q) + 6) 442 (piece_items m n (body_results (body_of m f t.type)) locals (pieces vs) q) (omega arith) s))
      h

  by_body : weight_of (places_in q) ≤ 436 → (o : Option Body) → function_body m n ≡ o → Contains (pieces (body_visits o)) q → IsLight (items_in m n (pieces (body_visits o)) o q)
  by_body light None e h = absurd (among [] q h)
  by_body light (Some b) e h = of_body light b e h

  restore_body : (index : ℕ) (t : FuncType) → index ≤ 1000000 → call_before m q.cut ≡ Some t → (b : Body) → function_body m n ≡ Some b → Contains (pieces (visits b.scope b.sequence)) q
      → IsLight (restore_in m n index q.cut t (Some b))
  restore_body index t small behind b e h =
      let x : Has m n b = has m program.valid n b e in
      subst (λ (y : Body). Contains (pieces (visits y.scope y.sequence)) q → IsLight (restore_in m n index q.cut t (Some y))) x.is
      (λ h.
      let f : Func = x.function in
      let u : Typed m n f = x.typed in
      let vs : List Visit = all_visits m n f u in
      let locals : List ValType = u.type.params ++ run_types f.locals in
      let there : In q (pieces vs) = among (pieces vs) q h in
      let room : top_place locals q.cut ≤ 4096 = top_low m program n f x.at u low q.cut (places_among vs 0 q q.cut there (inl refl)) in
      let narrow : widths t.results ≤ 2 = before_narrow m program q.cut t behind in
      let z : ℕ = top_place locals q.cut - widths t.results in
      acts_light (restore_acts z (widths t.results) (frame_size m n) (body_piece n index))
      (restore_sound z (widths t.results) (frame_size m n) (body_piece n index) (omega arith) (omega arith) (sizes_low m program low n) (body_plain n index named (omega arith)))
      (restore_length z (widths t.results) (frame_size m n) (body_piece n index) narrow))
      h

  by_restore : (index : ℕ) (t : FuncType) → index ≤ 1000000 → call_before m q.cut ≡ Some t → (o : Option Body) → function_body m n ≡ o → Contains (pieces (body_visits o)) q → IsLight (restore_in m n index q.cut t o)
  by_restore index t small behind None e h = absurd (among [] q h)
  by_restore index t small behind (Some b) e h = restore_body index t small behind b e h

  -- one that fetches arguments
  fetch_body : (index k : ℕ) (t : FuncType) → index ≤ 1000000 → k ≤ 7 → (b : Body) → function_body m n ≡ Some b → Contains (pieces (visits b.scope b.sequence)) q
      → IsLight (fetch_in m n index k q.cut t (Some b))
  fetch_body index k t small few b e h =
      let x : Has m n b = has m program.valid n b e in
      subst (λ (y : Body). Contains (pieces (visits y.scope y.sequence)) q → IsLight (fetch_in m n index k q.cut t (Some y))) x.is
      (λ h.
      let f : Func = x.function in
      let u : Typed m n f = x.typed in
      let vs : List Visit = all_visits m n f u in
      let locals : List ValType = u.type.params ++ run_types f.locals in
      let there : In q (pieces vs) = among (pieces vs) q h in
      let room : top_place locals q.cut ≤ 4096 = top_low m program n f x.at u low q.cut (places_among vs 0 q q.cut there (inl refl)) in
      fetching_light (top_place locals q.cut - widths t.results) (widths t.params) n index k named (omega arith) small few)
      h

  by_fetch : (index k : ℕ) (t : FuncType) → index ≤ 1000000 → k ≤ 7 → (o : Option Body) → function_body m n ≡ o → Contains (pieces (body_visits o)) q → IsLight (fetch_in m n index k q.cut t o)
  by_fetch index k t small few None e h = absurd (among [] q h)
  by_fetch index k t small few (Some b) e h = fetch_body index k t small few b e h

  -- one that puts the answer of a division to its places
  answer_body : (index : ℕ) (op : BinaryOp) → index ≤ 1000000 → (b : Body) → function_body m n ≡ Some b → Contains (pieces (visits b.scope b.sequence)) q → IsLight (answer_in n index q.cut op (Some b))
  answer_body index op small b e h =
      let x : Has m n b = has m program.valid n b e in
      subst (λ (y : Body). Contains (pieces (visits y.scope y.sequence)) q → IsLight (answer_in n index q.cut op (Some y))) x.is
      (λ h.
      let f : Func = x.function in
      let u : Typed m n f = x.typed in
      let vs : List Visit = all_visits m n f u in
      let locals : List ValType = u.type.params ++ run_types f.locals in
      let there : In q (pieces vs) = among (pieces vs) q h in
      let room : top_place locals q.cut ≤ 4096 = top_low m program n f x.at u low q.cut (places_among vs 0 q q.cut there (inl refl)) in
      answering_light op (top_place locals q.cut) n index (omega arith) named small)
      h

  by_answer : (index : ℕ) (op : BinaryOp) → index ≤ 1000000 → (o : Option Body) → function_body m n ≡ o → Contains (pieces (body_visits o)) q → IsLight (answer_in n index q.cut op o)
  by_answer index op small None e h = absurd (among [] q h)
  by_answer index op small (Some b) e h = answer_body index op small b e h

-- ---- the pieces of calls

module _ (m : Module) (program : IsProgram m) (low : Low m) (n : ℕ) (named : n < 2147483648) (f : Func) (t : FuncType) (is : IsFunction m n f t) where
  abbrev params : ℕ
  params = widths t.params

  abbrev own : ℕ
  own = widths (t.params ++ run_types f.locals)

  few : widths (t.params ++ run_types f.locals) ≤ 2048
  few = locals_narrow m n f t program.profile is.there is.has_type

  within : widths t.params ≤ widths (t.params ++ run_types f.locals)
  within = let both : widths (t.params ++ run_types f.locals) ≡ widths t.params + widths (run_types f.locals) = widths_both t.params (run_types f.locals) in omega arith

  small : frame_size m n ≤ 8000
  small = sizes_low m program low n

  entry_light : IsLight (function_entry m n f t)
  entry_light =
      let narrow : widths t.results ≤ 2 = one_result m program f t is.has_type in
      acts_light (entry_acts n params own (widths t.results) (frame_size m n)) (entry_sound n params own (widths t.results) (frame_size m n) named within few narrow small) (entry_length n params own (widths t.results) (frame_size m n) named within few narrow small)

  pub opening_light : IsLight (opening_items n t (run_types f.locals) (frame_size m n))
  opening_light =
      let a : widths (t.params ++ run_types f.locals) ≤ 2048 = few in
      let b : widths t.params ≤ widths (t.params ++ run_types f.locals) = within in
      acts_light (opened_acts params own (frame_size m n) (body_piece n 1)) (opened_sound params own (frame_size m n) (body_piece n 1) (omega arith) small (body_plain n 1 named (omega arith))) (opened_length params own (frame_size m n) (body_piece n 1))

index_small : (m : Module) → IsProgram m → (n position : ℕ) (q : Piece) → slice_get (function_pieces m n) position ≡ Some q → suc position ≤ 1000000
index_small m program n position q at =
    let a : position < length (function_pieces m n) = slice_get_within (function_pieces m n) position q at in
    let b : length (function_pieces m n) ≤ 900000 = pieces_few m program n in
    omega arith

-- the pieces of a body as they are emitted
pub plain_light : NumbersAreLines → (m : Module) → IsProgram m → Low m → (n : ℕ) → n < 2147483648 → (q : Piece) → Contains (function_pieces m n) q → IsLight (plain_items m n q)
plain_light lines m program low n named q h = by_body lines m program low n named q (all_fit m n q h) (function_body m n) refl h

-- and made lean
lean_cut_light : NumbersAreLines → (m : Module) → IsProgram m → Low m → (n : ℕ) → n < 2147483648 → (q : Piece) → Contains (function_pieces m n) q → IsLight (lean_cut m n q)
lean_cut_light lines m program low n named q h =
    lean_light n (function_pieces m n) (function_body m n) (Some q) (plain_items m n q) (plain_light lines m program low n named q h)

on_light : NumbersAreLines → (m : Module) → IsProgram m → Low m → (n : ℕ) → n < 2147483648 → (xs : Items) → IsLight xs → IsLight (run_on m n xs)
on_light lines m program low n named = run_on_light m n (lean_cut_light lines m program low n named)

-- what runs on besides
pub restore_light : NumbersAreLines → (m : Module) → IsProgram m → Low m → (n : ℕ) → n < 2147483648 → (position : ℕ) (q : Piece) (t : FuncType) → slice_get (function_pieces m n) position ≡ Some q → call_before m q.cut ≡ Some t
    → IsLight (restore_in m n (suc position) q.cut t (function_body m n))
restore_light lines m program low n named position q t at behind =
    by_restore lines m program low n named q (suc position) t (index_small m program n position q at) behind (function_body m n) refl (contained (function_pieces m n) position q at)

pub answer_light : NumbersAreLines → (m : Module) → IsProgram m → Low m → (n : ℕ) → n < 2147483648 → (position : ℕ) (q : Piece) (op : BinaryOp) → slice_get (function_pieces m n) position ≡ Some q
    → IsLight (answer_in n (suc position) q.cut op (function_body m n))
answer_light lines m program low n named position q op at =
    by_answer lines m program low n named q (suc position) op (index_small m program n position q at) (function_body m n) refl (contained (function_pieces m n) position q at)

pub pieces_light : NumbersAreLines → PiecesAreLight
pieces_light lines m program low n named = (
  (λ q h. on_light lines m program low n named (lean_cut m n q) (lean_cut_light lines m program low n named q h)),
  (λ f t is. entry_light m program low n named f t is),
  (λ f t is. on_light lines m program low n named (opening_items n t (run_types f.locals) (frame_size m n)) (opening_light m program low n named f t is)),
  (λ position q t at behind.
      on_light lines m program low n named (restore_in m n (suc position) q.cut t (function_body m n)) (restore_light lines m program low n named position q t at behind)),
  (λ position k q t at behind l.
      let h : Contains (function_pieces m n) q = contained (function_pieces m n) position q at in
      let c : fetches (widths t.params) ≤ 8 = fetches_few m program low n position q t at behind in
      by_fetch lines m program low n named q (suc position) k t (index_small m program n position q at) (omega arith) (function_body m n) refl h),
  (λ position q op at behind. (
    turning_light n (suc position) named (index_small m program n position q at),
    on_light lines m program low n named (answer_in n (suc position) q.cut op (function_body m n)) (answer_light lines m program low n named position q op at),
  )),
)

pub placers_few : PlacersAreFew
placers_few m program low n = bounded (function_body m n)
  where
    size : frame_size m n ≤ 4096
    size = frames_low m program low n

    bounded : (o : Option Body) → body_placers (frame_size m n) o ≤ 4096
    bounded None = omega arith
    bounded (Some b) = by_some (some_place (length (ends_at b.sequence.levels)) (visits b.scope b.sequence))
      where
        by_some : (c : Bool) → (if c then frame_size m n else 0) ≤ 4096
        by_some true = size
        by_some false = omega arith

pub takers_few : TakersAreFew
takers_few m program n f t is =
    let few : widths (t.params ++ run_types f.locals) ≤ 2048 = locals_narrow m n f t program.profile is.there is.has_type in
    let both : widths (t.params ++ run_types f.locals) ≡ widths t.params + widths (run_types f.locals) = widths_both t.params (run_types f.locals) in
    let r : widths t.params / 192 ≤ 11 = omega arith in
    r
