-- The items of each piece fit, and are light.
use Rattle.std.proofs.Common.{◌≡◌, refl, ℕ, zero, suc, ◌+◌, ◌<◌, ◌≤◌, List, [], ◌∷◌, ◌++◌, length, Option, Some, None, true, arith}
use Rattle.std.specs.Prelude.{nat_lt, slice_get}
use Rattle.std.proofs.lemmas.Option.{slice_get_within}
use Rattle.mc_cmd.specs.Form.{Text}
use Rattle.mc_cmd.specs.Word.{is_function_name}
use Rattle.mc_cmd.specs.declared.TheConstants.{PIECE}
use Rattle.wm_ast.specs.declared.limit.TheConstants.{PAGES}
use Rattle.wm_ast.specs.declared.module.Func.{Func}
use Rattle.wm_ast.specs.declared.module.FuncType.{FuncType}
use Rattle.wm_ast.specs.declared.module.Limits.{Limits}
use Rattle.wm_ast.specs.declared.module.Module.{Module}
use Rattle.wm_ast.specs.declared.operator.BinaryOp.{BinaryOp}
use Rattle.wm_ast.specs.Types.{function_type}
use Rattle.wm_valid.specs.Height.{Low}
use Rattle.wm_flat.specs.FlatTyping.{IsFunction}
use Rattle.wm_flat.specs.Program.{IsProgram}
use Rattle.cc_line.specs.Key.{body_piece, init_piece}
use Rattle.cc_line.specs.Item.{items_fit, items_most, Items}
use Rattle.cc_cut.specs.Law.{widths}
use Rattle.cc_cut.specs.Piece.{function_pieces, Piece}
use Rattle.cc_sched.specs.Charge.{charge, round_weight}
use Rattle.cc_sched.specs.Names.{PieceFits, routine_name}
use Rattle.cc_sched.specs.Pieces.{turn_weight}
use Rattle.cc_sched.proofs.PieceItems.{routine_fits}
use Rattle.cc_call.specs.Frames.{done_piece, opening_piece}
use Rattle.cc_bulk.specs.Grow.{grower_items}
use Rattle.cc_body.specs.Behind.{call_before}
use Rattle.cc_body.specs.Behind.{division_before}
use Rattle.cc_pieces.specs.Dividing.{turning_items}
use Rattle.cc_pieces.specs.Entry.{done_items, taker, taker_items}
use Rattle.cc_pieces.specs.Fetching.{fetch_piece, fetches}
use Rattle.cc_body.specs.Pieces.{answer_items, cut_items, fetch_items, function_entry, function_opening, restore_items}
use Rattle.cc_pieces.specs.Law.{DonesAreLight, IsLight, PlacersAreLight, GrowerIsLight, TakersAreLight}
use Rattle.cc_body.specs.Law.{PiecesAreLight}
use Rattle.cc_body.specs.Parts.{division_parts, cut_parts, fetch_parts, function_parts, module_parts, most_takers_of, parts_by, parts_of_type, restore_parts, shared_parts}
use Rattle.cc_pieces.specs.Parts.{done_parts, Part, part, placer_parts, taker_parts, grower_parts}
use Rattle.cc_body.specs.Placers.{most_placers_of}
use Rattle.cc_pieces.specs.Growing.{grower_piece}
use Rattle.cc_pieces.specs.Placing.{first_pair_placer, first_placer, placer, placer_items}
use Rattle.cc_init.specs.Init.{later_pieces, init_items, init_parts}
use Rattle.pk_agree.specs.Heaviest.{pack_parts}
use Rattle.pk_link.proofs.Counts.{all_in, contained, first_in, FollowIn, functions_are_few, by_test, later_pieces_few, others_in, placers_are_few, takers_are_few}
use Rattle.pk_link.proofs.Called.{calling, calling_fits, calling_light}
use Rattle.pk_link.proofs.LengthsItems.{charge_fits}

-- items that are lines under every namespace, and with a turn beside them weigh at most PIECE
pub record IsPiece (xs : Items) : Type 0 where
  pub fits : items_fit xs ≡ true
  pub light : items_most xs + turn_weight ≤ PIECE

abbrev pub PartsFit : List Part → Type 0
PartsFit [] = Unit {0}
PartsFit (p ∷ ps) = IsPiece p.items × PartsFit ps

fits_both : (ps qs : List Part) → PartsFit ps → PartsFit qs → PartsFit (ps ++ qs)
fits_both [] qs a b = b
fits_both (p ∷ ps) qs a b = (a.0, fits_both ps qs a.1 b)

charged_fits : (xs : Items) → IsLight xs → IsPiece (charge round_weight xs)
charged_fits xs l = record { fits = charge_fits round_weight xs l.fits (let h = l.light in omega arith); light = (let h = l.light in omega arith) }

-- those of a piece that calls the function of its lines
called_fits : (f : Text) (xs : Items) → is_function_name f ≡ true → IsLight xs → IsPiece (calling f xs)
called_fits f xs g l = record { fits = calling_fits f xs g l; light = calling_light f xs l }

-- the number of one that puts a value to its place is an int
pub placer_fits : (ints i : ℕ) → i ≤ 4096 → PieceFits (placer ints i)
placer_fits ints i h = by_test (nat_lt 1 ints) first_pair_placer first_placer (λ k. k + i < 2147483648) (let l : first_pair_placer + i < 2147483648 = omega arith in l) (let l : first_placer + i < 2147483648 = omega arith in l)

-- the pieces of instantiation are light
abbrev pub InitsAreLight : Module → Type 0
InitsAreLight m = (k : ℕ) → k ≤ later_pieces m → IsLight (init_items m k)

module _ (m : Module) (program : IsProgram m) (low : Low m) (light : PiecesAreLight) (takers : TakersAreLight) (placers : PlacersAreLight) (grower : GrowerIsLight) (dones : DonesAreLight) (inits : InitsAreLight m) where
  fetches_fit : (n : ℕ) → n < 2147483648 → (position : ℕ) (q : Piece) → slice_get (function_pieces m n) position ≡ Some q → (t : FuncType) → call_before m q.cut ≡ Some t → (k : ℕ) → k ≤ fetches (widths t.params) → PartsFit (fetch_parts m n (suc position) q t k)
  fetches_fit n l position q at t e zero h = tt
  fetches_fit n l position q at t e (suc k) h =
      fits_both (fetch_parts m n (suc position) q t k) (part (fetch_piece n (suc position) k) (fetch_items m n (suc position) k q t) ∷ []) (fetches_fit n l position q at t e k (omega arith))
      (charged_fits (fetch_items m n (suc position) k q t) ((light m program low n l).4 position k q t at e (omega arith)), tt)

  restore_fits : (n : ℕ) → n < 2147483648 → (position : ℕ) (q : Piece) → slice_get (function_pieces m n) position ≡ Some q → (o : Option FuncType) → call_before m q.cut ≡ o → PartsFit (restore_parts m n (suc position) q o)
  restore_fits n l position q at None e = by (division_before q.cut) refl
    where
      by : (d : Option BinaryOp) → division_before q.cut ≡ d → PartsFit (division_parts m n (suc position) q d)
      by None b = tt
      by (Some op) b =
          let both = (light m program low n l).5 position q op at b in
          (charged_fits (answer_items m n (suc position) q op) both.1, (charged_fits (turning_items n (suc position)) both.0, tt))
  restore_fits n l position q at (Some t) e =
      let r : fetches (widths t.params) ≤ fetches (widths t.params) = omega arith in
      (charged_fits (restore_items m n (suc position) q t) ((light m program low n l).3 position q t at e), fetches_fit n l position q at t e (fetches (widths t.params)) r)

  cuts_fit : (n : ℕ) → n < 2147483648 → (position : ℕ) (ps : List Piece) → FollowIn (function_pieces m n) position ps → PartsFit (cut_parts m n (suc position) ps)
  cuts_fit n l position [] within = tt
  cuts_fit n l position (q ∷ ps) within =
      let at : slice_get (function_pieces m n) position ≡ Some q = first_in (function_pieces m n) position q ps within in
      fits_both (restore_parts m n (suc position) q (call_before m q.cut)) (part (body_piece n (suc position)) (cut_items m n q) ∷ cut_parts m n (suc (suc position)) ps)
      (restore_fits n l position q at (call_before m q.cut) refl)
      (charged_fits (cut_items m n q) ((light m program low n l).0 q (contained (function_pieces m n) position q at)), cuts_fit n l (suc position) ps (others_in (function_pieces m n) position q ps within))

  type_fits : (n : ℕ) (f : Func) (o : Option FuncType) → slice_get m.funcs n ≡ Some f → function_type m f ≡ o → n < 100000 → PartsFit (parts_of_type m n f o)
  type_fits n f None at e few = tt
  type_fits n f (Some t) at e few =
      let l : n < 2147483648 = omega arith in
      let is : IsFunction m n f t = record { there = at; has_type = e } in (
        charged_fits (function_entry m n f t) ((light m program low n l).1 f t is),
        (called_fits (routine_name (opening_piece n)) (function_opening m n f t) (routine_fits (opening_piece n) (let i : 10016 + n < 2147483648 = omega arith in i)) ((light m program low n l).2 f t is), cuts_fit n l 0 (function_pieces m n) (all_in (function_pieces m n))),
      )

  functions_fit : (n : ℕ) (fs : List Func) → FollowIn m.funcs n fs → PartsFit (parts_by m n fs)
  functions_fit n [] h = tt
  functions_fit n (f ∷ fs) h =
      let at : slice_get m.funcs n ≡ Some f = first_in m.funcs n f fs h in
      let a : n < length m.funcs = slice_get_within m.funcs n f at in
      let b : length m.funcs ≤ 8192 = functions_are_few m program in
      fits_both (function_parts m n f) (parts_by m (suc n) fs) (type_fits n f (function_type m f) at refl (omega arith)) (functions_fit (suc n) fs (others_in m.funcs n f fs h))

  takers_fit : (k : ℕ) → k ≤ 11 → PartsFit (taker_parts k)
  takers_fit zero h = tt
  takers_fit (suc k) h = fits_both (taker_parts k) (part (taker k) (taker_items k) ∷ []) (takers_fit k (omega arith)) (called_fits (routine_name (taker k)) (taker_items k) (routine_fits (taker k) (let i : 5000 + k < 2147483648 = omega arith in i)) (takers k (omega arith)), tt)

  placers_fit : (ints k : ℕ) → ints ≤ 2 → k ≤ 4096 → PartsFit (placer_parts ints k)
  placers_fit ints zero few h = tt
  placers_fit ints (suc k) few h =
      fits_both (placer_parts ints k) (part (placer ints k) (placer_items ints k) ∷ []) (placers_fit ints k few (omega arith)) (called_fits (routine_name (placer ints k)) (placer_items ints k) (routine_fits (placer ints k) (placer_fits ints k (omega arith))) (placers ints k few (omega arith)), tt)

  growers_fit : (o : Option Limits) → PartsFit (grower_parts o)
  growers_fit None = tt
  growers_fit (Some l) = (called_fits (routine_name grower_piece) grower_items (routine_fits grower_piece (let i : 30000 < 2147483648 = omega arith in i)) grower, tt)

  dones_fit : PartsFit done_parts
  dones_fit = (
    done_fits 0 (omega arith),
    (done_fits 1 (omega arith), (done_fits 2 (omega arith), tt)),
  )
    where
      done_fits : (w : ℕ) → w ≤ 2 → IsPiece (calling (routine_name (done_piece w)) (done_items w))
      done_fits w h = called_fits (routine_name (done_piece w)) (done_items w) (routine_fits (done_piece w) (let i : w < 2147483648 = omega arith in i)) (dones w h)

  shared_fit : PartsFit (shared_parts m)
  shared_fit =
      let most : ℕ = most_placers_of m 0 m.funcs in
      let few : most_placers_of m 0 m.funcs ≤ 4096 = placers_are_few m program low in
      let growers : List Part = grower_parts (slice_get m.mems 0) in
      let last : List Part = placer_parts 2 most ++ growers in
      fits_both (taker_parts (most_takers_of m m.funcs)) (done_parts ++ (placer_parts 1 most ++ last)) (takers_fit (most_takers_of m m.funcs) (takers_are_few m program))
      (fits_both done_parts (placer_parts 1 most ++ last) dones_fit
      (fits_both (placer_parts 1 most) last (placers_fit 1 most (omega arith) few) (fits_both (placer_parts 2 most) growers (placers_fit 2 most (omega arith) few) (growers_fit (slice_get m.mems 0)))))

  inits_fit : (k : ℕ) → k ≤ suc (later_pieces m) → PartsFit (init_parts m k)
  inits_fit zero h = tt
  inits_fit (suc k) h = fits_both (init_parts m k) (part (init_piece k) (init_items m k) ∷ []) (inits_fit k (omega arith)) (called_fits (routine_name (init_piece k)) (init_items m k) (routine_fits (init_piece k) (let few : later_pieces m ≤ 30 + PAGES = later_pieces_few m program in let i : k < 2147483648 = omega arith in i)) (inits k (omega arith)), tt)

  pub pack_fits : PartsFit (pack_parts m)
  pack_fits =
      fits_both (init_parts m (suc (later_pieces m))) (module_parts m) (inits_fit (suc (later_pieces m)) (omega arith))
      (fits_both (parts_by m 0 m.funcs) (shared_parts m) (functions_fit 0 m.funcs (all_in m.funcs)) shared_fit)
