-- The files of a module's pieces and of their helpers are short.
use Rattle.std.proofs.Common.{◌≡◌, ℕ, zero, suc, ◌+◌, ◌/◌, ◌≤◌, ◌<◌, List, [], ◌∷◌, ◌++◌, length, Option, Some, None, Bool, true, false, refl, subst, arith}
use Rattle.std.specs.Prelude.{if◌then◌else◌, slice_get}
use Rattle.std.specs.List.{AllByRecursion}
use Rattle.std.proofs.lemmas.Option.{slice_get_within}
use Rattle.mc_cmd.specs.Form.{Text}
use Rattle.mc_cmd.specs.Word.{is_function_name, is_namespace}
use Rattle.mc_cmd.specs.Lines.{IsShort}
use Rattle.wm_ast.specs.declared.module.Func.{Func}
use Rattle.wm_ast.specs.declared.module.FuncType.{FuncType}
use Rattle.wm_ast.specs.declared.module.Limits.{Limits}
use Rattle.wm_ast.specs.declared.module.Module.{Module}
use Rattle.wm_ast.specs.declared.operator.BinaryOp.{BinaryOp}
use Rattle.wm_ast.specs.Types.{function_type}
use Rattle.wm_valid.specs.Height.{Low}
use Rattle.wm_flat.specs.FlatTyping.{IsFunction}
use Rattle.wm_flat.specs.Program.{IsProgram}
use Rattle.cc_line.specs.Helpers.{has_helper, with_helper, with_helpers, each_once}
use Rattle.cc_line.specs.Item.{Items, items_texts, items_helpers, Helper}
use Rattle.cc_line.specs.Key.{PieceId, body_piece}
use Rattle.cc_cut.specs.Law.{widths}
use Rattle.cc_cut.specs.Piece.{Piece, function_pieces}
use Rattle.cc_call.specs.Frames.{done_piece, opening_piece}
use Rattle.cc_sched.specs.Charge.{charge, round_weight}
use Rattle.cc_sched.specs.Names.{routine_name}
use Rattle.cc_sched.proofs.PieceItems.{routine_fits}
use Rattle.cc_bulk.specs.Grow.{grower_items}
use Rattle.cc_body.specs.Behind.{call_before}
use Rattle.cc_pieces.specs.Restoring.{restore_piece}
use Rattle.cc_body.specs.Behind.{division_before}
use Rattle.cc_pieces.specs.Dividing.{turning_piece, turning_items, answering_piece}
use Rattle.cc_pieces.specs.Entry.{done_items, taker, taker_items}
use Rattle.cc_pieces.specs.Fetching.{fetch_piece, fetches}
use Rattle.cc_body.specs.Pieces.{cut_items, function_entry, function_opening, restore_items, fetch_items, answer_items}
use Rattle.cc_pieces.specs.Law.{IsLight, TakersAreLight, PlacersAreLight, GrowerIsLight, DonesAreLight}
use Rattle.cc_body.specs.Law.{PiecesAreLight}
use Rattle.cc_pieces.specs.Parts.{Part, part, taker_parts, placer_parts, done_parts, grower_parts}
use Rattle.cc_body.specs.Parts.{fetch_parts, division_parts, restore_parts, cut_parts, parts_of_type, function_parts, parts_by, takers_of, most_takers_of, shared_parts, module_parts, parts_helpers}
use Rattle.cc_pieces.specs.Growing.{grower_piece}
use Rattle.cc_pieces.specs.Placing.{placer, placer_items}
use Rattle.cc_body.specs.Placers.{most_placers_of}
use Rattle.cc_body.proofs.Arguments.{fetches_few}
use Rattle.pk_link.proofs.Counts.{FollowIn, first_in, others_in, all_in, contained, pieces_few, takers_low, takers_are_few, placers_are_few, functions_are_few}
use Rattle.cc_text.specs.Short.{AllShort, items_short}
use Rattle.cc_text.proofs.ShortItems.{short_append}
use Rattle.pk_link.proofs.Called.{called_helped, called_short, calling, calling_fits, calling_helped, calling_short}
use Rattle.pk_link.proofs.LengthsItems.{piece_is_short, helpers_are_short}
use Rattle.pk_link.proofs.PartFits.{placer_fits}
use Rattle.cc_bulk.proofs.ShortGrowing.{grower_short}
use Rattle.pk_link.proofs.LengthsBody.{IsSmall, module_small, cut_short, restore_items_short, fetch_items_short, answer_items_short, turning_items_short, function_opening_short, entry_items_short, taker_short, placer_items_short, done_short}

-- ---- parts

-- what is known of a piece under a namespace: of its lines, and of its helpers
pub record PartIsShort (ns : Text) (p : Part) : Type 0 where
  pub short : IsShort (items_texts ns p.items)
  pub helpers : AllShort (items_helpers ns p.items)

abbrev pub PartsAreShort : Text → List Part → Type 0
PartsAreShort ns ps = AllByRecursion (PartIsShort ns) ps

pub parts_append : (ns : Text) (ps qs : List Part) → PartsAreShort ns ps → PartsAreShort ns qs → PartsAreShort ns (ps ++ qs)
parts_append ns [] qs a b = b
parts_append ns (p ∷ ps) qs a b = (a.0, parts_append ns ps qs a.1 b)

module _ (ns : Text) (namespace : is_namespace ns ≡ true) where
  -- a piece of a function's body
  pub light_part : (id : PieceId) (xs : Items) → IsLight xs → items_short xs ≡ true → PartIsShort ns (record { id = id; items = charge round_weight xs })
  light_part id xs l s = record { short = piece_is_short ns namespace xs l s; helpers = helpers_are_short ns namespace xs l s }

  -- one that calls the function of its lines
  pub called_part : (id : PieceId) (f : Text) (xs : Items) → is_function_name f ≡ true → IsLight xs → IsShort (items_texts ns xs) → AllShort (items_helpers ns xs) → PartIsShort ns (record { id = id; items = calling f xs })
  called_part id f xs g l a b = record { short = calling_short ns namespace f xs (calling_fits f xs g l); helpers = calling_helped ns namespace f xs a b }

  pub light_called : (id : PieceId) (f : Text) (xs : Items) → is_function_name f ≡ true → IsLight xs → items_short xs ≡ true → PartIsShort ns (record { id = id; items = calling f xs })
  light_called id f xs g l s = called_part id f xs g l (called_short ns namespace xs l s) (called_helped ns namespace xs l s)

  module _ (m : Module) (program : IsProgram m) (low : Low m) (light : PiecesAreLight) where
    is_small : IsSmall m
    is_small = module_small m program low

    fetches_short : (n : ℕ) → n < 2147483648 → (position : ℕ) (q : Piece) → slice_get (function_pieces m n) position ≡ Some q → suc position ≤ 1000000 → (t : FuncType) → call_before m q.cut ≡ Some t → (k : ℕ) → k ≤ fetches (widths t.params) → PartsAreShort ns (fetch_parts m n (suc position) q t k)
    fetches_short n named position q at few t e zero h = tt
    fetches_short n named position q at few t e (suc k) h =
        let f : fetches (widths t.params) ≤ 8 = fetches_few m program low n position q t at e in
        parts_append ns (fetch_parts m n (suc position) q t k) (part (fetch_piece n (suc position) k) (fetch_items m n (suc position) k q t) ∷ []) (fetches_short n named position q at few t e k (omega arith))
        (light_part (fetch_piece n (suc position) k) (fetch_items m n (suc position) k q t) ((light m program low n named).4 position k q t at e (omega arith)) (fetch_items_short m is_small n (suc position) k named few (omega arith) q t), tt)

    restores_short : (n : ℕ) → n < 2147483648 → (position : ℕ) (q : Piece) → slice_get (function_pieces m n) position ≡ Some q → (o : Option FuncType) → call_before m q.cut ≡ o → PartsAreShort ns (restore_parts m n (suc position) q o)
    restores_short n named position q at None e = by (division_before q.cut) refl
      where
        by : (d : Option BinaryOp) → division_before q.cut ≡ d → PartsAreShort ns (division_parts m n (suc position) q d)
        by None b = tt
        by (Some op) b =
            let a : position < length (function_pieces m n) = slice_get_within (function_pieces m n) position q at in
            let c : length (function_pieces m n) ≤ 900000 = pieces_few m program n in
            let both = (light m program low n named).5 position q op at b in (
              light_part (answering_piece n (suc position)) (answer_items m n (suc position) q op) both.1 (answer_items_short m is_small program low n position named (omega arith) q op at),
              (light_part (turning_piece n (suc position)) (turning_items n (suc position)) both.0 (turning_items_short n (suc position) named (omega arith)), tt),
            )
    restores_short n named position q at (Some t) e =
        let a : position < length (function_pieces m n) = slice_get_within (function_pieces m n) position q at in
        let b : length (function_pieces m n) ≤ 900000 = pieces_few m program n in
        (light_part (restore_piece n (suc position)) (restore_items m n (suc position) q t) ((light m program low n named).3 position q t at e) (restore_items_short m is_small program low n position named (omega arith) q t at e), fetches_short n named position q at (omega arith) t e (fetches (widths t.params)) (omega arith))

    cuts_short : (n : ℕ) → n < 2147483648 → (position : ℕ) (ps : List Piece) → FollowIn (function_pieces m n) position ps → PartsAreShort ns (cut_parts m n (suc position) ps)
    cuts_short n named position [] within = tt
    cuts_short n named position (q ∷ ps) within =
        let at : slice_get (function_pieces m n) position ≡ Some q = first_in (function_pieces m n) position q ps within in
        parts_append ns (restore_parts m n (suc position) q (call_before m q.cut)) (part (body_piece n (suc position)) (cut_items m n q) ∷ cut_parts m n (suc (suc position)) ps)
        (restores_short n named position q at (call_before m q.cut) refl) (
          light_part (body_piece n (suc position)) (cut_items m n q) ((light m program low n named).0 q (contained (function_pieces m n) position q at)) (cut_short m is_small program low n named q (contained (function_pieces m n) position q at)),
          cuts_short n named (suc position) ps (others_in (function_pieces m n) position q ps within),
        )

    function_short : (n : ℕ) (f : Func) → slice_get m.funcs n ≡ Some f → PartsAreShort ns (function_parts m n f)
    function_short n f at = go (function_type m f) refl
      where
        indexed : n < 100000
        indexed = let a : n < length m.funcs = slice_get_within m.funcs n f at in let b : length m.funcs ≤ 8192 = functions_are_few m program in omega arith

        named : n < 2147483648
        named = let a : n < 100000 = indexed in omega arith

        few : (t : FuncType) → function_type m f ≡ Some t → widths t.params / 192 ≤ 1000
        few t e =
            let a : takers_of (function_type m f) ≤ 11 = takers_low m n f program.profile at in
            let b : widths t.params / 192 ≤ 11 = subst (λ (o : Option FuncType). takers_of o ≤ 11) e a in
            omega arith

        go : (o : Option FuncType) → function_type m f ≡ o → PartsAreShort ns (parts_of_type m n f o)
        go None e = tt
        go (Some t) e =
            let is : IsFunction m n f t = record { there = at; has_type = e } in (
              light_part (body_piece n 0) (function_entry m n f t) ((light m program low n named).1 f t is) (entry_items_short m is_small program n f t is named (few t e)),
              (
                light_called (opening_piece n) (routine_name (opening_piece n)) (function_opening m n f t) (routine_fits (opening_piece n) (let a : n < 100000 = indexed in let i : 10016 + n < 2147483648 = omega arith in i)) ((light m program low n named).2 f t is) (function_opening_short m is_small program low n named f t is),
                cuts_short n named 0 (function_pieces m n) (all_in (function_pieces m n)),
              ),
            )

    functions_short : (n : ℕ) (fs : List Func) → FollowIn m.funcs n fs → PartsAreShort ns (parts_by m n fs)
    functions_short n [] h = tt
    functions_short n (f ∷ fs) h = parts_append ns (function_parts m n f) (parts_by m (suc n) fs) (function_short n f (first_in m.funcs n f fs h)) (functions_short (suc n) fs (others_in m.funcs n f fs h))

    takers_short : TakersAreLight → (k : ℕ) → k ≤ 11 → PartsAreShort ns (taker_parts k)
    takers_short l zero h = tt
    takers_short l (suc k) h = parts_append ns (taker_parts k) (part (taker k) (taker_items k) ∷ []) (takers_short l k (omega arith)) (light_called (taker k) (routine_name (taker k)) (taker_items k) (routine_fits (taker k) (let i : 5000 + k < 2147483648 = omega arith in i)) (l k (omega arith)) (taker_short k (omega arith)), tt)

    dones_short : DonesAreLight → PartsAreShort ns done_parts
    dones_short l = (each 0 (omega arith), (each 1 (omega arith), (each 2 (omega arith), tt)))
      where
        each : (w : ℕ) → w ≤ 2 → PartIsShort ns (part (done_piece w) (done_items w))
        each w h = light_called (done_piece w) (routine_name (done_piece w)) (done_items w) (routine_fits (done_piece w) (let i : w < 2147483648 = omega arith in i)) (l w h) (done_short w (omega arith))

    placers_short : PlacersAreLight → (ints k : ℕ) → ints ≤ 2 → k ≤ 4096 → PartsAreShort ns (placer_parts ints k)
    placers_short l ints zero few h = tt
    placers_short l ints (suc k) few h =
        parts_append ns (placer_parts ints k) (part (placer ints k) (placer_items ints k) ∷ []) (placers_short l ints k few (omega arith))
        (light_called (placer ints k) (routine_name (placer ints k)) (placer_items ints k) (routine_fits (placer ints k) (placer_fits ints k (omega arith))) (l ints k few (omega arith)) (placer_items_short ints k), tt)

    growers_short : GrowerIsLight → (o : Option Limits) → PartsAreShort ns (grower_parts o)
    growers_short g None = tt
    growers_short g (Some l) = (light_called grower_piece (routine_name grower_piece) grower_items (routine_fits grower_piece (let i : 30000 < 2147483648 = omega arith in i)) g grower_short, tt)

    shared_short : TakersAreLight → PlacersAreLight → GrowerIsLight → DonesAreLight → PartsAreShort ns (shared_parts m)
    shared_short l p g d =
        let most : ℕ = most_placers_of m 0 m.funcs in
        let few : most_placers_of m 0 m.funcs ≤ 4096 = placers_are_few m program low in
        let growers : List Part = grower_parts (slice_get m.mems 0) in
        let last : List Part = placer_parts 2 most ++ growers in
        parts_append ns (taker_parts (most_takers_of m m.funcs)) (done_parts ++ (placer_parts 1 most ++ last)) (takers_short l (most_takers_of m m.funcs) (takers_are_few m program))
        (parts_append ns done_parts (placer_parts 1 most ++ last) (dones_short d)
        (parts_append ns (placer_parts 1 most) last (placers_short p 1 most (omega arith) few)
        (parts_append ns (placer_parts 2 most) growers (placers_short p 2 most (omega arith) few) (growers_short g (slice_get m.mems 0)))))

    -- the pieces of a module
    pub parts_are_short : TakersAreLight → PlacersAreLight → GrowerIsLight → DonesAreLight → PartsAreShort ns (module_parts m)
    parts_are_short l p g d = parts_append ns (parts_by m 0 m.funcs) (shared_parts m) (functions_short 0 m.funcs (all_in m.funcs)) (shared_short l p g d)

-- ---- helpers

-- the helpers of such pieces
pub parts_helped : (ns : Text) (ps : List Part) → PartsAreShort ns ps → AllShort (parts_helpers ns ps)
parts_helped ns [] a = tt
parts_helped ns (p ∷ ps) a = short_append (items_helpers ns p.items) (parts_helpers ns ps) a.0.helpers (parts_helped ns ps a.1)

one_added : (hs : List Helper) (h : Helper) → AllShort hs → IsShort h.lines → AllShort (with_helper hs h)
one_added hs h a b = go (has_helper h.name hs)
  where
    go : (c : Bool) → AllShort (if c then hs else hs ++ (h ∷ []))
    go true = a
    go false = short_append hs (h ∷ []) a (b, tt)

all_added : (hs xs : List Helper) → AllShort hs → AllShort xs → AllShort (with_helpers hs xs)
all_added hs [] a b = a
all_added hs (x ∷ xs) a b = all_added (with_helper hs x) xs (one_added hs x a b.0) b.1

-- each once
pub once_helped : (hs : List Helper) → AllShort hs → AllShort (each_once hs)
once_helped hs a = all_added [] hs tt a
