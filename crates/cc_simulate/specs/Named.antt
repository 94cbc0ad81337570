-- The items that pieces have, by their names.
use Rattle.std.specs.Prelude.{ℕ, zero, suc, ◌-◌, ◌/◌, ◌%◌, Option, Some, None, slice_get, if◌then◌else◌, nat_lt}
use Rattle.wm_ast.specs.declared.operator.BinaryOp.{BinaryOp}
use Rattle.wm_ast.specs.declared.module.Func.{Func}
use Rattle.wm_ast.specs.declared.module.FuncType.{FuncType}
use Rattle.wm_ast.specs.declared.module.Module.{Module}
use Rattle.wm_ast.specs.Types.{function_type}
use Rattle.cc_line.specs.Item.{Items, no_more}
use Rattle.cc_line.specs.Key.{PieceId, body_piece, init_piece, shared_piece, end_piece}
use Rattle.cc_cut.specs.Piece.{Piece, function_pieces}
use Rattle.cc_call.specs.Frames.{first_opening}
use Rattle.cc_bulk.specs.Grow.{grower_items}
use Rattle.cc_pieces.specs.Restoring.{first_restore}
use Rattle.cc_pieces.specs.Fetching.{most_fetches, first_fetch}
use Rattle.cc_pieces.specs.Dividing.{turning_items}
use Rattle.cc_pieces.specs.Growing.{grower_index}
use Rattle.cc_pieces.specs.Placing.{first_placer, first_pair_placer, placer_items}
use Rattle.cc_pieces.specs.Entry.{first_taker, done_items, taker_items}
use Rattle.cc_body.specs.Behind.{call_before, division_before}
use Rattle.cc_body.specs.Pieces.{answer_items, cut_items, fetch_items, function_entry, function_opening, restore_items}

-- ---- the items that pieces have, by their names

-- behind a call, or else behind a division
abbrev pub answer_of : Module → ℕ → ℕ → Piece → Option BinaryOp → Items
answer_of m n index p None = no_more
answer_of m n index p (Some op) = answer_items m n index p op

abbrev pub restore_of : Module → ℕ → ℕ → Piece → Option FuncType → Items
restore_of m n index p None = answer_of m n index p (division_before p.cut)
restore_of m n index p (Some t) = restore_items m n index p t

abbrev pub typed_at : Module → ℕ → (ℕ → Func → FuncType → Items) → Func → Option FuncType → Items
typed_at m n make f None = no_more
typed_at m n make f (Some t) = make n f t

abbrev pub function_at : Module → ℕ → (ℕ → Func → FuncType → Items) → Option Func → Items
function_at m n make None = no_more
function_at m n make (Some f) = typed_at m n make f (function_type m f)

abbrev pub piece_at : Module → ℕ → Option Piece → Items
piece_at m n None = no_more
piece_at m n (Some q) = cut_items m n q

abbrev pub restore_at : Module → ℕ → ℕ → Option Piece → Items
restore_at m n index None = no_more
restore_at m n index (Some q) = restore_of m n index q (call_before m q.cut)

abbrev pub turning_of : ℕ → ℕ → Option BinaryOp → Items
turning_of n index None = no_more
turning_of n index (Some op) = turning_items n index

abbrev pub fetch_of : Module → ℕ → ℕ → ℕ → Piece → Option FuncType → Items
fetch_of m n index k p None = turning_of n index (division_before p.cut)
fetch_of m n index k p (Some t) = fetch_items m n index k p t

abbrev pub fetch_at : Module → ℕ → ℕ → ℕ → Option Piece → Items
fetch_at m n index k None = no_more
fetch_at m n index k (Some q) = fetch_of m n index k q (call_before m q.cut)

-- among all that fetch arguments, by the number of one
abbrev pub fetch_by : Module → ℕ → ℕ → Items
fetch_by m n j =
    fetch_at m n (j / most_fetches) (j % most_fetches) (slice_get (function_pieces m n) (j / most_fetches - 1))

abbrev pub shared_items : Module → ℕ → Items
shared_items m j =
    if nat_lt j first_opening
    then taker_items (j - first_taker)
    else (if nat_lt j first_placer
    then function_at m (j - first_opening) (function_opening m) (slice_get m.funcs (j - first_opening))
    else (if nat_lt j first_pair_placer
    then placer_items 1 (j - first_placer)
    else (if nat_lt j grower_index then placer_items 2 (j - first_pair_placer) else grower_items)))

-- without their charges; instantiation has none here
abbrev pub items_named : Module → PieceId → Items
items_named m (body_piece n zero) = function_at m n (function_entry m) (slice_get m.funcs n)
items_named m (body_piece n (suc i)) =
    if nat_lt i first_restore
    then piece_at m n (slice_get (function_pieces m n) i)
    else (if nat_lt i first_fetch
    then restore_at m n (suc (i - first_restore)) (slice_get (function_pieces m n) (i - first_restore))
    else fetch_by m n (suc i - first_fetch))
items_named m (init_piece j) = no_more
items_named m (shared_piece j) = shared_items m j
items_named m (end_piece w) = done_items w
