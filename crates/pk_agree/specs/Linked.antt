-- What a linked pack of a module holds, by the names and the lines of its functions.
use Rattle.std.specs.Prelude.{◌≡◌, ◌≤◌, ◌<◌, ◌+◌, ◌/◌, ℕ, suc, Some, slice_get}
use Rattle.mc_cmd.specs.Layout.{full_name}
use Rattle.mc_cmd.specs.Pack.{Pack}
use Rattle.wm_ast.specs.declared.module.Func.{Func}
use Rattle.wm_ast.specs.declared.module.FuncType.{FuncType}
use Rattle.wm_ast.specs.declared.module.Module.{Module}
use Rattle.wm_ast.specs.declared.operator.BinaryOp.{BinaryOp}
use Rattle.wm_ast.specs.Instance.{exported_functions}
use Rattle.wm_valid.specs.Typing.{HasFirst}
use Rattle.wm_flat.specs.FlatTyping.{IsFunction}
use Rattle.cc_line.specs.Key.{PieceId, body_piece, init_piece}
use Rattle.cc_line.specs.Item.{Items, items_most, items_texts, items_helpers, HasAll}
use Rattle.cc_cut.specs.Law.{widths}
use Rattle.cc_cut.specs.Piece.{Piece, function_pieces}
use Rattle.cc_sched.specs.Charge.{charge, round_weight}
use Rattle.cc_sched.specs.Names.{piece_name, call_name}
use Rattle.cc_sched.specs.Pieces.{IsPieceWeight, piece_of, turn_weight}
use Rattle.cc_sched.specs.Sched.{HasSched, call_texts}
use Rattle.cc_call.specs.Frames.{done_piece, opening_piece}
use Rattle.cc_body.specs.Behind.{call_before}
use Rattle.cc_pieces.specs.Restoring.{restore_piece}
use Rattle.cc_pieces.specs.Fetching.{fetches, fetch_piece}
use Rattle.cc_body.specs.Behind.{division_before}
use Rattle.cc_pieces.specs.Dividing.{turning_piece, turning_items, answering_piece}
use Rattle.cc_pieces.specs.Entry.{args_of_piece, taker, taker_items, done_items}
use Rattle.cc_bulk.specs.Grow.{grower_items}
use Rattle.cc_pieces.specs.Growing.{grower_piece}
use Rattle.cc_pieces.specs.Placing.{placer, placer_items}
use Rattle.cc_body.specs.Placers.{function_placers}
use Rattle.cc_body.specs.Pieces.{cut_items, function_entry, function_opening, restore_items, fetch_items, answer_items}
use Rattle.pk_agree.specs.Agree.{AreExports, function_exports}
use Rattle.pk_agree.specs.Heaviest.{heaviest}
use Rattle.cc_init.specs.Init.{later_pieces, init_items}

-- what is run for a piece of these items, with its charges
abbrev pub charged_piece : PieceId → Items → Items
charged_piece i xs = charge round_weight (piece_of i xs)

-- the pack has a piece of these items, and its helpers; and no piece of the module is heavier than the heaviest
pub record HasPiece (m : Module) (pack : Pack) (i : PieceId) (xs : Items) : Type 0 where
  pub lines : pack.functions (full_name pack.index.ns (piece_name i)) ≡ Some (items_texts pack.index.ns (charged_piece i xs))
  pub helpers : HasAll pack.functions pack.index.ns (items_helpers pack.index.ns (charged_piece i xs))
  pub weighs : items_most (charged_piece i xs) + turn_weight ≤ heaviest m

-- A pack that is linked of a module: what it says of itself, and which functions it has under which names.
pub record Linked (m : Module) (pack : Pack) : Type 0 where
  -- the index lists the exports
  pub exports : AreExports m (function_exports m) pack.index.exports
  -- the scheduler's functions, by the weight of the heaviest piece
  pub weighs : IsPieceWeight (heaviest m)
  pub scheduler : HasSched pack.functions pack.index.ns (heaviest m)
  -- the pieces of instantiation
  pub instantiation : (k : ℕ) → k ≤ later_pieces m → HasPiece m pack (init_piece k) (init_items m k)
  -- for each export the function that calls it
  pub calls : (k n : ℕ) → slice_get (exported_functions m) k ≡ Some n
      → pack.functions (full_name pack.index.ns (call_name k)) ≡ Some (call_texts pack.index.ns n)
  -- for each function the piece with which a call begins, and those that take whole pieces of its arguments
  pub entries : (n : ℕ) (f : Func) (t : FuncType) → IsFunction m n f t
      → HasPiece m pack (body_piece n 0) (function_entry m n f t)
  pub takers : (n : ℕ) (f : Func) (t : FuncType) → IsFunction m n f t → (k : ℕ)
      → k < widths t.params / args_of_piece → HasPiece m pack (taker k) (taker_items k)
  -- for each function the piece that makes its frame in a call from inside
  pub openings : (n : ℕ) (f : Func) (t : FuncType) → IsFunction m n f t
      → HasPiece m pack (opening_piece n) (function_opening m n f t)
  -- for each function the pieces of its body, and those that restore its frame behind its calls
  pub bodies : (n position : ℕ) (q : Piece) → slice_get (function_pieces m n) position ≡ Some q
      → HasPiece m pack (body_piece n (suc position)) (cut_items m n q)
  pub restores : (n position : ℕ) (q : Piece) (t : FuncType) → slice_get (function_pieces m n) position ≡ Some q
      → call_before m q.cut ≡ Some t
      → HasPiece m pack (restore_piece n (suc position)) (restore_items m n (suc position) q t)
  -- and before each call of many arguments those that fetch them
  pub fetches : (n position k : ℕ) (q : Piece) (t : FuncType) → slice_get (function_pieces m n) position ≡ Some q
      → call_before m q.cut ≡ Some t → k < fetches (widths t.params)
      → HasPiece m pack (fetch_piece n (suc position) k) (fetch_items m n (suc position) k q t)
  -- and before each cut behind a division the one that makes turns, and the one that puts the answer to its places
  pub divisions : (n position : ℕ) (q : Piece) (op : BinaryOp) → slice_get (function_pieces m n) position ≡ Some q
      → division_before q.cut ≡ Some op
      → HasPiece m pack (turning_piece n (suc position)) (turning_items n (suc position))
      × HasPiece m pack (answering_piece n (suc position)) (answer_items m n (suc position) q op)
  -- for each function the pieces that put the values of its branches to their places, of one int and of two
  pub placers : (n ints i : ℕ) → 1 ≤ ints → ints ≤ 2 → i < function_placers m n
      → HasPiece m pack (placer ints i) (placer_items ints i)
  -- where there is a memory, the piece that appends pages
  pub grower : HasFirst m.mems → HasPiece m pack grower_piece grower_items
  -- the pieces that end a job with no results, and with one int, or two
  pub dones : (w : ℕ) → w ≤ 2 → HasPiece m pack (done_piece w) (done_items w)
