-- Laws of bodies' pieces, which the contracts of public functions cite.
use Rattle.std.specs.Prelude.{◌≡◌, ◌≤◌, ◌<◌, ℕ, suc, ◌/◌, Some, slice_get}
use Rattle.std.specs.List.{Contains}
use Rattle.wm_ast.specs.declared.operator.BinaryOp.{BinaryOp}
use Rattle.wm_ast.specs.declared.module.Func.{Func}
use Rattle.wm_ast.specs.declared.module.FuncType.{FuncType}
use Rattle.wm_ast.specs.declared.module.Module.{Module}
use Rattle.wm_valid.specs.Height.{Low}
use Rattle.wm_flat.specs.FlatTyping.{IsFunction}
use Rattle.wm_flat.specs.Program.{IsProgram}
use Rattle.cc_cut.specs.Law.{widths}
use Rattle.cc_cut.specs.Piece.{Piece, function_pieces}
use Rattle.cc_pieces.specs.Fetching.{fetches, most_fetches}
use Rattle.cc_pieces.specs.Dividing.{turning_items}
use Rattle.cc_pieces.specs.Entry.{args_of_piece}
use Rattle.cc_pieces.specs.Law.{IsLight, most_placers, most_takers}
use Rattle.cc_body.specs.Behind.{call_before, division_before}
use Rattle.cc_body.specs.Placers.{function_placers}
use Rattle.cc_body.specs.Pieces.{answer_items, cut_items, fetch_items, function_entry, function_opening, restore_items}

-- ---- what pieces weigh

abbrev pub PiecesAreLight : Type 0
PiecesAreLight = (m : Module) → IsProgram m → Low m → (n : ℕ) → n < 2147483648
    → ((q : Piece) → Contains (function_pieces m n) q → IsLight (cut_items m n q))
    × ((f : Func) (t : FuncType) → IsFunction m n f t → IsLight (function_entry m n f t))
    × ((f : Func) (t : FuncType) → IsFunction m n f t → IsLight (function_opening m n f t))
    × ((position : ℕ) (q : Piece) (t : FuncType) → slice_get (function_pieces m n) position ≡ Some q
    → call_before m q.cut ≡ Some t → IsLight (restore_items m n (suc position) q t))
    × ((position k : ℕ) (q : Piece) (t : FuncType) → slice_get (function_pieces m n) position ≡ Some q
    → call_before m q.cut ≡ Some t → k < fetches (widths t.params) → IsLight (fetch_items m n (suc position) k q t))
    × ((position : ℕ) (q : Piece) (op : BinaryOp) → slice_get (function_pieces m n) position ≡ Some q
    → division_before q.cut ≡ Some op
    → IsLight (turning_items n (suc position)) × IsLight (answer_items m n (suc position) q op))

abbrev pub PlacersAreFew : Type 0
PlacersAreFew = (m : Module) → IsProgram m → Low m → (n : ℕ) → function_placers m n ≤ most_placers

-- no call at a place that is reached has more pieces that fetch its arguments than are counted for it
abbrev pub FetchesAreFew : Type 0
FetchesAreFew = (m : Module) → IsProgram m → Low m → (n position : ℕ) (q : Piece) (t : FuncType)
    → slice_get (function_pieces m n) position ≡ Some q → call_before m q.cut ≡ Some t
    → fetches (widths t.params) ≤ most_fetches

-- no parameters of a module of the profile are more than that many pieces of arguments
abbrev pub TakersAreFew : Type 0
TakersAreFew = (m : Module) → IsProgram m → (n : ℕ) (f : Func) (t : FuncType) → IsFunction m n f t
    → widths t.params / args_of_piece ≤ most_takers
