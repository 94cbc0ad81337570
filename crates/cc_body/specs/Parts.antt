-- The pieces of a module's functions, one after the other, with their charges.
use Rattle.std.specs.Prelude.{ℕ, zero, suc, ◌/◌, max, List, [], ◌∷◌, ◌++◌, Option, Some, None, slice_get}
use Rattle.mc_cmd.specs.Form.{Text}
use Rattle.wm_ast.specs.declared.operator.BinaryOp.{BinaryOp}
use Rattle.wm_ast.specs.declared.module.Func.{Func}
use Rattle.wm_ast.specs.declared.module.FuncType.{FuncType}
use Rattle.wm_ast.specs.declared.module.Module.{Module}
use Rattle.wm_ast.specs.Types.{function_type}
use Rattle.cc_line.specs.Item.{Helper, items_helpers}
use Rattle.cc_line.specs.Key.{body_piece}
use Rattle.cc_cut.specs.Law.{widths}
use Rattle.cc_cut.specs.Piece.{Piece, function_pieces}
use Rattle.cc_call.specs.Frames.{opening_piece}
use Rattle.cc_pieces.specs.Restoring.{restore_piece}
use Rattle.cc_pieces.specs.Fetching.{fetches, fetch_piece}
use Rattle.cc_pieces.specs.Dividing.{turning_piece, turning_items, answering_piece}
use Rattle.cc_pieces.specs.Entry.{args_of_piece}
use Rattle.cc_pieces.specs.Parts.{Part, done_parts, grower_parts, part, placer_parts, taker_parts}
use Rattle.cc_body.specs.Behind.{call_before, division_before}
use Rattle.cc_body.specs.Placers.{most_placers_of}
use Rattle.cc_body.specs.Pieces.{cut_items, function_entry, function_opening, restore_items, fetch_items, answer_items}

-- ---- of a function

-- the first so many of the pieces that fetch the arguments of the call before a cut
abbrev pub fetch_parts : Module → ℕ → ℕ → Piece → FuncType → ℕ → List Part
fetch_parts m n index p t zero = []
fetch_parts m n index p t (suc k) =
    fetch_parts m n index p t k ++ part (fetch_piece n index k) (fetch_items m n index k p t) ∷ []

-- where a cut follows a division, the piece that puts the answer to its places, and the one that makes turns
abbrev pub division_parts : Module → ℕ → ℕ → Piece → Option BinaryOp → List Part
division_parts m n index p None = []
division_parts m n index p (Some op) =
    part (answering_piece n index) (answer_items m n index p op)
    ∷ (part (turning_piece n index) (turning_items n index) ∷ [])

-- where it follows a call, the piece that restores the frame, and those that fetch the arguments
abbrev pub restore_parts : Module → ℕ → ℕ → Piece → Option FuncType → List Part
restore_parts m n index p None = division_parts m n index p (division_before p.cut)
restore_parts m n index p (Some t) =
    part (restore_piece n index) (restore_items m n index p t) ∷ fetch_parts m n index p t (fetches (widths t.params))

-- the pieces of these cuts, which count from this index on, each behind those of the call or of the division before it
abbrev pub cut_parts : Module → ℕ → ℕ → List Piece → List Part
cut_parts m n index [] = []
cut_parts m n index (p ∷ ps) =
    restore_parts m n index p (call_before m p.cut)
    ++ part (body_piece n index) (cut_items m n p) ∷ cut_parts m n (suc index) ps

-- the first piece of a call from outside, that of a call from inside, and then those of the cuts
abbrev pub parts_of_type : Module → ℕ → Func → Option FuncType → List Part
parts_of_type m n f None = []
parts_of_type m n f (Some t) =
    part (body_piece n 0) (function_entry m n f t)
    ∷ part (opening_piece n) (function_opening m n f t)
    ∷ cut_parts m n 1 (function_pieces m n)

abbrev pub function_parts : Module → ℕ → Func → List Part
function_parts m n f = parts_of_type m n f (function_type m f)

-- ---- of all functions

-- those of these functions, which count from this index on
abbrev pub parts_by : Module → ℕ → List Func → List Part
parts_by m n [] = []
parts_by m n (f ∷ fs) = function_parts m n f ++ parts_by m (suc n) fs

-- how many whole pieces of arguments a function takes
abbrev pub takers_of : Option FuncType → ℕ
takers_of None = 0
takers_of (Some t) = widths t.params / args_of_piece

-- the most of these functions
abbrev pub most_takers_of : Module → List Func → ℕ
most_takers_of m [] = 0
most_takers_of m (f ∷ fs) = max (takers_of (function_type m f)) (most_takers_of m fs)

-- the shared pieces that the calls from outside need, those that values on their way need, and
-- the one that appends pages
abbrev pub shared_parts : Module → List Part
shared_parts m =
    taker_parts (most_takers_of m m.funcs)
    ++ (done_parts
    ++ (placer_parts 1 (most_placers_of m 0 m.funcs)
    ++ (placer_parts 2 (most_placers_of m 0 m.funcs) ++ grower_parts (slice_get m.mems 0))))

-- the pieces of a module: those of each function in order, and then the shared ones
abbrev pub module_parts : Module → List Part
module_parts m = parts_by m 0 m.funcs ++ shared_parts m

-- the helpers that pieces call under a namespace
abbrev pub parts_helpers : Text → List Part → List Helper
parts_helpers ns [] = []
parts_helpers ns (p ∷ ps) = items_helpers ns p.items ++ parts_helpers ns ps
