-- The pieces of a body whose cuts have their lean items, as they are made on the way through it.
use Rattle.std.specs.Prelude.{ℕ, suc, ◌+◌, ◌-◌, List, [], ◌∷◌, ◌++◌, map, Option, Some, None, if◌then◌else◌}
use Rattle.wm_ast.specs.declared.module.FuncType.{FuncType}
use Rattle.wm_ast.specs.declared.operator.BinaryOp.{BinaryOp}
use Rattle.wm_ast.specs.declared.module.Module.{Module}
use Rattle.wm_ast.specs.declared.module.ValType.{ValType}
use Rattle.wm_place.specs.Visit.{Visit}
use Rattle.cc_line.specs.BlockView.{block_items}
use Rattle.cc_line.specs.Item.{Items, no_more}
use Rattle.cc_line.specs.Key.{body_piece}
use Rattle.cc_call.specs.Acts.{acts_then}
use Rattle.cc_call.specs.Frames.{opening_piece}
use Rattle.cc_cut.specs.Law.{widths}
use Rattle.cc_cut.specs.Piece.{place_cost, is_cut, Piece, function_pieces}
use Rattle.cc_passes.specs.Lean.{lean_items}
use Rattle.cc_tails.specs.Tails.{items_at, tailed}
use Rattle.cc_pieces.specs.declared.shape.Shape.{Shape}
use Rattle.cc_pieces.specs.Dividing.{turning_piece, turning_items, answering_piece, answering_items}
use Rattle.cc_pieces.specs.Entry.{entry_acts}
use Rattle.cc_pieces.specs.Fetching.{fetches, opened_acts}
use Rattle.cc_pieces.specs.Parts.{Part, part, parts_view, fetching_parts}
use Rattle.cc_pieces.specs.Restoring.{restore_piece, restoring_items}
use Rattle.cc_body.specs.declared.lean_body.LeanBody.{LeanBody}
use Rattle.cc_body.specs.declared.part_builder.PartBuilder.{PartBuilder as Code}
use Rattle.cc_body.specs.Behind.{call_before, division_before}
use Rattle.cc_body.specs.Layout.{cut_heights, top_place}

-- the lean items of a body's cuts
abbrev pub lean_cuts : LeanBody → List Items
lean_cuts b = map block_items b.cuts.now

-- items that run on over these cuts of these heights of the function of this index, and are made lean once more
abbrev pub run_over : ℕ → List ℕ → List Items → Items → Items
run_over func heights cuts xs = lean_items func heights None (tailed func cuts xs)

-- so do items of a body over its cuts
abbrev pub running : LeanBody → Items → Items
running b xs = run_over b.body.func b.body.heights.now (lean_cuts b) xs

-- ---- what stands before a cut, by what running on makes of items

-- where this place follows a division, the piece that puts the answer to its places, and the one that makes turns
abbrev pub answered_by : ℕ → List ValType → (Items → Items) → ℕ → Visit → Option BinaryOp → List Part
answered_by func locals on index v None = []
answered_by func locals on index v (Some op) =
    part (answering_piece func index) (on (answering_items op (top_place locals v) func index))
    ∷ (part (turning_piece func index) (turning_items func index) ∷ [])

-- where it follows a call, the piece that restores the frame, and those that fetch the arguments
abbrev pub restored_by : ℕ → ℕ → List ValType → (Items → Items) → ℕ → Visit → Option FuncType → List Part
restored_by func size locals on index v None = answered_by func locals on index v (division_before v)
restored_by func size locals on index v (Some t) =
    part
    (restore_piece func index)
    (on (restoring_items func index (top_place locals v - widths t.results) (widths t.results) size))
    ∷ fetching_parts
    (top_place locals v - widths t.results)
    (widths t.params)
    func
    index
    (fetches (widths t.params))

-- the piece of the cut of this index itself, whose items these are
abbrev pub own_part : ℕ → (Items → Items) → ℕ → Option Items → List Part
own_part func on index None = []
own_part func on index (Some xs) = part (body_piece func index) (on xs) ∷ []

-- ---- on the way through a body

abbrev pub answered : LeanBody → ℕ → Visit → Option BinaryOp → List Part
answered b index v o = answered_by b.body.func b.body.locals.now (running b) index v o

abbrev pub called : LeanBody → ℕ → Visit → Option FuncType → List Part
called b index v o = restored_by b.body.func b.body.size b.body.locals.now (running b) index v o

abbrev pub restored : LeanBody → ℕ → Visit → List Part
restored b index v = called b index v (call_before b.body.module.now v)

abbrev pub own : LeanBody → ℕ → List Part
own b index = own_part b.body.func (running b) index (items_at (lean_cuts b) index)

-- Between two places: what the piece has come to, the index of its cut, or 0 before the first, and the pieces up to it.
pub record Reached : Type 0 where
  pub spent : ℕ
  pub index : ℕ
  pub parts : List Part

abbrev pub reached : Code → Reached
reached s = record { spent = s.spent; index = s.index; parts = parts_view s.parts.items }

-- a place is passed
abbrev pub passed : LeanBody → Reached → Visit → Reached
passed b s v =
    if is_cut s.spent v
    then record {
      spent = place_cost v;
      index = suc s.index;
      parts = (s.parts ++ restored b (suc s.index) v) ++ own b (suc s.index);
    }
    else record s { spent = s.spent + place_cost v }

-- ---- all pieces

-- those of these cuts, which count from this index on, of the function of this index with such a frame, whose locals
-- have these types
abbrev pub parts_from : Module → ℕ → ℕ → List ValType → (Items → Items) → List Items → ℕ → List Piece → List Part
parts_from m n size locals on cuts index [] = []
parts_from m n size locals on cuts index (p ∷ ps) =
    restored_by n size locals on index p.cut (call_before m p.cut)
    ++ (own_part n on index (items_at cuts index) ++ parts_from m n size locals on cuts (suc index) ps)

-- those with which calls begin, and those of all these cuts of these heights, of the same function, of this shape and
-- with so many places of results
abbrev pub body_parts : Module → ℕ → ℕ → List ValType → Shape → ℕ → List ℕ → List Items → List Piece → List Part
body_parts m n size locals x given heights cuts all =
    part (body_piece n 0) (acts_then (entry_acts n x.params x.locals given x.size) no_more)
    ∷ part
    (opening_piece n)
    (run_over n heights cuts (acts_then (opened_acts x.params x.locals x.size (body_piece n 1)) no_more))
    ∷ parts_from m n size locals (run_over n heights cuts) cuts 1 all

abbrev pub typed_parts : Module → ℕ → Shape → ℕ → List ValType → List Items → List Part
typed_parts m n x given locals cuts =
    body_parts m n x.size locals x given (cut_heights locals (function_pieces m n)) cuts (function_pieces m n)
