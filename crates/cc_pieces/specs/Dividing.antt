-- Division of i64: the piece of a body begins it, a piece that makes turns is run until none is left, and
-- another one puts the answer to its places. Both stand before the cut that follows the division, as those stand
-- before one that follows a call.
use Rattle.std.specs.Prelude.{ℕ, zero, suc, ◌-◌, List, [], ◌∷◌, pos, Option}
use Rattle.mc_cmd.specs.Command.{exactly}
use Rattle.wm_ast.specs.declared.operator.BinaryOp.{BinaryOp}
use Rattle.cc_line.specs.Key.{PieceId, body_piece, id_tree}
use Rattle.cc_line.specs.Place.{scratch}
use Rattle.cc_line.specs.Step.{set_site, in_range, Cond, holds, Step, run_act, when}
use Rattle.cc_line.specs.Item.{Items, no_more, join, steps_items}
use Rattle.cc_call.specs.Acts.{acts_then}
use Rattle.cc_call.specs.Frames.{next_site, next_acts}
use Rattle.cc_div64.specs.Division.{score_left, begin_items, turns_items, end_items}
use Rattle.cc_pieces.specs.Restoring.{restore_by, restore_piece}
use Rattle.cc_pieces.specs.Fetching.{fetch_from, fetch_piece}

-- ---- pieces

-- The pieces of the division before the cut of this index: the one that makes turns, and the one that puts the
-- answer to its places. No cut follows both a call and a division, so they have the names of pieces that stand
-- before one that follows a call.
abbrev pub turning_piece : ℕ → ℕ → PieceId
turning_piece n index = fetch_piece n index 0

abbrev pub answering_piece : ℕ → ℕ → PieceId
answering_piece n index = restore_piece n index

-- the one that is next where so many runs of turns are left
abbrev pub dividing_piece : ℕ → ℕ → ℕ → PieceId
dividing_piece n index zero = answering_piece n index
dividing_piece n index (suc left) = turning_piece n index

-- ---- items

abbrev pub none_left : List Cond
none_left = holds (in_range (scratch score_left) (exactly (pos 0))) ∷ []

-- where no run of turns is left, the other piece is next
abbrev pub none_left_step : PieceId → Step
none_left_step p = when none_left (set_site next_site (id_tree p))

-- of the operands that end below the place h; the cut of this index follows
abbrev pub divided_items : BinaryOp → ℕ → ℕ → Option ℕ → Items
divided_items op h func o =
    join (begin_items op (h - 4))
    (steps_items
    (run_act (set_site next_site (id_tree (fetch_from func o)))
    ∷ (none_left_step (restore_by func o) ∷ [])))

abbrev pub turning_items : ℕ → ℕ → Items
turning_items n index = join turns_items (steps_items (none_left_step (answering_piece n index) ∷ []))

-- the answer ends below the place h
abbrev pub answering_items : BinaryOp → ℕ → ℕ → ℕ → Items
answering_items op h n index = join (end_items op (h - 2)) (acts_then (next_acts (body_piece n index)) no_more)

-- no division is run more often
abbrev pub most_left : ℕ
most_left = 8
