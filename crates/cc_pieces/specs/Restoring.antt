-- The pieces that restore the frame of a caller behind its call.
use Rattle.std.specs.Prelude.{ℕ, ◌+◌, Option, Some, None}
use Rattle.cc_line.specs.Item.{Items, no_more}
use Rattle.cc_line.specs.Key.{PieceId, body_piece}
use Rattle.cc_call.specs.Acts.{acts_then}
use Rattle.cc_call.specs.Frames.{restore_acts}

-- ---- places behind calls

-- The piece that restores a caller's frame, where the cut of this index follows its call. No body has as many cuts as
-- these count from.
abbrev pub first_restore : ℕ
first_restore = 1048576

abbrev pub restore_piece : ℕ → ℕ → PieceId
restore_piece n index = body_piece n (first_restore + index)

-- that of the cut of this index; each call is followed by one
abbrev pub restore_by : ℕ → Option ℕ → PieceId
restore_by func None = restore_piece func 0
restore_by func (Some j) = restore_piece func j

-- A frame of this size is restored before the cut of this index: so many places, and so many of results above them.
abbrev pub restoring_items : ℕ → ℕ → ℕ → ℕ → ℕ → Items
restoring_items func index below results size =
    acts_then (restore_acts below results size (body_piece func index)) no_more
