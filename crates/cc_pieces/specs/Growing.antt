-- Growing the memory: the piece of a body makes the machine's step, and a shared piece appends the pages then.
use Rattle.std.specs.Prelude.{ℕ, ◌+◌, ◌-◌, ◌/◌, List, ◌∷◌, Option, Some, None}
use Rattle.cc_line.specs.Key.{PieceId, body_piece, shared_piece, id_tree}
use Rattle.cc_line.specs.Step.{Act, set_site}
use Rattle.cc_call.specs.Fetch.{follows_site}
use Rattle.cc_call.specs.Frames.{next_acts}
use Rattle.cc_bulk.specs.Grow.{pages_of_run}

-- the index of the shared piece that appends pages; no piece that puts a value to a place has one so high
abbrev pub grower_index : ℕ
grower_index = 30000

abbrev pub grower_piece : PieceId
grower_piece = shared_piece grower_index

-- it is run so often at most, as a memory has no more pages than that many runs append
abbrev pub most_runs : ℕ
most_runs = 8

-- and so often while so many pages are missing
abbrev pub runs_for : ℕ → ℕ
runs_for missing = (missing + (pages_of_run - 1)) / pages_of_run

-- the cut of this index; each instruction that grows the memory is followed by one
abbrev pub cut_behind : ℕ → Option ℕ → PieceId
cut_behind func None = body_piece func 0
cut_behind func (Some j) = body_piece func j

-- pages are appended next, and that cut follows
abbrev pub append_next_acts : ℕ → Option ℕ → List Act
append_next_acts func o = set_site follows_site (id_tree (cut_behind func o)) ∷ next_acts grower_piece
