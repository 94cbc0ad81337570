-- The names of the functions that the scheduler runs, and of the scores that it keeps.
use Rattle.std.specs.Prelude.{ℕ, ◌+◌, ◌<◌, ◌∷◌, ◌++◌, Bool, true, false, ◌||◌, codes, take}
use Rattle.std.specs.Fmt.{decimal}
use Rattle.std.specs.Str.{bytes_eq}
use Rattle.mc_cmd.specs.Form.{Text}
use Rattle.cc_line.specs.Key.{PieceId, body_piece, init_piece, shared_piece, end_piece, score_charge}
use Rattle.cc_line.specs.Key.{group_shared, group_init, group_end}

-- the two numbers in a piece's name: the function whose body it is of, or that of its group; and its own there
abbrev pub piece_group : PieceId → ℕ
piece_group (body_piece f j) = f
piece_group (init_piece j) = group_init
piece_group (shared_piece j) = group_shared
piece_group (end_piece w) = group_end

abbrev pub piece_number : PieceId → ℕ
piece_number (body_piece f j) = j
piece_number (init_piece j) = j
piece_number (shared_piece j) = j
piece_number (end_piece w) = w

-- the function that is run for a piece: `fF_J` for the piece J of the body of function F, `f100001_J` of instantiation,
-- `f100000_J` of a routine, and `f100002_W` for the piece that ends the job with W ints of results
abbrev pub piece_name : PieceId → Text
piece_name i = codes "f" ++ (decimal (piece_group i) ++ (codes "_" ++ decimal (piece_number i)))

-- the routines that end jobs are numbered from here on
abbrev pub first_end : ℕ
first_end = 10000

-- the function that has the lines of a piece: that which is run, for a piece of a function's body; else one that it
-- calls, `iJ` for the piece J of instantiation, and `sJ` for a routine and for one that ends the job
abbrev pub routine_name : PieceId → Text
routine_name (body_piece f j) = piece_name (body_piece f j)
routine_name (init_piece j) = codes "i" ++ decimal j
routine_name (shared_piece j) = codes "s" ++ decimal j
routine_name (end_piece w) = codes "s" ++ decimal (first_end + w)

-- the numbers in a piece's name are ints, so that they can stand in a storage, and no function has that of a group
abbrev pub PieceFits : PieceId → Type 0
PieceFits (body_piece f j) = (f < group_shared) × (j < 2147483648)
PieceFits (init_piece j) = j < 2147483648
PieceFits (shared_piece j) = j < 2147483648
PieceFits (end_piece w) = w < 2147483648

-- whether a piece is one that ends the job
abbrev pub is_end : PieceId → Bool
is_end (end_piece w) = true
is_end _ = false

-- the helper that runs the piece that is next; the one that tells a trap; the one that does a turn
abbrev pub run_name : Text
run_name = codes "h_run"

abbrev pub trap_name : Text
trap_name = codes "h_trap"

abbrev pub next_name : Text
next_name = codes "h_next"

-- rounds of a tick, eight at a time and one at a time; what the game runs at each tick, and when the pack is loaded
abbrev pub group_name : Text
group_name = codes "go8"

abbrev pub go_name : Text
go_name = codes "go"

abbrev pub tick_name : Text
tick_name = codes "tick"

abbrev pub load_name : Text
load_name = codes "load"

-- the function that calls the export of this number
abbrev pub call_name : ℕ → Text
call_name k = 99 ∷ decimal k

-- the state of the pack as it was read last, and what is left of a tick's budget
abbrev pub score_state : Text
score_state = codes "#h_s"

abbrev pub score_budget : Text
score_budget = score_charge

-- the scores that a piece leaves to the scheduler: the budget, and those whose holders begin with `#h_`
abbrev pub is_sched_score : Text → Bool
is_sched_score h = bytes_eq (codes "#h_") (take 3 h) || bytes_eq score_budget h
