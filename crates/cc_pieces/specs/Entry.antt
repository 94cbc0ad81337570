-- The pieces with which calls from outside begin, from the acts of the first one on, and the one with which a job ends.
use Rattle.std.specs.Prelude.{ℕ, zero, suc, ◌+◌, ◌-◌, ◌*◌, ◌/◌, ◌%◌, min, List, [], ◌∷◌, ◌++◌, replicate, pos}
use Rattle.mc_nbt.specs.Tree.{place}
use Rattle.cc_line.specs.Sight.{in_rest}
use Rattle.cc_line.specs.Key.{key_args, key_next, key_follows, PieceId, body_piece, shared_piece, id_tree}
use Rattle.cc_line.specs.Place.{score_places}
use Rattle.cc_line.specs.State.{Site, at_key}
use Rattle.cc_line.specs.Step.{Act, site_to_place, set_site, copy_site, make_list}
use Rattle.cc_line.specs.Item.{Items, no_more}
use Rattle.cc_sched.specs.Sched.{end_rounds}
use Rattle.cc_call.specs.Acts.{acts_then}
use Rattle.cc_call.specs.Frames.{base_acts, zero_acts, next_acts, done_acts}

-- so many arguments are taken by one piece
abbrev pub args_of_piece : ℕ
args_of_piece = 192

-- the indices of the shared pieces that take arguments count from here on
abbrev pub first_taker : ℕ
first_taker = 5000

abbrev pub arg_at : ℕ → Site
arg_at i = record { store = in_rest; name = key_args; parts = place (pos i) ∷ [] }

-- so many arguments, from this one on
abbrev pub take_args : ℕ → ℕ → List Act
take_args i zero = []
take_args i (suc n) = site_to_place i (arg_at i) ∷ take_args (suc i) n

-- the piece of arguments of this number
abbrev pub taker : ℕ → PieceId
taker k = shared_piece (first_taker + k)

-- with so many whole pieces of arguments to come, the last one comes first, and the body's first piece follows them
abbrev pub go_acts : ℕ → ℕ → List Act
go_acts func zero = next_acts (body_piece func 1)
go_acts func (suc k) = set_site (at_key in_rest key_follows) (id_tree (body_piece func 1)) ∷ next_acts (taker k)

-- The first piece of a function with so many places of parameters, so many of all locals, so many of results, and a
-- frame of this size: the base of the frames below, the frame's list, zeros for the scores of the other locals, and the
-- arguments that are no whole piece.
abbrev pub entry_acts : ℕ → ℕ → ℕ → ℕ → ℕ → List Act
entry_acts func params locals results size =
    base_acts results
    ++ (make_list (replicate (size - score_places) (pos 0))
    ∷ (zero_acts params (min locals score_places - params)
    ++ (take_args (args_of_piece * (params / args_of_piece)) (params % args_of_piece)
    ++ go_acts func (params / args_of_piece))))

-- the piece that ends the job with so many ints of results, and the rounds of its tick
abbrev pub ending_acts : ℕ → List Act
ending_acts w = done_acts w ++ (end_rounds ∷ [])

abbrev pub done_items : ℕ → Items
done_items w = acts_then (ending_acts w) no_more

-- the piece of arguments of this number, and then that of the one before it, or the piece that follows them
abbrev pub taker_acts : ℕ → List Act
taker_acts zero =
    take_args 0 args_of_piece ++ (copy_site (at_key in_rest key_next) (at_key in_rest key_follows) ∷ [])
taker_acts (suc k) = take_args (args_of_piece * suc k) args_of_piece ++ next_acts (taker k)

abbrev pub taker_items : ℕ → Items
taker_items k = acts_then (taker_acts k) no_more
