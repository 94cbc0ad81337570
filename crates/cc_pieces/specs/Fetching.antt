-- Calls of many arguments: the pieces that fetch them from the caller's entry, once the frame of the function is made.
use Rattle.std.specs.Prelude.{ℕ, suc, ◌+◌, ◌-◌, ◌*◌, ◌/◌, min, List, [], ◌∷◌, ◌++◌, Option, Some, None, Bool}
use Rattle.std.specs.Prelude.{if◌then◌else◌, nat_lt}
use Rattle.cc_line.specs.Key.{PieceId, body_piece, id_tree}
use Rattle.cc_line.specs.Step.{Act, set_site, copy_site}
use Rattle.cc_line.specs.Item.{Items, no_more}
use Rattle.cc_call.specs.Acts.{acts_then}
use Rattle.cc_call.specs.Fetch.{fetch_acts, follows_site, making_acts}
use Rattle.cc_call.specs.Frames.{next_site, next_acts, opening_acts}

-- so many places of arguments are passed by the piece of a call; more are fetched by pieces of their own
abbrev pub most_passed : ℕ
most_passed = 17

abbrev pub are_many : ℕ → Bool
are_many params = nat_lt most_passed params

-- so many are fetched by one piece
abbrev pub args_of_fetch : ℕ
args_of_fetch = 304

-- how many pieces fetch so many places of arguments
abbrev pub fetches : ℕ → ℕ
fetches params = if are_many params then (params + 303) / args_of_fetch else 0

-- no call has more of them
abbrev pub most_fetches : ℕ
most_fetches = 8

-- The pieces that fetch the arguments of a call, where the cut of this index follows it: as many for each cut as a call
-- has at most. No body has as many cuts, nor pieces that restore frames, as these count from.
abbrev pub first_fetch : ℕ
first_fetch = 2097152

abbrev pub fetch_piece : ℕ → ℕ → ℕ → PieceId
fetch_piece n index k = body_piece n (first_fetch + (most_fetches * index + k))

-- the first of them; each call is followed by a cut
abbrev pub fetch_from : ℕ → Option ℕ → PieceId
fetch_from func None = fetch_piece func 0 0
fetch_from func (Some j) = fetch_piece func j 0

-- behind one of them the next one follows, or the piece that follows them all
abbrev pub fetched_acts : ℕ → ℕ → ℕ → ℕ → List Act
fetched_acts params n index k =
    if nat_lt (args_of_fetch * suc k) params
    then next_acts (fetch_piece n index (suc k))
    else copy_site next_site follows_site ∷ []

-- the piece of this number, of a call of a function with so many places of parameters over z places that stay in use
abbrev pub fetching_acts : ℕ → ℕ → ℕ → ℕ → ℕ → List Act
fetching_acts z params n index k =
    fetch_acts (z + args_of_fetch * k) (args_of_fetch * k) (min args_of_fetch (params - args_of_fetch * k))
    ++ fetched_acts params n index k

abbrev pub fetching_items : ℕ → ℕ → ℕ → ℕ → ℕ → Items
fetching_items z params n index k = acts_then (fetching_acts z params n index k) no_more

-- The frame of a function is made by its own piece, with so many places of parameters, so many of all locals, and so
-- many in all: over its arguments, where these are passed; else they are fetched then.
abbrev pub opened_acts : ℕ → ℕ → ℕ → PieceId → List Act
opened_acts params locals size first =
    if are_many params then making_acts params locals size first else opening_acts params locals size first

-- where the arguments are many, those pieces follow the making of the frame that fetch them
abbrev pub fetch_next_acts : ℕ → Option ℕ → List Act
fetch_next_acts func o = set_site follows_site (id_tree (fetch_from func o)) ∷ []
