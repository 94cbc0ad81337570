-- The pieces that put the value of a branch to its place, where a long br_table has looked up where it leads.
use Rattle.std.specs.Prelude.{ℕ, ◌+◌, [], ◌∷◌, ◌++◌, if◌then◌else◌, nat_lt}
use Rattle.cc_line.specs.Sight.{in_rest}
use Rattle.cc_line.specs.Key.{key_next, key_follows, PieceId, shared_piece}
use Rattle.cc_line.specs.State.{at_key}
use Rattle.cc_line.specs.Step.{copy_site}
use Rattle.cc_line.specs.Item.{Items, no_more}
use Rattle.cc_call.specs.Acts.{acts_then}
use Rattle.cc_call.specs.Frames.{take_acts}

-- the indices of these shared pieces count from here on, one for each place: of values of one int, and of two
abbrev pub first_placer : ℕ
first_placer = 20000

abbrev pub first_pair_placer : ℕ
first_pair_placer = 25000

-- those of values of so many ints
abbrev pub placers_from : ℕ → ℕ
placers_from ints = if nat_lt 1 ints then first_pair_placer else first_placer

abbrev pub placer : ℕ → ℕ → PieceId
placer ints i = shared_piece (placers_from ints + i)

-- the value, whose ints are handed over as those of a result are, comes to the places from this one on, and the
-- piece is next that follows
abbrev pub placer_items : ℕ → ℕ → Items
placer_items ints i =
    acts_then (take_acts ints i 0 ++ copy_site (at_key in_rest key_next) (at_key in_rest key_follows) ∷ []) no_more
