-- Arguments that are too many to be passed at once: all places in use are saved, the frame of the function that is
-- called is made, and then its arguments are fetched from its caller's entry, some by each of several pieces.
use Rattle.std.specs.Prelude.{ℕ, zero, suc, ◌-◌, List, [], ◌∷◌, ◌++◌, min, replicate, pos, negsuc}
use Rattle.std.specs.Prelude.{if◌then◌else◌, nat_lt}
use Rattle.std.specs.Fmt.{decimal}
use Rattle.mc_nbt.specs.Tree.{key, place}
use Rattle.cc_line.specs.Sight.{in_rest}
use Rattle.cc_line.specs.Key.{key_below, key_list, key_follows, PieceId, id_tree}
use Rattle.cc_line.specs.Place.{score_places}
use Rattle.cc_line.specs.State.{Site, at_key}
use Rattle.cc_line.specs.Step.{Act, site_to_place, set_site, copy_site, make_list}
use Rattle.cc_call.specs.Frames.{last_at, next_site, zero_acts}

-- place i of the last of the frames below
abbrev pub last_place : ℕ → Site
last_place i =
    if nat_lt i score_places
    then last_at (decimal i)
    else record {
      store = in_rest;
      name = key_below;
      parts = place (negsuc 0) ∷ (key key_list ∷ (place (pos (i - score_places)) ∷ []));
    }

-- so many numbers, from place z of the last of the frames below on, become places from the j-th on
abbrev pub fetch_acts : ℕ → ℕ → ℕ → List Act
fetch_acts z j zero = []
fetch_acts z j (suc n) = site_to_place j (last_place z) ∷ fetch_acts (suc z) (suc j) n

-- the piece that follows the one that is next
abbrev pub follows_site : Site
follows_site = at_key in_rest key_follows

-- The frame of a function, with so many places of parameters, so many of all locals, and so many in all, whose
-- arguments are still to be fetched: its list, and zeros for the other locals. The piece is next that
-- followed, and this one follows.
abbrev pub making_acts : ℕ → ℕ → ℕ → PieceId → List Act
making_acts params locals size first =
    make_list (replicate (size - score_places) (pos 0))
    ∷ (zero_acts params (min locals score_places - params)
    ++ (copy_site next_site follows_site ∷ (set_site follows_site (id_tree first) ∷ [])))
