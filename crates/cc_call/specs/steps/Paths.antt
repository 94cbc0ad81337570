-- The paths below the entries, by the part that follows.
use Rattle.std.specs.Prelude.{[], ◌∷◌, ℤ, negsuc}
use Rattle.mc_nbt.specs.Tree.{Part, key, place}
use Rattle.cc_line.specs.Sight.{in_rest}
use Rattle.cc_line.specs.Key.{key_below, key_list, key_entry}
use Rattle.cc_line.specs.State.{Site}

-- in the entry that is being made
abbrev pub in_entry : Part → Site
in_entry p = record { store = in_rest; name = key_entry; parts = p ∷ [] }

-- in the last of the frames below
abbrev pub in_last : Part → Site
in_last p = record { store = in_rest; name = key_below; parts = place (negsuc 0) ∷ (p ∷ []) }

-- an element of its list
abbrev pub in_last_list : ℤ → Site
in_last_list i = record {
  store = in_rest;
  name = key_below;
  parts = place (negsuc 0) ∷ (key key_list ∷ (place i ∷ []));
}
