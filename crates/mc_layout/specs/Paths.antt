-- Short paths.
use Rattle.std.specs.Prelude.{pos, List, [], ◌∷◌}
use Rattle.mc_nbt.specs.Tree.{Part, key, place}
use Rattle.mc_cmd.specs.Form.{Text}

-- the path to a key of a storage, and the one to the first element of the list under it
abbrev pub at_key : Text → List Part
at_key k = key k ∷ []

abbrev pub at_first : Text → List Part
at_first k = key k ∷ place (pos 0) ∷ []
