-- The names in a command, as they are told: at most two.
use Rattle.std.specs.Prelude.{List, [], ◌∷◌, ◌++◌, Option, Some, None}
use Rattle.mc_cmd.specs.Form.{Text}

abbrev pub listed : Option Text → List Text
listed None = []
listed (Some t) = t ∷ []

abbrev pub names_listed : Option Text → Option Text → List Text
names_listed a b = listed a ++ listed b
