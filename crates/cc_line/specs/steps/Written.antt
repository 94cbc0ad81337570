-- Open texts as they stand in a macro line.
use Rattle.std.specs.Prelude.{List, [], ◌∷◌, ◌++◌}
use Rattle.mc_cmd.specs.Form.{Text}
use Rattle.mc_cmd.specs.steps.OpenText.{Chunk, still, named}

-- chunks as they stand in a macro line
abbrev pub written : List Chunk → Text
written [] = []
written (still l ∷ ps) = l ++ written ps
written (named n ∷ ps) = 36 ∷ (40 ∷ (n ++ (41 ∷ written ps)))
