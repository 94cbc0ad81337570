-- The names that are any of several packs'.
use Rattle.std.specs.Prelude.{List, Bool, Option, map, find}
use Rattle.std.specs.List.{list_any}
use Rattle.mc_cmd.specs.Form.{Text}
use Rattle.mc_cmd.specs.Command.{Cmd}
use Rattle.mc_cmd.specs.Foreign.{is_own, simple_names}
use Rattle.mc_cmd.specs.Pack.{Pack}
use Rattle.mc_world.specs.WorldView.{run_of}

-- whether a name is one of a namespace among these
abbrev pub is_own_under : List Text → Text → Bool
is_own_under spaces name = list_any (λ ns. is_own ns name) spaces

-- the namespaces of packs
abbrev pub spaces_of : List Pack → List Text
spaces_of ps = map (λ p. p.index.ns) ps

-- the first name in a command that is any pack's
abbrev pub first_own_of : List Pack → Cmd → Option Text
first_own_of ps c = find (is_own_under (spaces_of ps)) (simple_names (run_of c))
