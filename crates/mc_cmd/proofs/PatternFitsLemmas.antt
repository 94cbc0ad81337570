-- The parts of patterns that are left behind a part.
use Rattle.std.specs.Prelude.{List, Bool, true, false, ◌&&◌}
use Rattle.mc_cmd.specs.Command.{PatternPart}
use Rattle.mc_cmd.specs.Pattern.{begins_with_hole, parts_fit}

-- whether the parts fit behind a literal one, or behind a name
abbrev pub left_fit : Bool → List PatternPart → Bool
left_fit true ps = begins_with_hole ps && parts_fit ps
left_fit false ps = parts_fit ps
