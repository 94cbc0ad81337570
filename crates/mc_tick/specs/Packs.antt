-- Several packs as one.
use Rattle.std.specs.Prelude.{List, [], ◌∷◌}
use Rattle.mc_cmd.specs.Pack.{Pack, Index}
use Rattle.mc_cmd.specs.Packing.{Written, index_view}
use Rattle.mc_engine.specs.Packs.{functions_in}

-- the index of the first of these packs
abbrev pub first_index : List Written → Index
first_index [] = record { ns = []; exports = [] }
first_index (p ∷ ps) = index_view p.index

-- these packs as one: calls are those of the first one's exports, and each finds the functions of all
abbrev pub as_one : List Written → Pack
as_one ps = record { index = first_index ps; functions = functions_in ps }
