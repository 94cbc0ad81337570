-- The pieces of the pack of a module, and what the heaviest of them weighs: a tick keeps back no more than that.
use Rattle.std.specs.Prelude.{ℕ, suc, ◌+◌, max, List, [], ◌∷◌, ◌++◌}
use Rattle.wm_ast.specs.declared.module.Module.{Module}
use Rattle.cc_line.specs.Item.{items_most}
use Rattle.cc_sched.specs.Pieces.{turn_weight}
use Rattle.cc_pieces.specs.Parts.{Part}
use Rattle.cc_body.specs.Parts.{module_parts}
use Rattle.cc_init.specs.Init.{init_parts, later_pieces}

-- the pieces of a module: those of instantiation, and those of its functions
abbrev pub pack_parts : Module → List Part
pack_parts m = init_parts m (suc (later_pieces m)) ++ module_parts m

-- the most that one of these pieces weighs, with its charges
abbrev pub parts_most : List Part → ℕ
parts_most [] = 0
parts_most (p ∷ ps) = max (items_most p.items) (parts_most ps)

-- the most that a piece of the module weighs with a turn
unfoldable pub heaviest : Module → ℕ
heaviest m = parts_most (pack_parts m) + turn_weight
