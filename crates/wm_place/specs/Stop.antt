-- What the code tells of a place.
use Rattle.std.specs.Prelude.{map}
use Rattle.wm_ast.specs.View.{op_of, code_of}
use Rattle.wm_place.specs.declared.walking.Level.{Level}
use Rattle.wm_place.specs.declared.walking.Stop.{Stop}
use Rattle.wm_place.specs.Visit.{Around, around, Visit, visit}

-- the block that is told
abbrev pub level_told : Level → Around
level_told l = around (op_of l.block.now) (code_of l.rest.now) l.lead l.under

-- the visit that is told
abbrev pub visit_told : Stop → Visit
visit_told s =
    visit s.path.now s.kinds.now (map level_told s.levels.now) (code_of s.before.now) (code_of s.rest.now)
