-- Whether a body puts a value to a place by a shared piece, as it is found on the way through it.
use Rattle.std.specs.Prelude.{◌||◌}
use Rattle.wm_place.specs.Visit.{Visit}
use Rattle.cc_body.specs.Placers.{code_places}
use Rattle.mc_inspect.specs.declared.placers.Finding.{Finding}

-- a place is passed
abbrev pub passed : Finding → Visit → Finding
passed s v = record s { found = s.found || code_places s.results v v.rest }
