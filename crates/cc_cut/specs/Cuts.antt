-- The cuts of a module.
use Rattle.std.specs.Prelude.{ℕ, suc, List, [], ◌∷◌, ◌++◌, map, Option, Some, None}
use Rattle.std.specs.List.{filter_map}
use Rattle.wm_ast.specs.declared.module.Func.{Func}
use Rattle.wm_ast.specs.declared.module.Module.{Module}
use Rattle.wm_valid.specs.Typing.{Scope}
use Rattle.wm_place.specs.Kinds.{Body, function_body}
use Rattle.wm_place.specs.Visit.{Visit, visits}
use Rattle.cc_cut.specs.declared.table.Cut.{Cut}
use Rattle.cc_cut.specs.Way.{all_ways}
use Rattle.cc_cut.specs.Piece.{Piece, places_in, pieces, index_of}

-- the exits from places of a piece: the indices of the cuts to which the ways on from them lead
abbrev pub exits_from : Scope → List Piece → List Visit → List ℕ
exits_from S all vs = filter_map (index_of all) (map (λ w. w.to) (all_ways S vs))

-- the cut at which a piece begins
abbrev pub cut_for : ℕ → Scope → List Piece → ℕ → Piece → Cut
cut_for n S all index p = record {
  func = n;
  index = index;
  place = p.cut.path;
  layout = p.cut.kinds;
  exits = exits_from S all (places_in p);
}

-- the cuts of these pieces, which count from this index on
abbrev pub cuts_from : ℕ → Scope → List Piece → ℕ → List Piece → List Cut
cuts_from n S all index [] = []
cuts_from n S all index (p ∷ ps) = cut_for n S all index p ∷ cuts_from n S all (suc index) ps

-- the cuts of a body whose reached places are these
abbrev pub cuts_in : ℕ → Scope → List Visit → List Cut
cuts_in n S vs = cuts_from n S (pieces vs) 1 (pieces vs)

-- none where there is no such function
abbrev pub body_cuts : ℕ → Option Body → List Cut
body_cuts n None = []
body_cuts n (Some b) = cuts_in n b.scope (visits b.scope b.sequence)

-- the cuts of the function of this index
abbrev pub function_cuts : Module → ℕ → List Cut
function_cuts m n = body_cuts n (function_body m n)

-- the cuts of these functions, which count from this index on
abbrev pub cuts_by : Module → ℕ → List Func → List Cut
cuts_by m n [] = []
cuts_by m n (f ∷ fs) = function_cuts m n ++ cuts_by m (suc n) fs

-- the cuts of a module, in the order of its functions, and in each in the order of the text
abbrev pub cuts_of : Module → List Cut
cuts_of m = cuts_by m 0 m.funcs
