-- What is found of a frame on the way through a body, and the table of the functions' shapes.
use Rattle.std.specs.Prelude.{ℕ, suc, ◌+◌, ◌||◌, max, List, [], ◌∷◌, ◌++◌, Option, Some, None, option_map, slice_get}
use Rattle.wm_ast.specs.declared.module.Func.{Func}
use Rattle.wm_ast.specs.declared.module.FuncType.{FuncType}
use Rattle.wm_ast.specs.declared.module.Module.{Module}
use Rattle.wm_ast.specs.Types.{run_types, function_type}
use Rattle.wm_valid.specs.Arrows.{◌>>=◌}
use Rattle.wm_place.specs.Visit.{Visit}
use Rattle.cc_cut.specs.Law.{widths}
use Rattle.cc_pieces.specs.declared.shape.Shape.{Shape}
use Rattle.cc_body.specs.declared.frame.Shapes.{Shapes}
use Rattle.cc_body.specs.declared.frame.Sizing.{Sizing}
use Rattle.cc_body.specs.Layout.{frame_size}
use Rattle.cc_body.specs.Placers.{code_places, function_placers}

-- a place is passed: the most places so far, and whether a value is put to one by a shared piece
abbrev pub passed : Sizing → Visit → Sizing
passed s v = record s {
  most = max (s.locals + widths v.kinds) s.most;
  places = s.places || code_places s.results v v.rest;
}

-- ---- shapes

-- what a call needs of a function of this type
abbrev pub shape_in : Module → ℕ → Func → FuncType → Shape
shape_in m n f t = record {
  params = widths t.params;
  locals = widths (t.params ++ run_types f.locals);
  size = frame_size m n;
  placers = function_placers m n;
}

-- none where its type isn't there
abbrev pub function_shape : Module → ℕ → Func → Option Shape
function_shape m n f = option_map (shape_in m n f) (function_type m f)

-- the shapes of these functions, which count from this index on
abbrev pub shapes_from : Module → ℕ → List Func → List (Option Shape)
shapes_from m n [] = []
shapes_from m n (f ∷ fs) = function_shape m n f ∷ shapes_from m (suc n) fs

-- the shape of the function of this index
abbrev pub shape_of : Module → ℕ → Option Shape
shape_of m n = slice_get m.funcs n >>= function_shape m n

-- that in a table
abbrev pub shape_in_list : List (Option Shape) → ℕ → Option Shape
shape_in_list xs n = slice_get xs n >>= λ x. x

abbrev pub shape_at : Shapes → ℕ → Option Shape
shape_at t n = shape_in_list t.shapes.items n

-- to how many places a function of such a shape puts values by shared pieces
abbrev pub placers_in : Option Shape → ℕ
placers_in None = 0
placers_in (Some x) = x.placers
