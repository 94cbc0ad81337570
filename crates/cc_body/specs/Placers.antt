-- Where values of branches are put to their places by shared pieces, and how many of these a module needs.
use Rattle.std.specs.Prelude.{ℕ, ◌+◌, List, [], ◌∷◌, length, max, Option, Some, None, Bool, false, ◌&&◌, ◌||◌}
use Rattle.std.specs.Prelude.{if◌then◌else◌, nat_lt}
use Rattle.wm_ast.specs.declared.module.Func.{Func}
use Rattle.wm_ast.specs.declared.module.Module.{Module}
use Rattle.wm_ast.specs.Code.{br_table, Code, cons}
use Rattle.wm_place.specs.Kinds.{Body, function_body}
use Rattle.wm_place.specs.Spot.{ends_at, arity_of}
use Rattle.wm_place.specs.Visit.{Around, Visit, visits}
use Rattle.cc_cut.specs.Cost.{most_tested}
use Rattle.cc_cut.specs.Way.{labelled}
use Rattle.cc_body.specs.Layout.{frame_size}

-- ---- where they are needed

-- how many values a branch takes along, in a function with so many results: those of a block's label, or of the body's
abbrev pub count_by : ℕ → Option Around → ℕ
count_by results None = results
count_by results (Some x) = arity_of x.op

abbrev pub label_count : ℕ → Visit → ℕ → ℕ
label_count results v l = count_by results (labelled v.blocks l)

-- a br_table that looks its label up, and takes a value along
abbrev pub code_places : ℕ → Visit → Code → Bool
code_places results v (cons (br_table ls last) is) =
    nat_lt most_tested (length ls) && nat_lt 0 (label_count results v last)
code_places results v _ = false

-- one of these places has such an instruction
abbrev pub some_place : ℕ → List Visit → Bool
some_place results [] = false
some_place results (v ∷ vs) = code_places results v v.rest || some_place results vs

-- the number of places to which a function puts values so: none, or all that its frame has
abbrev pub body_placers : ℕ → Option Body → ℕ
body_placers size None = 0
body_placers size (Some b) =
    if some_place (length (ends_at b.sequence.levels)) (visits b.scope b.sequence) then size else 0

abbrev pub function_placers : Module → ℕ → ℕ
function_placers m n = body_placers (frame_size m n) (function_body m n)

-- the most of these functions, which count from this index on
abbrev pub most_placers_of : Module → ℕ → List Func → ℕ
most_placers_of m n [] = 0
most_placers_of m n (f ∷ fs) = max (function_placers m n) (most_placers_of m (n + 1) fs)
