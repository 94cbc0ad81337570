-- The indices of a function's cuts, found by the paths of their places.
use Rattle.std.specs.Prelude.{ℕ, List, [], ◌∷◌, ◌++◌, Option, nat_eq}
use Rattle.std.specs.Cmp.Lexicographic.{pointwise}
use Rattle.std.specs.HashMap.{get_by}
use Rattle.wm_ast.specs.Code.{Op, loop}
use Rattle.cc_cut.specs.declared.index.CutIndices.{CutIndices}
use Rattle.cc_cut.specs.Way.{path_behind}

-- the index of the cut at a path, if there is one
abbrev pub index_at : CutIndices → List ℕ → Option ℕ
index_at t path = get_by (λ k. pointwise nat_eq path k.items) t.indices

-- where a branch to the label of an instruction at this path goes
abbrev pub landing_path : Op → List ℕ → List ℕ
landing_path (loop ty body) path = path ++ 0 ∷ []
landing_path op path = path_behind path
