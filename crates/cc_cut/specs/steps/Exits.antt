-- The places to which control goes from a place, without the operands that arrive there; and the indices of cuts by
-- their paths.
use Rattle.std.specs.Prelude.{ℕ, List, [], ◌∷◌, ◌++◌, Option, option_map, option_to_list, nat_eq}
use Rattle.std.specs.List.{filter_map}
use Rattle.std.specs.Cmp.Lexicographic.{pointwise}
use Rattle.std.specs.HashMap.{HashMap, get_by}
use Rattle.std.specs.declared.vec.Vec.{Vec}
use Rattle.wm_ast.specs.Code.{Op, unreachable, block, loop, if_else, br, br_if, br_table, return, Code, nil, cons}
use Rattle.wm_place.specs.Visit.{Around, Visit}
use Rattle.cc_cut.specs.Way.{path_behind, block_path, labelled}
use Rattle.cc_cut.specs.Index.{landing_path}

-- where a branch to a label goes
abbrev pub branch_paths : List ℕ → List Around → ℕ → List (List ℕ)
branch_paths path blocks l =
    option_to_list (option_map (λ b. landing_path b.op (block_path path b)) (labelled blocks l))

abbrev pub branches_paths : List ℕ → List Around → List ℕ → List (List ℕ)
branches_paths path blocks [] = []
branches_paths path blocks (l ∷ ls) = branch_paths path blocks l ++ branches_paths path blocks ls

-- behind the innermost block
abbrev pub leaving_paths : List ℕ → List Around → List (List ℕ)
leaving_paths path blocks = option_to_list (option_map (λ b. path_behind (block_path path b)) (labelled blocks 0))

-- where an instruction leads
abbrev pub op_paths : Op → List ℕ → List Around → List (List ℕ)
op_paths (block ty body) path blocks = (path ++ 0 ∷ []) ∷ []
op_paths (loop ty body) path blocks = (path ++ 0 ∷ []) ∷ []
op_paths (if_else ty first second) path blocks = (path ++ 0 ∷ 0 ∷ []) ∷ (path ++ 1 ∷ 0 ∷ []) ∷ []
op_paths (br l) path blocks = branch_paths path blocks l
op_paths (br_if l) path blocks = branch_paths path blocks l ++ path_behind path ∷ []
op_paths (br_table ls l) path blocks = branches_paths path blocks (ls ++ l ∷ [])
op_paths return path blocks = []
op_paths unreachable path blocks = []
op_paths _ path blocks = path_behind path ∷ []

abbrev pub code_paths : Code → List ℕ → List Around → List (List ℕ)
code_paths nil path blocks = leaving_paths path blocks
code_paths (cons i is) path blocks = op_paths i path blocks

-- where a place leads
abbrev pub visit_paths : Visit → List (List ℕ)
visit_paths v = code_paths v.rest v.path v.blocks

-- the index that a map has at a path
abbrev pub index_in : {A S : Type 0} → HashMap (Vec ℕ A) ℕ S → List ℕ → Option ℕ
index_in m path = get_by (λ k. pointwise nat_eq path k.items) m

-- the indices that it has at paths
abbrev pub indices_in : {A S : Type 0} → HashMap (Vec ℕ A) ℕ S → List (List ℕ) → List ℕ
indices_in m paths = filter_map (index_in m) paths
