-- The ways on from a place that is reached: where control goes from there, and which operands arrive. The last operand
-- stands first.
use Rattle.std.specs.Prelude.{ℕ, suc, ◌-◌, List, [], ◌∷◌, ◌++◌, length, take, drop, reverse, Option, Some, None}
use Rattle.std.specs.Prelude.{option_map, option_to_list, slice_get}
use Rattle.wm_ast.specs.declared.module.ValType.{ValType}
use Rattle.wm_ast.specs.Code.{Op, unreachable, block, loop, if_else, br, br_if, br_table, return, Code, nil, cons}
use Rattle.wm_valid.specs.Typing.{Scope}
use Rattle.wm_valid.specs.Arrows.{Change, changed, change}
use Rattle.wm_place.specs.Spot.{arity_of}
use Rattle.wm_place.specs.Visit.{Around, Visit}

-- a way on
pub record Way : Type 0 where
  -- the path of the place to which it leads
  pub to : List ℕ
  -- the operands that arrive there, those under the blocks round it included
  pub kinds : List ValType

abbrev pub way : List ℕ → List ValType → Way
way to kinds = record { to = to; kinds = kinds }

-- the path of the place behind the one of this path
abbrev pub path_behind : List ℕ → List ℕ
path_behind [] = []
path_behind (n ∷ []) = suc n ∷ []
path_behind (n ∷ k ∷ path) = n ∷ path_behind (k ∷ path)

-- the path of a block round the place of this path
abbrev pub block_path : List ℕ → Around → List ℕ
block_path path b = take (suc b.lead) path

-- so many operands, the lowest ones
abbrev pub lowest : ℕ → List ValType → List ValType
lowest n ts = drop (length ts - n) ts

-- A branch to the label of an instruction at this path, under which so many operands stand: into a loop, begun
-- anew, and else behind a block. It takes along what the label says.
abbrev pub landing : Op → List ℕ → ℕ → List ValType → Way
landing (loop ty body) path under ts = way (path ++ 0 ∷ []) (lowest under ts)
landing op path under ts = way (path_behind path) (take (arity_of op) ts ++ lowest under ts)

-- the block of a label, if it isn't the body's own
abbrev pub labelled : List Around → ℕ → Option Around
labelled blocks l = slice_get (reverse blocks) l

-- a branch to a label, which leads on if the label isn't the body's own
abbrev pub branch : List ℕ → List Around → List ValType → ℕ → List Way
branch path blocks ts l =
    option_to_list (option_map (λ b. landing b.op (block_path path b) b.under ts) (labelled blocks l))

-- these branches, one after the other
abbrev pub branches : List ℕ → List Around → List ValType → List ℕ → List Way
branches path blocks ts [] = []
branches path blocks ts (l ∷ ls) = branch path blocks ts l ++ branches path blocks ts ls

-- out of the innermost block, behind it
abbrev pub leaving : List ℕ → List Around → List ValType → List Way
leaving path blocks ts =
    option_to_list (option_map (λ b. way (path_behind (block_path path b)) ts) (labelled blocks 0))

-- what an instruction leaves of these operands
abbrev pub left_by : Option Change → List ValType → List ValType
left_by None ts = []
left_by (Some e) ts = changed e ts

-- to what stands behind an instruction
abbrev pub onward : Scope → Op → List ℕ → List ValType → List Way
onward S i path ts = way (path_behind path) (left_by (change i S) ts) ∷ []

-- the ways on from an instruction at this path, inside these blocks, over these operands
abbrev pub op_ways : Scope → Op → List ℕ → List Around → List ValType → List Way
op_ways S (block ty body) path blocks ts = way (path ++ 0 ∷ []) ts ∷ []
op_ways S (loop ty body) path blocks ts = way (path ++ 0 ∷ []) ts ∷ []
op_ways S (if_else ty first second) path blocks ts =
    way (path ++ 0 ∷ 0 ∷ []) (drop 1 ts) ∷ way (path ++ 1 ∷ 0 ∷ []) (drop 1 ts) ∷ []
op_ways S (br l) path blocks ts = branch path blocks ts l
op_ways S (br_if l) path blocks ts = branch path blocks (drop 1 ts) l ++ onward S (br_if l) path ts
op_ways S (br_table ls l) path blocks ts = branches path blocks (drop 1 ts) (ls ++ l ∷ [])
op_ways S return path blocks ts = []
op_ways S unreachable path blocks ts = []
op_ways S i path blocks ts = onward S i path ts

abbrev pub code_ways : Scope → Code → List ℕ → List Around → List ValType → List Way
code_ways S nil path blocks ts = leaving path blocks ts
code_ways S (cons i is) path blocks ts = op_ways S i path blocks ts

-- the ways on from a place, in the order in which its instruction names them
abbrev pub ways : Scope → Visit → List Way
ways S v = code_ways S v.rest v.path v.blocks (reverse v.kinds)

-- the ways on from these places
abbrev pub all_ways : Scope → List Visit → List Way
all_ways S [] = []
all_ways S (v ∷ vs) = ways S v ++ all_ways S vs
