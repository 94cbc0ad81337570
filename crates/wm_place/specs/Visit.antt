-- The places of a body that are reached, with what stands at each of them.
use Rattle.std.specs.Prelude.{ℕ, List, [], ◌∷◌, ◌++◌, length, reverse, Option, None, Some, option_map, filter_map}
use Rattle.wm_ast.specs.declared.module.ValType.{ValType}
use Rattle.wm_ast.specs.declared.module.Module.{Module}
use Rattle.wm_ast.specs.Code.{Op, Code}
use Rattle.wm_valid.specs.Typing.{Scope}
use Rattle.wm_valid.specs.Arrows.{◌>>=◌}
use Rattle.wm_place.specs.Place.{Place, lead, path_of, places}
use Rattle.wm_place.specs.Spot.{Level, Sequence, Spot, spot_at}
use Rattle.wm_place.specs.Kinds.{under, spot_kinds, Body, function_body}

-- a block round a place that is reached
pub record Around : Type 0 where
  pub op : Op
  -- what stands behind it in its sequence
  pub rest : Code
  -- how many numbers of the path lead to its sequence: the next one is its position there
  pub lead : ℕ
  -- how many of the operands stand under it
  pub under : ℕ

abbrev pub around : Op → Code → ℕ → ℕ → Around
around op rest lead under = record { op = op; rest = rest; lead = lead; under = under }

-- a place that is reached
pub record Visit : Type 0 where
  -- the path that tells it
  pub path : List ℕ
  -- the operands, those under the blocks round it included, the lowest first
  pub kinds : List ValType
  -- the blocks round it, the outermost first, without the body
  pub blocks : List Around
  -- what stands before it and behind it in its sequence
  pub before : Code
  pub rest : Code

abbrev pub visit : List ℕ → List ValType → List Around → Code → Code → Visit
visit path kinds blocks before rest =
    record { path = path; kinds = kinds; blocks = blocks; before = before; rest = rest }

-- how many operands there are, where the place is reached
abbrev pub count_of : Option (List ValType) → ℕ
count_of None = 0
count_of (Some ts) = length ts

-- a block at this place, over so many operands; the body has none
abbrev pub block_at : Option Place → Op → Code → ℕ → List Around
block_at None op rest count = []
block_at (Some p) op rest count = around op rest (length (lead p.steps [])) count ∷ []

-- these blocks, the outermost first
abbrev pub blocks_of : Scope → List Level → List Around
blocks_of S [] = []
blocks_of S (lv ∷ lvs) = blocks_of S lvs ++ block_at lv.place lv.op lv.rest (count_of (under S (lv ∷ lvs)))

-- the visit of a place, where it is reached
abbrev pub visit_spot : Scope → Place → Spot → Option Visit
visit_spot S p x = option_map (λ ts. visit (path_of p) (reverse ts) (blocks_of S x.levels) x.before x.code)
    (spot_kinds S x)

abbrev pub visit_of : Scope → Sequence → Place → Option Visit
visit_of S body p = spot_at body p >>= visit_spot S p

-- the visits of a body: those of its places that are reached, in the order of its text
abbrev pub visits : Scope → Sequence → List Visit
visits S body = filter_map (visit_of S body) (places body.code)

-- none where there is no such function
abbrev pub body_visits : Option Body → List Visit
body_visits None = []
body_visits (Some b) = visits b.scope b.sequence

-- the visits of the body of the function of this index
abbrev pub function_visits : Module → ℕ → List Visit
function_visits m n = body_visits (function_body m n)
