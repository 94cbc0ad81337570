-- The kinds of the operands at a place, from what stands before it and before the blocks round it. The last operand
-- stands first.
use Rattle.std.specs.Prelude.{◌≡◌, ℕ, List, [], ◌∷◌, ◌++◌, drop, reverse, Option, Some, None, option_map, slice_get}
use Rattle.wm_ast.specs.declared.module.ValType.{ValType}
use Rattle.wm_ast.specs.declared.module.FuncType.{FuncType}
use Rattle.wm_ast.specs.declared.module.Func.{Func}
use Rattle.wm_ast.specs.declared.module.Module.{Module}
use Rattle.wm_ast.specs.Code.{Op, if_else}
use Rattle.wm_ast.specs.View.{code_of}
use Rattle.wm_ast.specs.Types.{run_types, function_type}
use Rattle.wm_valid.specs.Typing.{Scope, body_scope}
use Rattle.wm_valid.specs.Arrows.{◌>>=◌}
use Rattle.wm_valid.specs.PlaceReading.{run}
use Rattle.wm_place.specs.Place.{Place, place_of}
use Rattle.wm_place.specs.Spot.{Level, Sequence, body_sequence, Spot, spot_at}

-- what stays under a block of the operands over which its instruction stands: an `if` takes its condition
abbrev pub stays_under : Op → List ValType → List ValType
stays_under (if_else ty first second) ts = drop 1 ts
stays_under _ ts = ts

-- the block's own operands: those of its sequence that stay under it, where it is reached
abbrev pub level_kinds : Scope → Level → Option (List ValType)
level_kinds S lv = option_map (stays_under lv.op) (run lv.before S [])

-- these operands over those
abbrev pub over : Option (List ValType) → Option (List ValType) → Option (List ValType)
over own below = own >>= λ ts. option_map (λ us. ts ++ us) below

-- the operands under blocks, where they are reached
abbrev pub under : Scope → List Level → Option (List ValType)
under S [] = Some []
under S (lv ∷ lvs) = over (level_kinds S lv) (under S lvs)

-- the place's own operands: those of its sequence, where it is reached
abbrev pub own_kinds : Scope → Spot → Option (List ValType)
own_kinds S x = run x.before S []

-- the operands at a place, those under the blocks round it included, where it is reached
abbrev pub spot_kinds : Scope → Spot → Option (List ValType)
spot_kinds S x = over (own_kinds S x) (under S x.levels)

-- The operands at a place of a body, those under the blocks round it included. There are none where the body has no
-- such place, or it isn't reached.
abbrev pub kinds_at : Scope → Sequence → Place → Option (List ValType)
kinds_at S body p = spot_at body p >>= spot_kinds S

-- ---- of a module

-- a function's body, and what it may name
pub record Body : Type 0 where
  pub scope : Scope
  pub sequence : Sequence

-- the one result, or none
abbrev pub first_of : List ValType → Option ValType
first_of [] = None
first_of (t ∷ ts) = Some t

abbrev pub body_of : Module → Func → FuncType → Body
body_of m f t = record {
  scope = body_scope m (t.params ++ run_types f.locals);
  sequence = body_sequence (first_of t.results) (code_of f.body);
}

-- the body of the function of this index
abbrev pub function_body : Module → ℕ → Option Body
function_body m n = slice_get m.funcs n >>= λ f. option_map (body_of m f) (function_type m f)

-- the operands at a place of the function of this index
abbrev pub function_kinds : Module → ℕ → Place → Option (List ValType)
function_kinds m n p = function_body m n >>= λ b. kinds_at b.scope b.sequence p

-- the operands at the place that a path tells, the lowest first
abbrev pub path_kinds : Module → ℕ → List ℕ → Option (List ValType)
path_kinds m n path =
    function_body m n
    >>= λ b. place_of b.sequence.code path
    >>= λ p. option_map reverse (kinds_at b.scope b.sequence p)

-- a place of the function of this index
abbrev pub IsPlaceOf : Module → ℕ → Place → Type 0
IsPlaceOf m n p = (b : Body) × (function_body m n ≡ Some b) × (x : Spot) × (spot_at b.sequence p ≡ Some x)
