-- The typing of what stands at a place.
use Rattle.std.specs.Prelude.{◌≡◌, List, Some}
use Rattle.wm_ast.specs.declared.module.ValType.{ValType}
use Rattle.wm_valid.specs.Typing.{Context, TypesCode}
use Rattle.wm_place.specs.Spot.{labels_at, ends_at, Spot}
use Rattle.wm_place.specs.Kinds.{own_kinds}

-- the context with these labels
abbrev pub with_labels : List (List ValType) → Context → Context
with_labels labels C = record C { labels = labels }

-- What follows at a place is typed from its own operands on, under the labels of the blocks round it, to what the
-- innermost of them gives.
pub record IsTypedSpot (C : Context) (x : Spot) : Type 0 where
  pub own : List ValType
  pub kinds : own_kinds C.scope x ≡ Some own
  pub typed : TypesCode x.code (with_labels (labels_at x.levels) C) own (ends_at x.levels)
