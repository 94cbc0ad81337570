-- A cut and the size of a frame, as they are found on ways through a body.
use Rattle.std.specs.Prelude.{◌≡◌, ℕ, zero, suc, ◌+◌, ◌-◌, max, List, Option, Some, None, ◌&&◌, nat_eq, slice_get}
use Rattle.std.specs.Prelude.{if◌then◌else◌}
use Rattle.wm_ast.specs.declared.module.ValType.{ValType}
use Rattle.wm_ast.specs.declared.module.Module.{Module}
use Rattle.wm_ast.specs.Code.{const, Code, nil, cons}
use Rattle.wm_place.specs.Visit.{Visit}
use Rattle.wm_view.specs.View.{opcode_number}
use Rattle.cc_cut.specs.Law.{widths}
use Rattle.cc_cut.specs.Piece.{place_cost, is_cut, Piece}
use Rattle.cc_spots.specs.declared.size.Measuring.{Measuring}
use Rattle.cc_spots.specs.declared.spot.CutSpot.{CutSpot}
use Rattle.cc_spots.specs.Spot.{spot_shown}

-- ---- what comes next

-- what stands behind the constants with which code begins
abbrev pub behind_constants : Code → Code
behind_constants nil = nil
behind_constants (cons (const v) is) = behind_constants is
behind_constants (cons i is) = cons i is

-- the opcode of the first instruction
abbrev pub opcode_of_first : Code → Option ℕ
opcode_of_first nil = None
opcode_of_first (cons i is) = Some (opcode_number i)

-- ---- the most places

-- a place is passed
abbrev pub measured : Measuring → Visit → Measuring
measured s v = record s { most = max (s.locals + widths v.kinds) s.most }

-- ---- a cut by its index

-- what the piece has come to behind a place
abbrev pub spent_behind : ℕ → Visit → ℕ
spent_behind spent v = if is_cut spent v then place_cost v else spent + place_cost v

-- how many cuts are still to come behind it, with that one that is looked for
abbrev pub left_behind : ℕ → ℕ → Visit → ℕ
left_behind spent left v = if is_cut spent v then left - 1 else left

-- what is found behind it, where this is seen of it
abbrev pub found_behind : ℕ → ℕ → Visit → CutSpot → Option CutSpot → Option CutSpot
found_behind spent left v x old = if is_cut spent v && nat_eq left 1 then Some x else old

-- a place is passed
pub record IsPassed (m : Module) (locals : List ValType) (size spent left : ℕ) (old : Option CutSpot) (v : Visit)
    (spent_then left_then : ℕ) (new : Option CutSpot) : Type 0 where
  pub spent_is : spent_then ≡ spent_behind spent v
  pub left_is : left_then ≡ left_behind spent left v
  pub found_is : new ≡ found_behind spent left v (spot_shown m locals size v) old

-- the piece of this index, where they count from 1
abbrev pub numbered : ℕ → List Piece → Option Piece
numbered zero ps = None
numbered (suc k) ps = slice_get ps k

-- what is seen of the cut of a piece, or this where there is none
abbrev pub chosen : Module → List ValType → ℕ → Option CutSpot → Option Piece → Option CutSpot
chosen m locals size old None = old
chosen m locals size old (Some p) = Some (spot_shown m locals size p.cut)
