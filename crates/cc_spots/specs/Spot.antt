-- What stands at a cut of a function.
use Rattle.std.specs.Prelude.{◌≡◌, ℕ, suc, List, [], ◌∷◌, ◌++◌, map, Some, slice_get}
use Rattle.std.specs.List.{Contains}
use Rattle.wm_ast.specs.declared.module.ValType.{ValType}
use Rattle.wm_ast.specs.declared.module.Module.{Module}
use Rattle.wm_place.specs.Kinds.{Body, function_body}
use Rattle.wm_place.specs.Visit.{Around, Visit, function_visits}
use Rattle.wm_view.specs.Seen.{constants, first_opcode, size, behind_constants}
use Rattle.cc_cut.specs.declared.table.Cut.{Cut}
use Rattle.cc_cut.specs.Cuts.{function_cuts}
use Rattle.cc_cut.specs.Piece.{Piece, function_pieces}
use Rattle.cc_body.specs.Behind.{call_before, division_before}
use Rattle.cc_body.specs.Layout.{frame_size}
use Rattle.cc_spots.specs.declared.spot.CutSpot.{CutSpot}

-- what is left in a sequence, of which one block is gone into: what stands behind the block, and the block itself
abbrev pub left_in : Around → ℕ
left_in b = suc (size b.rest)

-- what is left in the sequences of the body and of blocks, of the outermost first, but for the innermost of all
abbrev pub left_round : List Around → List ℕ
left_round blocks = map left_in blocks

-- and in the innermost one behind the constants that come next
abbrev pub left_at : Visit → List ℕ
left_at v = left_round v.blocks ++ behind_constants v.rest ∷ []

-- what is seen of a place of a body whose locals have these types and whose frame has so many places
abbrev pub spot_shown : Module → List ValType → ℕ → Visit → CutSpot
spot_shown m locals size v = record {
  locals = locals;
  kinds = v.kinds;
  size = size;
  constants = constants v.rest;
  next = first_opcode v.rest;
  left = left_at v;
  call = call_before m v;
  division = division_before v;
}

-- The cut of this index of the function of this index, and the visit of its place, with which its piece begins.
pub record CutAt (m : Module) (n index : ℕ) : Type 0 where
  pub body : Body
  pub is_body : function_body m n ≡ Some body
  pub cut : Cut
  pub is_cut : Contains (function_cuts m n) cut
  pub is_index : cut.index ≡ index
  pub position : ℕ
  pub is_position : cut.index ≡ suc position
  pub piece : Piece
  pub is_piece : slice_get (function_pieces m n) position ≡ Some piece
  pub is_visit : Contains (function_visits m n) piece.cut
  pub place : piece.cut.path ≡ cut.place
  pub layout : piece.cut.kinds ≡ cut.layout

-- there is such a cut, and this stands at it
pub record IsSpot (m : Module) (n index : ℕ) (x : CutSpot) : Type 0 where
  pub at : CutAt m n index
  pub shown : x ≡ spot_shown m at.body.scope.locals (frame_size m n) at.piece.cut
