-- The callers of a running activation: the frame of each stands in an entry below, the outermost first, and under them
-- the base, which ends the job.
use Rattle.std.specs.Prelude.{◌≡◌, ℕ, suc, List, [], ◌∷◌, ◌++◌, length, reverse, take, ℤ, Some, slice_get}
use Rattle.std.specs.List.{Contains}
use Rattle.mc_nbt.specs.declared.value.Value.{Value}
use Rattle.wm_ast.specs.declared.module.FuncType.{FuncType}
use Rattle.wm_ast.specs.declared.module.Module.{Module}
use Rattle.wm_place.specs.Visit.{Visit}
use Rattle.wm_flat.specs.Flat.{Activation}
use Rattle.wm_flat.specs.FlatTyping.{types_of}
use Rattle.wm_flat.specs.Operands.{operands}
use Rattle.cc_line.specs.Running.{Kept}
use Rattle.cc_call.specs.Frames.{base}
use Rattle.cc_call.specs.Law.{IsKept}
use Rattle.cc_cut.specs.declared.table.Cut.{Cut}
use Rattle.cc_cut.specs.Cuts.{function_cuts}
use Rattle.cc_cut.specs.Law.{widths}
use Rattle.cc_cut.specs.Piece.{Piece, function_pieces}
use Rattle.cc_move.specs.Calls.{with_results, gives_of}
use Rattle.cc_move.specs.Standing.{StandsAt}
use Rattle.cc_pieces.specs.Restoring.{restore_piece}
use Rattle.cc_body.specs.Layout.{frame_size}
use Rattle.cc_body.specs.Behind.{call_before}
use Rattle.cc_simulate.specs.Frame.{local_ints, stack_ints}

-- ---- places behind calls

-- the piece of a cut
pub record IsPieceOf (m : Module) (n : ℕ) (c : Cut) (q : Piece) : Type 0 where
  pub position : ℕ
  pub is_index : c.index ≡ suc position
  pub is_piece : slice_get (function_pieces m n) position ≡ Some q

-- ---- callers

-- an entry of a frame of this size keeps these numbers, its first ones
pub record IsHeld (size : ℕ) (zs places : List ℤ) : Type 0 where
  pub kept : IsKept (length zs) size places
  pub held : take (length zs) places ≡ zs

-- A caller waits for this function: its entry has its locals and operands, and names the piece that restores them. With
-- results of the function's types it stands at the cut that follows its call.
pub record Waits (m : Module) (callee : ℕ) (c : Activation) (b : Kept) : Type 0 where
  pub cut : Cut
  pub is_cut : Contains (function_cuts m c.func) cut
  pub piece : Piece
  pub is_piece : IsPieceOf m c.func cut piece
  pub type : FuncType
  pub behind : call_before m piece.cut ≡ Some type
  pub gives : reverse type.results ≡ gives_of m callee
  pub follows : b.follows ≡ restore_piece c.func cut.index
  pub held : IsHeld (frame_size m c.func) (local_ints c.locals ++ stack_ints (operands c)) b.places
  pub stands : (us : List Value) → types_of us ≡ gives_of m callee
      → (v : Visit) × StandsAt m (with_results c us) v × (v.path ≡ cut.place)

-- the callers of this function, the innermost first, have these entries; under them is the base
abbrev pub Waiting : Module → ℕ → List Activation → List Kept → Type 0
Waiting m n [] bs = bs ≡ base (widths (gives_of m n)) ∷ []
Waiting m n (c ∷ cs) bs =
    (rest : List Kept) × (b : Kept) × (bs ≡ rest ++ b ∷ []) × Waits m n c b × Waiting m c.func cs rest
