-- What is read of calls that have ended or are under way.
use Rattle.std.specs.Prelude.{◌≡◌, ◌≤◌, ◌++◌, ◌∷◌, [], List, length, Option, Some, None}
use Rattle.mc_nbt.specs.declared.value.Value.{Value}
use Rattle.wm_ast.specs.declared.module.ValType.{ValType}
use Rattle.wm_flat.specs.FlatTyping.{types_of}
use Rattle.wm_view.specs.declared.view.FrameView.{FrameView}
use Rattle.wm_view.specs.declared.view.Inspection.{Inspection}
use Rattle.wm_view.specs.View.{frame_view}
use Rattle.cc_call.specs.Law.{AreHanded}
use Rattle.cc_line.specs.Key.{PieceId}
use Rattle.cc_line.specs.State.{State}
use Rattle.cc_line.specs.View.{piece_view}
use Rattle.cc_simulate.specs.Frame.{stack_ints}
use Rattle.cc_spots.specs.declared.spot.CutSpot.{CutSpot}
use Rattle.pk_entries.specs.declared.entry.Entry.{Entry}
use Rattle.mc_inspect.specs.steps.Found.{spot_seen}

-- there is an entry over the base, and this piece follows the call of the last one
abbrev pub IsFollowedBy : Option (List Entry) → PieceId → Type 0
IsFollowedBy None i = ⊥
IsFollowedBy (Some es) i =
    (first : Entry) × (others : List Entry) × (last : Entry)
    × (es ≡ first ∷ (others ++ last ∷ [])) × (piece_view last.follows ≡ i)

-- values of these types are handed over, at most one
pub record AreHandedOver (types : List ValType) (us : List Value) (p : State) : Type 0 where
  pub are : types_of us ≡ types
  pub few : length us ≤ 1
  pub handed : AreHanded 0 (stack_ints us) p

-- none are
abbrev pub NoneHandedOver : List ValType → State → Type 0
NoneHandedOver types p = (us : List Value) → AreHandedOver types us p → ⊥

-- the last of these frames is at a spot, with this on top of its operands, and this is seen of all of them
pub record ShowsLast (frames : List FrameView) (top : List Value) (spot : CutSpot) (v : Inspection) : Type 0 where
  pub others : List FrameView
  pub last : FrameView
  pub parts : frames ≡ others ++ last ∷ []
  pub shown : v ≡ spot_seen others (frame_view last.func last.locals (last.operands ++ top)) spot
