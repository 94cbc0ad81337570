-- A value that is on its way to its place.
use Rattle.std.specs.Prelude.{◌≡◌, ◌+◌, ℕ, List, length}
use Rattle.mc_nbt.specs.declared.value.Value.{Value}
use Rattle.wm_ast.specs.declared.module.ValType.{ValType}
use Rattle.wm_ast.specs.Types.{const_type}
use Rattle.cc_line.specs.Routine.{value_ints}
use Rattle.cc_line.specs.State.{State}
use Rattle.cc_call.specs.Law.{AreHanded}
use Rattle.cc_cut.specs.Law.{widths}
use Rattle.cc_spots.specs.declared.spot.CutSpot.{CutSpot}

-- it has this type and so many ints, is handed over, and goes to the place above a spot's locals and operands of these
-- kinds
pub record IsPlacedValue (spot : CutSpot) (kinds : List ValType) (last : ValType) (ints place : ℕ) (v : Value)
    (p : State) : Type 0 where
  pub type : const_type v ≡ last
  pub wide : length (value_ints v) ≡ ints
  pub above : place ≡ widths spot.locals + widths kinds
  pub handed : AreHanded 0 (value_ints v) p
