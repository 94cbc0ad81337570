-- Which states of a pack a world shows.
use Rattle.std.specs.Prelude.{◌≡◌, ◌≤◌, ℤ, List, length}
use Rattle.mc_cmd.specs.Form.{Text}
use Rattle.mc_cmd.specs.World.{World}
use Rattle.cc_line.specs.Place.{score_places}
use Rattle.cc_line.specs.Sight.{Shows}
use Rattle.cc_line.specs.State.{State, seen}

-- the world shows this state of the pack of a namespace, and it has all places that are scores
pub record IsStateOf (ns : Text) (w : World) (p : State) : Type 0 where
  pub shows : Shows ns w (seen p)
  pub has_scores : score_places ≤ length p.places

-- no state is shown
abbrev pub ShowsNone : Text → World → Type 0
ShowsNone ns w = (p : State) → IsStateOf ns w p → ⊥

-- a state is shown, and each that is has these places
pub record HasPlaces (ns : Text) (w : World) (zs : List ℤ) : Type 0 where
  pub state : State
  pub is_shown : IsStateOf ns w state
  pub places : (p : State) → IsStateOf ns w p → p.places ≡ zs
