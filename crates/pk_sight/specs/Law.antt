-- What all states have in common that a world shows, which the contract of a public function cites.
use Rattle.std.specs.Prelude.{◌≡◌, true, false}
use Rattle.mc_cmd.specs.Form.{Text}
use Rattle.mc_cmd.specs.World.{World}
use Rattle.cc_line.specs.Place.{is_scratch}
use Rattle.cc_line.specs.Sight.{Store}
use Rattle.cc_line.specs.State.{State, is_frame}
use Rattle.pk_sight.specs.Shown.{IsStateOf}

-- the same places, the same scores that are no places, and the same trees under all keys but the frame's
pub record Agree (p q : State) : Type 0 where
  pub places : p.places ≡ q.places
  pub scores : (h : Text) → is_scratch h ≡ true → p.scores h ≡ q.scores h
  pub keys : (r : Store) (k : Text) → is_frame r k ≡ false → p.keys r k ≡ q.keys r k

-- two states that one world shows agree
abbrev pub StatesAgree : Type 0
StatesAgree = (ns : Text) (w : World) (p q : State) → IsStateOf ns w p → IsStateOf ns w q → Agree p q
