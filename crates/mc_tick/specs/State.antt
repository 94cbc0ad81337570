-- Where a pack stands that is played.
use Rattle.std.specs.Prelude.{◌≡◌, pos, List, Option, Some}
use Rattle.mc_cmd.specs.Layout.{Answer, running, answer}
use Rattle.mc_cmd.specs.Pack.{Pack, Event, Standing, happen, after_events, loaded}
use Rattle.mc_layout.specs.State.{state_in}

-- a pack, and where its play stands
pub record State : Type 0 where
  pub pack : Pack
  pub standing : Standing

-- a pack after it is loaded
abbrev pub booted : Pack → State
booted p = record { pack = p; standing = loaded p }

-- a state after an event, and after several events
abbrev pub after : State → Event → State
after s e = record s { standing = happen s.pack s.standing e }

abbrev pub after_all : State → List Event → State
after_all s es = record s { standing = after_events s.pack es s.standing }

-- what the pack answers
abbrev pub answer_of : State → Option Answer
answer_of s = answer s.pack.index.ns s.standing.world

-- it answers that it is running: its state is 1
abbrev pub IsRunning : State → Type 0
IsRunning s = answer_of s ≡ Some running

-- its start function has trapped: its state is 4
abbrev pub IsDead : State → Type 0
IsDead s = state_in s.pack.index.ns s.standing.world ≡ Some (pos 4)
