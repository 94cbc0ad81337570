-- A chain of the pack that is played, over the state in which it stands.
use Rattle.std.specs.Prelude.{ℕ}
use Rattle.mc_cmd.specs.Form.{Text}
use Rattle.mc_cmd.specs.Pack.{after_chain, chain_in}
use Rattle.mc_tick.specs.State.{State}

-- the state after the chain of a function, in so many new ticks
abbrev pub ran : State → Text → ℕ → ℕ → State
ran s name ticks quota = record s {
  standing = after_chain s.standing ticks quota (chain_in s.pack name quota s.standing.world);
}
