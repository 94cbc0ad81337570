-- What an event leaves of all that is seen of programs.
use Rattle.std.proofs.Common.{◌≡◌, ℕ, ◌+◌, List, length, Bool, true, false, Result, Ok, Err, sym}
use Rattle.std.specs.Prelude.{codes}
use Rattle.std.specs.Result.{IsErr, IsErrAnd}
use Rattle.mc_cmd.specs.Command.{Cmd}
use Rattle.mc_cmd.specs.World.{World, cmd_effect}
use Rattle.mc_cmd.specs.declared.TheConstants.{LOAD_QUOTA}
use Rattle.mc_cmd.specs.Pack.{counted}
use Rattle.mc_engine.specs.EngineView.{Shown}
use Rattle.mc_together.specs.Share.{share_of}
use Rattle.mc_together.specs.Together.{Event, Standing, happen, run_all, tick}
use Rattle.pk_multi.specs.Counting.{count_at}
use Rattle.pk_multi.specs.Standing.{packs_in, standing_in}
use Rattle.pk_multi.specs.State.{State, HasFailed, IsDone, after, after_boot}
use Rattle.pk_multi.specs.declared.program.Program.{Program}

module _ (s : State) (e : Shown) (qs : List Program) (t : ℕ) (x : Bool) (packs : packs_in e ≡ s.packs) where
  -- an event that isn't counted
  pub happened : (event : Event) → x ≡ s.booted → s.failed ≡ false → standing_in e qs t ≡ happen s.packs s.standing event
      → (let r : State = record { packs = packs_in e; standing = standing_in e qs t; booted = x; failed = false } in r ≡ after s event)
  happened event booted sound h = λ z. record { packs = packs z; standing = h z; booted = booted z; failed = sym sound z }

  -- a tick, which is counted
  pub ticked : (b u : ℕ) → x ≡ s.booted → s.failed ≡ false → standing_in e qs t ≡ run_all s.packs (codes "tick") (share_of b (length s.packs) s.standing.ticks) s.standing → u ≡ counted (s.standing.ticks + 1)
      → (let r : State = record { packs = packs_in e; standing = standing_in e qs u; booted = x; failed = false } in r ≡ after s (tick b))
  ticked b u booted sound h c = λ z. record { packs = packs z; standing = record { world = (h z).world; ticks = c z; counts = (h z).counts }; booted = booted z; failed = sym sound z }

  -- the first load of all
  pub loaded_all : x ≡ true → s.failed ≡ false → standing_in e qs t ≡ run_all s.packs (codes "load") (λ i. LOAD_QUOTA) s.standing
      → (let r : State = record { packs = packs_in e; standing = standing_in e qs t; booted = x; failed = false } in r ≡ after_boot s)
  loaded_all booted sound h = λ z. record { packs = packs z; standing = h z; booted = booted z; failed = sym sound z }

  -- a call that failed
  pub failed_in : (y : Bool) → x ≡ s.booted → y ≡ true → (let r : State = record { packs = packs_in e; standing = standing_in e qs t; booted = x; failed = y } in HasFailed s r)
  failed_in y booted f = record { packs = packs; booted = booted; failed = f }

-- what is told of a step that failed
pub failed_by : {E : Type 0} (P : E → Type 0) (s t r : State) (x : Result (Unit {0}) E) → HasFailed s r → IsErr x × IsErrAnd x P → IsDone s t r x
failed_by P s t r (Ok u) h e = let f : false ≡ true = e.0 in cc
failed_by P s t r (Err e) h f = h

-- the standing after a command of somebody else
pub applied : (w v : World) (t : ℕ) (qs : List Program) (c : Cmd) → v ≡ (cmd_effect c w).world
    → (let r : Standing = record { world = v; ticks = t; counts = count_at qs } in let s : Standing = record { world = w; ticks = t; counts = count_at qs } in let u : Standing = record s { world = (cmd_effect c w).world } in r ≡ u)
applied w v t qs c e = λ z. record { world = e z; ticks = t; counts = count_at qs }
