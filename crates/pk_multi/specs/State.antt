-- Several programs, as their callers see them.
use Rattle.std.specs.Prelude.{◌≡◌, Bool, List, Result, Ok, Err, codes, map, true, false}
use Rattle.mc_cmd.specs.declared.TheConstants.{LOAD_QUOTA}
use Rattle.mc_cmd.specs.Pack.{Pack}
use Rattle.mc_cmd.specs.Packing.{Written, pack_view}
use Rattle.mc_engine.specs.EngineView.{shown}
use Rattle.mc_together.specs.Programs.{MayLiveTogether}
use Rattle.mc_together.specs.Together.{Event, Standing, happen, run_all, unloaded}
use Rattle.pk_multi.specs.Making.{IsRefused}
use Rattle.pk_multi.specs.Standing.{packs_in, standing_in}
use Rattle.pk_multi.specs.declared.fault.MultiFault.{MultiFault}
use Rattle.pk_multi.specs.declared.programs.Programs.{Programs}

-- the packs, where they stand, whether they were loaded, and whether a call failed for want of memory
pub record State : Type 0 where
  pub packs : List Pack
  pub standing : Standing
  pub booted : Bool
  pub failed : Bool

-- the state of programs
abbrev pub state_of : Programs → State
state_of p = record {
  packs = packs_in (shown p.engine);
  standing = standing_in (shown p.engine) p.programs.items p.ticks;
  booted = p.booted;
  failed = p.failed;
}

-- the same packs, of which a call failed
pub record HasFailed (s r : State) : Type 0 where
  pub packs : r.packs ≡ s.packs
  pub booted : r.booted ≡ s.booted
  pub failed : r.failed ≡ true

-- a state after an event
abbrev pub after : State → Event → State
after s e = record s { standing = happen s.packs s.standing e }

-- packs of which none is loaded yet
abbrev pub made_of : List Pack → State
made_of ps = record { packs = ps; standing = unloaded; booted = false; failed = false }

-- a state after all packs are loaded
abbrev pub after_boot : State → State
after_boot s = record s {
  standing = run_all s.packs (codes "load") (λ i. LOAD_QUOTA) s.standing;
  booted = true;
}

-- what is done of an event: all of it, or there is no memory, as there is none for any later one
abbrev pub IsDone : State → State → State → {E : Type 0} → Result (Unit {0}) E → Type 0
IsDone s t r (Ok u) = (s.failed ≡ false) × (r ≡ t)
IsDone s t r (Err e) = HasFailed s r

-- the programs of these packs before they are loaded, or why they may not live together
abbrev pub IsMade : List Written → Result Programs MultiFault → Type 0
IsMade ws (Ok p) = MayLiveTogether ws × (state_of p ≡ made_of (map pack_view ws))
IsMade ws (Err e) = IsRefused ws e
