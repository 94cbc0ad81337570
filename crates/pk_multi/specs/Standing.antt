-- Where several programs stand.
use Rattle.std.specs.Prelude.{ℕ, List, map}
use Rattle.mc_cmd.specs.Pack.{Pack}
use Rattle.mc_cmd.specs.Packing.{pack_view}
use Rattle.mc_engine.specs.EngineView.{Shown}
use Rattle.mc_together.specs.Together.{Standing}
use Rattle.pk_multi.specs.Counting.{count_at}
use Rattle.pk_multi.specs.declared.program.Program.{Program}

-- the standing of programs over the world of their engine
abbrev pub standing_in : Shown → List Program → ℕ → Standing
standing_in e ps t = record { world = e.world; ticks = t; counts = count_at ps }

-- the packs of an engine
abbrev pub packs_in : Shown → List Pack
packs_in e = map pack_view e.packs
