use Rattle.std.proofs.Common.{sym}
use Rattle.mc_cmd.specs.Packing.{index_view}
use Rattle.pk_multi.specs.State.{state_of}
use Rattle.app_together.proofs.TogetherLemmas.{place_begins, place_here, place_next}
use Rattle.app_together.proofs.playing.place_of.Goals as goal

pub loop-who-init : goal.loop-who-init
loop-who-init c = place_begins c.args.ns.now (state_of c.args.programs.now).packs

pub returns-then-eq : goal.returns-then-eq
returns-then-eq c =
    place_here c.args.ns.now (state_of c.args.programs.now).packs c.loop-who.who (index_view c.index.result.now) c.index.ensures c.loop-who.invariant (sym c.if-eq.ensures)

pub loop-who-preserved : goal.loop-who-preserved
loop-who-preserved c =
    place_next c.args.ns.now (state_of c.args.programs.now).packs c.loop-who.who (index_view c.index.result.now) c.index.ensures c.loop-who.invariant (sym c.if-eq.ensures)
