use Rattle.mc_world.specs.WorldView.{seen}
use Rattle.pk_sight.proofs.ShownLemmas.{told_some}
use Rattle.mc_inspect.proofs.ReadLemmas.{all_read}
use Rattle.mc_inspect.proofs.reading.read.Goals as goal

pub returns : goal.returns
returns c =
    all_read c.args.names.now.ns (seen c.args.world.now) _ (told_some _ _ _ _ c.in-Some.is c.in_ok-places.ensures)
    c.in_ok-follows.ensures c.in_ok-entries.ensures c.in_ok-args.ensures c.in_ok-scores.ensures
