use Rattle.mc_inspect.proofs.Looking.{too_high}
use Rattle.mc_inspect.proofs.look.on_way_to.Goals as goal

pub returns-else-index-lt-FIRST_RESTORE : goal.returns-else-index-lt-FIRST_RESTORE
returns-else-index-lt-FIRST_RESTORE c =
    too_high c.args.m.now c.args.reading.now c.args.func c.args.index c.args.count c.requires c.if-index-lt-FIRST_RESTORE.false
