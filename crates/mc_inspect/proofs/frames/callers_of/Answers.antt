use Rattle.std.proofs.Common.{rules}
use Rattle.mc_inspect.proofs.Holding.{callers_found, no_entries}
use Rattle.mc_inspect.proofs.frames.callers_of.Goals as goal

pub returns-in-Some : goal.returns-in-Some
returns-in-Some c =
    callers_found c.args.m.now c.args.reading.now c.args.gives.now c.in-Some.entries _ (search rules) c.callers.result c.in-Some.is c.callers.ensures

pub returns-in-None : goal.returns-in-None
returns-in-None c = no_entries c.args.m.now c.args.reading.now c.args.gives.now c.in-None.is
