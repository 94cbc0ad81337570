use Rattle.std.proofs.Common.{sym}
use Rattle.cc_tails.proofs.LastNamed.{last_is}
use Rattle.cc_tails.proofs.named.last_named.Goals as goal

pub returns : goal.returns
returns c = last_is c.args.func c.args.items.now _ c.cut_named.result (sym c.in_ok-last.ensures.value) c.cut_named.ensures
