use Rattle.std.proofs.Common.{arith}
use Rattle.wm_match.proofs.NamingLaws.{names_apart}
use Rattle.wm_match.proofs.resolving.check_names.Goals as goal

pub returns-clause-ok : goal.returns-clause-ok
returns-clause-ok c = names_apart c.args.libs.now c.loop-k.k (omega arith) c.loop-k.invariant
