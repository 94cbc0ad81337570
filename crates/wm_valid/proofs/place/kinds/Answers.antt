use Rattle.std.proofs.Common.{rules}
use Rattle.wm_valid.proofs.KindLaws.{no_kinds}
use Rattle.wm_valid.proofs.place.kinds.Goals as goal

pub returns : goal.returns
returns c = no_kinds c.args.m.now c.args.func c.in-Some.func.now c.in_ok-scope.field-0 c.in-Some-2.scope c.args.place.now (search rules) c.in_ok-scope.ensures c.in-Some-2.is (search rules)
