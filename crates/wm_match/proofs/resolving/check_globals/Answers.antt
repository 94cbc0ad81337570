use Rattle.std.proofs.Common.{arith}
use Rattle.wm_match.specs.Binds.{ImportsNoGlobal}
use Rattle.wm_match.specs.Program.{modules_of}
use Rattle.wm_match.proofs.ModuleLaws.{module_count}
use Rattle.wm_match.proofs.PassLaws.{before_all, global_cause}
use Rattle.wm_match.proofs.resolving.check_globals.Goals as goal

pub returns-in-Some-clause-err : goal.returns-in-Some-clause-err
returns-in-Some-clause-err c =
    global_cause c.args.libs.now c.args.main.now c.loop-k.k c.in-Some.n c.module_of-m.result.now
    c.requires.names c.module_of-m.ensures c.loop-k.invariant c.in-Some.ensures

pub returns-clause-ok : goal.returns-clause-ok
returns-clause-ok c =
    let n = module_count c.args.libs.now c.args.main.now in
    before_all ImportsNoGlobal (modules_of c.args.libs.now c.args.main.now) c.loop-k.k (omega arith) c.loop-k.invariant
