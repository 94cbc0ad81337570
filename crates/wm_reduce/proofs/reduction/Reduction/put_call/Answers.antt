use Rattle.wm_reduce.specs.TermView.{store_of}
use Rattle.wm_reduce.proofs.CallLaws.{called_state}
use Rattle.wm_reduce.proofs.reduction.Reduction.put_call.Goals as goal

pub returns-in-Ok : goal.returns-in-Ok
returns-in-Ok c =
    called_state c.args.self.now.module.now (store_of c.args.self.now.storage) c.args.self.now.task c.args.self.now.phase c.args.func c.in-Ok.arguments c.args.arguments.now
    c.in-Ok.ensures c.requires.running
