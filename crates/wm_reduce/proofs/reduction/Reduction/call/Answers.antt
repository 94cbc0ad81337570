use Rattle.std.proofs.Common.{rules, sym, subst}
use Rattle.std.specs.Prelude.{IsTrue}
use Rattle.wm_reduce.specs.TermView.{store_of}
use Rattle.wm_reduce.proofs.CallLaws.{call_kept, idle_store}
use Rattle.wm_reduce.proofs.reduction.Reduction.call.Goals as goal

pub put_call-requires-clause-can : goal.put_call-requires-clause-can
put_call-requires-clause-can c =
    let is : IsTrue c.takes.result = subst IsTrue (sym c.if-not-takes.false) (search rules) in
    call_kept c.args.self.now.module.now (store_of c.args.self.now.storage) c.in-Some.func c.args.arguments.now c.args.self.now.program
    (idle_store c.args.self.now.module.now (store_of c.args.self.now.storage) c.args.self.now.task c.has_failed.result c.is_idle.result c.args.self.now.kept
    c.has_failed.ensures c.if-has_failed.false c.is_idle.ensures c.if-not-is_idle.false) (c.takes.ensures.takes.0 is) (c.takes.ensures.range is)

pub put_call-requires-in-Ready-clause-can : goal.put_call-requires-in-Ready-clause-can
put_call-requires-in-Ready-clause-can c =
    let is : IsTrue c.takes.result = subst IsTrue (sym c.if-not-takes.false) (search rules) in
    call_kept c.args.self.now.module.now (store_of c.args.self.now.storage) c.in-Some.func c.args.arguments.now c.args.self.now.program
    (idle_store c.args.self.now.module.now (store_of c.args.self.now.storage) c.args.self.now.task c.has_failed.result c.is_idle.result c.args.self.now.kept
    c.has_failed.ensures c.if-has_failed.false c.is_idle.ensures c.if-not-is_idle.false) (c.takes.ensures.takes.0 is) (c.takes.ensures.range is)
