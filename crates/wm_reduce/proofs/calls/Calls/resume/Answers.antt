use Rattle.std.proofs.Common.{Some, ap, ◌∙◌}
use Rattle.wm_ast.specs.View.{code_of}
use Rattle.wm_reduce.specs.declared.calls.Pending.{Pending}
use Rattle.wm_reduce.specs.declared.calls.Pending.TheVariants.{Branch, Call, Again}
use Rattle.wm_reduce.proofs.StepLaws.{ok, pending_comes}
use Rattle.wm_reduce.proofs.calls.Calls.resume.Goals as goal

pub returns-in-Branch : goal.returns-in-Branch
returns-in-Branch c = ok c.branch-self.result _ _ (λ o h s. pending_comes c.args.m.now s c.args.self o s (Branch c.in-Branch.label) (c.requires ∙ ap (λ (p : Pending). Some p) c.in-Branch.is) (h c.args.m.now s (code_of c.args.self.current.code.now))) c.branch-self.ensures

pub returns-in-Call : goal.returns-in-Call
returns-in-Call c = ok c.call.result _ _ (λ o h s. pending_comes c.args.m.now s c.args.self o s (Call c.in-Call.func) (c.requires ∙ ap (λ (p : Pending). Some p) c.in-Call.is) (h s)) c.call.ensures

pub returns-in-Again : goal.returns-in-Again
returns-in-Again c = ok c.start_loop.result _ _ (λ o h s. pending_comes c.args.m.now s c.args.self o s (Again c.in-Again.start) (c.requires ∙ ap (λ (p : Pending). Some p) c.in-Again.is) (h c.args.m.now s)) c.start_loop.ensures
