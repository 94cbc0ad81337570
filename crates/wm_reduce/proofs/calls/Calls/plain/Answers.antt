use Rattle.std.proofs.Common.{ap, subst, sym, ◌∙◌}
use Rattle.wm_ast.specs.View.{op_of, code_of}
use Rattle.wm_reduce.specs.declared.simple.Executed.{Executed}
use Rattle.wm_reduce.specs.TermView.{store_of}
use Rattle.wm_reduce.specs.steps.Executing.{Executes}
use Rattle.wm_reduce.specs.TermView.{seen, seen_calls}
use Rattle.wm_ast.specs.Simple.{simple}
use Rattle.wm_reduce.proofs.Moves.{done_step, repeat_step, fault_step}
use Rattle.wm_ast.specs.Code.{Code}
use Rattle.wm_ast.specs.Step.{Next}
use Rattle.wm_flat.specs.Flat.{running, config_of}
use Rattle.mc_nbt.specs.declared.value.Value.{Value}
use Rattle.std.specs.Prelude.{List}
use Rattle.wm_reduce.proofs.calls.Calls.plain.Goals as goal

pub returns-in-Done : goal.returns-in-Done
returns-in-Done c =
    done_step c.args.m.now (store_of c.args.storage.now) (seen_calls c.args.self.callers) (seen c.args.self.current) (code_of c.args.rest.now) (op_of c.args.instr.now) c.requires.plain (store_of c.execute.new.storage) c.execute.new.locals.items c.execute.new.values
    (subst (λ (x : Executed). Executes (store_of c.args.storage.now) c.args.self.current.locals.items x (store_of c.execute.new.storage) c.execute.new.locals.items c.execute.new.values
    (simple c.args.m.now (store_of c.args.storage.now) c.args.self.current.locals.items (op_of c.args.instr.now) c.args.self.current.values)) c.in-Done.is c.in_ok-execute.ensures)

pub returns-in-Again : goal.returns-in-Again
returns-in-Again c =
    let h = (subst (λ (x : Executed). Executes (store_of c.args.storage.now) c.args.self.current.locals.items x (store_of c.execute.new.storage) c.execute.new.locals.items c.execute.new.values
    (simple c.args.m.now (store_of c.args.storage.now) c.args.self.current.locals.items (op_of c.args.instr.now) c.args.self.current.values)) c.in-Again.is c.in_ok-execute.ensures) in
    repeat_step c.args.m.now (store_of c.args.storage.now) (seen_calls c.args.self.callers) (seen c.args.self.current) (code_of c.args.rest.now) (op_of c.args.instr.now) c.requires.plain (store_of c.execute.new.storage) c.execute.new.values h.0
    ∙ ap (λ (is : Code). Next (config_of (store_of c.execute.new.storage) (running (seen_calls c.args.self.callers) (record (seen c.args.self.current) { code = is; values = c.execute.new.values })))) (sym (ap code_of c.requires.first))
    ∙ ap (λ (own : List Value). Next (config_of (store_of c.execute.new.storage) (running (seen_calls c.args.self.callers) (record (seen c.args.self.current) { code = code_of c.args.code.now; locals = own; values = c.execute.new.values })))) (sym h.1)

pub returns-in-Fault : goal.returns-in-Fault
returns-in-Fault c =
    let h = (subst (λ (x : Executed). Executes (store_of c.args.storage.now) c.args.self.current.locals.items x (store_of c.execute.new.storage) c.execute.new.locals.items c.execute.new.values
    (simple c.args.m.now (store_of c.args.storage.now) c.args.self.current.locals.items (op_of c.args.instr.now) c.args.self.current.values)) c.in-Fault.is c.in_ok-execute.ensures) in
    (fault_step c.args.m.now (store_of c.args.storage.now) (seen_calls c.args.self.callers) (seen c.args.self.current) (code_of c.args.rest.now) (op_of c.args.instr.now) c.requires.plain c.in-Fault.trap h.0, h.1)
