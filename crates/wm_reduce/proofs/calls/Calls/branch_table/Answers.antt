use Rattle.std.proofs.Common.{◌≡◌, ℕ, sym, ap, ◌∙◌}
use Rattle.wm_reduce.proofs.Numbers.{back}
use Rattle.wm_ast.specs.View.{code_of}
use Rattle.wm_reduce.specs.TermView.{seen, seen_calls}
use Rattle.wm_ast.specs.Code.{br, cons}
use Rattle.wm_ast.specs.Step.{Next, chosen}
use Rattle.wm_flat.specs.Flat.{running, config_of}
use Rattle.wm_reduce.proofs.Moves.{table_step, over}
use Rattle.wm_reduce.proofs.SeenLaws.{to_same}
use Rattle.wm_reduce.proofs.calls.Calls.branch_table.Goals as goal

pub returns : goal.returns
returns c = λ m s.
    let cs = seen_calls c.args.self.callers in
    let a = seen c.args.self.current in
    let label : c.chosen.result ≡ chosen c.args.labels.now c.args.last c.in-Some.index =
    c.chosen.ensures ∙ ap (chosen c.args.labels.now c.args.last) (back c.in-Some.index c.in-Some.ensures.1) in
    to_same s _ _ c.go_on.result c.go_on.ensures
    (table_step m s cs a c.args.labels.now c.args.last (code_of c.args.rest.now) c.in-Some.index c.pop_i32.new.values c.in-Some.ensures.0
    ∙ ap (λ (l : ℕ). Next (config_of s (running cs (over m s cs a (cons (br l) (code_of c.args.rest.now)) c.pop_i32.new.values)))) (sym label))
