use Rattle.std.proofs.Common.{◌≡◌, ◌++◌, ◌%◌, ℕ, List, length, OnOk, ◌∙◌, ap, subst}
use Rattle.wm_ast.specs.Spelling.{body_of}
use Rattle.wm_ast.specs.View.{code_from}
use Rattle.wm_gen.specs.Shortest.{unsigned, code_bytes, function_bytes}
use Rattle.wm_gen.specs.Workload.{drawn, next, form, function}
use Rattle.wm_gen.proofs.CodeLaws.{one_function}
use Rattle.wm_gen.proofs.generating.push_function.Goals as goal

pub returns-clause-added : goal.returns-clause-added
returns-clause-added c =
    let x : ℕ = c.args.draws.now.state in
    let first : c.draw-kind.new.self.state ≡ next x = c.draw-kind.ensures.state in
    let second : c.draw-a.new.self.state ≡ next (next x) = c.draw-a.ensures.state ∙ ap next first in
    let third : c.draw-b.new.self.state ≡ next (next (next x)) = c.draw-b.ensures.state ∙ ap next second in
    let same : c.as_slice.result.now ≡ function_bytes (body_of (function x c.args.index)) =
    c.as_slice.ensures.value
    ∙ one_function x c.args.index (c.draw-kind.result % 4) c.draw-a.result c.draw-b.result c.push_form.new.bytes.items c.push.new.self.items
    (ap (λ n. n % 4) (c.draw-kind.ensures.drawn ∙ ap drawn first)) (c.draw-a.ensures.drawn ∙ ap drawn second) (c.draw-b.ensures.drawn ∙ ap drawn third)
    (c.in_ok-push_form.ensures ∙ ap (λ l. l ++ code_bytes (code_from (form (c.draw-kind.result % 4) c.args.index c.draw-a.result c.draw-b.result))) c.in_ok-function.ensures.items)
    c.in_ok-push.ensures.items in
    subst (λ (l : List ℕ). OnOk c.push_sized.result (c.push_sized.new.bytes.items ≡ c.args.bytes.now.items ++ (unsigned (length l) ++ l))) same c.push_sized.ensures
