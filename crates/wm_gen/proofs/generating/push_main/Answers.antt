use Rattle.std.proofs.Common.{◌≡◌, ◌∷◌, ◌++◌, ℕ, List, length, OnOk, ◌∙◌, ap, subst, arith}
use Rattle.wm_ast.specs.Spelling.{body_of}
use Rattle.wm_ast.specs.View.{code_from}
use Rattle.wm_gen.specs.Shortest.{unsigned, code_bytes, function_bytes}
use Rattle.wm_gen.specs.Workload.{i64, sums, main}
use Rattle.wm_gen.proofs.CodeLaws.{main_more, main_function}
use Rattle.wm_gen.proofs.generating.push_main.Goals as goal

pub loop-index-preserved : goal.loop-index-preserved
loop-index-preserved c =
    main_more c.loop-index.index c.loop-index.function.items c.push_all-in-loop-index.new.bytes.items c.loop-index.invariant c.in_ok-push_all-2.ensures

pub returns : goal.returns
returns c =
    let at_end : c.loop-index.index ≡ c.args.size = omega arith in
    let same : c.as_slice.result.now ≡ function_bytes (body_of (main c.args.size)) =
    c.as_slice.ensures.value
    ∙ main_function c.args.size c.loop-index.function.items c.push.new.self.items (c.loop-index.invariant ∙ ap (λ n. 0 ∷ code_bytes (code_from (i64 0 ∷ sums 0 n))) at_end) c.in_ok-push.ensures.items in
    subst (λ (l : List ℕ). OnOk c.push_sized.result (c.push_sized.new.bytes.items ≡ c.args.bytes.now.items ++ (unsigned (length l) ++ l))) same c.push_sized.ensures
