use Rattle.std.proofs.Common.{◌≡◌, ◌+◌, ◌*◌, ◌++◌, map, ℕ, List, ◌∙◌, sym, ap, append_assoc, arith}
use Rattle.std.specs.List.{flat_map}
use Rattle.wm_ast.specs.Spelling.{body_of}
use Rattle.wm_gen.specs.Shortest.{body_bytes, unsigned}
use Rattle.wm_gen.specs.Workload.{next, after_draws, function, functions}
use Rattle.wm_gen.proofs.CodeLaws.{three_more, functions_more, code_section}
use Rattle.wm_gen.proofs.generating.code.Goals as goal

pub loop-index-preserved : goal.loop-index-preserved
loop-index-preserved c =
    let number : ℕ = c.args.number in
    let i : ℕ = c.loop-index.index in
    let own : List ℕ = body_bytes (body_of (function (after_draws number (3 * i)) i)) in
    let before : List ℕ = flat_map body_bytes (map body_of (functions number i)) in
    record {
      state = c.in_ok-push_function.ensures.drawn ∙ ap (λ x. next (next (next x))) c.loop-index.invariant.state ∙ three_more number i;
      bytes =
          c.in_ok-push_function.ensures.added
          ∙ ap (λ x. c.loop-index.bytes.items ++ body_bytes (body_of (function x i))) c.loop-index.invariant.state
          ∙ ap (λ l. l ++ own) c.loop-index.invariant.bytes
          ∙ append_assoc (unsigned (c.args.size + 1)) before own
          ∙ ap (λ l. unsigned (c.args.size + 1) ++ l) (sym (functions_more number i));
    }

pub returns : goal.returns
returns c =
    let at_end : c.loop-index.index ≡ c.args.size = omega arith in
    code_section c.args.number c.args.size c.loop-index.bytes.items c.push_main.new.bytes.items
    (c.loop-index.invariant.bytes ∙ ap (λ n. unsigned (c.args.size + 1) ++ flat_map body_bytes (map body_of (functions c.args.number n))) at_end)
    c.in_ok-push_main.ensures
